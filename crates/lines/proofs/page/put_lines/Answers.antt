-- `lines::page::put_lines` meets its contract: after each turn of the loop the lines passed stand in the output.
use Rattle.std.proofs.Common.{suc, get_or, take, ap, length, refl, arith, rules, zero-le, length-append, add-one}
use Rattle.text.proofs.Placing.{put_nothing, then}
use Rattle.line.specs.Line.{line_of}
use Rattle.lines.specs.Page.{lines_of}
use Rattle.lines.proofs.PageLaws.{no_lines, line_more, lines_within}
use Rattle.lines.proofs.page.put_lines.Goals as goal

pub loop-word-init : goal.loop-word-init
loop-word-init c = (rw no_lines (put_nothing 0 _), refl)

pub put_line-at-requires : goal.put_line-at-requires
put_line-at-requires c =
    let l = c.loop-word in
    let words = c.args.words.now in
    let w = get_or words l.word-index 0 in
    let more = ap length (line_more words l.word-index (omega arith)) in
    let within = lines_within words (suc l.word-index) in
    omega (
      arith,
      c.requires,
      l.invariant.0.place,
      l.invariant.1,
      length-append (lines_of (take l.word-index words)) (line_of w),
    )

pub loop-word-preserved : goal.loop-word-preserved
loop-word-preserved c =
    let l = c.loop-word in
    let words = c.args.words.now in (
      rw (add-one, line_more words l.word-index (omega arith)) (then l.invariant.0 c.put_line-at.ensures zero-le),
      search rules,
    )
