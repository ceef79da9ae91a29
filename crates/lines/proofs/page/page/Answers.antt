-- `lines::page::page` meets its contract: the range is refused, or its lines are too long, or they are put.
use Rattle.std.proofs.Common.{sym, ◌∙◌, arith}
use Rattle.std.proofs.lemmas.Result.{err_from_is_err_and}
use Rattle.lines.specs.Page.{lines_of}
use Rattle.lines.proofs.Answering.{too_long, written}
use Rattle.lines.proofs.PageLaws.{refused, accepted}
use Rattle.lines.proofs.page.page.Goals as goal

pub returns-in_err-words : goal.returns-in_err-words
returns-in_err-words c =
    let p = err_from_is_err_and c.from_residual.result c.from_residual.ensures.1 in
    rw (p.1, p.2) (refused _ _ _ _ _ c.in_err-words.ensures)

pub returns-then-output-lines_length : goal.returns-then-output-lines_length
returns-then-output-lines_length c =
    let words = c.in_ok-words.words.now in
    sym (accepted _ _ _ _ _ c.in_ok-words.ensures
    ∙ too_long (lines_of words) c.args.output.now (omega (arith, c.lines_length.ensures)))

pub returns : goal.returns
returns c =
    let words = c.in_ok-words.words.now in
    written (lines_of words) c.args.output.now _ _ (omega (arith, c.lines_length.ensures)) c.put_lines.ensures
    ∙ sym (accepted _ _ _ _ _ c.in_ok-words.ensures)
