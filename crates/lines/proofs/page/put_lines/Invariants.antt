-- `lines::page::put_lines` meets its contract: after each turn of the loop the lines passed stand in the output.
use Rattle.std.proofs.Common.{◌≡◌, take, length}
use Rattle.text.specs.Placing.{Put}
use Rattle.lines.specs.Page.{lines_of}
use Rattle.lines.proofs.page.put_lines.Given as goal

abbrev pub invariant-loop-word : goal.invariant-loop-word
invariant-loop-word l =
    Put 0 (lines_of (take l.word-index l.words)) l.initial.output l.at l.output
    × (length l.output ≡ length l.initial.output)
