-- `lines::line` meets its contract: where the line fits, it is put at the output's start.
use Rattle.std.proofs.Common.{sym, ◌∙◌}
use borrow.Author.Tests.{leb-true, leb-false}
use Rattle.line.specs.Line.{line_of}
use Rattle.lines.proofs.Answering.{too_long, written}
use Rattle.lines.proofs.line.Goals as goal

pub returns-then-not-fits : goal.returns-then-not-fits
returns-then-not-fits c =
    let a = c.args in
    sym (too_long (line_of a.word) a.output.now (leb-false _ _ (sym c.fits.ensures ∙ c.if-not-fits.true)))

pub returns : goal.returns
returns c =
    let a = c.args in
    let fits = leb-true _ _ (sym c.fits.ensures ∙ c.if-not-fits.false) in
    written (line_of a.word) a.output.now _ _ fits c.put_line.ensures
