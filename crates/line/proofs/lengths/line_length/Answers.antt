-- `line::lengths::line_length` meets its contract: by the mask.
use mathlib.Core.Path.{sym, ap, ◌∙◌}
use lib.ListN.{length}
use Rattle.line.proofs.ShapeLaws.{proper_shown, data_shown}
use Rattle.line.proofs.lengths.line_length.Goals as goal

pub returns-then-mask-eq0 : goal.returns-then-mask-eq0
returns-then-mask-eq0 c =
    let proper = sym c.mask.ensures ∙ c.if-mask-eq0.true in
    c.proper_length.ensures ∙ ap length (sym (proper_shown c.args.word c.ranges.word.fits proper))

pub returns-else-mask-eq0 : goal.returns-else-mask-eq0
returns-else-mask-eq0 c =
    ap length (sym (data_shown c.args.word c.ranges.word.fits (λ e. c.if-mask-eq0.false (c.mask.ensures ∙ e))))
