-- `line::putting::put_word` meets its contract: by the mask.
use Rattle.std.proofs.Common.{sym, ◌∙◌}
use Rattle.line.proofs.ShapeLaws.{proper_shown, data_shown}
use Rattle.line.proofs.putting.put_word.Goals as goal

pub put_proper-requires : goal.put_proper-requires
put_proper-requires c =
    let shown = proper_shown c.args.word c.ranges.word.fits (sym c.mask.ensures ∙ c.if-mask-eq0.true) in
    rw shown at c.requires

pub put_fill-requires : goal.put_fill-requires
put_fill-requires c =
    let shown = data_shown c.args.word c.ranges.word.fits (λ e. c.if-mask-eq0.false (c.mask.ensures ∙ e)) in
    rw shown at c.requires

pub returns-then-mask-eq0 : goal.returns-then-mask-eq0
returns-then-mask-eq0 c =
    let shown = proper_shown c.args.word c.ranges.word.fits (sym c.mask.ensures ∙ c.if-mask-eq0.true) in
    rw shown c.put_proper.ensures

pub returns-else-mask-eq0 : goal.returns-else-mask-eq0
returns-else-mask-eq0 c =
    let shown = data_shown c.args.word c.ranges.word.fits (λ e. c.if-mask-eq0.false (c.mask.ensures ∙ e)) in
    rw shown c.put_fill.ensures
