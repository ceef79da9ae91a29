-- `text::characters::Writer::put_number` meets its contract: by the sign.
use Rattle.std.proofs.Common.{◌≡◌, ap, ◌∙◌, to_z-of_z}
use lib.Signed.{mag}
use Rattle.text.proofs.Placing.{wrote_then}
use Rattle.text.proofs.Signs.{below_zero, not_below_zero}
use Rattle.text.proofs.characters.Writer.put_number.Goals as goal

pub returns-then-n-lt0 : goal.returns-then-n-lt0
returns-then-n-lt0 c =
    let sized : c.size-magnitude.result ≡ mag c.args.n = c.size-magnitude.ensures ∙ ap mag (to_z-of_z c.ranges.n) in
    rw (below_zero c.args.n c.ranges.n c.if-n-lt0.true, ← sized)
    (wrote_then c.put_text.ensures c.put_decimal.ensures)

pub returns-else-n-lt0 : goal.returns-else-n-lt0
returns-else-n-lt0 c =
    let sized : c.size-magnitude.result ≡ mag c.args.n = c.size-magnitude.ensures ∙ ap mag (to_z-of_z c.ranges.n) in
    rw (not_below_zero c.args.n c.ranges.n c.if-n-lt0.false, ← sized)
    (wrote_then c.put_text-else-n-lt0.ensures c.put_decimal-else-n-lt0.ensures)
