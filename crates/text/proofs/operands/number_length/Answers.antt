-- `text::operands::number_length` meets its contract: by the sign.
use Prim.Native.Nat.{ℕ, ◌+◌}
use native.Mathlib.Omega.{arith}
use mathlib.Core.Path.{◌≡◌, ap, ◌∙◌}
use lib.ListN.{length}
use lib.Signed.{mag}
use mir.Facts.{to_z-of_z}
use Rattle.text.specs.Operands.{decimal}
use Rattle.text.proofs.Decimal.{few_digits}
use Rattle.text.proofs.Signs.{below_zero, not_below_zero}
use Rattle.text.proofs.operands.number_length.Goals as goal

pub overflow_add-result : goal.overflow_add-result
overflow_add-result c = omega (
  arith,
  c.decimal_length.ensures,
  few_digits (c.size-magnitude.result + 1),
  c.size-magnitude.type_inv,
)

pub overflow_add-result-else-n-lt0 : goal.overflow_add-result-else-n-lt0
overflow_add-result-else-n-lt0 c = omega (
  arith,
  c.decimal_length-else-n-lt0.ensures,
  few_digits c.size-magnitude.result,
  c.size-magnitude.type_inv,
)

pub returns-then-n-lt0 : goal.returns-then-n-lt0
returns-then-n-lt0 c =
    let sized : c.size-magnitude.result ≡ mag c.args.n =
    c.size-magnitude.ensures ∙ ap mag (to_z-of_z c.ranges.n)
    in
    let n = c.args.n in
    let e : length (decimal (c.size-magnitude.result + 1))
    ≡ length (decimal (mag n + 1)) = ap (λ (k : ℕ). length (decimal (k + 1))) (sized) in (
      omega (arith, c.decimal_length.ensures, ap length (below_zero n c.ranges.n c.if-n-lt0.true)),
      omega (arith, c.decimal_length.ensures, few_digits (c.size-magnitude.result + 1), sized, c.ranges.n.sfits),
    )

pub returns-else-n-lt0 : goal.returns-else-n-lt0
returns-else-n-lt0 c =
    let sized : c.size-magnitude.result ≡ mag c.args.n =
    c.size-magnitude.ensures ∙ ap mag (to_z-of_z c.ranges.n)
    in
    let n = c.args.n in
    let e : length (decimal c.size-magnitude.result)
    ≡ length (decimal (mag n)) = ap (λ (k : ℕ). length (decimal k)) (sized) in (
      omega (
        arith,
        c.decimal_length-else-n-lt0.ensures,
        ap length
            (not_below_zero n c.ranges.n c.if-n-lt0.false),
      ),
      omega
          (arith, c.decimal_length-else-n-lt0.ensures, few_digits c.size-magnitude.result, sized, c.ranges.n.sfits),
    )
