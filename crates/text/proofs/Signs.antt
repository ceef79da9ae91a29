-- The text of a signed number by its sign, as the code tests it.
use Prim.Native.Nat.{ℕ, ◌+◌}
use native.Mathlib.Omega.{arith}
use mathlib.Core.Path.{◌≡◌, refl, ap}
use mathlib.Core.Bool.{true, false}
use mathlib.Core.List.{[], ◌∷◌, ◌++◌}
use lib.IntN.{ℤ, pos, negsuc}
use lib.ListN.{length, length-append}
use lib.Signed.{mag, lt_z}
use mir.Syntax.{w16}
use mir.Val.{SFits, to_z, of_z}
use mir.Facts.{to_z-of_z}
use borrow.Author.Tests.{ltb-true}
use Rattle.text.specs.Characters.{line_feed, hash, minus}
use Rattle.text.specs.Operands.{decimal, signed_number}

pub below_zero : (n : ℤ) → SFits w16 n → lt_z (to_z w16 (of_z w16 n)) (pos 0) ≡ true → signed_number n ≡ hash ∷ minus
    ∷ decimal (mag n + 1)
below_zero (pos n) f t = absurd (omega (arith, ltb-true n 0 (rw (to_z-of_z f) at t)))
below_zero (negsuc n) f t = refl

pub not_below_zero : (n : ℤ) → SFits w16 n → lt_z (to_z w16 (of_z w16 n)) (pos 0) ≡ false → signed_number n ≡ hash
    ∷ decimal (mag n)
not_below_zero (pos n) f t = refl
not_below_zero (negsuc n) f t =
    let u : true ≡ false = rw (to_z-of_z f) at t in
    let w : ◌≡◌ {A = ℕ} 0 1 = cc in absurd (omega arith)

-- the count of a signed number, with the line feed after it
pub number_line : (m n : ℤ) (r : ℕ)
    → r ≡ length (signed_number m) → m ≡ n → length (signed_number n ++ line_feed ∷ []) ≡ r + 1
number_line m n r p e =
    omega (arith, ap (λ (z : ℤ). length (signed_number z)) e, length-append (signed_number n) (line_feed ∷ []))
