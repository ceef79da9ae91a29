-- The bitwise and of the definitions is the program logic's own, by its rule for one bit, on words of every width.
use Prim.Native.Nat.{ℕ, zero, suc, ◌/◌, ◌<◌, ◌^◌}
use native.Mathlib.Nat.{pow-suc}
use native.Mathlib.Omega.{arith}
use mathlib.Core.Path.{◌≡◌, ◌∙◌}
use lib.Bits.{bit_and, and_step}
use Rattle.machine.specs.Words.{and_bits}

pub and_bits_lem : (k a b : ℕ) → a < 2 ^ k → bit_and a b ≡ and_bits k a b
unfolding and_bits
and_bits_lem zero a b h = let e : a ≡ 0 = omega arith in rw e
and_bits_lem (suc k) a b h =
    let l : a / 2 < 2 ^ k = omega (arith, pow-suc 2 k) in
    and_step a b ∙ rw (and_bits_lem k (a / 2) (b / 2) l)
