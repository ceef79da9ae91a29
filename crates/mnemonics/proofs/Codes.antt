-- Each condition code that a BR tests is one letter.
use Prim.Native.Nat.{ℕ, ◌+◌, ◌/◌, ◌%◌, ◌<◌}
use native.Mathlib.Omega.{arith}
use mathlib.Core.Path.{◌≡◌, refl}
use mathlib.Core.Bool.{Bool, true, false, cond}
use mathlib.Core.List.{[], ◌∷◌, ◌++◌}
use lib.Dec.{eqb}
use lib.ListN.{length, length-append}
use borrow.Author.Tests.{eqb-true, eqb-false}
use Rattle.text.specs.Characters.{lower_n, lower_z, lower_p}
use Rattle.mnemonics.specs.Statement.{code, codes}

one_letter : (bit letter : ℕ) → bit < 2 → length (code bit letter) ≡ bit
one_letter bit letter p = go (eqb bit 1) refl
  where
    go : (t : Bool) → eqb bit 1 ≡ t → length (cond t (letter ∷ []) []) ≡ bit
    go true e = omega (arith, eqb-true bit 1 e)
    go false e = omega (arith, eqb-false bit 1 e)

pub letters : (mask : ℕ) → length (codes mask) ≡ mask / 4 % 2 + mask / 2 % 2 + mask % 2
letters mask =
    let n = code (mask / 4 % 2) lower_n in
    let z = code (mask / 2 % 2) lower_z in
    let p = code (mask % 2) lower_p in
    let en : length n ≡ mask / 4 % 2 = one_letter (mask / 4 % 2) lower_n (omega arith) in
    let ez : length z ≡ mask / 2 % 2 = one_letter (mask / 2 % 2) lower_z (omega arith) in
    let ep : length p ≡ mask % 2 = one_letter (mask % 2) lower_p (omega arith) in
    rw (length-append (n ++ z) p, length-append n z, en, ez, ep)
