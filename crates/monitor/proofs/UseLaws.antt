-- The words that a routine uses are words of the monitor; so they are there where the whole monitor is, and where the
-- table leads to the routine and its code is intact.
use Prim.Native.Nat.{ℕ, ◌≤◌, ◌<◌}
use native.Mathlib.Omega.{arith}
use mathlib.Core.Path.{◌≡◌, refl}
use mathlib.Core.Bool.{Bool, true, false, ◌||◌}
use borrow.Author.Tests.{leb-true, eqb-true, eq-eqb}
use lib.Dec.{leb, eqb}
use Rattle.machine.proofs.Tests.{both_true}
use Rattle.monitor.specs.Uses.{with_vector, between, constants, getc_code, out_code, stop_code, puts_code, putsp_code}
use Rattle.monitor.specs.Uses.{in_code, halt_code, back_uses}

pub either : {P : Type 0} (p q : Bool) → (p || q) ≡ true → (p ≡ true → P) → (q ≡ true → P) → P
either true q e f g = f refl
either false q e f g = g e

pub not_after : (first last a : ℕ) → between first last a ≡ true → a ≤ last
not_after first last a e = leb-true a last (both_true (leb first a) (leb a last) e).1

constants_below : (a : ℕ) → constants a ≡ true → a < 0x02A5
constants_below a e = omega (arith, not_after 0x0280 0x0288 a e)

-- Code, and then what else is used.
code_below : (first last a : ℕ) (others : Bool) → last < 0x02A5 → (others ≡ true → a < 0x02A5)
    → (between first last a || others) ≡ true → a < 0x02A5
code_below first last a others h rest e =
    either (between first last a) others e (λ c. omega (arith, not_after first last a c)) rest

pub getc_below : (a : ℕ) → getc_code a ≡ true → a < 0x02A5
getc_below a = code_below 0x0200 0x0203 a (constants a) (omega arith) (constants_below a)

pub out_below : (a : ℕ) → out_code a ≡ true → a < 0x02A5
out_below a = code_below 0x0204 0x020B a (constants a) (omega arith) (constants_below a)

pub stop_below : (a : ℕ) → stop_code a ≡ true → a < 0x02A5
stop_below a = code_below 0x027C 0x027E a (constants a) (omega arith) (constants_below a)

pub puts_below : (a : ℕ) → puts_code a ≡ true → a < 0x02A5
puts_below a = code_below 0x020C 0x0227 a (stop_code a) (omega arith) (stop_below a)

pub putsp_below : (a : ℕ) → putsp_code a ≡ true → a < 0x02A5
putsp_below a = code_below 0x023D 0x026C a (stop_code a) (omega arith) (stop_below a)

pub in_below : (a : ℕ) → in_code a ≡ true → a < 0x02A5
in_below a =
    code_below 0x0228 0x023C a (between 0x0280 0x029C a) (omega arith)
    (λ e. omega (arith, not_after 0x0280 0x029C a e))

pub halt_below : (a : ℕ) → halt_code a ≡ true → a < 0x02A5
halt_below a =
    code_below 0x026D 0x027E a (constants a || between 0x029D 0x02A4 a) (omega arith)
    (λ e. either (constants a) (between 0x029D 0x02A4 a) e (constants_below a)
    (λ m. omega (arith, not_after 0x029D 0x02A4 a m)))

pub back_below : (a : ℕ) → back_uses a ≡ true → a < 0x02A5
back_below a =
    code_below 0x0180 0x0181 a (eqb a 0x027F) (omega arith)
    (λ e. let z : a ≡ 0x027F = eqb-true a 0x027F e in omega arith)

pub with_vector_below : (vector : ℕ) (code : ℕ → Bool) → vector < 0x0200 → ((a : ℕ) → code a ≡ true → a < 0x02A5)
    → (a : ℕ) → with_vector vector code a ≡ true → a < 0x02A5
with_vector_below vector code h below a e =
    either (code a) (eqb a vector) e (below a) (λ v. let z : a ≡ vector = eqb-true a vector v in omega arith)

-- A routine's own vector is one of the words that it uses.
pub vector_is_used : (vector : ℕ) (code : ℕ → Bool) → with_vector vector code vector ≡ true
vector_is_used vector code = rw (eq-eqb vector vector refl) (go (code vector))
  where
    go : (b : Bool) → (b || true) ≡ true
    go true = refl
    go false = refl
