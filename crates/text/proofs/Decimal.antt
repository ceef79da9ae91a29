-- The digits of a number: the bound on the recursion is never met, and `decimal` divides by ten down to a number below
-- ten.
use Prim.Native.Nat.{ℕ, zero, suc, zero-le, ◌+◌, ◌/◌, ◌%◌, ◌<◌, ◌≤◌}
use native.Mathlib.Omega.{arith}
use mathlib.Core.Path.{◌≡◌, refl, ap}
use mathlib.Core.Bool.{Bool, true, false, cond}
use mathlib.Core.List.{List, [], ◌∷◌, ◌++◌}
use lib.Dec.{ltb}
use lib.ListN.{length, length-append}
use borrow.Author.Tests.{lt-ltb, le-ltb, ltb-false}
use Rattle.text.specs.Operands.{digit, digits, decimal}

same_step : (t : Bool) (n : ℕ) (a b : List ℕ) → (t ≡ false → a ≡ b)
    → cond t (digit n ∷ []) (a ++ digit (n % 10) ∷ []) ≡ cond t (digit n ∷ []) (b ++ digit (n % 10) ∷ [])
same_step true n a b e = refl
same_step false n a b e = ap (λ (l : List ℕ). l ++ digit (n % 10) ∷ []) (e refl)

-- any bound above the number gives the same digits
steps_enough : (j k n : ℕ) → n < j → n < k → digits j n ≡ digits k n
unfolding digits
steps_enough zero k n p q = absurd (omega arith)
steps_enough (suc j) zero n p q = absurd (omega arith)
steps_enough (suc j) (suc k) n p q =
    same_step (ltb n 10) n (digits j (n / 10)) (digits k (n / 10))
    (λ e. steps_enough j k (n / 10) (omega (arith, ltb-false n 10 e)) (omega (arith, ltb-false n 10 e)))

pub last_digit : (n : ℕ) → n < 10 → decimal n ≡ digit n ∷ []
unfolding decimal digits
last_digit n p = simp (lt-ltb n 10 p)

pub digits_before : (n : ℕ) → 10 ≤ n → decimal n ≡ decimal (n / 10) ++ digit (n % 10) ∷ []
unfolding decimal digits
digits_before n p =
    simp (le-ltb n 10 p)
    (ap (λ (l : List ℕ). l ++ digit (n % 10) ∷ []) (steps_enough n (suc (n / 10)) (n / 10) (omega arith) (omega arith)))

-- how many digits
pub one_digit : (n : ℕ) → n < 10 → length (decimal n) ≡ 1
one_digit n p = ap length (last_digit n p)

pub one_more : (n k : ℕ) → 10 ≤ n → length (decimal (n / 10)) ≡ k → length (decimal n) ≡ k + 1
one_more n k p q =
    omega (arith, ap length (digits_before n p), length-append (decimal (n / 10)) (digit (n % 10) ∷ []))

-- a number has no more digits than it has numbers up to it
few : (t : Bool) (n k : ℕ) (l : List ℕ) → length l ≤ k
    → length (cond t (digit n ∷ []) (l ++ digit (n % 10) ∷ [])) ≤ suc k
few true n k l p = omega arith
few false n k l p = omega (arith, length-append l (digit (n % 10) ∷ []))

digits_few : (k n : ℕ) → length (digits k n) ≤ k
unfolding digits
digits_few zero n = zero-le
digits_few (suc k) n = few (ltb n 10) n k (digits k (n / 10)) (digits_few k (n / 10))

pub few_digits : (n : ℕ) → length (decimal n) ≤ suc n
unfolding decimal
few_digits n = digits_few (suc n) n
