-- Operands read back from their text: digits, decimal numbers up to the line feed, signed and hexadecimal numbers. So
-- the digits determine the number.
use Prim.Native.Nat.{ℕ, zero, suc, ◌+◌, ◌-◌, ◌*◌, ◌/◌, ◌%◌, ◌<◌, ◌≤◌}
use native.Mathlib.Omega.{arith}
use mathlib.Core.Path.{◌≡◌, refl, sym, ap, ◌∙◌}
use mathlib.Core.Bool.{Bool, true, false, cond}
use mathlib.Core.List.{List, [], ◌∷◌, ◌++◌, append_assoc}
use lib.Dec.{eqb, ltb}
use lib.IntN.{ℤ, pos, negsuc}
use lib.ListN.{get_or, drop}
use borrow.Author.Tests.{ne_eqb, lt-ltb, le-ltb, ltb-true, ltb-false}
use Rattle.text.specs.Characters.{line_feed, minus, digit0, A}
use Rattle.text.specs.Operands.{digit, digits, decimal, signed_digits, hex_digit}
use Rattle.line.specs.Theorems.{DecimalDetermines}

abbrev pub digit_of : ℕ → ℕ
digit_of c = c - digit0

pub digit_back : (d : ℕ) → digit_of (digit d) ≡ d
digit_back d = omega arith

-- the number whose digits stand before the line feed, after those that make n
abbrev pub number_from : ℕ → List ℕ → ℕ
number_from n [] = n
number_from n (c ∷ text) = cond (eqb c line_feed) n (number_from (n * 10 + digit_of c) text)

next_digit : (n d : ℕ) (text : List ℕ) → number_from n (digit d ∷ text) ≡ number_from (n * 10 + d) text
next_digit n d text =
    rw (ne_eqb (digit d) line_feed (λ e. omega (arith, e)))
    (ap (λ (k : ℕ). number_from (n * 10 + k) text) (digit_back d))

-- the digits of n are read as n, whatever text follows them
digits_read : (k n : ℕ) (text : List ℕ) → n < k → number_from 0 (digits k n ++ text) ≡ number_from n text
unfolding digits
digits_read zero n text p = absurd (omega arith)
digits_read (suc k) n text p = go (ltb n 10) refl (λ q. digits_read k (n / 10) (digit (n % 10) ∷ text) (omega arith))
  where
    go : (t : Bool) → ltb n 10 ≡ t
        → (10 ≤ n → number_from 0 (digits k (n / 10) ++ digit (n % 10) ∷ text)
        ≡ number_from (n / 10) (digit (n % 10) ∷ text))
        → number_from 0 (cond t (digit n ∷ []) (digits k (n / 10) ++ digit (n % 10) ∷ []) ++ text) ≡ number_from n text
    go true e before = next_digit 0 n text ∙ ap (λ (m : ℕ). number_from m text) (omega arith)
    go false e before =
        ap (number_from 0) (append_assoc (digits k (n / 10)) (digit (n % 10) ∷ []) text)
        ∙ (before (ltb-false n 10 e)
        ∙ (next_digit (n / 10) (n % 10) text ∙ ap (λ (m : ℕ). number_from m text) (omega arith)))

decimal_read : (n : ℕ) → number_from 0 (decimal n ++ line_feed ∷ []) ≡ n
unfolding decimal
decimal_read n = digits_read (suc n) n (line_feed ∷ []) (omega arith)

pub decimal_determines : DecimalDetermines
decimal_determines m n e =
    sym (decimal_read m) ∙ (ap (λ (l : List ℕ). number_from 0 (l ++ line_feed ∷ [])) e ∙ decimal_read n)

-- digits do not start with a minus sign
no_minus : (k n : ℕ) (text : List ℕ) → n < k → eqb (get_or (digits k n ++ text) 0 0) minus ≡ false
unfolding digits
no_minus zero n text p = absurd (omega arith)
no_minus (suc k) n text p = go (ltb n 10) refl (λ q. no_minus k (n / 10) (digit (n % 10) ∷ text) (omega arith))
  where
    go : (t : Bool) → ltb n 10 ≡ t
        → (10 ≤ n → eqb (get_or (digits k (n / 10) ++ digit (n % 10) ∷ text) 0 0) minus ≡ false)
        → eqb (get_or (cond t (digit n ∷ []) (digits k (n / 10) ++ digit (n % 10) ∷ []) ++ text) 0 0) minus ≡ false
    go true e before = ne_eqb (digit n) minus (λ z. omega (arith, z))
    go false e before =
        ap (λ (l : List ℕ). eqb (get_or l 0 0) minus) (append_assoc (digits k (n / 10)) (digit (n % 10) ∷ []) text)
        ∙ before (ltb-false n 10 e)

-- a signed number, up to the line feed
abbrev pub signed_from : List ℕ → ℤ
signed_from text = cond (eqb (get_or text 0 0) minus) (negsuc (number_from 0 (drop 1 text) - 1))
    (pos (number_from 0 text))

pub signed_back : (n : ℤ) → signed_from (signed_digits n ++ line_feed ∷ []) ≡ n
unfolding decimal
signed_back (pos n) = rw (no_minus (suc n) n (line_feed ∷ []) (omega arith)) (ap pos (decimal_read n))
signed_back (negsuc n) = ap (λ (k : ℕ). negsuc (k - 1)) (decimal_read (n + 1)) ∙ ap negsuc (omega arith)

-- hexadecimal digits
abbrev pub hex_of : ℕ → ℕ
hex_of c = cond (ltb c A) (c - digit0) (c - A + 10)

pub hex_back : (d : ℕ) → d < 16 → hex_of (hex_digit d) ≡ d
hex_back d p = go (ltb d 10) refl
  where
    go : (t : Bool) → ltb d 10 ≡ t → hex_of (cond t (digit d) (A + (d - 10))) ≡ d
    go true e = rw (lt-ltb (digit d) A (omega (arith, ltb-true d 10 e))) (omega arith)
    go false e = rw (le-ltb (A + (d - 10)) A (omega arith)) (omega (arith, ltb-false d 10 e))
