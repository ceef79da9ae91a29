-- The laws of signed fields. Each is proved once, by cases on the sign and linear arithmetic, for every h, the half of
-- a field's patterns; a field of k bits is the case h = 2 ^ (k - 1).
use Rattle.std.proofs.Common.{◌≡◌, ℕ, zero, suc, ◌+◌, ◌-◌, ◌%◌, ◌^◌, ◌<◌, ◌≤◌, Bool, true, false, cond, ltb, leb, ℤ}
use Rattle.std.proofs.Common.{pos, negsuc, sym, refl, ap, ◌∙◌, zero-le, mod-lt, mod-eq_of_lt, arith, pow_pos, pow_mono}
use Rattle.std.proofs.Common.{pow-add, ltb-false, ltb-true, le-ltb, lt-ltb}
use lib.Pow.{not_mod}
use mathlib.Core.Bool.{and-true}
use lib.Dec.{leb-zero, leb-suc-suc}
use lib.Signed.{mag}
use Rattle.word.specs.Field.{half, signed, field, bits, within}
use Rattle.word.specs.Range.{Within}
use Rattle.word.specs.Theorems.{SignedFields, SignedFieldsOfTheFigure}

-- a pattern below h stands for itself, any other for a negative number
pub signed_low : (h v : ℕ) → v < h → signed h v ≡ pos v
signed_low h v p = simp (lt-ltb v h p)

pub signed_high : (h v : ℕ) → h ≤ v → signed h v ≡ negsuc (h + h - suc v)
signed_high h v p = simp (le-ltb v h p)

-- a number is one of -h to h - 1 exactly when its size is below h
within_size : (h : ℕ) (n : ℤ) → within h n ≡ ltb (mag n) h
within_size zero (pos n) = rw (leb-zero n)
within_size zero (negsuc n) = sym (le-ltb n 0 zero-le)
within_size (suc m) (pos n) = refl
within_size (suc m) (negsuc n) = and-true (leb n m) ∙ sym (leb-suc-suc n m)

pub size_within : (h : ℕ) (n : ℤ) → mag n < h → Within h n
size_within h n p = within_size h n ∙ lt-ltb (mag n) h p

pub size_not_within : (h : ℕ) (n : ℤ) → h ≤ mag n → within h n ≡ false
size_not_within h n p = within_size h n ∙ le-ltb (mag n) h p

pub within_bound : (h : ℕ) (n : ℤ) → Within h n → mag n < h
within_bound h n e = ltb-true (mag n) h (sym (within_size h n) ∙ e)

-- the pattern of a number in range is one of the h + h
pub pattern_fits : (h : ℕ) (n : ℤ) → mag n < h → bits h n < h + h
pattern_fits h (pos n) p = omega arith
pattern_fits h (negsuc n) p = omega arith

number_size : (h v : ℕ) → v < h + h → mag (signed h v) < h
number_size h v p = go (ltb v h) refl
  where
    go : (t : Bool) → ltb v h ≡ t → mag (cond t (pos v) (negsuc (h + h - suc v))) < h
    go true e = ltb-true v h e
    go false e = omega (arith, ltb-false v h e)

pub pattern_back : (h v : ℕ) → v < h + h → bits h (signed h v) ≡ v
pattern_back h v p = go (ltb v h)
  where
    go : (t : Bool) → bits h (cond t (pos v) (negsuc (h + h - suc v))) ≡ v
    go true = refl
    go false = omega arith

pub number_back : (h : ℕ) (n : ℤ) → mag n < h → signed h (bits h n) ≡ n
number_back h (pos n) p = signed_low h n p
number_back h (negsuc n) p = signed_high h (h + h - suc n) (omega arith) ∙ ap negsuc (omega arith)

-- a field of h + h patterns in a wider one, of m + m
extended : (h m v : ℕ) → h ≤ m → v < h + h → bits m (signed h v) ≡ v + cond (ltb v h) 0 (m + m - (h + h))
extended h m v p q = go (ltb v h)
  where
    go : (t : Bool) → bits m (cond t (pos v) (negsuc (h + h - suc v))) ≡ v + cond t 0 (m + m - (h + h))
    go true = omega arith
    go false = omega arith

-- ---- at k bits
double : (k : ℕ) → 1 ≤ k → half k + half k ≡ 2 ^ k
double zero p = absurd (omega arith)
double (suc m) p =
    let e : half (suc m) ≡ 2 ^ m = ap (λ (x : ℕ). 2 ^ x) (omega arith) in
    omega (arith, pow-add 2 1 m)

module _ (k : ℕ) (wide : 1 ≤ k) where
  pattern : (v : ℕ) → v < 2 ^ k → v < half k + half k
  pattern v p = omega (arith, double k wide)

  range : (w : ℕ) → Within (half k) (field k w)
  range w = size_within (half k) (field k w)
      (number_size (half k) (w % 2 ^ k) (pattern (w % 2 ^ k) (mod-lt w (pow_pos k))))

  fits : (n : ℤ) → Within (half k) n → bits (half k) n < 2 ^ k
  fits n p = omega (arith, double k wide, pattern_fits (half k) n (within_bound (half k) n p))

  extension : (j v : ℕ) → k ≤ j → v < 2 ^ k → bits (half j) (signed (half k) v)
      ≡ v + cond (ltb v (half k)) 0 (2 ^ j - 2 ^ k)
  extension j v p q =
      rw (← double k wide, ← double j (omega arith))
      (extended (half k) (half j) v (pow_mono (omega arith)) (pattern v q))

  truncation : (j : ℕ) (n : ℤ) → k ≤ j → Within (half k) n → bits (half j) n % 2 ^ k ≡ bits (half k) n
  truncation j (pos n) p q = mod-eq_of_lt (omega (arith, double k wide, within_bound (half k) (pos n) q))
  truncation j (negsuc n) p q =
      let s : n < half k = within_bound (half k) (negsuc n) q in
      let u : 2 ^ (j - k + k) ≡ 2 ^ j = ap (λ (x : ℕ). 2 ^ x) (omega arith) in
      let e : half j + half j - suc n ≡ 2 ^ (j - k + k) - 1 - n = omega (arith, double j (omega arith)) in
      rw e (not_mod (j - k) k (omega (arith, double k wide)) ∙ omega (arith, double k wide))

pub signed_fields : SignedFields
signed_fields k wide = record {
  range = range k wide;
  fits = fits k wide;
  extension = extension k wide;
  truncation = truncation k wide;
  pattern_back = λ v p. pattern_back (half k) v (pattern k wide v p);
  number_back = λ n p. number_back (half k) n (within_bound (half k) n p);
}

pub signed_fields_of_the_figure : SignedFieldsOfTheFigure
signed_fields_of_the_figure = record {
  imm5 = signed_fields 5 (omega arith);
  offset6 = signed_fields 6 (omega arith);
  pcoffset9 = signed_fields 9 (omega arith);
  pcoffset11 = signed_fields 11 (omega arith);
}
