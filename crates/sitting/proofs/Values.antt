-- What can be known of a value while a routine runs, and what follows for the registers and the watched words.
-- Everything is relative to what R0 holds.
use Prim.Native.Nat.{ℕ, zero, suc, ◌+◌, ◌*◌, ◌/◌, ◌%◌, min, ◌≤◌, ◌<◌}
use native.Mathlib.Omega.{arith}
use mathlib.Core.Path.{◌≡◌, refl, sym, ap, subst, ◌∙◌}
use mathlib.Core.Bool.{Bool, true, false, cond, not, false≢true}
use mathlib.Core.List.{List, [], ◌∷◌, map}
use borrow.Author.Tests.{eqb-true, eqb-false, le-ltb, ne_eqb}
use lib.Dec.{eqb}
use lib.ListN.{length, get_or, set, replicate}
use lib.Seq.{get_or-set_other, get_or-set_same}
use Rattle.machine.specs.Words.{wrap, and_bits, word_and, complement}
use Rattle.machine.specs.Psr.{codes_of}
use Rattle.machine.proofs.MemoryParts.{UserAddress}
use Rattle.machine.proofs.StepLaws.{codes_of_below}
use Rattle.machine.proofs.Tests.{both_true}
use Rattle.sitting.specs.Values.{Value, unset, any, is, high, low, sum, allowed, kind_of, number_of, value_by}
use Rattle.sitting.specs.Values.{forget, same, implies, all_imply, sum_with, sum_of, and_with, and_of, not_of, taking}
use Rattle.sitting.specs.Values.{besides, all_besides}
use Rattle.sitting.specs.Test.{held, stored_in}

abbrev pub Holds : ℕ → Value → ℕ → Type 0
Holds r unset x = Unit {0}
Holds r any x = Unit {0}
Holds r (is c) x = x ≡ c
Holds r high x = 0x8000 ≤ x
Holds r low x = x < 0x8000
Holds r (sum c) x = x ≡ wrap (r + c)
Holds r allowed x = UserAddress (wrap x)

-- The codes N, Z, P as such a value sets them.
abbrev pub CodesHold : ℕ → Value → ℕ → Type 0
CodesHold r unset codes = Unit {0}
CodesHold r any codes = (x : ℕ) × (codes ≡ codes_of x)
CodesHold r (is c) codes = codes ≡ codes_of c
CodesHold r high codes = codes ≡ 4
CodesHold r low codes = (x : ℕ) × (codes ≡ codes_of x) × (x < 0x8000)
CodesHold r (sum c) codes = codes ≡ codes_of (wrap (r + c))
CodesHold r allowed codes = (x : ℕ) × (codes ≡ codes_of x)

-- What is known of each of some words: of the registers, or of watched words of memory.
abbrev pub Registers : ℕ → List Value → List ℕ → Type 0
Registers r [] [] = Unit {0}
Registers r [] (x ∷ xs) = ⊥
Registers r (v ∷ vs) [] = ⊥
Registers r (v ∷ vs) (x ∷ xs) = Holds r v x × Registers r vs xs

-- ---- one value

pub high_codes : (x : ℕ) → 0x8000 ≤ x → codes_of x ≡ 4
unfolding codes_of
high_codes x h =
    rw (ne_eqb x 0 (λ e. absurd (omega arith)), le-ltb x 0x8000 h)

-- The codes that are set from a value.
pub codes_set : (r : ℕ) (v : Value) (x psr : ℕ) → Holds r v x → CodesHold r v ((psr / 8 * 8 + codes_of x) % 8)
codes_set r v x psr h = subst (CodesHold r v) (sym remainder) (go v h)
  where
    remainder : (psr / 8 * 8 + codes_of x) % 8 ≡ codes_of x
    remainder = omega (arith, codes_of_below x)

    go : (v : Value) → Holds r v x → CodesHold r v (codes_of x)
    go unset h = tt
    go any h = (x, refl)
    go (is c) h = ap codes_of h
    go high h = high_codes x h
    go low h = (x, refl, h)
    go (sum c) h = ap codes_of h
    go allowed h = (x, refl)

pub forgotten : (r r' : ℕ) (v : Value) (x : ℕ) → Holds r v x → Holds r' (forget v) x
unfolding forget
forgotten r r' unset x h = tt
forgotten r r' any x h = tt
forgotten r r' (is c) x h = h
forgotten r r' high x h = h
forgotten r r' low x h = h
forgotten r r' (sum c) x h = tt
forgotten r r' allowed x h = h

pub forgotten_codes : (r r' : ℕ) (v : Value) (codes : ℕ) → CodesHold r v codes → CodesHold r' (forget v) codes
unfolding forget
forgotten_codes r r' unset codes h = tt
forgotten_codes r r' any codes h = h
forgotten_codes r r' (is c) codes h = h
forgotten_codes r r' high codes h = h
forgotten_codes r r' low codes h = h
forgotten_codes r r' (sum c) codes h = (wrap (r + c), h)
forgotten_codes r r' allowed codes h = h

-- ---- what says more than another

value_back : (v : Value) → value_by (kind_of v) (number_of v) ≡ v
unfolding value_by kind_of number_of
value_back unset = refl
value_back any = refl
value_back (is c) = refl
value_back high = refl
value_back low = refl
value_back (sum c) = refl
value_back allowed = refl

pub same_is : (v w : Value) → same v w ≡ true → v ≡ w
unfolding same
same_is v w h =
    let b = both_true (eqb (kind_of v) (kind_of w)) (eqb (number_of v) (number_of w)) h in
    let e : kind_of v ≡ kind_of w = eqb-true (kind_of v) (kind_of w) b.0 in
    let f : number_of v ≡ number_of w = eqb-true (number_of v) (number_of w) b.1 in
    sym (value_back v) ∙ (rw (e, f) (value_back w))

pub weaker : (r : ℕ) (v w : Value) (x : ℕ) → implies v w ≡ true → Holds r v x → Holds r w x
unfolding implies kind_of
weaker r v unset x i h = tt
weaker r v any x i h = tt
weaker r v (is d) x i h = subst (λ (w : Value). Holds r w x) (same_is v (is d) i) h
weaker r v high x i h = subst (λ (w : Value). Holds r w x) (same_is v high i) h
weaker r v low x i h = subst (λ (w : Value). Holds r w x) (same_is v low i) h
weaker r v (sum d) x i h = subst (λ (w : Value). Holds r w x) (same_is v (sum d) i) h
weaker r v allowed x i h = subst (λ (w : Value). Holds r w x) (same_is v allowed i) h

some_codes : (r : ℕ) (v : Value) (codes : ℕ) → not (eqb (kind_of v) 0) ≡ true → CodesHold r v codes
    → CodesHold r any codes
unfolding kind_of
some_codes r unset codes i h = absurd (false≢true i)
some_codes r any codes i h = h
some_codes r (is c) codes i h = (c, h)
some_codes r high codes i h = (0x8000, h ∙ sym (high_codes 0x8000 (omega arith)))
some_codes r low codes i h = (h.0, h.1)
some_codes r (sum c) codes i h = (wrap (r + c), h)
some_codes r allowed codes i h = h

pub weaker_codes : (r : ℕ) (v w : Value) (codes : ℕ) → implies v w ≡ true → CodesHold r v codes → CodesHold r w codes
unfolding implies kind_of
weaker_codes r v unset codes i h = tt
weaker_codes r v any codes i h = some_codes r v codes i h
weaker_codes r v (is d) codes i h = subst (λ (w : Value). CodesHold r w codes) (same_is v (is d) i) h
weaker_codes r v high codes i h = subst (λ (w : Value). CodesHold r w codes) (same_is v high i) h
weaker_codes r v low codes i h = subst (λ (w : Value). CodesHold r w codes) (same_is v low i) h
weaker_codes r v (sum d) codes i h = subst (λ (w : Value). CodesHold r w codes) (same_is v (sum d) i) h
weaker_codes r v allowed codes i h = subst (λ (w : Value). CodesHold r w codes) (same_is v allowed i) h

-- ---- sums

sum_of_first : (r : ℕ) (first : Bool) (x d : ℕ) → (first ≡ true → x ≡ r)
    → Holds r (cond first (sum d) any) (wrap (x + d))
sum_of_first r true x d f = ap (λ (k : ℕ). wrap (k + d)) (f refl)
sum_of_first r false x d f = tt

pub sum_holds : (r : ℕ) (first : Bool) (v : Value) (x d : ℕ) → (first ≡ true → x ≡ r) → Holds r v x
    → Holds r (sum_with first v d) (wrap (x + d))
unfolding sum_with
sum_holds r first unset x d f h = sum_of_first r first x d f
sum_holds r first any x d f h = sum_of_first r first x d f
sum_holds r first (is c) x d f h = ap (λ (k : ℕ). wrap (k + d)) h
sum_holds r first high x d f h = sum_of_first r first x d f
sum_holds r first low x d f h = sum_of_first r first x d f
sum_holds r first (sum c) x d f h = rw h (omega arith)
sum_holds r first allowed x d f h = sum_of_first r first x d f

pub sum_of_both_holds : (r : ℕ) (first : Bool) (v w : Value) (x y : ℕ) → (first ≡ true → x ≡ r) → Holds r v x
    → Holds r w y → Holds r (sum_of first v w) (wrap (x + y))
unfolding sum_of
sum_of_both_holds r first v unset x y f h k = tt
sum_of_both_holds r first v any x y f h k = tt
sum_of_both_holds r first v (is d) x y f h k =
    subst (λ (z : ℕ). Holds r (sum_with first v d) (wrap (x + z))) (sym k) (sum_holds r first v x d f h)
sum_of_both_holds r first v high x y f h k = tt
sum_of_both_holds r first v low x y f h k = tt
sum_of_both_holds r first v (sum d) x y f h k = tt
sum_of_both_holds r first v allowed x y f h k = tt

-- ---- AND and NOT

no_bits : (k a : ℕ) → and_bits k a 0 ≡ 0
unfolding and_bits
no_bits zero a = refl
no_bits (suc k) a = rw (no_bits k (a / 2)) (no_bit (a % 2))
  where
    no_bit : (b : ℕ) → 0 * 2 + min b 0 ≡ 0
    no_bit b = omega arith

and_with_some : (r x d : ℕ) → Holds r (cond (eqb d 0) (is 0) any) (word_and x d)
and_with_some r x d = go (eqb d 0) refl
  where
    go : (b : Bool) → eqb d 0 ≡ b → Holds r (cond b (is 0) any) (word_and x d)
    go true e = rw (eqb-true d 0 e) (no_bits 16 x)
    go false e = tt

pub and_holds : (r : ℕ) (v : Value) (x d : ℕ) → Holds r v x → Holds r (and_with v d) (word_and x d)
unfolding and_with
and_holds r unset x d h = and_with_some r x d
and_holds r any x d h = and_with_some r x d
and_holds r (is c) x d h = ap (λ (k : ℕ). word_and k d) h
and_holds r high x d h = and_with_some r x d
and_holds r low x d h = and_with_some r x d
and_holds r (sum c) x d h = and_with_some r x d
and_holds r allowed x d h = and_with_some r x d

pub and_of_both_holds : (r : ℕ) (v w : Value) (x y : ℕ) → Holds r v x → Holds r w y
    → Holds r (and_of v w) (word_and x y)
unfolding and_of
and_of_both_holds r v unset x y h k = tt
and_of_both_holds r v any x y h k = tt
and_of_both_holds r v (is d) x y h k =
    subst (λ (z : ℕ). Holds r (and_with v d) (word_and x z)) (sym k) (and_holds r v x d h)
and_of_both_holds r v high x y h k = tt
and_of_both_holds r v low x y h k = tt
and_of_both_holds r v (sum d) x y h k = tt
and_of_both_holds r v allowed x y h k = tt

pub not_holds : (r : ℕ) (v : Value) (x : ℕ) → Holds r v x → Holds r (not_of v) (complement x)
unfolding not_of
not_holds r unset x h = tt
not_holds r any x h = tt
not_holds r (is c) x h = ap (λ (k : ℕ). complement k) h
not_holds r high x h = tt
not_holds r low x h = tt
not_holds r (sum c) x h = tt
not_holds r allowed x h = tt

-- ---- all registers

pub looked_up : (r : ℕ) (vs : List Value) (xs : List ℕ) → Registers r vs xs → (i : ℕ)
    → Holds r (get_or vs i any) (get_or xs i 0)
looked_up r [] [] h i = tt
looked_up r [] (x ∷ xs) h i = absurd h
looked_up r (v ∷ vs) [] h i = absurd h
looked_up r (v ∷ vs) (x ∷ xs) h zero = h.0
looked_up r (v ∷ vs) (x ∷ xs) h (suc i) = looked_up r vs xs h.1 i

pub updated : (r : ℕ) (vs : List Value) (xs : List ℕ) → Registers r vs xs → (i : ℕ) (v : Value) (x : ℕ) → Holds r v x
    → Registers r (set vs i v) (set xs i x)
updated r [] [] h i v x k = tt
updated r [] (y ∷ xs) h i v x k = absurd h
updated r (w ∷ vs) [] h i v x k = absurd h
updated r (w ∷ vs) (y ∷ xs) h zero v x k = (k, h.1)
updated r (w ∷ vs) (y ∷ xs) h (suc i) v x k = (h.0, updated r vs xs h.1 i v x k)

-- More is known of R0.
pub refined : (r : ℕ) (vs : List Value) (xs : List ℕ) → Registers r vs xs → (v : Value) → Holds r v (get_or xs 0 0)
    → Registers r (set vs 0 v) xs
refined r [] [] h v k = tt
refined r [] (y ∷ xs) h v k = absurd h
refined r (w ∷ vs) [] h v k = absurd h
refined r (w ∷ vs) (y ∷ xs) h v k = (k, h.1)

all_forgotten : (r r' : ℕ) (vs : List Value) (xs : List ℕ) → Registers r vs xs → Registers r' (map forget vs) xs
all_forgotten r r' [] [] h = tt
all_forgotten r r' [] (x ∷ xs) h = absurd h
all_forgotten r r' (v ∷ vs) [] h = absurd h
all_forgotten r r' (v ∷ vs) (x ∷ xs) h = (forgotten r r' v x h.0, all_forgotten r r' vs xs h.1)

-- Of any registers something is known: nothing.
pub nothing_known : (r : ℕ) (xs : List ℕ) → Registers r (replicate (length xs) any) xs
nothing_known r [] = tt
nothing_known r (x ∷ xs) = (tt, nothing_known r xs)

pub all_weaker : (r : ℕ) (vs ws : List Value) (xs : List ℕ) → all_imply vs ws ≡ true → Registers r vs xs
    → Registers r ws xs
unfolding all_imply
all_weaker r [] [] xs i h = h
all_weaker r [] (w ∷ ws) xs i h = absurd (false≢true i)
all_weaker r (v ∷ vs) [] xs i h = absurd (false≢true i)
all_weaker r (v ∷ vs) (w ∷ ws) [] i h = h
all_weaker r (v ∷ vs) (w ∷ ws) (x ∷ xs) i h =
    let b = both_true (implies v w) (all_imply vs ws) i in
    (weaker r v w x b.0 h.0, all_weaker r vs ws xs b.1 h.1)

-- A register takes a value.
pub register_taken : (vs : List Value) (xs : List ℕ) (r : ℕ) (v : Value) (x : ℕ) → Registers (get_or xs 0 0) vs xs
    → Holds (get_or xs 0 0) v x → Registers (get_or (set xs (r % 8) x) 0 0) (taking r v vs) (set xs (r % 8) x)
unfolding taking
register_taken vs xs r v x h k = go (eqb (r % 8) 0) refl
  where
    go : (b : Bool) → eqb (r % 8) 0 ≡ b
        → Registers (get_or (set xs (r % 8) x) 0 0) (cond b (set (map forget vs) 0 (forget v)) (set vs (r % 8) v))
        (set xs (r % 8) x)
    go true e =
        let z : r % 8 ≡ 0 = eqb-true (r % 8) 0 e in
        rw z
        (updated (get_or (set xs 0 x) 0 0) (map forget vs) xs (all_forgotten (get_or xs 0 0) _ vs xs h) 0 (forget v) x
        (forgotten (get_or xs 0 0) _ v x k))
    go false e =
        rw (get_or-set_other xs (r % 8) 0 x 0 (λ z. eqb-false (r % 8) 0 e (sym z)))
        (updated (get_or xs 0 0) vs xs h (r % 8) v x k)

pub codes_besides : (xs : List ℕ) (r : ℕ) (v : Value) (x codes : ℕ) → CodesHold (get_or xs 0 0) v codes
    → CodesHold (get_or (set xs (r % 8) x) 0 0) (besides r v) codes
unfolding besides
codes_besides xs r v x codes h = go (eqb (r % 8) 0) refl
  where
    go : (b : Bool) → eqb (r % 8) 0 ≡ b → CodesHold (get_or (set xs (r % 8) x) 0 0) (cond b (forget v) v) codes
    go true e = forgotten_codes (get_or xs 0 0) _ v codes h
    go false e = rw (get_or-set_other xs (r % 8) 0 x 0 (λ z. eqb-false (r % 8) 0 e (sym z))) h

pub words_besides : (xs : List ℕ) (r : ℕ) (vs : List Value) (x : ℕ) (ys : List ℕ) → Registers (get_or xs 0 0) vs ys
    → Registers (get_or (set xs (r % 8) x) 0 0) (all_besides r vs) ys
unfolding all_besides
words_besides xs r vs x ys h = go (eqb (r % 8) 0) refl
  where
    go : (b : Bool) → eqb (r % 8) 0 ≡ b
        → Registers (get_or (set xs (r % 8) x) 0 0) (cond b (map forget vs) vs) ys
    go true e = all_forgotten (get_or xs 0 0) _ vs ys h
    go false e = rw (get_or-set_other xs (r % 8) 0 x 0 (λ z. eqb-false (r % 8) 0 e (sym z))) h

-- ---- watched words

unfoldable pub words_at : List ℕ → List ℕ → List ℕ
words_at [] mem = []
words_at (w ∷ ws) mem = get_or mem w 0 ∷ words_at ws mem

pub length_watched : (ws mem : List ℕ) → length (words_at ws mem) ≡ length ws
unfolding words_at
length_watched [] mem = refl
length_watched (w ∷ ws) mem = ap suc (length_watched ws mem)

pub held_holds : (r a : ℕ) (ws : List ℕ) (vs : List Value) (mem : List ℕ) → Registers r vs (words_at ws mem)
    → Holds r (held a ws vs) (get_or mem a 0)
unfolding held words_at
held_holds r a [] vs mem h = tt
held_holds r a (w ∷ ws) [] mem h = tt
held_holds r a (w ∷ ws) (v ∷ vs) mem h = go (held_holds r a ws vs mem h.1) (eqb a w) refl
  where
    go : Holds r (held a ws vs) (get_or mem a 0) → (b : Bool) → eqb a w ≡ b
        → Holds r (cond b v (held a ws vs)) (get_or mem a 0)
    go rest true e = rw (eqb-true a w e) h.0
    go rest false e = rest

pub stored_holds : (r a : ℕ) (v : Value) (x : ℕ) (ws : List ℕ) (vs : List Value) (mem : List ℕ) → a < length mem
    → Holds r v x → Registers r vs (words_at ws mem) → Registers r (stored_in a v ws vs) (words_at ws (set mem a x))
unfolding stored_in words_at
stored_holds r a v x [] vs mem l k h = h
stored_holds r a v x (w ∷ ws) [] mem l k h = h
stored_holds r a v x (w ∷ ws) (y ∷ vs) mem l k h =
    (go (eqb w a) refl, stored_holds r a v x ws vs mem l k h.1)
  where
    go : (b : Bool) → eqb w a ≡ b → Holds r (cond b v y) (get_or (set mem a x) w 0)
    go true e = rw (eqb-true w a e, get_or-set_same mem a x 0 l) k
    go false e = rw (get_or-set_other mem a w x 0 (eqb-false w a e)) h.0
