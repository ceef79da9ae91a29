-- The refusals of `write_of` stand in the order of M11.3, by the cases of the three tests.
use Rattle.std.proofs.Common.{◌≡◌, ℕ, Bool, true, false, ◌↔◌, sym, refl, ap, arith}
use Rattle.std.specs.Prelude.{Result, Ok, Err, IsOk, IsErrOf}
use Rattle.word.specs.Writing.{word_of, registers_in_range, field_in_range, mask_in_range, answer, write_of}
use Rattle.word.specs.Writing.{refusal_number}
use Rattle.word.specs.Theorems.{RefusalsInOrder}
use Rattle.word.specs.declared.WriteRefusal.{WriteRefusal}
use Rattle.word.specs.declared.WriteRefusal.TheVariants.{Register, Field, BranchMask}

-- two claims that both hold, and two of which neither does
both : {A B : Type 0} → A → B → A ↔ B
both a b = (λ _. b, λ _. a)

neither : {A B : Type 0} → (A → ⊥) → (B → ⊥) → A ↔ B
neither p q = (λ a. absurd (p a), λ b. absurd (q b))

unlike : true ≡ false → ⊥
unlike e = let z : ◌≡◌ {A = ℕ} 0 1 = cc in omega arith

-- answers with different numbers differ
abbrev number : Result ℕ WriteRefusal → ℕ
number (Ok w) = 0
number (Err e) = refusal_number e

-- ---- for any results a, b and c of the tests of registers, field and mask, and any word
register : (a b c : Bool) (w : ℕ) → IsErrOf (answer a b c w) Register ↔ (a ≡ false)
register false b c w = both refl refl
register true false c w = neither (λ e. omega (arith, ap number e)) unlike
register true true false w = neither (λ e. omega (arith, ap number e)) unlike
register true true true w = neither (λ e. omega (arith, ap number e)) unlike

field : (a b c : Bool) (w : ℕ) → IsErrOf (answer a b c w) Field ↔ ((a ≡ true) × (b ≡ false))
field false b c w = neither (λ e. omega (arith, ap number e)) (λ e. unlike (sym e.0))
field true false c w = both refl (refl, refl)
field true true false w = neither (λ e. omega (arith, ap number e)) (λ e. unlike e.1)
field true true true w = neither (λ e. omega (arith, ap number e)) (λ e. unlike e.1)

mask : (a b c : Bool) (w : ℕ) → IsErrOf (answer a b c w) BranchMask ↔ ((a ≡ true) × (b ≡ true) × (c ≡ false))
mask false b c w = neither (λ e. omega (arith, ap number e)) (λ e. unlike (sym e.0))
mask true false c w = neither (λ e. omega (arith, ap number e)) (λ e. unlike (sym e.1))
mask true true false w = both refl (refl, refl, refl)
mask true true true w = neither (λ e. omega (arith, ap number e)) (λ e. unlike e.2)

none : (a b c : Bool) (w : ℕ) → IsOk (answer a b c w) ↔ ((a ≡ true) × (b ≡ true) × (c ≡ true))
none false b c w = neither (λ e. unlike (sym e)) (λ e. unlike (sym e.0))
none true false c w = neither (λ e. unlike (sym e)) (λ e. unlike (sym e.1))
none true true false w = neither (λ e. unlike (sym e)) (λ e. unlike (sym e.2))
none true true true w = both refl (refl, refl, refl)

pub refusals_in_order : RefusalsInOrder
unfolding write_of
refusals_in_order i = record {
  register = register (registers_in_range i) (field_in_range i) (mask_in_range i) (word_of i);
  field = field (registers_in_range i) (field_in_range i) (mask_in_range i) (word_of i);
  mask = mask (registers_in_range i) (field_in_range i) (mask_in_range i) (word_of i);
  none = none (registers_in_range i) (field_in_range i) (mask_in_range i) (word_of i);
}
