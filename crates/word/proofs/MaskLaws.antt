-- The mask is 0 exactly for a word whose fixed bits are right: for each opcode, by linear arithmetic.
use Rattle.std.proofs.Common.{◌≡◌, ℕ, ◌+◌, ◌-◌, ◌*◌, ◌/◌, ◌%◌, Bool, true, false, cond, eqb, ◌↔◌, get_or, refl}
use Rattle.std.proofs.Common.{arith, eqb-true}
use Rattle.word.specs.Reading.{bits11to9, bits8to6, bit5, bit11, opcode}
use Rattle.word.specs.FixedBits.{fixed_operand, fixed_jsr, fixed_forms, fixed_of}
use Rattle.word.specs.Mask.{operand_mask, jsr_mask, masks, mask_of}
use Rattle.word.specs.Theorems.{MaskIsZeroExactly}
use Rattle.word.proofs.Opcodes.{Below, ◌&◌, each}
use Rattle.word.proofs.WriteAfterRead.{top}

-- ---- where it is 0
-- bits 10 and 9 are bits 11 to 9 where bit 11 is 0
pub two : (w : ℕ) → w / 2048 % 2 ≡ 0 → w / 512 % 4 ≡ w / 512 % 8
two w z = omega arith

pub high : (w : ℕ) → w / 256 ≡ w / 4096 * 16 + w / 256 % 16
high w = omega arith

-- what is 0 where a test fails, and what it is then compared with
by_test : (t : Bool) (m f w : ℕ) → (m ≡ 0) ↔ (f ≡ w) → (cond t m 0 ≡ 0) ↔ (cond t f w ≡ w)
by_test true m f w e = e
by_test false m f w e = (λ z. refl, λ z. refl)

nothing : (w : ℕ) → (◌≡◌ {A = ℕ} 0 0) ↔ (w ≡ w)
nothing w = (λ e. refl, λ e. refl)

operand : (w : ℕ) → (operand_mask w ≡ 0) ↔ (fixed_operand w ≡ w)
operand w = by_test (eqb (bit5 w) 0) (w / 8 % 4 * 8) (w - w / 8 % 4 * 8) w (λ e. omega arith, λ e. omega arith)

-- a word of the opcode k that has BaseR alone
base_alone : (k a b l : ℕ) {w : ℕ} → k * 4096 + a * 512 + b * 64 ≡ w / 64 * 64 → l ≡ w % 64
    → (a * 512 + l ≡ 0) ↔ (k * 4096 + b * 64 ≡ w)
base_alone k a b l p q = (λ e. omega arith, λ e. omega arith)

jsr : (w : ℕ) → opcode w ≡ 4 → (jsr_mask w ≡ 0) ↔ (fixed_jsr w ≡ w)
jsr w k = go (eqb (bit11 w) 0) refl
  where
    go : (t : Bool) → eqb (bit11 w) 0 ≡ t
        → (cond t (w / 512 % 4 * 512 + w % 64) 0 ≡ 0) ↔ (cond t (0x4000 + w / 64 % 8 * 64) w ≡ w)
    go true z = rw (two w (eqb-true (bit11 w) 0 z)) (base_alone 4 (bits11to9 w) (bits8to6 w) (w % 64) (top w 4 k) refl)
    go false z = (λ e. refl, λ e. refl)

jmp : (w : ℕ) → opcode w ≡ 12 → (w / 512 % 8 * 512 + w % 64 ≡ 0) ↔ (0xC000 + w / 64 % 8 * 64 ≡ w)
jmp w k = base_alone 12 (bits11to9 w) (bits8to6 w) (w % 64) (top w 12 k) refl

trap : (w : ℕ) → opcode w ≡ 15 → (w / 256 % 16 * 256 ≡ 0) ↔ (0xF000 + w % 256 ≡ w)
trap w k = (λ e. omega (arith, high w), λ e. omega (arith, high w))

abbrev Exactly : ℕ → ℕ → Type 0
Exactly w k = opcode w ≡ k → (get_or (masks w) k 0 ≡ 0) ↔ (get_or (fixed_forms w) k 0 ≡ w)

pub mask_is_zero_exactly : MaskIsZeroExactly
unfolding mask_of fixed_of Below
mask_is_zero_exactly w h = each (Exactly w) 16 cases (opcode w) (omega arith) refl
  where
    cases : Below (Exactly w) 16
    cases =
        (λ k. nothing w)
        & (λ k. operand w)
        & (λ k. nothing w)
        & (λ k. nothing w)
        & jsr w
        & (λ k. operand w)
        & (λ k. nothing w)
        & (λ k. nothing w)
        & (λ k. (λ e. omega arith, λ e. omega arith))
        & (λ k. (λ e. omega arith, λ e. omega arith))
        & (λ k. nothing w)
        & (λ k. nothing w)
        & jmp w
        & (λ k. nothing w)
        & (λ k. nothing w)
        & trap w
        & tt
