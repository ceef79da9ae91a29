-- The word with its fixed bits right differs from the word in exactly the masked bits: for each opcode, by the blocks
-- of bits that the two have in common.
use Rattle.std.proofs.Common.{◌≡◌, ℕ, zero, suc, ◌+◌, ◌-◌, ◌*◌, ◌/◌, ◌%◌, ◌^◌, ◌<◌, Bool, true, false, cond, eqb}
use Rattle.std.proofs.Common.{get_or, sym, refl, ap, ◌∙◌, ap₂, add-zero, mod-eq_of_lt, div-add-mod', arith, eqb-true}
use lib.Arith.{bin_ind}
use lib.Bits.{differ, bit_and, bit_xor, xor_step, xor_self, xor_comm, xor_block, xor_add_and}
use lib.Bits.{and_block, and_mask, and_comm}
use Rattle.word.specs.Reading.{bits11to9, bits8to6, bit5, bit11, opcode}
use Rattle.word.specs.FixedBits.{fixed_operand, fixed_jsr, fixed_forms, fixed_of}
use Rattle.word.specs.Mask.{operand_mask, jsr_mask, masks, mask_of, operand_places, jsr_places, places, places_of}
use Rattle.word.specs.Theorems.{WrittenDiffersInMaskedBits, WriteAfterReadByMask}
use Rattle.word.specs.Theorems.{MaskInPlaces, ReadingIgnoresMaskedBits}
use Rattle.word.proofs.Opcodes.{Below, ◌&◌, each}
use Rattle.word.proofs.WriteAfterRead.{top, write_after_read, write_after_read_exactly}
use Rattle.word.proofs.WriteAfterRead.{reading_ignores_fixed_bits}
use Rattle.word.proofs.MaskLaws.{two, high, mask_is_zero_exactly}

-- ---- blocks of bits
-- a block of j bits above k bits, cleared
cleared : (j k a h l : ℕ) → 0 < 2 ^ j → h < 2 ^ j → l < 2 ^ k
    → bit_xor ((a * 2 ^ j + 0) * 2 ^ k + l) ((a * 2 ^ j + h) * 2 ^ k + l) ≡ h * 2 ^ k
cleared j k a h l z p q =
    xor_block k (a * 2 ^ j + 0) (a * 2 ^ j + h) l l q q
    ∙ rw (xor_block j a a 0 h z p, xor_self a, xor_self l) (omega arith)

-- the block of bits 11 to 9 and the low 6 bits, cleared: BaseR alone is left
base_cleared : (c a b l : ℕ) → a < 8 → b < 8 → l < 64
    → bit_xor (((c * 8 + 0) * 8 + b) * 64 + 0) (((c * 8 + a) * 8 + b) * 64 + l) ≡ a * 512 + l
base_cleared c a b l p q r =
    xor_block 6 ((c * 8 + 0) * 8 + b) ((c * 8 + a) * 8 + b) 0 l (omega arith) r
    ∙ (ap (λ (x : ℕ). x * 64 + l) (cleared 3 3 c a b (omega arith) p q) ∙ omega arith)

-- six bits, inverted
inverted : (r : ℕ) → r < 64 → bit_xor 63 r ≡ 63 - r
inverted r p =
    sum (bit_xor 63 r) (bit_and 63 r) r (and_comm 63 r ∙ (and_mask r 6 ∙ mod-eq_of_lt p)) (xor_add_and 63 r)
  where
    sum : (x y r : ℕ) → y ≡ r → x + y * 2 ≡ 63 + r → x ≡ 63 - r
    sum x y r e f = omega arith

-- ---- the two words, by the opcode
operand : (w : ℕ) → bit_xor (fixed_operand w) w ≡ operand_mask w
operand w = go (eqb (bit5 w) 0)
  where
    right : (w : ℕ) → w - w / 8 % 4 * 8 ≡ (w / 32 * 4 + 0) * 8 + w % 8
    right w = omega arith

    given : (w : ℕ) → w ≡ (w / 32 * 4 + w / 8 % 4) * 8 + w % 8
    given w = omega arith

    go : (t : Bool) → bit_xor (cond t (w - w / 8 % 4 * 8) w) w ≡ cond t (w / 8 % 4 * 8) 0
    go true =
        ap₂ bit_xor (right w) (given w)
        ∙ cleared 2 3 (w / 32) (w / 8 % 4) (w % 8) (omega arith) (omega arith) (omega arith)
    go false = xor_self w

-- a word of the opcode k that has BaseR alone
base : (w k : ℕ) → opcode w ≡ k → bit_xor (k * 4096 + bits8to6 w * 64) w ≡ bits11to9 w * 512 + w % 64
base w k e =
    let given : w ≡ ((k * 8 + bits11to9 w) * 8 + bits8to6 w) * 64 + w % 64 = omega (arith, top w k e) in
    let right : k * 4096 + bits8to6 w * 64 ≡ ((k * 8 + 0) * 8 + bits8to6 w) * 64 + 0 = omega arith in
    ap₂ bit_xor right given
    ∙ base_cleared k (bits11to9 w) (bits8to6 w) (w % 64) (omega arith) (omega arith) (omega arith)

jsr : (w : ℕ) → opcode w ≡ 4 → bit_xor (fixed_jsr w) w ≡ jsr_mask w
jsr w k = go (eqb (bit11 w) 0) refl
  where
    go : (t : Bool) → eqb (bit11 w) 0 ≡ t
        → bit_xor (cond t (0x4000 + w / 64 % 8 * 64) w) w ≡ cond t (w / 512 % 4 * 512 + w % 64) 0
    go true z = base w 4 k ∙ ap (λ (x : ℕ). x * 512 + w % 64) (sym (two w (eqb-true (bit11 w) 0 z)))
    go false z = xor_self w

rti : (w : ℕ) → opcode w ≡ 8 → bit_xor 0x8000 w ≡ w % 4096
rti w k =
    let given : w ≡ (8 * 4096 + w % 4096) * 1 + 0 = omega arith in
    ap (bit_xor 0x8000) given ∙ (cleared 12 0 8 (w % 4096) 0 (omega arith) (omega arith) (omega arith) ∙ omega arith)

not : (w : ℕ) → bit_xor (w - w % 64 + 63) w ≡ 63 - w % 64
not w =
    let right : w - w % 64 + 63 ≡ w / 64 * 64 + 63 = omega arith in
    let given : w ≡ w / 64 * 64 + w % 64 = omega arith in
    ap₂ bit_xor right given
    ∙ (xor_block 6 (w / 64) (w / 64) 63 (w % 64) (omega arith) (omega arith)
    ∙ (ap₂ (λ (x y : ℕ). x * 64 + y) (xor_self (w / 64)) (inverted (w % 64) (omega arith)) ∙ omega arith))

trap : (w : ℕ) → opcode w ≡ 15 → bit_xor (0xF000 + w % 256) w ≡ w / 256 % 16 * 256
trap w k =
    let right : 0xF000 + w % 256 ≡ (15 * 16 + 0) * 256 + w % 256 = omega arith in
    let given : w ≡ (15 * 16 + w / 256 % 16) * 256 + w % 256 = omega (arith, high w) in
    ap₂ bit_xor right given ∙ cleared 4 8 15 (w / 256 % 16) (w % 256) (omega arith) (omega arith) (omega arith)

abbrev Differs : ℕ → ℕ → Type 0
Differs w k = opcode w ≡ k → bit_xor (get_or (fixed_forms w) k 0) w ≡ get_or (masks w) k 0

differs : (w : ℕ) → w < 65536 → bit_xor (fixed_of w) w ≡ mask_of w
unfolding fixed_of mask_of Below
differs w h = each (Differs w) 16 cases (opcode w) (omega arith) refl
  where
    cases : Below (Differs w) 16
    cases =
        (λ k. xor_self w)
        & (λ k. operand w)
        & (λ k. xor_self w)
        & (λ k. xor_self w)
        & jsr w
        & (λ k. operand w)
        & (λ k. xor_self w)
        & (λ k. xor_self w)
        & rti w
        & (λ k. not w)
        & (λ k. xor_self w)
        & (λ k. xor_self w)
        & base w 12
        & (λ k. xor_self w)
        & (λ k. xor_self w)
        & trap w
        & tt

pub written_differs_in_masked_bits : WrittenDiffersInMaskedBits
written_differs_in_masked_bits w h = rw (write_after_read w h) (differs w h)

pub write_after_read_by_mask : WriteAfterReadByMask
write_after_read_by_mask w h =
    let back = write_after_read_exactly w h in
    let zero-mask = mask_is_zero_exactly w h in
    (λ e. zero-mask.1 (back.0 e), λ e. back.1 (zero-mask.0 e))

-- ---- bits turned twice are as they were
bit_back : (x y : ℕ) → x < 2 → y < 2 → (differ x y < 2) × (differ (differ x y) y ≡ x)
bit_back zero zero p q = (omega arith, refl)
bit_back zero (suc zero) p q = (omega arith, refl)
bit_back zero (suc (suc y)) p q = absurd (omega arith)
bit_back (suc zero) zero p q = (omega arith, refl)
bit_back (suc zero) (suc zero) p q = (omega arith, refl)
bit_back (suc zero) (suc (suc y)) p q = absurd (omega arith)
bit_back (suc (suc x)) y p q = absurd (omega arith)

xor_back : (a b : ℕ) → bit_xor (bit_xor a b) b ≡ a
xor_back = bin_ind (λ (n : ℕ). (b : ℕ) → bit_xor (bit_xor n b) b ≡ n) (λ b. xor_self b) step
  where
    parts : (x h d : ℕ) → x ≡ h * 2 + d → d < 2 → (x / 2 ≡ h) × (x % 2 ≡ d)
    parts x h d e p = (omega arith, omega arith)

    step : (n : ℕ) → ((b : ℕ) → bit_xor (bit_xor (n / 2) b) b ≡ n / 2) → (b : ℕ) → bit_xor (bit_xor n b) b ≡ n
    step n ih b =
        let bit = bit_back (n % 2) (b % 2) (omega arith) (omega arith) in
        let x = parts (bit_xor n b) (bit_xor (n / 2) (b / 2)) (differ (n % 2) (b % 2)) (xor_step n b) bit.0 in
        xor_step (bit_xor n b) b
        ∙ (ap₂ (λ (y z : ℕ). bit_xor y (b / 2) * 2 + differ z (b % 2)) x.0 x.1
        ∙ (ap₂ (λ (y z : ℕ). y * 2 + z) (ih (b / 2)) bit.1 ∙ div-add-mod' n 2))

turned : (w : ℕ) → w < 65536 → bit_xor w (mask_of w) ≡ fixed_of w
turned w h =
    ap (bit_xor w) (sym (differs w h)) ∙ (xor_comm w (bit_xor (fixed_of w) w) ∙ xor_back (fixed_of w) w)

pub reading_ignores_masked_bits : ReadingIgnoresMaskedBits
reading_ignores_masked_bits v w p q e =
    reading_ignores_fixed_bits v w p q (sym (turned v p) ∙ (e ∙ turned w q))

-- ---- the mask stays in its places
-- a block of n bits above k zeros
block_in : (n k a : ℕ) → 0 < 2 ^ k → a < 2 ^ n → bit_and (a * 2 ^ k) ((2 ^ n - 1) * 2 ^ k) ≡ a * 2 ^ k
block_in n k a z p =
    ap₂ bit_and (sym (add-zero (a * 2 ^ k))) (sym (add-zero ((2 ^ n - 1) * 2 ^ k)))
    ∙ (and_block k a (2 ^ n - 1) 0 0 z z
    ∙ (ap (λ (x : ℕ). x * 2 ^ k + 0) (and_mask a n ∙ mod-eq_of_lt p) ∙ add-zero (a * 2 ^ k)))

-- such a block, from bit 9 on, with the low 6 bits
base_in : (n a l : ℕ) → a < 2 ^ n → l < 64 → bit_and (a * 512 + l) ((2 ^ n - 1) * 8 * 64 + 63) ≡ a * 512 + l
base_in n a l p q =
    let same : a * 512 + l ≡ a * 8 * 64 + l = omega arith in
    ap (λ (x : ℕ). bit_and x ((2 ^ n - 1) * 8 * 64 + 63)) same
    ∙ (and_block 6 (a * 8) ((2 ^ n - 1) * 8) l 63 q (omega arith)
    ∙ (ap₂ (λ (x y : ℕ). x * 64 + y) (block_in n 3 a (omega arith) p) (and_mask l 6 ∙ mod-eq_of_lt q) ∙ sym same))

operand_in : (w : ℕ) → bit_and (operand_mask w) (operand_places w) ≡ operand_mask w
operand_in w = go (eqb (bit5 w) 0)
  where
    go : (t : Bool) → bit_and (cond t (w / 8 % 4 * 8) 0) (cond t 0x0018 0) ≡ cond t (w / 8 % 4 * 8) 0
    go true = block_in 2 3 (w / 8 % 4) (omega arith) (omega arith)
    go false = refl

jsr_in : (w : ℕ) → bit_and (jsr_mask w) (jsr_places w) ≡ jsr_mask w
jsr_in w = go (eqb (bit11 w) 0)
  where
    go : (t : Bool)
        → bit_and (cond t (w / 512 % 4 * 512 + w % 64) 0) (cond t 0x063F 0) ≡ cond t (w / 512 % 4 * 512 + w % 64) 0
    go true = base_in 2 (w / 512 % 4) (w % 64) (omega arith) (omega arith)
    go false = refl

abbrev InPlaces : ℕ → ℕ → Type 0
InPlaces w k = bit_and (get_or (masks w) k 0) (get_or (places w) k 0) ≡ get_or (masks w) k 0

pub mask_in_places : MaskInPlaces
unfolding mask_of places_of Below
mask_in_places w h = each (InPlaces w) 16 cases (opcode w) (omega arith)
  where
    cases : Below (InPlaces w) 16
    cases =
        refl
        & operand_in w
        & refl
        & refl
        & jsr_in w
        & operand_in w
        & refl
        & refl
        & (and_mask (w % 4096) 12 ∙ mod-eq_of_lt (omega arith))
        & (and_mask (63 - w % 64) 6 ∙ mod-eq_of_lt (omega arith))
        & refl
        & refl
        & base_in 3 (bits11to9 w) (w % 64) (omega arith) (omega arith)
        & refl
        & refl
        & block_in 4 8 (w / 256 % 16) (omega arith) (omega arith)
        & tt
