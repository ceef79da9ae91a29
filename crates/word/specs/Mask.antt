-- The fixed bits of a word that are wrong (M21): a number with 1 in their places and 0 in all others.
use Rattle.std.specs.Prelude.{ℕ, ◌+◌, ◌-◌, ◌*◌, ◌/◌, ◌%◌, cond, List, [], ◌∷◌, ◌==◌, slice_index}
use Rattle.word.specs.Reading.{opcode, bit5, bit11, read_of}
use Rattle.word.specs.declared.Read.{Read}

-- ADD and AND with SR2 (bit 5 is 0): those of bits 4 and 3 that are 1. With imm5 nothing is fixed
abbrev pub operand_mask : ℕ → ℕ
operand_mask w = cond (bit5 w == 0) (w / 8 % 4 * 8) 0

-- JSRR (bit 11 is 0): those of bits 10 and 9 and of bits 5 to 0 that are 1. JSR: nothing is fixed
abbrev pub jsr_mask : ℕ → ℕ
jsr_mask w = cond (bit11 w == 0) (w / 512 % 4 * 512 + w % 64) 0

-- for each opcode from 0 to 15. RTI: those of bits 11 to 0 that are 1. NOT: those of bits 5 to 0 that are 0. JMP: those
-- of bits 11 to 9 and 5 to 0 that are 1. TRAP: those of bits 11 to 8 that are 1. No other opcode has fixed bits
abbrev pub masks : ℕ → List ℕ
masks w =
    0
    ∷ operand_mask w
    ∷ 0
    ∷ 0
    ∷ jsr_mask w
    ∷ operand_mask w
    ∷ 0
    ∷ 0
    ∷ w % 4096
    ∷ (63 - w % 64)
    ∷ 0
    ∷ 0
    ∷ (w / 512 % 8 * 512 + w % 64)
    ∷ 0
    ∷ 0
    ∷ w / 256 % 16 * 256
    ∷ []

unfoldable pub mask_of : ℕ → ℕ
mask_of w = slice_index (masks w) (opcode w)

-- the places of the fixed bits, right or wrong: bits 4 and 3 of ADD and AND with SR2; bits 10, 9 and 5 to 0 of JSRR;
-- and those of RTI, NOT, JMP and TRAP
abbrev pub operand_places : ℕ → ℕ
operand_places w = cond (bit5 w == 0) 0x0018 0

abbrev pub jsr_places : ℕ → ℕ
jsr_places w = cond (bit11 w == 0) 0x063F 0

abbrev pub places : ℕ → List ℕ
places w =
    0
    ∷ operand_places w
    ∷ 0
    ∷ 0
    ∷ jsr_places w
    ∷ operand_places w
    ∷ 0
    ∷ 0
    ∷ 0x0FFF
    ∷ 0x003F
    ∷ 0
    ∷ 0
    ∷ 0x0E3F
    ∷ 0
    ∷ 0
    ∷ 0x0F00
    ∷ []

unfoldable pub places_of : ℕ → ℕ
places_of w = slice_index (places w) (opcode w)

-- what reading with the mask answers
abbrev pub read_with_mask_of : ℕ → Read
read_with_mask_of w = record { instruction = read_of w; mask = mask_of w }
