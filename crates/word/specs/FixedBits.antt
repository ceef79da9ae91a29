-- A word with the bits that Figure A.2 fixes set as in the figure, and its other bits as they were.
use Rattle.std.specs.Prelude.{ℕ, ◌+◌, ◌-◌, ◌*◌, ◌/◌, ◌%◌, cond, List, [], ◌∷◌, ◌==◌, slice_index}
use Rattle.word.specs.Reading.{bits8to6, opcode, bit5, bit11}

-- ADD and AND with SR2 (bit 5 is 0): bits 4 and 3 are 0. With imm5 nothing is fixed
abbrev pub fixed_operand : ℕ → ℕ
fixed_operand w = cond (bit5 w == 0) (w - w / 8 % 4 * 8) w

-- JSRR (bit 11 is 0): bits 10 and 9 and bits 5 to 0 are 0, so only BaseR is left. JSR: nothing is fixed
abbrev pub fixed_jsr : ℕ → ℕ
fixed_jsr w = cond (bit11 w == 0) (0x4000 + bits8to6 w * 64) w

-- for each opcode from 0 to 15. RTI: bits 11 to 0 are 0. NOT: bits 5 to 0 are 1. JMP: bits 11 to 9 and 5 to 0 are 0.
-- TRAP: bits 11 to 8 are 0. No other opcode has fixed bits
abbrev pub fixed_forms : ℕ → List ℕ
fixed_forms w =
    w
    ∷ fixed_operand w
    ∷ w
    ∷ w
    ∷ fixed_jsr w
    ∷ fixed_operand w
    ∷ w
    ∷ w
    ∷ 0x8000
    ∷ (w - w % 64 + 63)
    ∷ w
    ∷ w
    ∷ (0xC000 + bits8to6 w * 64)
    ∷ w
    ∷ w
    ∷ (0xF000 + w % 256)
    ∷ []

unfoldable pub fixed_of : ℕ → ℕ
fixed_of w = slice_index (fixed_forms w) (opcode w)
