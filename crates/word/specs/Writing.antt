-- What an instruction is written as: its word in Figure A.2, or its refusal.
use Rattle.std.specs.Prelude.{ℕ, ◌+◌, ◌*◌, Bool, true, cond, ◌&&◌, List, [], ◌∷◌, nat_lt, Result, Ok, Err}
use Rattle.word.specs.Field.{half, bits, within}
use Rattle.word.specs.declared.Instruction.{Instruction}
use Rattle.word.specs.declared.Instruction.TheVariants.{Br, AddRegister, AddImmediate, Ld, St, Jsr, Jsrr}
use Rattle.word.specs.declared.Instruction.TheVariants.{AndRegister, AndImmediate, Ldr, Str, Rti, Not, Ldi, Sti}
use Rattle.word.specs.declared.Instruction.TheVariants.{Jmp, Reserved, Lea, Trap}
use Rattle.word.specs.declared.WriteRefusal.{WriteRefusal}
use Rattle.word.specs.declared.WriteRefusal.TheVariants.{Register, Field, BranchMask}

-- Figure A.2, row by row: the opcode with the fixed bits, then a register or the BR mask at bit 9 (512), a register at
-- bit 6 (64), and a register or the field at bit 0. RET, the figure's row JMP with BaseR 111, is Jmp 7
abbrev pub word_of : Instruction → ℕ
word_of (AddRegister dr sr1 sr2) = 0x1000 + dr * 512 + sr1 * 64 + sr2
word_of (AddImmediate dr sr1 imm5) = 0x1020 + dr * 512 + sr1 * 64 + bits (half 5) imm5
word_of (AndRegister dr sr1 sr2) = 0x5000 + dr * 512 + sr1 * 64 + sr2
word_of (AndImmediate dr sr1 imm5) = 0x5020 + dr * 512 + sr1 * 64 + bits (half 5) imm5
word_of (Br mask pcoffset9) = 0x0000 + mask * 512 + bits (half 9) pcoffset9
word_of (Jmp base) = 0xC000 + base * 64
word_of (Jsr pcoffset11) = 0x4800 + bits (half 11) pcoffset11
word_of (Jsrr base) = 0x4000 + base * 64
word_of (Ld dr pcoffset9) = 0x2000 + dr * 512 + bits (half 9) pcoffset9
word_of (Ldi dr pcoffset9) = 0xA000 + dr * 512 + bits (half 9) pcoffset9
word_of (Ldr dr base offset6) = 0x6000 + dr * 512 + base * 64 + bits (half 6) offset6
word_of (Lea dr pcoffset9) = 0xE000 + dr * 512 + bits (half 9) pcoffset9
word_of (Not dr sr) = 0x903F + dr * 512 + sr * 64
word_of Rti = 0x8000
word_of (St sr pcoffset9) = 0x3000 + sr * 512 + bits (half 9) pcoffset9
word_of (Sti sr pcoffset9) = 0xB000 + sr * 512 + bits (half 9) pcoffset9
word_of (Str sr base offset6) = 0x7000 + sr * 512 + base * 64 + bits (half 6) offset6
word_of (Trap trapvect8) = 0xF000 + trapvect8
word_of (Reserved low12) = 0xD000 + low12

-- the registers that an instruction names
abbrev pub registers : Instruction → List ℕ
registers (AddRegister dr sr1 sr2) = dr ∷ sr1 ∷ sr2 ∷ []
registers (AddImmediate dr sr1 imm5) = dr ∷ sr1 ∷ []
registers (AndRegister dr sr1 sr2) = dr ∷ sr1 ∷ sr2 ∷ []
registers (AndImmediate dr sr1 imm5) = dr ∷ sr1 ∷ []
registers (Br mask pcoffset9) = []
registers (Jmp base) = base ∷ []
registers (Jsr pcoffset11) = []
registers (Jsrr base) = base ∷ []
registers (Ld dr pcoffset9) = dr ∷ []
registers (Ldi dr pcoffset9) = dr ∷ []
registers (Ldr dr base offset6) = dr ∷ base ∷ []
registers (Lea dr pcoffset9) = dr ∷ []
registers (Not dr sr) = dr ∷ sr ∷ []
registers Rti = []
registers (St sr pcoffset9) = sr ∷ []
registers (Sti sr pcoffset9) = sr ∷ []
registers (Str sr base offset6) = sr ∷ base ∷ []
registers (Trap trapvect8) = []
registers (Reserved low12) = []

-- each of them is one of 0 to 7
abbrev pub all_up_to7 : List ℕ → Bool
all_up_to7 [] = true
all_up_to7 (r ∷ rs) = nat_lt r 8 && all_up_to7 rs

-- no register of the instruction is above 7
abbrev pub registers_in_range : Instruction → Bool
registers_in_range i = all_up_to7 (registers i)

-- the signed field, trap vector or reserved field is in range: imm5 from -16 to 15, offset6 from -32 to 31, PCoffset9
-- from -256 to 255, PCoffset11 from -1024 to 1023, trap vector from 0 to 255, reserved field from 0 to 4095
abbrev pub field_in_range : Instruction → Bool
field_in_range (AddRegister dr sr1 sr2) = true
field_in_range (AddImmediate dr sr1 imm5) = within 16 imm5
field_in_range (AndRegister dr sr1 sr2) = true
field_in_range (AndImmediate dr sr1 imm5) = within 16 imm5
field_in_range (Br mask pcoffset9) = within 256 pcoffset9
field_in_range (Jmp base) = true
field_in_range (Jsr pcoffset11) = within 1024 pcoffset11
field_in_range (Jsrr base) = true
field_in_range (Ld dr pcoffset9) = within 256 pcoffset9
field_in_range (Ldi dr pcoffset9) = within 256 pcoffset9
field_in_range (Ldr dr base offset6) = within 32 offset6
field_in_range (Lea dr pcoffset9) = within 256 pcoffset9
field_in_range (Not dr sr) = true
field_in_range Rti = true
field_in_range (St sr pcoffset9) = within 256 pcoffset9
field_in_range (Sti sr pcoffset9) = within 256 pcoffset9
field_in_range (Str sr base offset6) = within 32 offset6
field_in_range (Trap trapvect8) = nat_lt trapvect8 256
field_in_range (Reserved low12) = nat_lt low12 4096

-- the BR mask is not above 7; no other instruction has a mask
abbrev pub mask_in_range : Instruction → Bool
mask_in_range (AddRegister dr sr1 sr2) = true
mask_in_range (AddImmediate dr sr1 imm5) = true
mask_in_range (AndRegister dr sr1 sr2) = true
mask_in_range (AndImmediate dr sr1 imm5) = true
mask_in_range (Br mask pcoffset9) = nat_lt mask 8
mask_in_range (Jmp base) = true
mask_in_range (Jsr pcoffset11) = true
mask_in_range (Jsrr base) = true
mask_in_range (Ld dr pcoffset9) = true
mask_in_range (Ldi dr pcoffset9) = true
mask_in_range (Ldr dr base offset6) = true
mask_in_range (Lea dr pcoffset9) = true
mask_in_range (Not dr sr) = true
mask_in_range Rti = true
mask_in_range (St sr pcoffset9) = true
mask_in_range (Sti sr pcoffset9) = true
mask_in_range (Str sr base offset6) = true
mask_in_range (Trap trapvect8) = true
mask_in_range (Reserved low12) = true

-- the word where nothing refuses it, else the refusal: of a register, else of the field, else of the mask
abbrev pub answer : Bool → Bool → Bool → ℕ → Result ℕ WriteRefusal
answer registersRight fieldRight maskRight w =
    cond registersRight (cond fieldRight (cond maskRight (Ok w) (Err BranchMask)) (Err Field)) (Err Register)

-- what `write` answers
unfoldable pub write_of : Instruction → Result ℕ WriteRefusal
write_of i = answer (registers_in_range i) (field_in_range i) (mask_in_range i) (word_of i)

-- 1 where a register is above 7, 2 where the field is out of range, 3 where the mask is above 7
abbrev pub refusal_number : WriteRefusal → ℕ
refusal_number Register = 1
refusal_number Field = 2
refusal_number BranchMask = 3
