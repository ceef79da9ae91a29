-- The instructions with every part in range: registers and the BR mask up to 7, and each field in the range of document
-- 01.
use Rattle.std.specs.Prelude.{◌≡◌, ℕ, ◌<◌, true, ℤ}
use Rattle.word.specs.Field.{within}
use Rattle.word.specs.declared.Instruction.{Instruction}
use Rattle.word.specs.declared.Instruction.TheVariants.{Br, AddRegister, AddImmediate, Ld, St, Jsr, Jsrr}
use Rattle.word.specs.declared.Instruction.TheVariants.{AndRegister, AndImmediate, Ldr, Str, Rti, Not, Ldi, Sti}
use Rattle.word.specs.declared.Instruction.TheVariants.{Jmp, Reserved, Lea, Trap}

-- n is one of -h to h - 1: Within 16 is -16 to 15, Within 32 is -32 to 31, Within 256 is -256 to 255, Within 1024 is
-- -1024 to 1023
abbrev pub Within : ℕ → ℤ → Type 0
Within h n = within h n ≡ true

-- every part of the instruction is in range
abbrev pub InRange : Instruction → Type 0
InRange (AddRegister dr sr1 sr2) = (dr < 8) × (sr1 < 8) × (sr2 < 8)
InRange (AddImmediate dr sr1 imm5) = (dr < 8) × (sr1 < 8) × Within 16 imm5
InRange (AndRegister dr sr1 sr2) = (dr < 8) × (sr1 < 8) × (sr2 < 8)
InRange (AndImmediate dr sr1 imm5) = (dr < 8) × (sr1 < 8) × Within 16 imm5
InRange (Br mask pcoffset9) = (mask < 8) × Within 256 pcoffset9
InRange (Jmp base) = base < 8
InRange (Jsr pcoffset11) = Within 1024 pcoffset11
InRange (Jsrr base) = base < 8
InRange (Ld dr pcoffset9) = (dr < 8) × Within 256 pcoffset9
InRange (Ldi dr pcoffset9) = (dr < 8) × Within 256 pcoffset9
InRange (Ldr dr base offset6) = (dr < 8) × (base < 8) × Within 32 offset6
InRange (Lea dr pcoffset9) = (dr < 8) × Within 256 pcoffset9
InRange (Not dr sr) = (dr < 8) × (sr < 8)
InRange Rti = Unit {0}
InRange (St sr pcoffset9) = (sr < 8) × Within 256 pcoffset9
InRange (Sti sr pcoffset9) = (sr < 8) × Within 256 pcoffset9
InRange (Str sr base offset6) = (sr < 8) × (base < 8) × Within 32 offset6
InRange (Trap trapvect8) = trapvect8 < 256
InRange (Reserved low12) = low12 < 4096
