-- The flat form of an instruction: a number for its kind, its operands in the order in which the book's assembler
-- writes them, and its value; 0 where it has none. The kinds are numbered from 0 in the order of the opcodes.
use Rattle.std.specs.Prelude.{ℕ, ℤ, pos}
use Rattle.word.specs.declared.Instruction.{Instruction}
use Rattle.word.specs.declared.Instruction.TheVariants.{Br, AddRegister, AddImmediate, Ld, St, Jsr, Jsrr, AndRegister}
use Rattle.word.specs.declared.Instruction.TheVariants.{AndImmediate, Ldr, Str, Rti, Not, Ldi, Sti, Jmp, Reserved, Lea}
use Rattle.word.specs.declared.Instruction.TheVariants.{Trap}
use Rattle.word.specs.declared.Read.{Read}
use Rattle.lc3_words.specs.declared.Lc3Instruction.{Lc3Instruction}
use Rattle.lc3_words.specs.declared.Lc3Reading.{Lc3Reading}

abbrev pub flat : ℕ → ℕ → ℕ → ℕ → ℤ → Lc3Instruction
flat kind a b c value = record { kind = kind; a = a; b = b; c = c; value = value }

-- kind, a, b, c and value of each instruction
unfoldable pub flat_of : Instruction → Lc3Instruction
flat_of (Br mask pcoffset9) = flat 0 mask 0 0 pcoffset9
flat_of (AddRegister dr sr1 sr2) = flat 1 dr sr1 sr2 (pos 0)
flat_of (AddImmediate dr sr1 imm5) = flat 2 dr sr1 0 imm5
flat_of (Ld dr pcoffset9) = flat 3 dr 0 0 pcoffset9
flat_of (St sr pcoffset9) = flat 4 sr 0 0 pcoffset9
flat_of (Jsr pcoffset11) = flat 5 0 0 0 pcoffset11
flat_of (Jsrr base) = flat 6 base 0 0 (pos 0)
flat_of (AndRegister dr sr1 sr2) = flat 7 dr sr1 sr2 (pos 0)
flat_of (AndImmediate dr sr1 imm5) = flat 8 dr sr1 0 imm5
flat_of (Ldr dr base offset6) = flat 9 dr base 0 offset6
flat_of (Str sr base offset6) = flat 10 sr base 0 offset6
flat_of Rti = flat 11 0 0 0 (pos 0)
flat_of (Not dr sr) = flat 12 dr sr 0 (pos 0)
flat_of (Ldi dr pcoffset9) = flat 13 dr 0 0 pcoffset9
flat_of (Sti sr pcoffset9) = flat 14 sr 0 0 pcoffset9
flat_of (Jmp base) = flat 15 base 0 0 (pos 0)
flat_of (Reserved low12) = flat 16 0 0 0 (pos low12)
flat_of (Lea dr pcoffset9) = flat 17 dr 0 0 pcoffset9
flat_of (Trap trapvect8) = flat 18 0 0 0 (pos trapvect8)

-- what reading with the mask answers
abbrev pub flat_read_of : Read → Lc3Reading
flat_read_of r = record { instruction = flat_of r.instruction; mask = r.mask }
