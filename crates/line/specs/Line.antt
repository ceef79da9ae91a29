-- The line of text of a memory word (M16).
use Rattle.std.specs.Prelude.{ℕ, cond, List, [], ◌∷◌, eqb}
use Rattle.word.specs.Reading.{read_of}
use Rattle.word.specs.FixedBits.{fixed_of}
use Rattle.word.specs.declared.Instruction.{Instruction}
use Rattle.word.specs.declared.Instruction.TheVariants.{Br, AddRegister, AddImmediate, Ld, St, Jsr, Jsrr, AndRegister}
use Rattle.word.specs.declared.Instruction.TheVariants.{AndImmediate, Ldr, Str, Rti, Not, Ldi, Sti, Jmp, Reserved, Lea}
use Rattle.word.specs.declared.Instruction.TheVariants.{Trap}
use Rattle.text.specs.Characters.{A, D, E, I, J, L, M, N, O, P, R, S, T}
use Rattle.text.specs.Operands.{register, signed_number}
use Rattle.mnemonics.specs.Statement.{statement, fill_line, trap_line, branch_line}

-- the line of the instruction that the word w reads as. RET is JMP R7. A BR that tests nothing and a reserved word are
-- data
abbrev pub instruction_line : ℕ → Instruction → List ℕ
instruction_line w (Br mask pcoffset9) = cond (eqb mask 0) (fill_line w) (branch_line mask pcoffset9)
instruction_line w (AddRegister dr sr1 sr2) = statement (A ∷ D ∷ D ∷ [])
    (register dr ∷ register sr1 ∷ register sr2 ∷ [])
instruction_line w (AddImmediate dr sr1 imm5) =
    statement (A ∷ D ∷ D ∷ []) (register dr ∷ register sr1 ∷ signed_number imm5 ∷ [])
instruction_line w (Ld dr pcoffset9) = statement (L ∷ D ∷ []) (register dr ∷ signed_number pcoffset9 ∷ [])
instruction_line w (St sr pcoffset9) = statement (S ∷ T ∷ []) (register sr ∷ signed_number pcoffset9 ∷ [])
instruction_line w (Jsr pcoffset11) = statement (J ∷ S ∷ R ∷ []) (signed_number pcoffset11 ∷ [])
instruction_line w (Jsrr base) = statement (J ∷ S ∷ R ∷ R ∷ []) (register base ∷ [])
instruction_line w (AndRegister dr sr1 sr2) = statement (A ∷ N ∷ D ∷ [])
    (register dr ∷ register sr1 ∷ register sr2 ∷ [])
instruction_line w (AndImmediate dr sr1 imm5) =
    statement (A ∷ N ∷ D ∷ []) (register dr ∷ register sr1 ∷ signed_number imm5 ∷ [])
instruction_line w (Ldr dr base offset6) =
    statement (L ∷ D ∷ R ∷ []) (register dr ∷ register base ∷ signed_number offset6 ∷ [])
instruction_line w (Str sr base offset6) =
    statement (S ∷ T ∷ R ∷ []) (register sr ∷ register base ∷ signed_number offset6 ∷ [])
instruction_line w Rti = statement (R ∷ T ∷ I ∷ []) []
instruction_line w (Not dr sr) = statement (N ∷ O ∷ T ∷ []) (register dr ∷ register sr ∷ [])
instruction_line w (Ldi dr pcoffset9) = statement (L ∷ D ∷ I ∷ []) (register dr ∷ signed_number pcoffset9 ∷ [])
instruction_line w (Sti sr pcoffset9) = statement (S ∷ T ∷ I ∷ []) (register sr ∷ signed_number pcoffset9 ∷ [])
instruction_line w (Jmp base) =
    cond (eqb base 7) (statement (R ∷ E ∷ T ∷ []) []) (statement (J ∷ M ∷ P ∷ []) (register base ∷ []))
instruction_line w (Reserved low12) = fill_line w
instruction_line w (Lea dr pcoffset9) = statement (L ∷ E ∷ A ∷ []) (register dr ∷ signed_number pcoffset9 ∷ [])
instruction_line w (Trap trapvect8) = trap_line trapvect8

-- a word with wrong fixed bits is data
unfoldable pub line_of : ℕ → List ℕ
line_of w = cond (eqb (fixed_of w) w) (instruction_line w (read_of w)) (fill_line w)
