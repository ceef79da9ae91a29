-- The line of a word with right fixed bits, straight from the word: for each opcode, by the shape of its operands. Only
-- contracts of private functions cite this file; proofs/ShapeLaws has that these are the lines of `line_of`.
use Rattle.std.specs.Prelude.{ℕ, ◌%◌, cond, List, [], ◌∷◌, eqb, get_or}
use Rattle.word.specs.Field.{field}
use Rattle.word.specs.Reading.{bits11to9, bits8to6, bits2to0, opcode, bit5, bit11}
use Rattle.text.specs.Characters.{A, D, E, I, J, L, M, N, O, P, R, S, T}
use Rattle.text.specs.Operands.{register, signed_number}
use Rattle.mnemonics.specs.Statement.{statement, fill_line, trap_line, branch_line}

-- LD, LDI, LEA, ST and STI
abbrev pub relative_line : List ℕ → ℕ → List ℕ
relative_line mnemonic w = statement mnemonic (register (bits11to9 w) ∷ signed_number (field 9 w) ∷ [])

-- LDR and STR
abbrev pub based_line : List ℕ → ℕ → List ℕ
based_line mnemonic w =
    statement mnemonic (register (bits11to9 w) ∷ register (bits8to6 w) ∷ signed_number (field 6 w) ∷ [])

-- ADD and AND
abbrev pub operate_line : List ℕ → ℕ → List ℕ
operate_line mnemonic w =
    cond (eqb (bit5 w) 0)
    (statement mnemonic (register (bits11to9 w) ∷ register (bits8to6 w) ∷ register (bits2to0 w) ∷ []))
    (statement mnemonic (register (bits11to9 w) ∷ register (bits8to6 w) ∷ signed_number (field 5 w) ∷ []))

-- a BR that tests nothing is data
abbrev pub br_line : ℕ → List ℕ
br_line w = cond (eqb (bits11to9 w) 0) (fill_line w) (branch_line (bits11to9 w) (field 9 w))

-- JSRR and JSR
abbrev pub call_line : ℕ → List ℕ
call_line w =
    cond (eqb (bit11 w) 0)
    (statement (J ∷ S ∷ R ∷ R ∷ []) (register (bits8to6 w) ∷ []))
    (statement (J ∷ S ∷ R ∷ []) (signed_number (field 11 w) ∷ []))

-- RET is JMP R7
abbrev pub jump_line : ℕ → List ℕ
jump_line w =
    cond (eqb (bits8to6 w) 7) (statement (R ∷ E ∷ T ∷ []) []) (statement (J ∷ M ∷ P ∷ []) (register (bits8to6 w) ∷ []))

abbrev pub not_line : ℕ → List ℕ
not_line w = statement (N ∷ O ∷ T ∷ []) (register (bits11to9 w) ∷ register (bits8to6 w) ∷ [])

-- for each opcode from 0 to 15
abbrev pub proper_lines : ℕ → List (List ℕ)
proper_lines w =
    br_line w
    ∷ operate_line (A ∷ D ∷ D ∷ []) w
    ∷ relative_line (L ∷ D ∷ []) w
    ∷ relative_line (S ∷ T ∷ []) w
    ∷ call_line w
    ∷ operate_line (A ∷ N ∷ D ∷ []) w
    ∷ based_line (L ∷ D ∷ R ∷ []) w
    ∷ based_line (S ∷ T ∷ R ∷ []) w
    ∷ statement (R ∷ T ∷ I ∷ []) []
    ∷ not_line w
    ∷ relative_line (L ∷ D ∷ I ∷ []) w
    ∷ relative_line (S ∷ T ∷ I ∷ []) w
    ∷ jump_line w
    ∷ fill_line w
    ∷ relative_line (L ∷ E ∷ A ∷ []) w
    ∷ trap_line (w % 256)
    ∷ []

unfoldable pub proper_line : ℕ → List ℕ
proper_line w = get_or (proper_lines w) (opcode w) []
