-- Distinct words give distinct lines: an assembler of lines gives every word back from its line. It knows an
-- instruction by its mnemonic and reads its operands from their places.
use Prim.Native.Nat.{ℕ, ◌+◌, ◌*◌, ◌/◌, ◌%◌, ◌<◌}
use native.Mathlib.Omega.{arith}
use mathlib.Core.Path.{◌≡◌, refl, sym, ap, ◌∙◌}
use mathlib.Core.Bool.{Bool, true, false, cond}
use mathlib.Core.List.{List, [], ◌∷◌, ◌++◌}
use lib.Dec.{eqb, ltb}
use lib.IntN.{ℤ}
use lib.ListN.{get_or, drop}
use borrow.Author.Tests.{eqb-true, eqb-false}
use Rattle.word.specs.Reading.{read_of}
use Rattle.word.specs.Writing.{word_of}
use Rattle.word.specs.Range.{InRange}
use Rattle.word.specs.FixedBits.{fixed_of}
use Rattle.word.specs.declared.Instruction.{Instruction}
use Rattle.word.specs.declared.Instruction.TheVariants.{Br, AddRegister, AddImmediate, Ld, St, Jsr, Jsrr, AndRegister}
use Rattle.word.specs.declared.Instruction.TheVariants.{AndImmediate, Ldr, Str, Rti, Not, Ldi, Sti, Jmp, Reserved, Lea}
use Rattle.word.specs.declared.Instruction.TheVariants.{Trap}
use Rattle.word.proofs.Opcodes.{Below, ◌&◌, each}
use Rattle.word.proofs.Ranges.{read_in_range}
use Rattle.word.proofs.WriteAfterRead.{word_of_read}
use Rattle.text.specs.Characters.{space, dot, A, B, D, E, I, J, L, M, N, O, P, R, S, T, lower_n, lower_z, lower_p}
use Rattle.text.specs.Operands.{register, digits, decimal, hex_byte}
use Rattle.mnemonics.specs.Statement.{statement, fill_line, trap_line, branch_line}
use Rattle.line.specs.Line.{instruction_line, line_of}
use Rattle.line.specs.Theorems.{DistinctWordsGiveDistinctLines, ExampleLine}
use Rattle.line.proofs.ReadingBack.{digit_of, digit_back, signed_from, signed_back, hex_of, hex_back}

-- ---- the assembler
-- the mnemonic, up to a space or a line feed, as one number; and the text after it
abbrev mnemonic_of : ℕ → List ℕ → ℕ
mnemonic_of n [] = n
mnemonic_of n (c ∷ text) = cond (ltb space c) (mnemonic_of (n * 256 + c) text) n

abbrev operands_of : List ℕ → List ℕ
operands_of [] = []
operands_of (c ∷ text) = cond (ltb space c) (operands_of text) text

-- the register in the k-th place, and a number after k registers
abbrev register_at : ℕ → List ℕ → ℕ
register_at k text = digit_of (get_or text (k * 4 + 1) 0)

abbrev number_at : ℕ → List ℕ → ℤ
number_at k text = signed_from (drop (k * 4 + 1) text)

abbrev hex_at : ℕ → List ℕ → ℕ
hex_at k text = hex_of (get_or text k 0) * 16 + hex_of (get_or text (k + 1) 0)

-- a third operand that is a register
abbrev third_register : List ℕ → Bool
third_register text = eqb (get_or text 8 0) R

abbrev Row : Type 0
Row = ℕ × Instruction

abbrev row : List ℕ → Instruction → Row
row name i = (mnemonic_of 0 name, i)

-- each mnemonic, with the instruction that it makes of its operands
abbrev rows : List ℕ → List Row
rows t =
    row (A ∷ D ∷ D ∷ [])
    (cond (third_register t) (AddRegister (register_at 0 t) (register_at 1 t) (register_at 2 t))
    (AddImmediate (register_at 0 t) (register_at 1 t) (number_at 2 t)))
    ∷ row (A ∷ N ∷ D ∷ [])
    (cond (third_register t) (AndRegister (register_at 0 t) (register_at 1 t) (register_at 2 t))
    (AndImmediate (register_at 0 t) (register_at 1 t) (number_at 2 t)))
    ∷ row (B ∷ R ∷ lower_p ∷ []) (Br 1 (number_at 0 t))
    ∷ row (B ∷ R ∷ lower_z ∷ []) (Br 2 (number_at 0 t))
    ∷ row (B ∷ R ∷ lower_z ∷ lower_p ∷ []) (Br 3 (number_at 0 t))
    ∷ row (B ∷ R ∷ lower_n ∷ []) (Br 4 (number_at 0 t))
    ∷ row (B ∷ R ∷ lower_n ∷ lower_p ∷ []) (Br 5 (number_at 0 t))
    ∷ row (B ∷ R ∷ lower_n ∷ lower_z ∷ []) (Br 6 (number_at 0 t))
    ∷ row (B ∷ R ∷ lower_n ∷ lower_z ∷ lower_p ∷ []) (Br 7 (number_at 0 t))
    ∷ row (J ∷ M ∷ P ∷ []) (Jmp (register_at 0 t))
    ∷ row (R ∷ E ∷ T ∷ []) (Jmp 7)
    ∷ row (J ∷ S ∷ R ∷ []) (Jsr (number_at 0 t))
    ∷ row (J ∷ S ∷ R ∷ R ∷ []) (Jsrr (register_at 0 t))
    ∷ row (L ∷ D ∷ []) (Ld (register_at 0 t) (number_at 1 t))
    ∷ row (L ∷ D ∷ I ∷ []) (Ldi (register_at 0 t) (number_at 1 t))
    ∷ row (L ∷ D ∷ R ∷ []) (Ldr (register_at 0 t) (register_at 1 t) (number_at 2 t))
    ∷ row (L ∷ E ∷ A ∷ []) (Lea (register_at 0 t) (number_at 1 t))
    ∷ row (N ∷ O ∷ T ∷ []) (Not (register_at 0 t) (register_at 1 t))
    ∷ row (R ∷ T ∷ I ∷ []) Rti
    ∷ row (S ∷ T ∷ []) (St (register_at 0 t) (number_at 1 t))
    ∷ row (S ∷ T ∷ I ∷ []) (Sti (register_at 0 t) (number_at 1 t))
    ∷ row (S ∷ T ∷ R ∷ []) (Str (register_at 0 t) (register_at 1 t) (number_at 2 t))
    ∷ row (T ∷ R ∷ A ∷ P ∷ []) (Trap (hex_at 1 t))
    ∷ []

abbrev found : ℕ → List Row → Instruction
found k [] = Rti
found k (r ∷ rs) = cond (eqb k r.0) r.1 (found k rs)

abbrev assembled : List ℕ → ℕ
assembled line =
    cond (eqb (get_or line 0 0) dot)
    (hex_at 7 line * 256 + hex_at 9 line)
    (word_of (found (mnemonic_of 0 line) (rows (operands_of line))))

-- ---- each line gives its word back
hex_byte_lem : (n : ℕ) (text : List ℕ) → n < 256 → hex_at 0 (hex_byte n ++ text) ≡ n
hex_byte_lem n text p = rw (hex_back (n / 16) (omega arith), hex_back (n % 16) (omega arith)) (omega arith)

fill_back : (w : ℕ) → w < 65536 → assembled (fill_line w) ≡ w
fill_back w p =
    rw (hex_byte_lem (w / 256) [] (omega arith), hex_byte_lem (w % 256) [] (omega arith)) (omega arith)

trap_back : (v : ℕ) → v < 256 → assembled (trap_line v) ≡ word_of (Trap v)
trap_back v p = ap (λ (k : ℕ). word_of (Trap k)) (hex_byte_lem v [] p)

abbrev BranchBack : ℤ → ℕ → Type 0
BranchBack n mask = (mask ≡ 0 → ⊥) → assembled (branch_line mask n) ≡ word_of (Br mask n)

branch_back : (n : ℤ) (mask : ℕ) → mask < 8 → BranchBack n mask
unfolding Below
branch_back n mask p = each (BranchBack n) 8 cases mask p
  where
    cases : Below (BranchBack n) 8
    cases =
        (λ q. absurd (q refl))
        & (λ q. rw (signed_back n))
        & (λ q. rw (signed_back n))
        & (λ q. rw (signed_back n))
        & (λ q. rw (signed_back n))
        & (λ q. rw (signed_back n))
        & (λ q. rw (signed_back n))
        & (λ q. rw (signed_back n))
        & tt

br_back : (w mask : ℕ) (n : ℤ) → w < 65536 → mask < 8 → word_of (Br mask n) ≡ w
    → assembled (instruction_line w (Br mask n)) ≡ w
br_back w mask n p q e = go (eqb mask 0) refl
  where
    go : (t : Bool) → eqb mask 0 ≡ t → assembled (cond t (fill_line w) (branch_line mask n)) ≡ w
    go true z = fill_back w p
    go false z = branch_back n mask q (eqb-false mask 0 z) ∙ e

jmp_back : (base : ℕ) → assembled (instruction_line 0 (Jmp base)) ≡ word_of (Jmp base)
jmp_back base = go (eqb base 7) refl
  where
    go : (t : Bool) → eqb base 7 ≡ t
        → assembled (cond t (statement (R ∷ E ∷ T ∷ []) []) (statement (J ∷ M ∷ P ∷ []) (register base ∷ [])))
        ≡ word_of (Jmp base)
    go true z = ap (λ (b : ℕ). word_of (Jmp b)) (sym (eqb-true base 7 z))
    go false z = simp digit_back

instruction_back : (w : ℕ) (i : Instruction) → w < 65536 → InRange i → word_of i ≡ w → assembled (instruction_line w i)
    ≡ w
instruction_back w (AddRegister dr sr1 sr2) p r e = simp digit_back e
instruction_back w (AddImmediate dr sr1 imm5) p r e = simp (digit_back, signed_back imm5) e
instruction_back w (AndRegister dr sr1 sr2) p r e = simp digit_back e
instruction_back w (AndImmediate dr sr1 imm5) p r e = simp (digit_back, signed_back imm5) e
instruction_back w (Br mask pcoffset9) p r e = br_back w mask pcoffset9 p r.0 e
instruction_back w (Jmp base) p r e = jmp_back base ∙ e
instruction_back w (Jsr pcoffset11) p r e = simp (signed_back pcoffset11) e
instruction_back w (Jsrr base) p r e = simp digit_back e
instruction_back w (Ld dr pcoffset9) p r e = simp (digit_back, signed_back pcoffset9) e
instruction_back w (Ldi dr pcoffset9) p r e = simp (digit_back, signed_back pcoffset9) e
instruction_back w (Ldr dr base offset6) p r e = simp (digit_back, signed_back offset6) e
instruction_back w (Lea dr pcoffset9) p r e = simp (digit_back, signed_back pcoffset9) e
instruction_back w (Not dr sr) p r e = simp digit_back e
instruction_back w Rti p r e = e
instruction_back w (St sr pcoffset9) p r e = simp (digit_back, signed_back pcoffset9) e
instruction_back w (Sti sr pcoffset9) p r e = simp (digit_back, signed_back pcoffset9) e
instruction_back w (Str sr base offset6) p r e = simp (digit_back, signed_back offset6) e
instruction_back w (Trap trapvect8) p r e = trap_back trapvect8 r ∙ e
instruction_back w (Reserved low12) p r e = fill_back w p

pub line_back : (w : ℕ) → w < 65536 → assembled (line_of w) ≡ w
unfolding line_of
line_back w p = go (eqb (fixed_of w) w) refl
  where
    go : (t : Bool) → eqb (fixed_of w) w ≡ t → assembled (cond t (instruction_line w (read_of w)) (fill_line w)) ≡ w
    go true e = instruction_back w (read_of w) p (read_in_range w p) (word_of_read w p ∙ eqb-true (fixed_of w) w e)
    go false e = fill_back w p

-- ---- the theorems
pub distinct_words_give_distinct_lines : DistinctWordsGiveDistinctLines
distinct_words_give_distinct_lines v w p q e = sym (line_back v p) ∙ (ap assembled e ∙ line_back w q)

pub example_line : ExampleLine
unfolding line_of read_of fixed_of decimal digits
example_line = refl
