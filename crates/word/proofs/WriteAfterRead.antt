-- Write after read gives the word with its fixed bits as in Figure A.2: what is read is in range, so it is written, and
-- for each opcode its word is that one, by linear arithmetic.
use Rattle.std.proofs.Common.{◌≡◌, ℕ, ◌+◌, ◌-◌, ◌*◌, ◌/◌, ◌%◌, ◌<◌, Bool, true, false, cond, eqb, get_or, ℤ, sym, refl}
use Rattle.std.proofs.Common.{ap, ◌∙◌, arith, eqb-true}
use borrow.Author.Tests.{eqb-false}
use Rattle.std.specs.Prelude.{Result, Ok}
use Rattle.std.specs.Result.{result_unwrap_or}
use Rattle.word.specs.Field.{field, bits}
use Rattle.word.specs.Reading.{bits11to9, bits8to6, bits2to0, opcode, read_jsr, read_of}
use Rattle.word.specs.Writing.{word_of}
use Rattle.word.specs.Range.{InRange}
use Rattle.word.specs.FixedBits.{fixed_operand, fixed_jsr, fixed_forms, fixed_of}
use Rattle.word.specs.Theorems.{WriteAfterRead, WriteAfterReadExactly, ReadingIgnoresFixedBits}
use Rattle.word.specs.Theorems.{WritingSetsFixedBits}
use Rattle.word.specs.declared.Instruction.{Instruction}
use Rattle.word.specs.declared.Instruction.TheVariants.{Br, AddRegister, AddImmediate, Ld, St, Jsr, Jsrr}
use Rattle.word.specs.declared.Instruction.TheVariants.{AndRegister, AndImmediate, Ldr, Str, Rti, Not, Ldi, Sti}
use Rattle.word.specs.declared.Instruction.TheVariants.{Jmp, Reserved, Lea, Trap}
use Rattle.word.specs.declared.WriteRefusal.{WriteRefusal}
use Rattle.word.proofs.SignedFields.{signed_fields_of_the_figure as fields}
use Rattle.word.proofs.Opcodes.{form, Below, ◌&◌, each}
use Rattle.word.proofs.Ranges.{read_in_range, written_in_range}
use Rattle.word.proofs.ReadAfterWrite.{read_word}

-- ---- each form, put together again from its parts
with_pcoffset9 : (w k : ℕ) → opcode w ≡ k → k * 4096 + bits11to9 w * 512 + bits 256 (field 9 w) ≡ w
with_pcoffset9 w k e = rw (fields.pcoffset9.pattern_back (w % 512) (omega arith)) (omega arith)

-- bits 15 to 6
pub top : (w k : ℕ) → opcode w ≡ k → k * 4096 + bits11to9 w * 512 + bits8to6 w * 64 ≡ w / 64 * 64
top w k e = omega arith

with_offset6 : (w k : ℕ) → opcode w ≡ k → k * 4096 + bits11to9 w * 512 + bits8to6 w * 64 + bits 32 (field 6 w) ≡ w
with_offset6 w k e = rw (fields.offset6.pattern_back (w % 64) (omega arith), top w k e) (omega arith)

with_register_lem : (w k : ℕ) → opcode w ≡ k → w / 32 % 2 ≡ 0
    → k * 4096 + bits11to9 w * 512 + bits8to6 w * 64 + bits2to0 w ≡ w - w / 8 % 4 * 8
with_register_lem w k e z = rw (top w k e) (low w z)
  where
    low : (w : ℕ) → w / 32 % 2 ≡ 0 → w / 64 * 64 + w % 8 ≡ w - w / 8 % 4 * 8
    low w z = omega arith

with_imm5 : (w k : ℕ) → opcode w ≡ k → w / 32 % 2 ≡ 1
    → k * 4096 + 32 + bits11to9 w * 512 + bits8to6 w * 64 + bits 16 (field 5 w) ≡ w
with_imm5 w k e z =
    rw (fields.imm5.pattern_back (w % 32) (omega arith)) (sum _ _ _ _ _ (top w k e) (low w z))
  where
    low : (w : ℕ) → w / 32 % 2 ≡ 1 → w / 64 * 64 + 32 + w % 32 ≡ w
    low w z = omega arith

    sum : (a b c d v : ℕ) {w : ℕ} → a + b + c ≡ d → d + 32 + v ≡ w → a + 32 + b + c + v ≡ w
    sum a b c d v p q = omega arith

one : (m : ℕ) → (m % 2 ≡ 0 → ⊥) → m % 2 ≡ 1
one m p = omega arith

-- ADD and AND: R is the instruction with SR2, I the one with imm5
with_operand : (w k : ℕ) (R : ℕ → ℕ → ℕ → Instruction) (I : ℕ → ℕ → ℤ → Instruction)
    → ((d s t : ℕ) → word_of (R d s t) ≡ k * 4096 + d * 512 + s * 64 + t)
    → ((d s : ℕ) (n : ℤ) → word_of (I d s n) ≡ k * 4096 + 32 + d * 512 + s * 64 + bits 16 n)
    → opcode w ≡ k
    → word_of (cond (eqb (w / 32 % 2) 0) (R (bits11to9 w) (bits8to6 w) (bits2to0 w))
    (I (bits11to9 w) (bits8to6 w) (field 5 w))) ≡ fixed_operand w
with_operand w k R I fr fi e = go (eqb (w / 32 % 2) 0) refl
  where
    go : (t : Bool) → eqb (w / 32 % 2) 0 ≡ t
        → word_of (cond t (R (bits11to9 w) (bits8to6 w) (bits2to0 w)) (I (bits11to9 w) (bits8to6 w) (field 5 w)))
        ≡ cond t (w - w / 8 % 4 * 8) w
    go true z = fr _ _ _ ∙ with_register_lem w k e (eqb-true (w / 32 % 2) 0 z)
    go false z = fi _ _ _ ∙ with_imm5 w k e (one (w / 32) (eqb-false (w / 32 % 2) 0 z))

jsr : (w : ℕ) → opcode w ≡ 4 → word_of (read_jsr w) ≡ fixed_jsr w
jsr w e = go (eqb (w / 2048 % 2) 0) refl
  where
    go : (t : Bool) → eqb (w / 2048 % 2) 0 ≡ t
        → word_of (cond t (Jsrr (bits8to6 w)) (Jsr (field 11 w))) ≡ cond t (0x4000 + w / 64 % 8 * 64) w
    go true z = refl
    go false z =
        let b : w / 2048 % 2 ≡ 1 = one (w / 2048) (eqb-false (w / 2048 % 2) 0 z) in
        rw (fields.pcoffset11.pattern_back (w % 2048) (omega arith)) (omega arith)

not : (w : ℕ) → opcode w ≡ 9 → 0x903F + bits11to9 w * 512 + bits8to6 w * 64 ≡ w - w % 64 + 63
not w e = omega (arith, top w 9 e)

-- ---- the theorems
abbrev Back : ℕ → ℕ → Type 0
Back w k = opcode w ≡ k → word_of (form w k) ≡ get_or (fixed_forms w) k 0

pub word_of_read : (w : ℕ) → w < 65536 → word_of (read_of w) ≡ fixed_of w
unfolding read_of fixed_of Below
word_of_read w h = each (Back w) 16 cases (opcode w) (omega arith) refl
  where
    cases : Below (Back w) 16
    cases =
        with_pcoffset9 w 0
        & with_operand w 1 AddRegister AddImmediate (λ d s t. refl) (λ d s n. refl)
        & with_pcoffset9 w 2
        & with_pcoffset9 w 3
        & jsr w
        & with_operand w 5 AndRegister AndImmediate (λ d s t. refl) (λ d s n. refl)
        & with_offset6 w 6
        & with_offset6 w 7
        & (λ e. refl)
        & not w
        & with_pcoffset9 w 10
        & with_pcoffset9 w 11
        & (λ e. refl)
        & (λ e. omega arith)
        & with_pcoffset9 w 14
        & (λ e. refl)
        & tt

pub write_after_read : WriteAfterRead
write_after_read w h = written_in_range (read_of w) (read_in_range w h) ∙ ap Ok (word_of_read w h)

pub write_after_read_exactly : WriteAfterReadExactly
write_after_read_exactly w h =
    (λ e. ap word_or_0 (sym (write_after_read w h) ∙ e), λ e. write_after_read w h ∙ ap Ok e)
  where
    word_or_0 : Result ℕ WriteRefusal → ℕ
    word_or_0 r = result_unwrap_or r 0

-- ---- fixed bits
read_fixed : (w : ℕ) → w < 65536 → read_of (fixed_of w) ≡ read_of w
read_fixed w h =
    ap read_of (sym (word_of_read w h)) ∙ read_word (read_of w) (read_in_range w h)

pub reading_ignores_fixed_bits : ReadingIgnoresFixedBits
reading_ignores_fixed_bits v w p q e = sym (read_fixed v p) ∙ (ap read_of e ∙ read_fixed w q)

word_fits : (i : Instruction) → InRange i → word_of i < 65536
word_fits (AddRegister dr sr1 sr2) r = omega arith
word_fits (AddImmediate dr sr1 imm5) r = omega (arith, fields.imm5.fits imm5 r.2)
word_fits (AndRegister dr sr1 sr2) r = omega arith
word_fits (AndImmediate dr sr1 imm5) r = omega (arith, fields.imm5.fits imm5 r.2)
word_fits (Br mask pcoffset9) r = omega (arith, fields.pcoffset9.fits pcoffset9 r.1)
word_fits (Jmp base) r = omega arith
word_fits (Jsr pcoffset11) r = omega (arith, fields.pcoffset11.fits pcoffset11 r)
word_fits (Jsrr base) r = omega arith
word_fits (Ld dr pcoffset9) r = omega (arith, fields.pcoffset9.fits pcoffset9 r.1)
word_fits (Ldi dr pcoffset9) r = omega (arith, fields.pcoffset9.fits pcoffset9 r.1)
word_fits (Ldr dr base offset6) r = omega (arith, fields.offset6.fits offset6 r.2)
word_fits (Lea dr pcoffset9) r = omega (arith, fields.pcoffset9.fits pcoffset9 r.1)
word_fits (Not dr sr) r = omega arith
word_fits Rti r = omega arith
word_fits (St sr pcoffset9) r = omega (arith, fields.pcoffset9.fits pcoffset9 r.1)
word_fits (Sti sr pcoffset9) r = omega (arith, fields.pcoffset9.fits pcoffset9 r.1)
word_fits (Str sr base offset6) r = omega (arith, fields.offset6.fits offset6 r.2)
word_fits (Trap trapvect8) r = omega arith
word_fits (Reserved low12) r = omega arith

pub writing_sets_fixed_bits : WritingSetsFixedBits
writing_sets_fixed_bits i r =
    rw (written_in_range i r) (sym (word_of_read (word_of i) (word_fits i r)) ∙ ap word_of (read_word i r))
