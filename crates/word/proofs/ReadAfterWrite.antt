-- Read after write gives the instruction back: the parts of a word of Figure A.2 are those that it was put together
-- from, by linear arithmetic for each form.
use Rattle.std.proofs.Common.{◌≡◌, ℕ, ◌+◌, ◌*◌, ◌/◌, ◌%◌, ◌<◌, ℤ, refl, ap, ◌∙◌, arith}
use Rattle.word.specs.Field.{field, bits}
use Rattle.word.specs.Reading.{bits11to9, bits8to6, bits2to0, opcode, read_of}
use Rattle.word.specs.Writing.{word_of}
use Rattle.word.specs.Range.{Within, InRange}
use Rattle.word.specs.Theorems.{ReadAfterWrite}
use Rattle.word.specs.declared.Instruction.{Instruction}
use Rattle.word.specs.declared.Instruction.TheVariants.{Br, AddRegister, AddImmediate, Ld, St, Jsr, Jsrr}
use Rattle.word.specs.declared.Instruction.TheVariants.{AndRegister, AndImmediate, Ldr, Str, Rti, Not, Ldi, Sti}
use Rattle.word.specs.declared.Instruction.TheVariants.{Jmp, Reserved, Lea, Trap}
use Rattle.word.proofs.SignedFields.{signed_fields_of_the_figure as fields}
use Rattle.word.proofs.Opcodes.{form, read_as}
use Rattle.word.proofs.Ranges.{written_in_range}

-- ---- the parts of a word with the opcode k, registers d and s, and x in its low six bits
record Parts (w k d s x : ℕ) : Type 0 where
  code : opcode w ≡ k
  first : bits11to9 w ≡ d
  second : bits8to6 w ≡ s
  low : w % 64 ≡ x

parts : (k d s x : ℕ) → d < 8 → s < 8 → x < 64 → Parts (k * 4096 + d * 512 + s * 64 + x) k d s x
parts k d s x p q r = record { code = omega arith; first = omega arith; second = omega arith; low = omega arith }

-- ---- what a word of each form is read as; I is the instruction of the opcode k
module _ (k : ℕ) where
  with_offset6 : (d s : ℕ) (n : ℤ) (I : ℕ → ℕ → ℤ → Instruction)
      → ((w : ℕ) → form w k ≡ I (bits11to9 w) (bits8to6 w) (field 6 w))
      → d < 8 → s < 8 → Within 32 n → read_of (k * 4096 + d * 512 + s * 64 + bits 32 n) ≡ I d s n
  with_offset6 d s n I f p q r =
      let x = bits 32 n in
      let w = k * 4096 + d * 512 + s * 64 + x in
      let t = parts k d s x p q (fields.offset6.fits n r) in
      read_as w k t.code ∙ (f w ∙ rw (t.first, t.second, t.low, fields.offset6.number_back n r))

  with_imm5 : (d s : ℕ) (n : ℤ) (I : ℕ → ℕ → ℤ → Instruction)
      → ((w : ℕ) → w / 32 % 2 ≡ 1 → form w k ≡ I (bits11to9 w) (bits8to6 w) (field 5 w))
      → d < 8 → s < 8 → Within 16 n → read_of (k * 4096 + 32 + d * 512 + s * 64 + bits 16 n) ≡ I d s n
  with_imm5 d s n I f p q r =
      let x = bits 16 n in
      let l : x < 32 = fields.imm5.fits n r in
      let w = k * 4096 + d * 512 + s * 64 + (32 + x) in
      let t = parts k d s (32 + x) p q (omega arith) in
      let e : k * 4096 + 32 + d * 512 + s * 64 + x ≡ w = omega arith in
      let u : w % 32 ≡ x = low_5 w x l t.low in
      ap read_of e
      ∙ (read_as w k t.code ∙ (f w (bit_5 w x l t.low)
      ∙ rw (t.first, t.second, u, fields.imm5.number_back n r)))
    where
      low_5 : (w x : ℕ) → x < 32 → w % 64 ≡ 32 + x → w % 32 ≡ x
      low_5 w x l e = omega arith

      bit_5 : (w x : ℕ) → x < 32 → w % 64 ≡ 32 + x → w / 32 % 2 ≡ 1
      bit_5 w x l e = omega arith

  with_registers_lem : (d s t : ℕ) (I : ℕ → ℕ → ℕ → Instruction)
      → ((w : ℕ) → w / 32 % 2 ≡ 0 → form w k ≡ I (bits11to9 w) (bits8to6 w) (bits2to0 w))
      → d < 8 → s < 8 → t < 8 → read_of (k * 4096 + d * 512 + s * 64 + t) ≡ I d s t
  with_registers_lem d s x I f p q r =
      let w = k * 4096 + d * 512 + s * 64 + x in
      let t = parts k d s x p q (omega arith) in
      let u : w % 8 ≡ x = low_3 w x r t.low in
      read_as w k t.code ∙ (f w (no_bit_5 w x r t.low) ∙ rw (t.first, t.second, u))
    where
      low_3 : (w x : ℕ) → x < 8 → w % 64 ≡ x → w % 8 ≡ x
      low_3 w x l e = omega arith

      no_bit_5 : (w x : ℕ) → x < 8 → w % 64 ≡ x → w / 32 % 2 ≡ 0
      no_bit_5 w x l e = omega arith

  with_pcoffset9 : (d : ℕ) (n : ℤ) (I : ℕ → ℤ → Instruction)
      → ((w : ℕ) → form w k ≡ I (bits11to9 w) (field 9 w))
      → d < 8 → Within 256 n → read_of (k * 4096 + d * 512 + bits 256 n) ≡ I d n
  with_pcoffset9 d n I f p q =
      let x = bits 256 n in
      let l : x < 512 = fields.pcoffset9.fits n q in
      let w = k * 4096 + d * 512 + x in
      let code : opcode w ≡ k = omega arith in
      let first : bits11to9 w ≡ d = omega arith in
      let low : w % 512 ≡ x = omega arith in
      read_as w k code ∙ (f w ∙ rw (first, low, fields.pcoffset9.number_back n q))

  with_base : (b : ℕ) (I : ℕ → Instruction)
      → ((w : ℕ) → w / 2048 % 2 ≡ 0 → form w k ≡ I (bits8to6 w))
      → b < 8 → read_of (k * 4096 + b * 64) ≡ I b
  with_base b I f p =
      let w = k * 4096 + b * 64 in
      let code : opcode w ≡ k = omega arith in
      let second : bits8to6 w ≡ b = omega arith in
      read_as w k code ∙ (f w (bit_11 k b p) ∙ ap I second)
    where
      bit_11 : (k b : ℕ) → b < 8 → (k * 4096 + b * 64) / 2048 % 2 ≡ 0
      bit_11 k b p = omega arith

jsr : (n : ℤ) → Within 1024 n → read_of (0x4800 + bits 1024 n) ≡ Jsr n
jsr n p =
    let x = bits 1024 n in
    let l : x < 2048 = fields.pcoffset11.fits n p in
    let w = 0x4800 + x in
    let bit_11 : w / 2048 % 2 ≡ 1 = omega arith in
    let code : opcode w ≡ 4 = omega arith in
    let low : w % 2048 ≡ x = omega arith in
    read_as w 4 code ∙ rw (bit_11, low, fields.pcoffset11.number_back n p)

not : (d s : ℕ) → d < 8 → s < 8 → read_of (0x903F + d * 512 + s * 64) ≡ Not d s
not d s p q =
    let t = parts 9 d s 63 p q (omega arith) in
    let w = 9 * 4096 + d * 512 + s * 64 + 63 in
    let e : 0x903F + d * 512 + s * 64 ≡ w = omega arith in
    ap read_of e ∙ (read_as w 9 t.code ∙ rw (t.first, t.second))

reserved : (x : ℕ) → x < 4096 → read_of (0xD000 + x) ≡ Reserved x
reserved x p = read_as (0xD000 + x) 13 (omega arith) ∙ ap Reserved (omega arith)

trap : (x : ℕ) → x < 256 → read_of (0xF000 + x) ≡ Trap x
trap x p = read_as (0xF000 + x) 15 (omega arith) ∙ ap Trap (omega arith)

-- ---- the theorem
pub read_word : (i : Instruction) → InRange i → read_of (word_of i) ≡ i
read_word (AddRegister dr sr1 sr2) r = with_registers_lem 1 dr sr1 sr2 AddRegister (λ w z. rw z) r.0 r.1 r.2
read_word (AddImmediate dr sr1 imm5) r = with_imm5 1 dr sr1 imm5 AddImmediate (λ w z. rw z) r.0 r.1 r.2
read_word (AndRegister dr sr1 sr2) r = with_registers_lem 5 dr sr1 sr2 AndRegister (λ w z. rw z) r.0 r.1 r.2
read_word (AndImmediate dr sr1 imm5) r = with_imm5 5 dr sr1 imm5 AndImmediate (λ w z. rw z) r.0 r.1 r.2
read_word (Br mask pcoffset9) r = with_pcoffset9 0 mask pcoffset9 Br (λ w. refl) r.0 r.1
read_word (Jmp base) r = with_base 12 base Jmp (λ w z. refl) r
read_word (Jsr pcoffset11) r = jsr pcoffset11 r
read_word (Jsrr base) r = with_base 4 base Jsrr (λ w z. rw z) r
read_word (Ld dr pcoffset9) r = with_pcoffset9 2 dr pcoffset9 Ld (λ w. refl) r.0 r.1
read_word (Ldi dr pcoffset9) r = with_pcoffset9 10 dr pcoffset9 Ldi (λ w. refl) r.0 r.1
read_word (Ldr dr base offset6) r = with_offset6 6 dr base offset6 Ldr (λ w. refl) r.0 r.1 r.2
read_word (Lea dr pcoffset9) r = with_pcoffset9 14 dr pcoffset9 Lea (λ w. refl) r.0 r.1
read_word (Not dr sr) r = not dr sr r.0 r.1
read_word Rti r = read_as 0x8000 8 refl
read_word (St sr pcoffset9) r = with_pcoffset9 3 sr pcoffset9 St (λ w. refl) r.0 r.1
read_word (Sti sr pcoffset9) r = with_pcoffset9 11 sr pcoffset9 Sti (λ w. refl) r.0 r.1
read_word (Str sr base offset6) r = with_offset6 7 sr base offset6 Str (λ w. refl) r.0 r.1 r.2
read_word (Trap trapvect8) r = trap trapvect8 r
read_word (Reserved low12) r = reserved low12 r

pub read_after_write : ReadAfterWrite
read_after_write i r = rw (written_in_range i r) (read_word i r)
