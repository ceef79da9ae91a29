-- The statements of specs/Theorems.antt: by computation at each variant and each kind, and by the theorems of the crate
-- `word`.
use Prim.Native.Nat.{ℕ, zero-le, ◌≤◌, ◌<◌}
use native.Mathlib.Omega.{arith}
use mathlib.Core.Path.{◌≡◌, refl, sym, ap, ◌∙◌}
use mathlib.Core.Bool.{Bool, true, false, ◌&&◌}
use lib.Dec.{ltb}
use lib.ListN.{get_or}
use lib.IntN.{ℤ, pos, negsuc}
use lib.Bits.{bit_xor}
use borrow.Author.Tests.{le-ltb, le-leb}
use Rattle.std.specs.Prelude.{◌≢◌, Result, Ok, Err}
use Rattle.word.specs.Reading.{read_of}
use Rattle.word.specs.Writing.{word_of, registers_in_range, field_in_range, mask_in_range, answer, write_of}
use Rattle.word.specs.declared.Instruction.{Instruction}
use Rattle.word.specs.declared.Instruction.TheVariants.{Br, AddRegister, AddImmediate, Ld, St, Jsr, Jsrr, AndRegister}
use Rattle.word.specs.declared.Instruction.TheVariants.{AndImmediate, Ldr, Str, Rti, Not, Ldi, Sti, Jmp, Reserved, Lea}
use Rattle.word.specs.declared.Instruction.TheVariants.{Trap}
use Rattle.word.specs.declared.WriteRefusal.{WriteRefusal}
use Rattle.word.proofs.Ranges.{written_in_range}
use Rattle.word.proofs.ReadAfterWrite.{read_word}
use Rattle.word.proofs.WriteAfterRead.{write_after_read}
use Rattle.word.proofs.MaskBits.{written_differs_in_masked_bits}
use Rattle.word.proofs.Opcodes.{Below, each, ◌&◌}
use Rattle.lc3_words.specs.Flat.{flat_of}
use Rattle.lc3_words.specs.Unflat.{kinds, form_of, unsigned, instruction_of}
use Rattle.lc3_words.specs.Range.{below, value_ranges}
use Rattle.lc3_words.specs.Writing.{refusal, host_answer, flat_write_of, written_of}
use Rattle.lc3_words.specs.Theorems.{FlatAndBack, FlatRoundTrip, FlatReadAfterWrite, FlatWriteAfterRead}
use Rattle.lc3_words.specs.Theorems.{FlatWrittenDiffersInMaskedBits, KnownKind, UnknownKind, BeyondSixteenBits}
use Rattle.lc3_words.specs.Theorems.{RefusedWordIsZero}
use Rattle.lc3_words.specs.declared.Lc3Written.{Lc3Written}
use Rattle.lc3_words.proofs.ByKind.{known_kind_written, unknown_kind_refused}

-- the row of each instruction has a known kind and gives the instruction back
rows : (i : Instruction) → ((flat_of i).kind < kinds) × (instruction_of (flat_of i) ≡ i)
unfolding flat_of
rows (Br mask pcoffset9) = (omega arith, refl)
rows (AddRegister dr sr1 sr2) = (omega arith, refl)
rows (AddImmediate dr sr1 imm5) = (omega arith, refl)
rows (Ld dr pcoffset9) = (omega arith, refl)
rows (St sr pcoffset9) = (omega arith, refl)
rows (Jsr pcoffset11) = (omega arith, refl)
rows (Jsrr base) = (omega arith, refl)
rows (AndRegister dr sr1 sr2) = (omega arith, refl)
rows (AndImmediate dr sr1 imm5) = (omega arith, refl)
rows (Ldr dr base offset6) = (omega arith, refl)
rows (Str sr base offset6) = (omega arith, refl)
rows Rti = (omega arith, refl)
rows (Not dr sr) = (omega arith, refl)
rows (Ldi dr pcoffset9) = (omega arith, refl)
rows (Sti sr pcoffset9) = (omega arith, refl)
rows (Jmp base) = (omega arith, refl)
rows (Reserved low12) = (omega arith, refl)
rows (Lea dr pcoffset9) = (omega arith, refl)
rows (Trap trapvect8) = (omega arith, refl)

pub flat_and_back : FlatAndBack
flat_and_back i = (rows i).1

pub flat_round_trip : FlatRoundTrip
flat_round_trip i = known_kind_written (flat_of i) (rows i).0
    ∙ ap (λ (x : Instruction). host_answer (write_of x)) (rows i).1

pub flat_read_after_write : FlatReadAfterWrite
flat_read_after_write i r =
    ap (λ (x : Lc3Written). flat_of (read_of x.word)) (flat_round_trip i ∙ ap host_answer (written_in_range i r))
    ∙ ap flat_of (read_word i r)

pub flat_write_after_read : FlatWriteAfterRead
flat_write_after_read w p = flat_round_trip (read_of w) ∙ ap host_answer (write_after_read w p)

pub flat_written_differs_in_masked_bits : FlatWrittenDiffersInMaskedBits
flat_written_differs_in_masked_bits w p =
    ap (λ (x : Lc3Written). bit_xor x.word w) (flat_write_after_read w p)
    ∙ rw (write_after_read w p) at (written_differs_in_masked_bits w p)

-- ---- refusals

-- the refusal that an answer carries
carried : (a b c : Bool) (w : ℕ) → (host_answer (answer a b c w)).refusal ≡ refusal a b c
carried false b c w = refl
carried true false c w = refl
carried true true false w = refl
carried true true true w = refl

-- a trap vector or reserved field is in range exactly when the value is
unsigned_range : (limit : ℕ) (v : ℤ) → limit ≤ 65535 → ltb (unsigned v) limit ≡ below limit v
unsigned_range limit (pos n) p = sym (ap (λ (t : Bool). t && ltb n limit) (le-leb 0 n zero-le))
unsigned_range limit (negsuc n) p = le-ltb 65535 limit p

field_range : (k a b c : ℕ) (v : ℤ) → k < kinds → field_in_range (form_of k a b c v (unsigned v))
    ≡ get_or (value_ranges v) k true
unfolding Below
field_range k a b c v =
    each (λ k. field_in_range (form_of k a b c v (unsigned v)) ≡ get_or (value_ranges v) k true) kinds
    (refl & refl & refl & refl & refl & refl & refl & refl & refl & refl & refl & refl & refl & refl & refl & refl
    & unsigned_range 4096 v (omega arith)
    & refl
    & unsigned_range 256 v (omega arith)
    & tt)
    k

pub known_kind : KnownKind
unfolding write_of
known_kind f p =
    let i = instruction_of f in
    ap (λ (x : Lc3Written). x.refusal) (known_kind_written f p)
    ∙ (carried (registers_in_range i) (field_in_range i) (mask_in_range i) (word_of i)
    ∙ ap (λ (t : Bool). refusal (registers_in_range i) t (mask_in_range i))
    (field_range f.kind f.a f.b f.c f.value p))

pub unknown_kind : UnknownKind
unknown_kind = unknown_kind_refused

pub refused_word_is_zero : RefusedWordIsZero
unfolding written_of
refused_word_is_zero f = zero_word (flat_write_of f)
  where
    zero_word : (r : Result ℕ WriteRefusal) → ((host_answer r).refusal ≢ 0) → (host_answer r).word ≡ 0
    zero_word (Ok w) h = absurd (h refl)
    zero_word (Err e) h = refl

pub beyond_sixteen_bits : BeyondSixteenBits
unfolding written_of write_of
beyond_sixteen_bits = record {
  add_register_first = refl;
  add_value = refl;
  br_value_first = refl;
  br_mask = refl;
  ld_65535 = refl;
  ld_minus_65531 = refl;
  trap_65573 = refl;
  trap_minus_1 = refl;
}
