-- What is proved of flat instructions. Each statement is a type; its proof, of the same name in small letters, is in
-- proofs/.
use Rattle.std.specs.Prelude.{ℕ, ◌<◌, ◌≤◌, ◌≡◌, ◌≢◌, pos, negsuc}
use Rattle.std.specs.Int.Bits.{bit_xor}
use Rattle.word.specs.Reading.{read_of}
use Rattle.word.specs.Writing.{registers_in_range, mask_in_range, write_of}
use Rattle.word.specs.Range.{InRange}
use Rattle.word.specs.FixedBits.{fixed_of}
use Rattle.word.specs.Mask.{read_with_mask_of}
use Rattle.word.specs.declared.Instruction.{Instruction}
use Rattle.lc3_words.specs.Flat.{flat, flat_of, flat_read_of}
use Rattle.lc3_words.specs.Unflat.{kinds, instruction_of}
use Rattle.lc3_words.specs.Range.{value_in_range}
use Rattle.lc3_words.specs.Writing.{written, refused, refusal, host_answer, written_of}
use Rattle.lc3_words.specs.declared.Lc3Instruction.{Lc3Instruction}

-- The flat form loses nothing of an instruction.
abbrev pub FlatAndBack : Type 0
FlatAndBack = (i : Instruction) → instruction_of (flat_of i) ≡ i

-- An instruction is written by its flat form as by itself, in range or not.
abbrev pub FlatRoundTrip : Type 0
FlatRoundTrip = (i : Instruction) → written_of (flat_of i) ≡ host_answer (write_of i)

-- Read after write gives the flat instruction back.
abbrev pub FlatReadAfterWrite : Type 0
FlatReadAfterWrite = (i : Instruction) → InRange i → flat_of (read_of (written_of (flat_of i)).word) ≡ flat_of i

-- Write after read gives the word with its fixed bits as in the figure, and is never refused.
abbrev pub FlatWriteAfterRead : Type 0
FlatWriteAfterRead = (w : ℕ) → w < 65536 → written_of (flat_of (read_of w)) ≡ written (fixed_of w)

-- It differs from the word in exactly the bits of the mask that reading answers.
abbrev pub FlatWrittenDiffersInMaskedBits : Type 0
FlatWrittenDiffersInMaskedBits =
    (w : ℕ) → w < 65536
    → bit_xor (written_of (flat_read_of (read_with_mask_of w)).instruction).word w
    ≡ (flat_read_of (read_with_mask_of w)).mask

-- The refusal of a known kind: 1 if a register that it uses is above 7, else 2 if a value that it uses is out of range,
-- be it beyond 16 bits or not, else 3 if the mask of a BR is above 7, else 0.
abbrev pub KnownKind : Type 0
KnownKind =
    (f : Lc3Instruction) → f.kind < kinds
    → (written_of f).refusal
    ≡ refusal (registers_in_range (instruction_of f)) (value_in_range f) (mask_in_range (instruction_of f))

-- A refused write answers word 0.
abbrev pub RefusedWordIsZero : Type 0
RefusedWordIsZero = (f : Lc3Instruction) → ((written_of f).refusal ≢ 0) → (written_of f).word ≡ 0

-- An unknown kind is refused with 2, whatever its operands.
abbrev pub UnknownKind : Type 0
UnknownKind = (f : Lc3Instruction) → kinds ≤ f.kind → written_of f ≡ refused 2

-- The order of refusals at values beyond 16 bits, and values that would be in range if they were cut off to 16 bits.
pub record BeyondSixteenBits : Type 0 where
  pub add_register_first : written_of (flat 2 8 0 0 (pos 70000)) ≡ refused 1
  pub add_value : written_of (flat 2 7 0 0 (pos 70000)) ≡ refused 2
  pub br_value_first : written_of (flat 0 8 0 0 (pos 70000)) ≡ refused 2
  pub br_mask : written_of (flat 0 8 0 0 (pos 255)) ≡ refused 3
  pub ld_65535 : written_of (flat 3 0 0 0 (pos 65535)) ≡ refused 2
  pub ld_minus_65531 : written_of (flat 3 0 0 0 (negsuc 65530)) ≡ refused 2
  pub trap_65573 : written_of (flat 18 0 0 0 (pos 65573)) ≡ refused 2
  pub trap_minus_1 : written_of (flat 18 0 0 0 (negsuc 0)) ≡ refused 2
