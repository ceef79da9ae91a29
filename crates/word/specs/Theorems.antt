-- What is proved of instruction words. Each statement is a type; its proof, of the same name in small letters, is in
-- proofs/.
use Rattle.std.specs.Prelude.{◌≡◌, ℕ, ◌+◌, ◌-◌, ◌%◌, ◌^◌, ◌<◌, ◌≤◌, true, false, cond, ◌↔◌, ℤ, pos, bit_and}
use Rattle.std.specs.Prelude.{bit_xor, nat_lt, Ok, IsOk, IsOkAnd, IsErrOf}
use Rattle.word.specs.Field.{half, signed, field, bits}
use Rattle.word.specs.Reading.{read_of}
use Rattle.word.specs.Writing.{word_of, registers_in_range, field_in_range, mask_in_range, write_of}
use Rattle.word.specs.Range.{Within, InRange}
use Rattle.word.specs.FixedBits.{fixed_of}
use Rattle.word.specs.Mask.{mask_of, places_of}
use Rattle.word.specs.declared.Instruction.{Instruction}
use Rattle.word.specs.declared.Instruction.TheVariants.{AddImmediate, Jmp}
use Rattle.word.specs.declared.WriteRefusal.TheVariants.{Register, Field, BranchMask}

-- The laws of signed fields of k bits.
pub record FieldLaws (k : ℕ) : Type 0 where
  -- the number in the low k bits of a word is in the field's range
  pub range : (w : ℕ) → Within (half k) (field k w)
  -- and the pattern of a number in range has k bits
  pub fits : (n : ℤ) → Within (half k) n → bits (half k) n < 2 ^ k
  -- sign extension to j bits: where the top bit is 1, the bits above it are filled with ones, else with zeros
  pub extension : (j v : ℕ) → k ≤ j → v < 2 ^ k → bits (half j) (signed (half k) v)
      ≡ v + cond (nat_lt v (half k)) 0 (2 ^ j - 2 ^ k)
  -- truncation from j bits: the low k bits of a number in range are its field
  pub truncation : (j : ℕ) (n : ℤ) → k ≤ j → Within (half k) n → bits (half j) n % 2 ^ k ≡ bits (half k) n
  -- both round trips: from the pattern to the number and back, and from the number to the pattern and back
  pub pattern_back : (v : ℕ) → v < 2 ^ k → bits (half k) (signed (half k) v) ≡ v
  pub number_back : (n : ℤ) → Within (half k) n → signed (half k) (bits (half k) n) ≡ n

-- They hold for every width.
abbrev pub SignedFields : Type 0
SignedFields = (k : ℕ) → 1 ≤ k → FieldLaws k

-- So they hold of the four signed fields of Figure A.2.
pub record SignedFieldsOfTheFigure : Type 0 where
  pub imm5 : FieldLaws 5
  pub offset6 : FieldLaws 6
  pub pcoffset9 : FieldLaws 9
  pub pcoffset11 : FieldLaws 11

-- Every part of what a word is read as is in range.
abbrev pub ReadInRange : Type 0
ReadInRange = (w : ℕ) → w < 65536 → InRange (read_of w)

-- Read after write gives the instruction back.
abbrev pub ReadAfterWrite : Type 0
ReadAfterWrite = (i : Instruction) → InRange i → IsOkAnd (write_of i) (λ w. read_of w ≡ i)

-- Write after read gives the word with its fixed bits as in the figure, and is never refused.
abbrev pub WriteAfterRead : Type 0
WriteAfterRead = (w : ℕ) → w < 65536 → write_of (read_of w) ≡ Ok (fixed_of w)

-- So it gives the word back exactly when its fixed bits were right.
abbrev pub WriteAfterReadExactly : Type 0
WriteAfterReadExactly = (w : ℕ) → w < 65536 → (write_of (read_of w) ≡ Ok w) ↔ (fixed_of w ≡ w)

-- The word written after reading differs from the word in exactly the masked bits: the mask is their exclusive or.
abbrev pub WrittenDiffersInMaskedBits : Type 0
WrittenDiffersInMaskedBits =
    (w : ℕ) → w < 65536 → IsOkAnd (write_of (read_of w)) (λ v. bit_xor v w ≡ mask_of w)

-- The mask is 0 exactly where the fixed bits were right, and so exactly where write after read gives the word back.
abbrev pub MaskIsZeroExactly : Type 0
MaskIsZeroExactly = (w : ℕ) → w < 65536 → (mask_of w ≡ 0) ↔ (fixed_of w ≡ w)

abbrev pub WriteAfterReadByMask : Type 0
WriteAfterReadByMask = (w : ℕ) → w < 65536 → (write_of (read_of w) ≡ Ok w) ↔ (mask_of w ≡ 0)

-- The mask has bits only where the figure fixes bits.
abbrev pub MaskInPlaces : Type 0
MaskInPlaces = (w : ℕ) → w < 65536 → bit_and (mask_of w) (places_of w) ≡ mask_of w

-- Reading ignores masked bits: words that differ in these alone, so that they agree once these are turned, are read as
-- the same instruction.
abbrev pub ReadingIgnoresMaskedBits : Type 0
ReadingIgnoresMaskedBits =
    (v w : ℕ) → v < 65536 → w < 65536 → bit_xor v (mask_of v) ≡ bit_xor w (mask_of w) → read_of v ≡ read_of w

-- Reading ignores bits that the figure fixes: words that differ in these alone are read as the same instruction.
abbrev pub ReadingIgnoresFixedBits : Type 0
ReadingIgnoresFixedBits = (v w : ℕ) → v < 65536 → w < 65536 → fixed_of v ≡ fixed_of w → read_of v ≡ read_of w

-- Writing sets them as in the figure.
abbrev pub WritingSetsFixedBits : Type 0
WritingSetsFixedBits = (i : Instruction) → InRange i → IsOkAnd (write_of i) (λ w. fixed_of w ≡ w)

-- An instruction is written, with its word of the figure, exactly when every part is in range.
abbrev pub WrittenInRange : Type 0
WrittenInRange = (i : Instruction) → InRange i → write_of i ≡ Ok (word_of i)

abbrev pub NotRefusedExactly : Type 0
NotRefusedExactly = (i : Instruction) → IsOk (write_of i) ↔ InRange i

-- The refusals, each exactly where M11.3 has it: of a register if one is above 7, else of the field if a signed field,
-- trap vector or reserved field is out of range, else of the mask if that of a BR is above 7, and none in every other
-- case.
pub record RefusalsOf (i : Instruction) : Type 0 where
  pub register : IsErrOf (write_of i) Register ↔ (registers_in_range i ≡ false)
  pub field : IsErrOf (write_of i) Field ↔ ((registers_in_range i ≡ true) × (field_in_range i ≡ false))
  pub mask : IsErrOf (write_of i) BranchMask ↔
      ((registers_in_range i ≡ true) × (field_in_range i ≡ true) × (mask_in_range i ≡ false))
  pub none : IsOk (write_of i) ↔ ((registers_in_range i ≡ true) × (field_in_range i ≡ true)
      × (mask_in_range i ≡ true))

abbrev pub RefusalsInOrder : Type 0
RefusalsInOrder = (i : Instruction) → RefusalsOf i

-- M15.1: x14E7 reads as ADD R2, R3, #7.
abbrev pub Example1 : Type 0
Example1 = read_of 0x14E7 ≡ AddImmediate 2 3 (pos 7)

-- RET, xC1C0 in the figure, is JMP R7.
abbrev pub RetIsJmpR7 : Type 0
RetIsJmpR7 = (read_of 0xC1C0 ≡ Jmp 7) × (write_of (Jmp 7) ≡ Ok 0xC1C0)
