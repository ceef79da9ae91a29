-- Files and ranges at their limits: without words, at the end of memory, and one word beyond it.
use Rattle.std.specs.Prelude.{ℕ, ◌+◌, ◌*◌, ◌/◌, ◌%◌, ◌≤◌, ◌<◌, ◌≡◌, List, [], ◌∷◌, length}
use Rattle.object.specs.File.{word, origin_in, words_in}
use Rattle.lent.specs.Lent.{written}
use Rattle.object.specs.Calls.{load_of, save_of}

-- A file of two bytes has no words: it is accepted, wherever its origin, and memory stays as it is.
abbrev pub FileWithoutWords : Type 0
FileWithoutWords =
    (high low : ℕ) (memory : List ℕ) → high < 256 → low < 256 → length memory ≡ 65536
    → load_of (high ∷ low ∷ []) memory ≡ record { origin = word high low; words = 0; refusal = 0; memory = memory }

-- A range without words is written at any origin as the origin alone.
abbrev pub RangeWithoutWords : Type 0
RangeWithoutWords =
    (memory : List ℕ) (origin : ℕ) (output : List ℕ) → length memory ≡ 65536 → origin < 65536 → 2 ≤ length output
    → save_of memory origin 0 output ≡ written (origin / 256 ∷ origin % 256 ∷ []) output

-- A range may end with the last word of memory, and not one word later.
abbrev pub RangeToTheEnd : Type 0
RangeToTheEnd =
    (memory : List ℕ) (origin count : ℕ) (output : List ℕ) → length memory ≡ 65536 → 2 + 2 * count ≤ length output
    → (origin + count ≡ 65536 → (save_of memory origin count output).refusal ≡ 0)
    × (origin + count ≡ 65537 → (save_of memory origin count output).refusal ≡ 18)

abbrev pub FileToTheEnd : Type 0
FileToTheEnd =
    (file memory : List ℕ) → length memory ≡ 65536 → length file % 2 ≡ 0 → 2 ≤ length file
    → (origin_in file + length (words_in file) ≡ 65536 → (load_of file memory).refusal ≡ 0)
    × (origin_in file + length (words_in file) ≡ 65537 → (load_of file memory).refusal ≡ 18)

-- 11 comes before every other refusal: with a memory of another size it is answered whatever the file, the range or the
-- output.
abbrev pub WrongSizeFirst : Type 0
WrongSizeFirst =
    (memory : List ℕ) → (length memory ≡ 65536 → ⊥)
    → ((file : List ℕ) → load_of file memory ≡ record { origin = 0; words = 0; refusal = 11; memory = memory })
    × ((origin count : ℕ) (output : List ℕ)
    → save_of memory origin count output ≡ record { count = 0; refusal = 11; output = output })
