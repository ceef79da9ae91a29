-- Reading a file into memory and writing one from a range of memory, and how each is turned away: with zeros, and
-- memory and output as lent.
use Rattle.std.specs.Prelude.{ℕ, zero, suc, ◌+◌, ◌%◌, Bool, Result, Ok, Err, cond, ◌||◌, not, List, ltb, eqb, length}
use Rattle.lent.specs.declared.Refusal.{Refusal}
unfoldable pub use Rattle.lent.specs.Lent.{wrong_size, too_short}
use Rattle.lent.specs.Lent.{Written, written, written_by, refusal_number}
use Rattle.object.specs.declared.Loaded.{Loaded}
use Rattle.object.specs.File.{file_of, origin_in, words_in, range, placed}

-- 17: "odd length or fewer than two bytes".
unfoldable pub wrong_length : List ℕ → Bool
wrong_length file = not (eqb (length file % 2) 0) || ltb (length file) 2

-- 18: "origin plus word count above 65,536".
unfoldable pub beyond_memory : ℕ → ℕ → Bool
beyond_memory origin count = ltb 65536 (origin + count)

-- The number of the first that applies, or 0. "Turned away, for reading after 11 and in this order: 17, ..; 18, .."
unfoldable pub load_refusal : List ℕ → List ℕ → ℕ
load_refusal file memory =
    cond (wrong_size memory) 11
    (cond (wrong_length file) 17
    (cond (beyond_memory (origin_in file) (length (words_in file))) 18 0))

-- "Writing uses 11, then 18 for its range, then 16 for an output that is too short."
unfoldable pub save_refusal : List ℕ → ℕ → ℕ → List ℕ → ℕ
save_refusal memory origin count output =
    cond (wrong_size memory) 11
    (cond (beyond_memory origin count) 18
    (cond (too_short output (file_of origin (range origin count memory))) 16 0))

-- What reading answers, and the memory it leaves: the file's words in their range, and the rest as lent.
pub record Loading : Type 0 where
  pub origin : ℕ
  pub words : ℕ
  pub refusal : ℕ
  pub memory : List ℕ

unfoldable pub load_accepted : List ℕ → List ℕ → Loading
load_accepted file memory = record {
  origin = origin_in file;
  words = length (words_in file);
  refusal = 0;
  memory = placed (origin_in file) (words_in file) memory;
}

unfoldable pub load_by : ℕ → List ℕ → List ℕ → Loading
load_by zero file memory = load_accepted file memory
load_by (suc n) file memory = record { origin = 0; words = 0; refusal = suc n; memory = memory }

unfoldable pub load_of : List ℕ → List ℕ → Loading
load_of file memory = load_by (load_refusal file memory) file memory

-- What writing answers, and the output it leaves: the file from its start, and the rest as lent.
unfoldable pub save_accepted : List ℕ → ℕ → ℕ → List ℕ → Written
save_accepted memory origin count output = written (file_of origin (range origin count memory)) output

unfoldable pub save_of : List ℕ → ℕ → ℕ → List ℕ → Written
save_of memory origin count output =
    written_by (save_refusal memory origin count output) (file_of origin (range origin count memory)) output

-- What `load` answers and leaves, as one value.
abbrev pub loading : Result Loaded Refusal → List ℕ → Loading
loading (Ok l) memory = record { origin = l.origin; words = l.words; refusal = 0; memory = memory }
loading (Err r) memory = record { origin = 0; words = 0; refusal = refusal_number r; memory = memory }
