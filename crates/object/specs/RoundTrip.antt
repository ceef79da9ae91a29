-- A file that is written and read again, and one that is read and written again.
use Rattle.std.specs.Prelude.{ℕ, ◌+◌, ◌≤◌, ◌≡◌, true, List, length, take, drop}
use Rattle.std.proofs.Math.Pow.{are_bytes}
use Rattle.lent.specs.Lent.{Written, written}
use Rattle.object.specs.File.{range}
use Rattle.object.specs.Calls.{Loading, load_of, save_of}

-- The file that a call has written.
abbrev pub file_in : Written → List ℕ
file_in s = take s.count s.output

-- The range of one memory is in another, and nothing else of that has changed.
pub record Reproduced (origin count : ℕ) (memory other : List ℕ) (l : Loading) : Type 0 where
  pub accepted : l.refusal ≡ 0
  pub at_origin : l.origin ≡ origin
  pub all_words : l.words ≡ count
  pub range_there : range origin count l.memory ≡ range origin count memory
  pub before_range : take origin l.memory ≡ take origin other
  pub after_range : drop (origin + count) l.memory ≡ drop (origin + count) other

-- "A written file read into any memory must reproduce that range."
abbrev pub SavedFileLoads : Type 0
SavedFileLoads =
    (memory : List ℕ) (origin count : ℕ) (output other : List ℕ)
    → (save_of memory origin count output).refusal ≡ 0 → length other ≡ 65536
    → Reproduced origin count memory other (load_of (file_in (save_of memory origin count output)) other)

-- A file that was read, written from its range of the memory it was read into, is the same bytes again.
abbrev pub LoadedFileSaves : Type 0
LoadedFileSaves =
    (file memory output : List ℕ)
    → are_bytes file ≡ true → (load_of file memory).refusal ≡ 0 → length file ≤ length output
    → save_of (load_of file memory).memory (load_of file memory).origin (load_of file memory).words output
    ≡ written file output
