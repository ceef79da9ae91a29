-- Text put into an output at a place, for the contracts of the functions that put it.
use Rattle.std.specs.Prelude.{ℕ, ◌+◌, ◌≤◌, ◌≡◌, List, ◌++◌, length, take, drop}

-- the text fits into the output from `at` on
abbrev pub Room : ℕ → List ℕ → List ℕ → Type 0
Room at text output = at + length text ≤ length output

-- the text stands in the output from `at` on and the rest is as it was; `next` is the place after it
pub record Put (at : ℕ) (text before : List ℕ) (next : ℕ) (after : List ℕ) : Type 0 where
  pub place : next ≡ at + length text
  pub bytes : after ≡ take at before ++ text ++ drop (at + length text) before
