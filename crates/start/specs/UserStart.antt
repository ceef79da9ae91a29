-- What is proved of a start in User mode, for every file, memory and user stack: whatever a candidate hands in, no
-- privileged word of memory is replaced.
use Rattle.std.specs.Prelude.{ℕ, ◌+◌, ◌≤◌, ◌<◌, ◌≡◌, true, List, length, get_or}
use Rattle.machine.specs.Protection.{privileged}
use Rattle.object.specs.File.{origin_in, words_in}
use Rattle.object.specs.Calls.{load_refusal}
use Rattle.start.specs.Start.{zero_machine, started_of, user_refusal, user_started_of}

-- "On refusal the record and count answered are all zero and memory is untouched."
abbrev pub RefusedUserStartTouchesNothing : Type 0
RefusedUserStartTouchesNothing =
    (file memory : List ℕ) (userStack : ℕ) → (user_refusal file memory ≡ 0 → ⊥)
    → user_started_of file memory userStack
    ≡ record { machine = zero_machine; words = 0; refusal = user_refusal file memory; memory = memory }

-- The origin of a file and every word of it lie in x3000 to xFDFF.
pub record InUserWords (file : List ℕ) : Type 0 where
  pub from : 0x3000 ≤ origin_in file
  pub below : origin_in file < 0xFE00
  pub fits : origin_in file + length (words_in file) ≤ 0xFE00

-- Exactly the files that can be loaded, and to User mode's words, are accepted; they are started as `start` does it.
pub record AcceptedUserStart : Type 0 where
  pub loads : (file memory : List ℕ) → user_refusal file memory ≡ 0 → load_refusal file memory ≡ 0
  pub inside : (file memory : List ℕ) → user_refusal file memory ≡ 0 → InUserWords file
  pub accepted : (file memory : List ℕ) → load_refusal file memory ≡ 0 → InUserWords file → user_refusal file memory ≡ 0
  pub started : (file memory : List ℕ) (userStack : ℕ) → user_refusal file memory ≡ 0
      → user_started_of file memory userStack ≡ started_of file memory true userStack

-- The number is answered, and those of loading come before 21.
pub record UserRefusals : Type 0 where
  pub answered : (file memory : List ℕ) (userStack : ℕ)
      → (user_started_of file memory userStack).refusal ≡ user_refusal file memory
  pub loading_first : (file memory : List ℕ) → (load_refusal file memory ≡ 0 → ⊥)
      → user_refusal file memory ≡ load_refusal file memory
  pub then_21 : (file memory : List ℕ) → load_refusal file memory ≡ 0 → (InUserWords file → ⊥)
      → user_refusal file memory ≡ 21

-- Accepted or not, a file leaves each privileged word as it was.
abbrev pub PrivilegedWordsStay : Type 0
PrivilegedWordsStay =
    (file memory : List ℕ) (userStack a : ℕ) → privileged a ≡ true
    → get_or (user_started_of file memory userStack).memory a 0 ≡ get_or memory a 0
