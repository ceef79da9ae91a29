-- "A refusal answers zeros and leaves memory and output untouched"; every other call is accepted.
use Rattle.std.specs.Prelude.{ℕ, ◌≡◌, List}
use Rattle.object.specs.Calls.{load_refusal, load_of, save_refusal, save_of}
use Rattle.object.specs.Accepted.{Readable, Writable}

abbrev pub RefusedLoadTouchesNothing : Type 0
RefusedLoadTouchesNothing =
    (file memory : List ℕ) → (load_refusal file memory ≡ 0 → ⊥)
    → load_of file memory ≡ record { origin = 0; words = 0; refusal = load_refusal file memory; memory = memory }

abbrev pub RefusedSaveTouchesNothing : Type 0
RefusedSaveTouchesNothing =
    (memory : List ℕ) (origin count : ℕ) (output : List ℕ) → (save_refusal memory origin count output ≡ 0 → ⊥)
    → save_of memory origin count output ≡ record
    { count = 0; refusal = save_refusal memory origin count output; output = output }

-- Exactly the calls that are handed what they need are accepted.
pub record AcceptedExactly : Type 0 where
  pub readable : (file memory : List ℕ) → (load_of file memory).refusal ≡ 0 → Readable file memory
  pub read : (file memory : List ℕ) → Readable file memory → (load_of file memory).refusal ≡ 0
  pub writable : (memory : List ℕ) (origin count : ℕ) (output : List ℕ)
      → (save_of memory origin count output).refusal ≡ 0
      → Writable memory origin count output
  pub wrote : (memory : List ℕ) (origin count : ℕ) (output : List ℕ) → Writable memory origin count output
      → (save_of memory origin count output).refusal ≡ 0
