-- What is proved of starting, for every file, memory, mode and user stack.
use Rattle.std.specs.Prelude.{Err}
use Rattle.std.specs.Prelude.{ℕ, ◌≤◌, ◌<◌, ◌≡◌, Bool, cond, List, [], ◌∷◌, ltb, length}
use Rattle.object.specs.File.{word}
use Rattle.object.specs.Calls.{Loading, load_refusal, load_of, save_of}
use Rattle.object.specs.RoundTrip.{file_in, Reproduced}
use Rattle.run.specs.declared.Refusal.TheVariants.{TooManySteps, UnequalLists, TimeBelowClock}
use Rattle.run.specs.Fresh.{fresh_of}
use Rattle.run.specs.Refusals.{unequal_lists, times_admission, admission_of, Admission, Accepted}
use Rattle.run.specs.KeyLists.{NoOffence}
use Rattle.run.specs.Call.{start_of}
use Rattle.start.specs.Start.{zero_machine, Starting, started_of}

-- "On refusal the record and count answered are all zero and memory is untouched; the numbers and their order are those
-- of loading."
abbrev pub RefusedStartTouchesNothing : Type 0
RefusedStartTouchesNothing =
    (file memory : List ℕ) (user : Bool) (userStack : ℕ) → (load_refusal file memory ≡ 0 → ⊥)
    → started_of file memory user userStack
    ≡ record { machine = zero_machine; words = 0; refusal = load_refusal file memory; memory = memory }

-- An accepted file is loaded, and the record is a fresh one at its origin.
abbrev pub AcceptedStart : Type 0
AcceptedStart =
    (file memory : List ℕ) (user : Bool) (userStack : ℕ) → load_refusal file memory ≡ 0
    → started_of file memory user userStack
    ≡ record {
      machine = fresh_of (load_of file memory).origin user userStack;
      words = (load_of file memory).words;
      refusal = 0;
      memory = (load_of file memory).memory;
    }

-- A file of two bytes starts a machine at an address, with nothing loaded.
abbrev pub FileWithoutWords : Type 0
FileWithoutWords =
    (high low : ℕ) (memory : List ℕ) (user : Bool) (userStack : ℕ) → high < 256 → low < 256 → length memory ≡ 65536
    → started_of (high ∷ low ∷ []) memory user userStack
    ≡ record { machine = fresh_of (word high low) user userStack; words = 0; refusal = 0; memory = memory }

-- What a start has loaded: its record stands at the origin.
abbrev pub loaded_by : Starting → Loading
loaded_by s = record { origin = s.machine.pc; words = s.words; refusal = s.refusal; memory = s.memory }

-- The range of one memory is in another, nothing else of that has changed, and the record is a fresh one at the range's
-- origin.
pub record StartedAgain (origin count : ℕ) (user : Bool) (userStack : ℕ) (memory other : List ℕ) (s : Starting) :
    Type 0 where
  pub loaded : Reproduced origin count memory other (loaded_by s)
  pub fresh : s.machine ≡ fresh_of origin user userStack

-- A file that was written from a range is started so in any memory.
abbrev pub SavedFileStarts : Type 0
SavedFileStarts =
    (memory : List ℕ) (origin count : ℕ) (output other : List ℕ) (user : Bool) (userStack : ℕ)
    → (save_of memory origin count output).refusal ≡ 0 → length other ≡ 65536
    → StartedAgain origin count user userStack memory other
    (started_of (file_in (save_of memory origin count output)) other user userStack)

-- How a run of n steps from here is turned down, if it is.
abbrev pub run_admission : Starting → List ℕ → List ℕ → List ℕ → ℕ → Admission
run_admission s times bytes output n = admission_of (start_of s.machine s.memory times bytes output) n

-- A host that starts a file and runs it is never refused for the record or the memory: 11 and 12 never apply, 13 only
-- where n itself is too high, and no time is below the clock (15). With n up to the limit and keys in order the run is
-- accepted.
pub record Runs (s : Starting) (times bytes output : List ℕ) (n : ℕ) : Type 0 where
  pub answer :
      run_admission s times bytes output n
      ≡ cond (ltb 1048576 n) (Err TooManySteps)
      (cond (unequal_lists times bytes) (Err UnequalLists) (times_admission 0 0 0 times))
  pub no_time_below_clock : (i : ℕ) → times_admission 0 0 0 times ≡ Err (TimeBelowClock i) → ⊥
  pub accepted : n ≤ 1048576 → length times ≡ length bytes → NoOffence 0 times
      → run_admission s times bytes output n ≡ Accepted

abbrev pub StartedMachineRuns : Type 0
StartedMachineRuns =
    (file memory : List ℕ) (user : Bool) (userStack : ℕ) (times bytes output : List ℕ) (n : ℕ)
    → (started_of file memory user userStack).refusal ≡ 0
    → Runs (started_of file memory user userStack) times bytes output n
