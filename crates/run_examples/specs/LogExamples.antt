-- Logs and stops of logged runs, with calls that would be answered otherwise without their rule. What each step is
-- logged as stands in the examples of crates/machine under the same name.
use Rattle.std.specs.Prelude.{ℕ, ◌≡◌, true, List, [], ◌∷◌, map, replicate}
use Rattle.machine.specs.Edition.{Edition, third, second}
use Rattle.run.specs.Fresh.{fresh_of}
use Rattle.run.specs.declared.Ending.TheVariants.{Done, Halted, OutputFull, Refused}
use Rattle.run.specs.declared.Refusal.TheVariants.{MemorySize}
use Rattle.run.specs.Call.{start_of}
use Rattle.run.specs.CallExamples.{storing}
use Rattle.logging.specs.declared.LoggedEnding.{LoggedEnding}
use Rattle.logging.specs.declared.LoggedEnding.TheVariants.{Run, LogFull}
use Rattle.logging.specs.LoggedRun.{Logged, logged_run_of, logged_run_by}
use Rattle.logging.specs.LoggedCall.{logged_call_of, logged_stop}

-- The steps made, the words written, the log, and how the run ended.
pub data Told : Type 0 where
  told : ℕ → ℕ → List ℕ → LoggedEnding → Told

abbrev pub told_of : Logged → Told
told_of l = told l.steps l.words l.log l.ending

-- n steps from x0400 of STR R0, R1, #0 to DDR, which stands everywhere, with this MCR, output and log.
abbrev pub logs : ℕ → List ℕ → List ℕ → ℕ → Told
logs mcr output log n = told_of (logged_run_of (start_of (storing mcr) (replicate 65536 0x7040) [] [] output) log n)

-- One step in User mode from here, where TRAP x25 stands everywhere, by an edition: its log.
abbrev pub trap_logged : Edition → ℕ → List ℕ
trap_logged edition pc =
    (logged_run_by edition (start_of (fresh_of pc true 0xFDFF) (replicate 65536 0xF025) [] [] [])
    (1 ∷ 2 ∷ 3 ∷ []) 1).log

-- Every case of an ending.
abbrev pub endings : List LoggedEnding
endings = Run Done ∷ Run Halted ∷ Run OutputFull ∷ Run (Refused MemorySize) ∷ LogFull ∷ []

pub record LogExamplesHold : Type 0 where
  -- The stops in their order, where each that comes later applies too: done, halted, log full, output full.
  pub done_first : logs 0 [] [] 0 ≡ told 0 0 [] (Run Done)
  pub halted_before_log_full : logs 0 [] [] 1 ≡ told 0 0 [] (Run Halted)
  pub log_full_before_output_full : logs 0x8000 [] (1 ∷ 2 ∷ []) 1 ≡ told 0 0 (1 ∷ 2 ∷ []) LogFull
  pub output_full_last : logs 0x8000 [] (1 ∷ 2 ∷ 3 ∷ []) 1 ≡ told 0 0 (1 ∷ 2 ∷ 3 ∷ []) (Run OutputFull)
  -- "PC before the step, the word fetched .., and the reason", from the start of the log; "the rest stays as lent".
  pub one_entry : logs 0x8000 (0 ∷ []) (1 ∷ 2 ∷ 3 ∷ 4 ∷ 5 ∷ []) 1
      ≡ told 1 3 (0x0400 ∷ 0x7040 ∷ 0 ∷ 4 ∷ 5 ∷ []) (Run Done)
  -- "Fewer than three log words are free", after a step.
  pub full_after_one : logs 0x8000 (0 ∷ []) (1 ∷ 2 ∷ 3 ∷ 4 ∷ 5 ∷ []) 2
      ≡ told 1 3 (0x0400 ∷ 0x7040 ∷ 0 ∷ 4 ∷ 5 ∷ []) LogFull
  pub two_entries : logs 0x8000 (0 ∷ 0 ∷ []) (1 ∷ 2 ∷ 3 ∷ 4 ∷ 5 ∷ 6 ∷ []) 2
      ≡ told 2 6 (0x0400 ∷ 0x7040 ∷ 0 ∷ 0x0401 ∷ 0x7040 ∷ 0 ∷ []) (Run Done)
  -- A refused call leaves the log as lent.
  pub refused : told_of (logged_call_of (start_of (storing 0x8000) [] [] [] []) (1 ∷ 2 ∷ 3 ∷ []) 1)
      ≡ told 0 0 (1 ∷ 2 ∷ 3 ∷ []) (Run (Refused MemorySize))
  -- By the second edition a TRAP is an instruction and no fetch is denied; by the third it is an entry, and a denied
  -- fetch has no word.
  pub trap : trap_logged third 0x3000 ≡ 0x3000 ∷ 0xF025 ∷ 1 ∷ []
  pub trap_by_the_second : trap_logged second 0x3000 ≡ 0x3000 ∷ 0xF025 ∷ 0 ∷ []
  pub denied_fetch : trap_logged third 0x0400 ≡ 0x0400 ∷ 0 ∷ 4 ∷ []
  pub none_denied_by_the_second : trap_logged second 0x0400 ≡ 0x0400 ∷ 0xF025 ∷ 0 ∷ []
  -- The number of each stop: done 0, halted 1, output full 2, log full 3, and 0 where refused.
  pub stops : map logged_stop endings ≡ 0 ∷ 1 ∷ 2 ∷ 0 ∷ 3 ∷ []
