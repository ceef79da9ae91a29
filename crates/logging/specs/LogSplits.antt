-- A logged run can be stopped and continued as a run can: the log of k + j steps is the log of k steps and then that of
-- j, written to what is left of the log.
use Rattle.std.specs.Prelude.{ℕ, ◌+◌, ◌≡◌, true, List, ◌++◌, take, drop}
use Rattle.std.proofs.Math.Pow.{are_bytes}
use Rattle.machine.specs.Edition.{Edition}
use Rattle.run.specs.declared.Ending.TheVariants.{Done}
use Rattle.run.specs.Run.{Start}
use Rattle.run.specs.Refusals.{admission_of, Accepted}
use Rattle.run.specs.Continuing.{remaining, joined}
use Rattle.logging.specs.declared.LoggedEnding.TheVariants.{Run}
use Rattle.logging.specs.LoggedRun.{Logged, with_log, run_in}
use Rattle.logging.specs.LoggedCall.{logged_call_by}

-- Two logged calls, one after the other, as one: the words that the first wrote stand before the second's log.
abbrev pub joined_logged : Logged → Logged → Logged
joined_logged l m =
    with_log m.ending (joined (run_in l) (run_in m)) (take l.words l.log ++ m.log) (l.words + m.words)

-- The second call gets what remains for a run, and the log after the words written.
pub record Splits (edition : Edition) (s : Start) (k j : ℕ) (log : List ℕ) (first : Logged) : Type 0 where
  pub second_accepted : admission_of (remaining s (run_in first)) j ≡ Accepted
  -- where the first is done, the second goes on from there
  pub continued : first.ending ≡ Run Done
      → logged_call_by edition s log (k + j)
      ≡ joined_logged first (logged_call_by edition (remaining s (run_in first)) (drop first.words first.log) j)
  -- where the first was stopped, for a full log too, it stays so
  pub stopped : (first.ending ≡ Run Done → ⊥) → logged_call_by edition s log (k + j) ≡ first

-- It holds of every accepted call by either edition. Keys are lent as bytes, so each is below 256.
abbrev pub LogSplits : Type 0
LogSplits = (edition : Edition) (s : Start) (k j : ℕ) (log : List ℕ) → are_bytes s.bytes ≡ true
    → admission_of s (k + j) ≡ Accepted
    → Splits edition s k j log (logged_call_by edition s log k)
