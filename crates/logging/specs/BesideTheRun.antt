-- One logged run beside the ordinary run by the same edition: they differ in the log alone, and where the log is full,
-- in the stop.
use Rattle.std.specs.Prelude.{ℕ, ◌+◌, ◌*◌, ◌<◌, ◌≡◌, false, List, length, take, drop}
use Rattle.machine.specs.Edition.{Edition}
use Rattle.machine.specs.Step.{step_by}
use Rattle.run.specs.Run.{Start, is_halted}
use Rattle.run.specs.Call.{call_by}
use Rattle.logging.specs.declared.LoggedEnding.TheVariants.{LogFull}
use Rattle.logging.specs.Log.{entries_by}
use Rattle.logging.specs.LoggedRun.{Logged, run_in}
use Rattle.logging.specs.LoggedCall.{logged_call_by}

pub record AsTheRun (edition : Edition) (s : Start) (log : List ℕ) (n : ℕ) (l : Logged) : Type 0 where
  -- "Apart from the log, and unless it stops for a full log, it must equal the ordinary run"
  pub unless_full : (l.ending ≡ LogFull → ⊥) → run_in l ≡ call_by (step_by edition) s n
  -- "but for the stop it then equals the ordinary run of the steps made"
  pub where_full : l.ending ≡ LogFull → run_in l ≡ call_by (step_by edition) s l.steps
  -- log full stops a run that is neither done nor halted: "fewer than three log words are free"
  pub full_before_done : l.ending ≡ LogFull → l.steps < n
  pub full_not_halted : l.ending ≡ LogFull → is_halted (run_in l) ≡ false
  pub full_without_room : l.ending ≡ LogFull → length log < l.words + 3
  -- the log has the entries of the steps made, and "the rest stays as lent"
  pub entries : take l.words l.log ≡ entries_by edition s l.steps
  pub rest : drop l.words l.log ≡ drop l.words log
  pub size : length l.log ≡ length log
  pub three_a_step : l.words ≡ 3 * l.steps

-- It holds of every call by either edition, refused ones included.
abbrev pub LoggedRunIsTheRun : Type 0
LoggedRunIsTheRun = (edition : Edition) (s : Start) (log : List ℕ) (n : ℕ)
    → AsTheRun edition s log n (logged_call_by edition s log n)
