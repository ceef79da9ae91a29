-- The call of a logged run: turned down as the run is, with the log untouched; or run.
use Rattle.std.specs.Prelude.{Ok, Err}
use Rattle.std.specs.Prelude.{ℕ, List}
use Rattle.machine.specs.Edition.{Edition, third, second}
use Rattle.run.specs.declared.Ending.TheVariants.{Refused}
use Rattle.run.specs.Run.{Start, begin}
use Rattle.run.specs.Refusals.{admission_of, ending_stop, Admission}
use Rattle.logging.specs.declared.LoggedAnswer.{LoggedAnswer}
use Rattle.logging.specs.declared.LoggedEnding.{LoggedEnding}
use Rattle.logging.specs.declared.LoggedEnding.TheVariants.{Run, LogFull}
use Rattle.logging.specs.LoggedRun.{Logged, with_log, logged_run_by}

unfoldable pub logged_admitted_by : Edition → Admission → Start → List ℕ → ℕ → Logged
logged_admitted_by edition (Ok _) s log n = logged_run_by edition s log n
logged_admitted_by edition (Err r) s log n = with_log (Run (Refused r)) (begin s) log 0

unfoldable pub logged_call_by : Edition → Start → List ℕ → ℕ → Logged
logged_call_by edition s log n = logged_admitted_by edition (admission_of s n) s log n

-- The call of a logged run by the third edition's step (M26), and by the second's (M27.9).
abbrev pub logged_call_of : Start → List ℕ → ℕ → Logged
logged_call_of = logged_call_by third

abbrev pub second_logged_call_of : Start → List ℕ → ℕ → Logged
second_logged_call_of = logged_call_by second

-- The stop's number: 3 for log full, after the three of a run.
abbrev pub logged_stop : LoggedEnding → ℕ
logged_stop (Run w) = ending_stop w
logged_stop LogFull = 3

-- What a logged call answers and leaves, as one value.
abbrev pub logged_end_of : LoggedAnswer → List ℕ → List ℕ → List ℕ → Logged
logged_end_of r memory output log = record {
  machine = r.machine;
  memory = memory;
  output = output;
  steps = r.steps;
  keys = r.keys;
  shown = r.shown;
  log = log;
  words = r.words;
  ending = r.ending;
}
