-- The logged run of n steps, by its last step, from the definitions of the run: each step is the run's own, and its
-- entry is made from that step. It is defined by either edition, as the log is.
use Rattle.std.specs.Prelude.{ℕ, zero, suc, ◌+◌, cond, List}
use Rattle.std.proofs.lemmas.List.Edits.{sets}
use Rattle.machine.specs.declared.Machine.{Machine}
use Rattle.machine.specs.Edition.{Edition, third}
use Rattle.machine.specs.Step.{step_by}
use Rattle.run.specs.declared.Ending.{Ending}
use Rattle.run.specs.declared.Ending.TheVariants.{Done, Halted, OutputFull, Refused}
use Rattle.run.specs.Run.{Start, End, begin, step_made_by, is_halted, is_full_by}
use Rattle.logging.specs.declared.LoggedEnding.{LoggedEnding}
use Rattle.logging.specs.declared.LoggedEnding.TheVariants.{Run, LogFull}
use Rattle.logging.specs.Log.{entry_by, lacks_room}

-- What a logged run answers and leaves: what a run does, the log with the count of its words written, and how it ended.
pub record Logged : Type 0 where
  pub machine : Machine
  pub memory : List ℕ
  pub output : List ℕ
  pub steps : ℕ
  pub keys : ℕ
  pub shown : ℕ
  pub log : List ℕ
  pub words : ℕ
  pub ending : LoggedEnding

-- What a run answers and leaves but for its ending, with this log, so many words of which are written, and ended so.
abbrev pub with_log : LoggedEnding → End → List ℕ → ℕ → Logged
with_log w e log words = record {
  machine = e.machine;
  memory = e.memory;
  output = e.output;
  steps = e.steps;
  keys = e.keys;
  shown = e.shown;
  log = log;
  words = words;
  ending = w;
}

-- The run apart from its log. One that a full log stopped is in itself done.
abbrev pub run_ending : LoggedEnding → Ending
run_ending (Run w) = w
run_ending LogFull = Done

abbrev pub run_in : Logged → End
run_in l = record {
  machine = l.machine;
  memory = l.memory;
  output = l.output;
  steps = l.steps;
  keys = l.keys;
  shown = l.shown;
  ending = run_ending l.ending;
}

-- Nothing has happened yet.
unfoldable pub begin_logged : Start → List ℕ → Logged
begin_logged s log = with_log (Run Done) (begin s) log 0

-- The same, ended in another way.
unfoldable pub stopped_by : LoggedEnding → Logged → Logged
stopped_by w l = with_log w (run_in l) l.log l.words

-- The next step made, and its entry written after those of the steps before: "a lent output or log is written from its
-- start, the rest stays as lent".
unfoldable pub step_logged_by : Edition → Start → Logged → Logged
step_logged_by edition s l =
    with_log (Run Done) (step_made_by (step_by edition) s (run_in l))
    (sets l.log l.words (entry_by edition s (run_in l))) (l.words + 3)

-- The stops, in their order: done, halted, log full, output full. "A further stop, log full, stands between halted and
-- output full."
unfoldable pub one_more_logged_by : Edition → LoggedEnding → Start → Logged → Logged
one_more_logged_by edition (Run Done) s l =
    cond (is_halted (run_in l)) (stopped_by (Run Halted) l)
    (cond (lacks_room l.log l.words) (stopped_by LogFull l)
    (cond (is_full_by (step_by edition) s (run_in l)) (stopped_by (Run OutputFull) l) (step_logged_by edition s l)))
one_more_logged_by edition (Run Halted) s l = l
one_more_logged_by edition (Run OutputFull) s l = l
one_more_logged_by edition (Run (Refused r)) s l = l
one_more_logged_by edition LogFull s l = l

unfoldable pub logged_run_by : Edition → Start → List ℕ → ℕ → Logged
logged_run_by edition s log zero = begin_logged s log
logged_run_by edition s log (suc n) =
    let l : Logged = logged_run_by edition s log n in
    one_more_logged_by edition l.ending s l

-- ---- by the third edition

abbrev pub step_logged : Start → Logged → Logged
step_logged = step_logged_by third

abbrev pub one_more_logged : LoggedEnding → Start → Logged → Logged
one_more_logged = one_more_logged_by third

abbrev pub logged_run_of : Start → List ℕ → ℕ → Logged
logged_run_of = logged_run_by third
