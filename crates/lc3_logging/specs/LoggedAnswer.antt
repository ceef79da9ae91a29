-- What a host is answered by a logged run: what it is answered by a run, with the stop's number, the log and the count
-- of its words written.
use Rattle.std.specs.Prelude.{ℕ, List}
use Rattle.machine.specs.declared.Machine.{Machine}
use Rattle.run.specs.Refusals.{ending_refusal, ending_index}
use Rattle.logging.specs.LoggedRun.{Logged, run_ending}
use Rattle.logging.specs.LoggedCall.{logged_stop}
use Rattle.lc3_logging.specs.declared.Lc3LoggedAnswer.{Lc3LoggedAnswer}

-- Everything that a logged call answers and leaves.
pub record LoggedAnswered : Type 0 where
  pub machine : Machine
  pub memory : List ℕ
  pub output : List ℕ
  pub log : List ℕ
  pub steps : ℕ
  pub keys : ℕ
  pub shown : ℕ
  pub logged : ℕ
  pub index : ℕ
  pub refusal : ℕ
  pub stop : ℕ

-- The end of a logged call, as a host has it.
abbrev pub logged_answer_of : Logged → LoggedAnswered
logged_answer_of l = record {
  machine = l.machine;
  memory = l.memory;
  output = l.output;
  log = l.log;
  steps = l.steps;
  keys = l.keys;
  shown = l.shown;
  logged = l.words;
  index = ending_index (run_ending l.ending);
  refusal = ending_refusal (run_ending l.ending);
  stop = logged_stop l.ending;
}

-- What the function answers and leaves, as one value.
abbrev pub logged_answered : Lc3LoggedAnswer → List ℕ → List ℕ → List ℕ → LoggedAnswered
logged_answered r memory output log = record {
  machine = r.machine;
  memory = memory;
  output = output;
  log = log;
  steps = r.steps;
  keys = r.keys;
  shown = r.shown;
  logged = r.logged;
  index = r.index;
  refusal = r.refusal;
  stop = r.stop;
}
