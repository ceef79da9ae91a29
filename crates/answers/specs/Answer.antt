-- What a host is answered: the end of a call, with its refusal, the index of the entry that offends, and its stop as
-- numbers.
use Rattle.std.specs.Prelude.{ℕ, List}
use Rattle.machine.specs.declared.Machine.{Machine}
use Rattle.run.specs.declared.Report.{Report}
use Rattle.run.specs.Run.{End}
use Rattle.run.specs.Refusals.{ending_refusal, ending_index, ending_stop}
use Rattle.answers.specs.declared.Lc3Answer.{Lc3Answer}
use Rattle.answers.specs.declared.Lc3Report.{Lc3Report}

-- Everything that a call answers and leaves.
pub record Answered : Type 0 where
  pub machine : Machine
  pub memory : List ℕ
  pub output : List ℕ
  pub steps : ℕ
  pub keys : ℕ
  pub shown : ℕ
  pub index : ℕ
  pub refusal : ℕ
  pub stop : ℕ

-- The end of a call, as a host has it.
abbrev pub answer_of : End → Answered
answer_of e = record {
  machine = e.machine;
  memory = e.memory;
  output = e.output;
  steps = e.steps;
  keys = e.keys;
  shown = e.shown;
  index = ending_index e.ending;
  refusal = ending_refusal e.ending;
  stop = ending_stop e.ending;
}

-- A report in numbers alone.
abbrev pub report_of : Report → Lc3Report
report_of r = record {
  steps = r.steps;
  keys = r.keys;
  shown = r.shown;
  index = ending_index r.ending;
  refusal = ending_refusal r.ending;
  stop = ending_stop r.ending;
}

-- What the single step answers and leaves, and what the run does, each as one value.
abbrev pub reported : Machine → Lc3Report → List ℕ → List ℕ → Answered
reported m r memory output = record {
  machine = m;
  memory = memory;
  output = output;
  steps = r.steps;
  keys = r.keys;
  shown = r.shown;
  index = r.index;
  refusal = r.refusal;
  stop = r.stop;
}

abbrev pub answered : Lc3Answer → List ℕ → List ℕ → Answered
answered r memory output = record {
  machine = r.machine;
  memory = memory;
  output = output;
  steps = r.steps;
  keys = r.keys;
  shown = r.shown;
  index = r.index;
  refusal = r.refusal;
  stop = r.stop;
}
