-- `lc3_run` meets its contract: the tests answer as the definition does, and the rest is a callee's, in numbers; an
-- accepted call has what the run requires.
use mathlib.Core.Path.{sym, ap, ◌∙◌}
use Rattle.run.specs.Call.{admitted_by, call_by, start_of}
use Rattle.run.proofs.Acceptance.{accepted_is_acceptable, wrong_size_is_rejected}
use Rattle.answers.specs.Answer.{answer_of}
use borrow.Author.Rules.{rules}
use Rattle.lc3_machine.proofs.lc3_run.Goals as goal

pub returns-in_default : goal.returns-in_default
unfolding call_by admitted_by
returns-in_default c =
    let a = c.args in
    rw (wrong_size_is_rejected (start_of a.m a.memory.now a.times.now a.bytes.now a.output.now) a.n
    c.in_default.ensures.cases)
    (c.refused.ensures a.memory.now a.times.now a.bytes.now a.output.now)

pub run_accepted-requires : goal.run_accepted-requires
run_accepted-requires c =
    let a = c.args in
    let k = accepted_is_acceptable (start_of a.m c.in-Some.whole.now a.times.now a.bytes.now a.output.now)
    a.n (sym (c.admission.ensures a.output.now)
    ∙ c.in-Ok.is) in
    record {
      times_len = k.equal;
      n_bound = k.clock;
    }

pub returns-in-Ok : goal.returns-in-Ok
unfolding call_by admitted_by
returns-in-Ok c =
    let went = c.run_accepted in
    let admission = c.admission in
    let a = c.args in
    rw (← c.in-Some.ensures.cases.same, ← admission.ensures a.output.now, c.in-Ok.is)
    (c.from.ensures went.new.memory went.new.output ∙ ap answer_of went.ensures)

pub returns-in-Err : goal.returns-in-Err
unfolding call_by admitted_by
returns-in-Err c =
    let a = c.args in
    rw (
      ← c.in-Some.ensures.cases.same,
      ← c.admission.ensures a.output.now,
      c.in-Err.is,
    )
    (c.refused-in-Err.ensures c.in-Some.whole.now a.times.now a.bytes.now a.output.now)
