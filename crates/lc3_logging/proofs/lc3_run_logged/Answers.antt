-- `lc3_run_logged` meets its contract: the tests answer as the definition does, and the rest is a callee's, in
-- numbers; an accepted call has what the run requires.
use mathlib.Core.Path.{sym, ap, ◌∙◌}
use Rattle.run.specs.Run.{begin}
use Rattle.run.specs.Call.{start_of}
use Rattle.run.proofs.Acceptance.{accepted_is_acceptable, wrong_size_is_rejected}
use Rattle.logging.specs.declared.LoggedAnswer.{LoggedAnswer}
use Rattle.logging.specs.LoggedCall.{logged_admitted_by, logged_call_by, logged_end_of}
use Rattle.lc3_logging.specs.LoggedAnswer.{logged_answer_of}
use borrow.Author.Rules.{rules}
use Rattle.lc3_logging.proofs.lc3_run_logged.Goals as goal

pub returns-in_default : goal.returns-in_default
unfolding logged_call_by logged_admitted_by begin
returns-in_default c =
    let a = c.args in
    rw (wrong_size_is_rejected (start_of a.m a.memory.now a.times.now a.bytes.now a.output.now) a.n
    c.in_default.ensures.cases)
    (c.into.ensures a.memory.now a.output.now a.log.now
    ∙ ap (λ (x : LoggedAnswer). logged_answer_of (logged_end_of x a.memory.now a.output.now a.log.now))
    c.refused.ensures)

pub run_accepted-requires : goal.run_accepted-requires
run_accepted-requires c =
    let a = c.args in
    let k = accepted_is_acceptable (start_of a.m c.in-Some.whole.now a.times.now a.bytes.now a.output.now)
    a.n (sym (c.admission.ensures a.output.now)
    ∙ c.in-Ok.is) in
    record {
      times_len = k.equal;
      n_bound = k.clock;
    }

pub returns-in-Ok : goal.returns-in-Ok
unfolding logged_call_by logged_admitted_by
returns-in-Ok c =
    let went = c.run_accepted in
    let admission = c.admission in
    let a = c.args in
    rw (← c.in-Some.ensures.cases.same, ← admission.ensures a.output.now, c.in-Ok.is)
    (c.into-in-Ok.ensures _ _ _ ∙ ap logged_answer_of went.ensures)

pub returns-in-Err : goal.returns-in-Err
unfolding logged_call_by logged_admitted_by begin
returns-in-Err c =
    let a = c.args in
    let turned = c.refused-in-Err in
    rw (← c.in-Some.ensures.cases.same, ← c.admission.ensures a.output.now, c.in-Err.is)
    (c.into-in-Err.ensures c.in-Some.whole.now a.output.now a.log.now
    ∙ ap (λ (x : LoggedAnswer). logged_answer_of (logged_end_of x c.in-Some.whole.now a.output.now a.log.now))
    turned.ensures)
