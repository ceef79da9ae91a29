-- `next_step::tell` meets its contract: the tests answer as the definition does, and the rest is a callee's; an
-- accepted call has what the step requires.
use mathlib.Core.Path.{sym, ◌∙◌}
use mathlib.Core.List.{[]}
use Rattle.run.specs.Call.{start_of}
use Rattle.run.proofs.Acceptance.{accepted_is_acceptable, wrong_size_is_rejected}
use borrow.Author.Rules.{rules}
use Rattle.next_step.proofs.tell.Goals as goal

pub tell_accepted-requires : goal.tell_accepted-requires
tell_accepted-requires c =
    let a = c.args in
    let k = accepted_is_acceptable (start_of a.m c.in-Some.whole.now a.times.now a.bytes.now []) 1
    (sym (c.admission.ensures []) ∙ c.in-Ok.is) in
    record {
      times_len = k.equal;
    }

pub returns-in_default : goal.returns-in_default
returns-in_default c = λ output.
    let a = c.args in
    rw (wrong_size_is_rejected (start_of a.m a.memory.now a.times.now a.bytes.now output) 1
    c.in_default.ensures.cases)
    c.nothing.ensures

pub returns-in-Ok : goal.returns-in-Ok
returns-in-Ok c = λ output.
    rw (← c.in-Some.ensures.cases.same, ← c.admission.ensures output, c.in-Ok.is) (c.tell_accepted.ensures output)

pub returns-in-Err : goal.returns-in-Err
returns-in-Err c = λ output.
    rw (← c.in-Some.ensures.cases.same, ← c.admission.ensures output, c.in-Err.is) c.nothing-in-Err.ensures
