-- `step::obeying::perform` meets its contract: each arm of the match is its callee.
use mathlib.Core.Path.{refl, ap}
use borrow.Author.Rules.{rules}
use Rattle.machine.specs.declared.Machine.{Machine}
use Rattle.machine.specs.Outcome.{illegal, plain_outcome}
use Rattle.machine.specs.Step.{perform_by}
use Rattle.step_parts.specs.Delivery.{delivered}
use Rattle.step_parts.proofs.DeliveryLaws.{raise_delivered}
use Rattle.step.proofs.obeying.perform.Goals as goal

pub returns-in-Move : goal.returns-in-Move
unfolding perform_by
returns-in-Move c = λ clock.
    let a = c.args in
    rw (c.in-Move.is, c.unshown.ensures)
    (ap (λ (m : Machine). delivered a.regs.now a.memory.now a.output.now
    (plain_outcome m a.memory.now))
    (c.move_to.ensures clock))

pub returns-in-Put : goal.returns-in-Put
unfolding perform_by
returns-in-Put c = λ clock.
    let a = c.args in
    rw (c.in-Put.is, c.unshown-in-Put.ensures)
    (ap (λ (m : Machine). delivered a.regs.now a.memory.now a.output.now
    (plain_outcome m a.memory.now))
    (c.put_in.ensures clock))

pub returns-in-Jump : goal.returns-in-Jump
unfolding perform_by
returns-in-Jump c = λ clock.
    let a = c.args in
    rw (c.in-Jump.is, c.unshown-in-Jump.ensures)
    (ap (λ (m : Machine). delivered a.regs.now a.memory.now a.output.now
    (plain_outcome m a.memory.now))
    (c.go_on_at.ensures a.regs.now clock))

pub returns-in-Load : goal.returns-in-Load
unfolding perform_by
returns-in-Load c = λ clock.
    let a = c.args in
    rw c.in-Load.is
    (c.load_to.ensures clock a.output.now)

pub returns-in-LoadBy : goal.returns-in-LoadBy
unfolding perform_by
returns-in-LoadBy c = λ clock.
    let a = c.args in
    rw c.in-LoadBy.is
    (c.load_by.ensures clock a.output.now)

pub returns-in-Store : goal.returns-in-Store
unfolding perform_by
returns-in-Store c = λ clock.
    rw c.in-Store.is
    (c.store_at.ensures clock)

pub returns-in-StoreBy : goal.returns-in-StoreBy
unfolding perform_by
returns-in-StoreBy c = λ clock.
    rw c.in-StoreBy.is
    (c.store_by.ensures clock)

pub returns-in-Call : goal.returns-in-Call
unfolding perform_by
returns-in-Call c = λ clock.
    let a = c.args in
    rw c.in-Call.is
    (c.trap.ensures clock a.output.now)

pub returns-in-Illegal : goal.returns-in-Illegal
unfolding perform_by
returns-in-Illegal c = λ clock.
    let a = c.args in
    rw (c.in-Illegal.is, c.unshown-in-Illegal.ensures)
    (raise_delivered a.regs.now a.memory.now a.output.now illegal _ _ _ _
    (c.raise.ensures clock illegal refl))

pub returns-in-Return : goal.returns-in-Return
unfolding perform_by
returns-in-Return c = λ clock.
    let a = c.args in
    rw c.in-Return.is
    (c.return_from_interrupt.ensures clock a.output.now)
