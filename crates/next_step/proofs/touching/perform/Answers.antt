-- `next_step::touching::perform` meets its contract: each arm of the match is its callee.
use mathlib.Core.Path.{refl}
use Rattle.machine.specs.Outcome.{illegal}
use Rattle.machine.specs.Entry.{raised}
use Rattle.machine.specs.Step.{perform_by}
use borrow.Author.Rules.{rules}
use Rattle.next_step.proofs.touching.perform.Goals as goal

pub returns-in-Move : goal.returns-in-Move
unfolding perform_by
returns-in-Move c = λ clock. rw c.in-Move.is c.untouched.ensures

pub returns-in-Put : goal.returns-in-Put
unfolding perform_by
returns-in-Put c = λ clock. rw c.in-Put.is c.untouched-in-Put.ensures

pub returns-in-Jump : goal.returns-in-Jump
unfolding perform_by
returns-in-Jump c = λ clock. rw c.in-Jump.is c.untouched-in-Jump.ensures

pub returns-in-Load : goal.returns-in-Load
unfolding perform_by
returns-in-Load c = λ clock. rw c.in-Load.is (c.load_to.ensures clock _ _)

pub returns-in-LoadBy : goal.returns-in-LoadBy
unfolding perform_by
returns-in-LoadBy c = λ clock. rw c.in-LoadBy.is (c.load_by.ensures clock _)

pub returns-in-Store : goal.returns-in-Store
unfolding perform_by
returns-in-Store c = λ clock. rw c.in-Store.is (c.store_at.ensures clock _ _)

pub returns-in-StoreBy : goal.returns-in-StoreBy
unfolding perform_by
returns-in-StoreBy c = λ clock. rw c.in-StoreBy.is (c.store_by.ensures clock _)

pub returns-in-Call : goal.returns-in-Call
unfolding perform_by
returns-in-Call c = λ clock. rw c.in-Call.is (c.trap.ensures clock _)

pub returns-in-Illegal : goal.returns-in-Illegal
unfolding perform_by raised
returns-in-Illegal c = λ clock. rw c.in-Illegal.is (c.enter.ensures clock _ _ _ illegal refl refl)

pub returns-in-Return : goal.returns-in-Return
unfolding perform_by
returns-in-Return c = λ clock. rw c.in-Return.is (c.return_from_interrupt.ensures clock _)
