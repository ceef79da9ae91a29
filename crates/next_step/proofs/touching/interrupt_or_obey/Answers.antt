-- `next_step::touching::interrupt_or_obey` meets its contract: each arm of the match is its callee.
use mathlib.Core.Path.{refl, sym}
use Rattle.machine.specs.Outcome.{interrupt}
use Rattle.machine.specs.Entry.{interrupted}
use Rattle.machine.specs.Step.{interrupted_or_obeyed_by}
use borrow.Author.Rules.{rules}
use Rattle.next_step.proofs.touching.interrupt_or_obey.Goals as goal

pub returns-in-None : goal.returns-in-None
unfolding interrupted_or_obeyed_by
returns-in-None c = λ clock. rw c.in-None.is (c.obey.ensures clock)

pub returns-in-Some : goal.returns-in-Some
unfolding interrupted_or_obeyed_by interrupted
returns-in-Some c =
    λ clock.
    rw c.in-Some.is
    (c.enter.ensures clock _ _ _ (interrupt c.in-Some.i.vector) refl (sym c.interrupt_rule.ensures))
