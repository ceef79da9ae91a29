-- `next_step::tell_accepted` meets its contract: halted, or the step is told.
use borrow.Author.Tests.{lt-ltb, le-ltb}
use Rattle.run.specs.Run.{begin, is_halted, arriving, next_step_by}
use borrow.Author.Rules.{rules}
use Rattle.next_step.proofs.tell_accepted.Goals as goal

pub returns-then-m-lt32768 : goal.returns-then-m-lt32768
unfolding begin is_halted
returns-then-m-lt32768 c = λ output. rw (lt-ltb _ _ c.if-m-lt32768.true) c.nothing.ensures

pub returns : goal.returns
unfolding begin is_halted next_step_by arriving
returns c = λ output. rw (le-ltb _ _ c.if-m-lt32768.false) c.tell_step.ensures
