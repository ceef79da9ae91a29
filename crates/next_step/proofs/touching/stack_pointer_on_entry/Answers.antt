-- `next_step::touching::stack_pointer_on_entry` meets its contract: by the two cases of bit 15.
use mathlib.Core.Path.{refl}
use borrow.Author.Tests.{le-leb, lt-leb}
use Rattle.machine.specs.Psr.{in_user_mode}
use Rattle.machine.specs.Entry.{stack_pointer_on_entry}
use borrow.Author.Rules.{rules}
use Rattle.next_step.proofs.touching.stack_pointer_on_entry.Goals as goal

pub returns-then-c-lt32768 : goal.returns-then-c-lt32768
unfolding stack_pointer_on_entry in_user_mode
returns-then-c-lt32768 c = λ clock. rw (lt-leb _ _ c.if-c-lt32768.true) c.register.ensures

pub returns : goal.returns
unfolding stack_pointer_on_entry in_user_mode
returns c = λ clock. rw (le-leb _ _ c.if-c-lt32768.false) refl
