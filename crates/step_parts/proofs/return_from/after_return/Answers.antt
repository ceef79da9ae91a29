-- `step_parts::return_from::after_return` meets its contract: by the two cases of the popped PSR's bit 15.
use Rattle.std.proofs.Common.{rules, le-leb}
use borrow.Author.Tests.{lt-leb}
use Rattle.machine.specs.Psr.{in_user_mode}
use Rattle.machine.specs.Return.{after_return}
use Rattle.step_parts.proofs.return_from.after_return.Goals as goal

pub returns-then-psr-lt32768 : goal.returns-then-psr-lt32768
unfolding after_return in_user_mode
returns-then-psr-lt32768 c =
    λ clock. rw (lt-leb _ _ c.if-psr-lt32768.true, c.set_register.ensures)

pub returns : goal.returns
unfolding after_return in_user_mode
returns c =
    λ clock. rw (le-leb _ _ c.if-psr-lt32768.false, c.set_register-2.ensures)
