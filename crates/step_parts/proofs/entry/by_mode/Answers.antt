-- `step_parts::entry::by_mode` meets its contract: by the two cases of bit 15.
use Rattle.std.proofs.Common.{le-leb}
use borrow.Author.Tests.{lt-leb}
use Rattle.machine.specs.Psr.{in_user_mode}
use Rattle.step_parts.proofs.entry.by_mode.Goals as goal

pub returns-then-psr-lt32768 : goal.returns-then-psr-lt32768
unfolding in_user_mode
returns-then-psr-lt32768 c =
    rw (lt-leb _ _ c.if-psr-lt32768.true)

pub returns-else-psr-lt32768 : goal.returns-else-psr-lt32768
unfolding in_user_mode
returns-else-psr-lt32768 c =
    rw (le-leb _ _ c.if-psr-lt32768.false)
