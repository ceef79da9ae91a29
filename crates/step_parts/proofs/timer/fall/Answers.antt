-- `step_parts::timer::fall` meets its contract: by the two cases of the count.
use Rattle.std.proofs.Common.{rules, le-leb}
use borrow.Author.Tests.{lt-leb}
use Rattle.step_parts.proofs.timer.fall.Goals as goal

pub returns-then-count-le1 : goal.returns-then-count-le1
returns-then-count-le1 c =
    λ regs clock. rw (le-leb _ _ c.if-count-le1.true) (c.with_timer.ensures regs clock)

pub returns : goal.returns
returns c =
    λ regs clock. rw (lt-leb _ _ c.if-count-le1.false) (c.with_timer-2.ensures regs clock)
