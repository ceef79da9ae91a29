-- `step_parts::timer::count_down` meets its contract: a timer that is off stays, and the count of any other falls.
use Rattle.std.proofs.Common.{rules, eq-eqb, ne_eqb}
use Rattle.machine.specs.Timer.{ticked, after_timer}
use Rattle.step_parts.proofs.timer.count_down.Goals as goal

pub returns-then-interval-eq0 : goal.returns-then-interval-eq0
unfolding after_timer ticked
returns-then-interval-eq0 c =
    λ regs clock. rw (eq-eqb _ _ c.if-interval-eq0.true)

pub returns : goal.returns
unfolding after_timer ticked
returns c =
    λ regs clock. rw (ne_eqb _ _ c.if-interval-eq0.false) (c.fall.ensures regs clock)
