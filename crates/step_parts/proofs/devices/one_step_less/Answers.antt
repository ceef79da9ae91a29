-- `step_parts::devices::one_step_less` meets its contract: a count of 0 stays, and any other falls by 1.
use Rattle.std.proofs.Common.{◌+◌, rules}
use Rattle.machine.specs.Step.{busy_after, after_tick}
use Rattle.step_parts.proofs.devices.one_step_less.Goals as goal

pub returns-then-busy-eq0 : goal.returns-then-busy-eq0
unfolding after_tick busy_after
returns-then-busy-eq0 c =
    λ regs clock. rw c.if-busy-eq0.true

pub returns : goal.returns
unfolding after_tick busy_after
returns c =
    λ regs clock. c.with_busy.ensures regs (clock + 1)
