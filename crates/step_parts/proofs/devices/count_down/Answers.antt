-- `step_parts::devices::count_down` meets its contract: by the three cases of the display.
use Rattle.std.proofs.Common.{◌+◌, rules}
use Rattle.machine.specs.Step.{busy_after, after_tick}
use Rattle.step_parts.specs.Delivery.{shown_by}
use Rattle.step_parts.proofs.devices.count_down.Goals as goal

pub returns-in-Unchanged : goal.returns-in-Unchanged
unfolding shown_by
returns-in-Unchanged c =
    λ regs clock. rw c.in-Unchanged.is (c.one_step_less.ensures regs clock)

pub returns-in-Shown : goal.returns-in-Shown
unfolding shown_by after_tick busy_after
returns-in-Shown c =
    λ regs clock. rw c.in-Shown.is (c.with_busy.ensures regs (clock + 1))

pub returns-in-Full : goal.returns-in-Full
unfolding shown_by after_tick busy_after
returns-in-Full c =
    λ regs clock. rw c.in-Full.is (c.with_busy-in-Full.ensures regs (clock + 1))
