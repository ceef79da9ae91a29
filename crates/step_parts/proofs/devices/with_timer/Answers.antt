-- `step_parts::devices::with_timer` meets its contract: by those of the two that it calls.
use Rattle.std.proofs.Common.{rules}
use Rattle.step_parts.proofs.devices.with_timer.Goals as goal

pub returns : goal.returns
returns c =
    λ regs clock. rw (c.with_devices.ensures regs clock, c.with_timer.ensures)
