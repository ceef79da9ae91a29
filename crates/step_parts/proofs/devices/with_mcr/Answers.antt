-- `step_parts::devices::with_mcr` meets its contract: by those of the two that it calls.
use Rattle.std.proofs.Common.{rules}
use Rattle.step_parts.proofs.devices.with_mcr.Goals as goal

pub returns : goal.returns
returns c =
    λ regs clock. rw (c.with_devices.ensures regs clock, c.with_mcr.ensures)
