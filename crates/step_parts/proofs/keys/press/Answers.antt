-- `step_parts::keys::press` meets its contract: by computation.
use Rattle.std.proofs.Common.{refl, rules}
use Rattle.machine.specs.Keys.{ready_after, last_key, after_keys}
use Rattle.step_parts.proofs.keys.press.Goals as goal

pub returns : goal.returns
unfolding after_keys ready_after last_key
returns c =
    λ regs clock. rw (c.with_devices.ensures regs clock, c.with_keyboard.ensures)
