-- `step_parts::devices::store_psr` meets its contract: by the edition, whether xFFFC is the PSR's address.
use Rattle.std.proofs.Common.{ap, rules}
use Rattle.machine.specs.declared.Machine.{Machine}
use Rattle.machine.specs.Edition.{edition_of}
use Rattle.machine.specs.Devices.{psr_store, device_store, stored_by}
use Rattle.machine.proofs.DeviceLaws.{psr_is_device}
use Rattle.step_parts.specs.Delivery.{no_output}
use Rattle.step_parts.proofs.devices.store_psr.Goals as goal

pub returns-then-second : goal.returns-then-second
unfolding stored_by
returns-then-second c = λ regs clock.
    let a = c.args in
    rw (
      psr_is_device (edition_of a.second),
      c.if-second.true,
      c.set_word.ensures,
    )

pub returns : goal.returns
unfolding stored_by device_store psr_store
returns c =
    λ regs clock.
    let a = c.args in
    rw (psr_is_device (edition_of a.second), c.if-second.false)
    (ap (λ (m : Machine). no_output m a.memory.now) (c.with_psr.ensures regs clock))
