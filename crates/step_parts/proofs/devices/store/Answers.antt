-- `step_parts::devices::store` meets its contract: each arm of the match knows its address; the last one knows that it
-- is no device's.
use Rattle.std.proofs.Common.{refl, ap, inl, inr, ⊎_elim, rules}
use Rattle.machine.specs.Edition.{edition_of}
use Rattle.machine.specs.declared.Machine.{Machine}
use Rattle.machine.specs.Outcome.{plain_outcome}
use Rattle.machine.specs.Devices.{is_device_by, kbsr_store, timer_status_store, timer_interval_store, mcr_store}
use Rattle.machine.specs.Devices.{device_store, stored_by}
use Rattle.machine.proofs.DeviceLaws.{no_device}
use Rattle.step_parts.specs.Delivery.{delivered}
use Rattle.step_parts.proofs.DeliveryLaws.{psr_store_delivered}
use Rattle.step_parts.proofs.devices.store.Goals as goal

pub returns-in-65024 : goal.returns-in-65024
unfolding stored_by is_device_by device_store kbsr_store
returns-in-65024 c = λ regs clock.
    let a = c.args in
    rw (c.in-65024.is, c.unshown.ensures, ← c.with_enable.ensures)
    (ap (λ (m : Machine). delivered regs a.memory.now a.output.now (plain_outcome m a.memory.now))
    (c.with_kbsr.ensures regs clock))

pub returns-in-65026 : goal.returns-in-65026
unfolding stored_by is_device_by device_store
returns-in-65026 c =
    λ regs clock. rw c.unshown-in-65026.ensures (⊎_elim (λ h. rw h) (λ h. rw h) c.in-65026.is)

pub returns-in-65030 : goal.returns-in-65030
unfolding stored_by is_device_by device_store
returns-in-65030 c = λ regs clock.
    rw c.in-65030.is
    (c.show-display.ensures _ regs
    c.args.memory.now clock refl)

pub returns-in-65032 : goal.returns-in-65032
unfolding stored_by is_device_by device_store timer_status_store
returns-in-65032 c = λ regs clock.
    let a = c.args in
    rw (c.in-65032.is, c.unshown-in-65032.ensures, ← c.with_enable-status.ensures)
    (ap (λ (m : Machine). delivered regs a.memory.now a.output.now (plain_outcome m a.memory.now))
    (c.with_timer.ensures regs clock))

pub returns-in-65034 : goal.returns-in-65034
unfolding stored_by is_device_by device_store timer_interval_store
returns-in-65034 c =
    λ regs clock.
    let a = c.args in
    rw (c.in-65034.is, c.unshown-in-65034.ensures)
    (ap (λ (m : Machine). delivered regs a.memory.now a.output.now (plain_outcome m a.memory.now))
    (c.with_timer-in-65034.ensures regs clock))

pub returns-in-65532 : goal.returns-in-65532
returns-in-65532 c = λ regs clock.
    let a = c.args in
    rw (c.in-65532.is, c.unshown-in-65532.ensures)
    (psr_store_delivered regs a.memory.now a.output.now (edition_of a.second) a.v _ _ _
    (c.store_psr.ensures regs clock))

pub returns-in-65534 : goal.returns-in-65534
unfolding stored_by is_device_by device_store mcr_store
returns-in-65534 c =
    λ regs clock.
    let a = c.args in
    rw (c.in-65534.is, c.unshown-in-65534.ensures)
    (ap (λ (m : Machine). delivered regs a.memory.now a.output.now (plain_outcome m a.memory.now))
    (c.with_mcr.ensures regs clock))

pub returns-in_default : goal.returns-in_default
unfolding stored_by
returns-in_default c = λ regs clock.
    let args = c.args in
    let r = c.in_default.in_default-own.rest in
    rw (
      no_device (edition_of args.second) args.a r.0.0.0.0.0.0.1
          (λ h. r.0.0.0.0.0.1 (inl h)) (λ h. r.0.0.0.0.0.1 (inr h)) r.0.0.0.0.1 r.0.0.0.1
          r.0.0.1 r.0.1 r.1,
      c.unshown-in_default.ensures,
      c.set_word.ensures,
    )
