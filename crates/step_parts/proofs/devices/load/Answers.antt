-- `step_parts::devices::load` meets its contract: each arm of the match knows its address; the last one knows that it
-- is no device's.
use Rattle.std.proofs.Common.{rules}
use Rattle.machine.specs.Edition.{edition_of}
use Rattle.machine.specs.Devices.{is_device_by, display_is_ready, display_status, device_value, loaded_value_by}
use Rattle.machine.proofs.DeviceLaws.{no_device, psr_is_device}
use Rattle.step_parts.proofs.devices.load.Goals as goal

pub returns-in-65024 : goal.returns-in-65024
unfolding loaded_value_by is_device_by device_value
returns-in-65024 c =
    λ regs clock. rw c.in-65024.is

pub returns-in-65026 : goal.returns-in-65026
unfolding loaded_value_by is_device_by device_value
returns-in-65026 c =
    λ regs clock. rw c.in-65026.is

pub returns-in-65028 : goal.returns-in-65028
unfolding loaded_value_by is_device_by device_value display_status display_is_ready
returns-in-65028 c =
    λ regs clock. rw (c.in-65028.is, c.display_status.ensures)

pub returns-in-65030 : goal.returns-in-65030
unfolding loaded_value_by is_device_by device_value
returns-in-65030 c =
    λ regs clock. rw c.in-65030.is

pub returns-in-65032 : goal.returns-in-65032
unfolding loaded_value_by is_device_by device_value
returns-in-65032 c =
    λ regs clock. rw c.in-65032.is

pub returns-in-65034 : goal.returns-in-65034
unfolding loaded_value_by is_device_by device_value
returns-in-65034 c =
    λ regs clock. rw c.in-65034.is

pub returns-in-65532 : goal.returns-in-65532
unfolding loaded_value_by device_value
returns-in-65532 c =
    λ regs clock.
    let e = edition_of c.args.second in
    rw (c.in-65532.is, psr_is_device e, c.psr_or_word.ensures)

pub returns-in-65534 : goal.returns-in-65534
unfolding loaded_value_by is_device_by device_value
returns-in-65534 c =
    λ regs clock. rw c.in-65534.is

pub returns-in_default : goal.returns-in_default
unfolding loaded_value_by
returns-in_default c =
    λ regs clock.
    let e = edition_of c.args.second in
    let a = c.args.a in
    let r = c.in_default.in_default-own.rest in
    rw (
      no_device e a r.0.0.0.0.0.0.0.1 r.0.0.0.0.0.0.1 r.0.0.0.0.0.1 r.0.0.0.0.1
          r.0.0.0.1 r.0.0.1 r.0.1 r.1,
      c.word_at.ensures,
    )
