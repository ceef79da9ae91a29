-- `step_parts::devices::after_load` meets its contract: two addresses clear ready, and no other alters anything.
use Rattle.std.proofs.Common.{rules, ne_eqb}
use Rattle.machine.specs.Devices.{kbsr_after_load, timer_status_after_load, after_load}
use Rattle.step_parts.proofs.devices.after_load.Goals as goal

pub returns-in-65026 : goal.returns-in-65026
unfolding after_load kbsr_after_load timer_status_after_load
returns-in-65026 c =
    λ regs clock. rw c.in-65026.is (c.with_kbsr.ensures regs clock)

pub returns-in-65032 : goal.returns-in-65032
unfolding after_load kbsr_after_load timer_status_after_load
returns-in-65032 c =
    λ regs clock. rw c.in-65032.is (c.with_timer.ensures regs clock)

pub returns-in_default : goal.returns-in_default
unfolding after_load kbsr_after_load timer_status_after_load
returns-in_default c =
    λ regs clock.
    let a = c.args.a in
    rw (ne_eqb a 0xFE02 c.in_default.in_default-own.rest.0.1, ne_eqb a 0xFE08 c.in_default.in_default-own.rest.1)
