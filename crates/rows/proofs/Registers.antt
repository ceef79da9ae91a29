-- The addresses of device registers and the privileged ones: each address is asked.
use mathlib.Core.Path.{refl}
use Rattle.machine.specs.Protection.{privileged}
use Rattle.machine.specs.Devices.{is_device_by}
use Rattle.rows.specs.Registers.{which, RegistersHold}

pub registers_hold : RegistersHold
unfolding which is_device_by privileged
registers_hold = record {
  by_third_edition = refl;
  by_second_edition = refl;
  privileged_from_zero = refl;
  privileged_changes = refl;
}
