-- The rules of a step hold in the steps of the table: each of them is computed.
use mathlib.Core.Path.{refl}
use Rattle.machine.specs.RuleExamples.{KeysAndInterrupt, Addresses, Instructions, Entries, TimerRules}
use Rattle.machine.specs.RuleExamples.{DeviceRegisters, RulesHold}
use Rattle.machine.proofs.Opened.{opened}

keys_and_interrupt : KeysAndInterrupt
unfolding opened
keys_and_interrupt = record {
  keys_of_this_time = refl;
  keys_arrive = refl;
  later_key_overwrites = refl;
  interrupt_is_an_entry = refl;
  no_interrupt_otherwise = refl;
}

addresses : Addresses
unfolding opened
addresses = record {
  sums_wrap = refl;
  privileged_addresses = refl;
  access_exceptions = refl;
}

instructions : Instructions
unfolding opened
instructions = record {
  add_and_not = refl;
  loads = refl;
  lea_keeps_codes = refl;
  stores = refl;
  br_taken_if_a_tested_code_is_set = refl;
  calls_and_jumps = refl;
}

entries : Entries
unfolding opened
entries = record {
  entries_from_user_mode = refl;
  entries_from_supervisor_mode = refl;
  vector_after_pushes = refl;
  rti_pops = refl;
}

timer_rules : TimerRules
unfolding opened
timer_rules = record {
  count_falls_and_reloads = refl;
  off_counts_nothing = refl;
  timer_interrupts_below_6 = refl;
  timer_goes_first = refl;
  entered_in_that_very_step = refl;
  status_register = refl;
  interval_register = refl;
}

device_registers : DeviceRegisters
unfolding opened
device_registers = record {
  pointers_are_loads = refl;
  kbsr_store_copies_enable = refl;
  kbdr_load_clears_ready = refl;
  dsr_loads_x8000 = refl;
  ddr_store_shows_byte = refl;
  busy_display_shows_nothing = refl;
  busy_count_falls = refl;
  psr_store_keeps_mode = refl;
  mcr_store_copies_bit_15 = refl;
  other_addresses_are_plain = refl;
}

pub rules_hold : RulesHold
rules_hold = record {
  keys_and_interrupt = keys_and_interrupt;
  addresses = addresses;
  instructions = instructions;
  entries = entries;
  timer_rules = timer_rules;
  device_registers = device_registers;
}
