-- The rules hold in the steps of OtherRecords.antt too: each of them is computed.
use mathlib.Core.Path.{refl}
use Rattle.machine.proofs.Opened.{opened}
use Rattle.rows.specs.OtherRecords.{Instructions, Accesses, Further, KeysAndVectors, Loads, MoreLoads}
use Rattle.rows.specs.OtherRecords.{Stores, MoreStores, Supervisor, Second, SecondInUserMode}
use Rattle.rows.specs.OtherRecords.{SecondInUserModeLoads, Single, OtherRecordsHold}

instructions : Instructions
unfolding opened
instructions = record { in_user_mode_lem = refl }

accesses : Accesses
unfolding opened
accesses = record { and_entries = refl }

further_steps : Further
unfolding opened
further_steps = record { further = refl }

keys_and_vectors : KeysAndVectors
unfolding opened
keys_and_vectors = record { every_bit = refl }

loads : Loads
unfolding opened
loads = record { of_registers = refl }

more_loads : MoreLoads
unfolding opened
more_loads = record { beside_them = refl }

stores : Stores
unfolding opened
stores = record { to_registers = refl }

more_stores : MoreStores
unfolding opened
more_stores = record { beside_them = refl }

supervisor_mode_lem : Supervisor
unfolding opened
supervisor_mode_lem = record { others = refl }

second_edition : Second
unfolding opened
second_edition = record { by_five_rules = refl }

second_in_user_mode : SecondInUserMode
unfolding opened
second_in_user_mode = record { device_registers = refl }

second_in_user_mode_loads : SecondInUserModeLoads
unfolding opened
second_in_user_mode_loads = record { device_registers = refl; ends_of_memory = refl }

single_values : Single
unfolding opened
single_values = record { values = refl }

pub other_records_hold : OtherRecordsHold
other_records_hold = record {
  instructions = instructions;
  accesses = accesses;
  further_steps = further_steps;
  keys_and_vectors = keys_and_vectors;
  loads = loads;
  more_loads = more_loads;
  stores = stores;
  more_stores = more_stores;
  supervisor_mode_lem = supervisor_mode_lem;
  second_edition = second_edition;
  second_in_user_mode = second_in_user_mode;
  second_in_user_mode_loads = second_in_user_mode_loads;
  single_values = single_values;
}
