-- The rules of a step, and what a log tells of it, hold for programs in User mode: each row is computed.
use mathlib.Core.Path.{refl}
use Rattle.machine.specs.Rules.{fetched_word_by}
use Rattle.machine.proofs.Opened.{opened}
use Rattle.machine_examples.specs.UserMode.{UserMode, UserModeBySecondEdition, LogOfUserMode}

pub user_mode_lem : UserMode
unfolding opened
user_mode_lem = record {
  access_exceptions = refl;
  no_exception_otherwise = refl;
}

pub user_mode_by_second_edition : UserModeBySecondEdition
unfolding opened
user_mode_by_second_edition = record { user_mode_reaches_every_address = refl }

pub log_of_user_mode : LogOfUserMode
unfolding opened fetched_word_by
log_of_user_mode = record {
  instruction_0 = refl;
  word_before_the_step = refl;
  trap_1 = refl;
  privilege_2 = refl;
  illegal_3 = refl;
  load_4 = refl;
  store_4 = refl;
  pointer_4 = refl;
  pointed_4 = refl;
  fetched_below = refl;
}
