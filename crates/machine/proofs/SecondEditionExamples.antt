-- The rules of the second edition hold in the steps of the table: each of them is computed.
use mathlib.Core.Path.{refl}
use Rattle.machine.specs.SecondEditionExamples.{SecondEditionRulesHold}
use Rattle.machine.proofs.Opened.{opened}

pub second_edition_rules_hold : SecondEditionRulesHold
unfolding opened
second_edition_rules_hold = record {
  lea_sets_codes = refl;
  trap_links = refl;
  user_mode_reaches_every_address = refl;
  other_devices_stay = refl;
  jsrr_r7_continues_at_next = refl;
  other_entries_stay = refl;
}
