-- What the theorems speak of: each value is computed.
use mathlib.Core.Path.{refl}
use Rattle.word.specs.Mask.{places_of}
use Rattle.machine.specs.Visible.{words_below, user_words, words_above}
use Rattle.machine.specs.Exclusions.{instruction_exclusions, accesses_of, address_exclusions, access_exclusions}
use Rattle.machine.specs.Exclusions.{obeyed_exclusions, taken_exclusions, exclusions_of}
use Rattle.machine.specs.Timer.{ticked_by}
use Rattle.run.specs.OneAlteredWord.{with_word, only}
use Rattle.machine.proofs.Opened.{opened}
use Rattle.rows.specs.Notions.{NotionsHold}

pub notions_hold : NotionsHold
unfolding opened places_of words_below user_words words_above instruction_exclusions accesses_of address_exclusions
    access_exclusions obeyed_exclusions taken_exclusions exclusions_of ticked_by with_word only
notions_hold = record {
  below = refl;
  inside = refl;
  above = refl;
  hidden = refl;
  hidden_elsewhere = refl;
  hidden_below = refl;
  hidden_above = refl;
  three_instructions = refl;
  no_other = refl;
  privileged_addresses = refl;
  psr_addresses = refl;
  odd_neighbours = refl;
  in_another_record = refl;
  none_at_interrupt = refl;
  places_of_fixed_bits = refl;
  traps_and_exceptions = refl;
  interrupts = refl;
  new_interval_lem = refl;
  three_steps = refl;
  eight_steps = refl;
  comes_to_zero = refl;
  off_never_expires = refl;
  off_stays = refl;
  one_word = refl;
  high_word = refl;
  only_one = refl;
  only_high = refl;
}
