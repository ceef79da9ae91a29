-- What a log tells of the steps of the table: each is computed.
use mathlib.Core.Path.{refl}
use Rattle.machine.specs.Rules.{fetched_word_by}
use Rattle.machine.specs.LogExamples.{LogExamplesHold}
use Rattle.machine.proofs.Opened.{opened}

pub log_examples_hold : LogExamplesHold
unfolding opened fetched_word_by
log_examples_hold = record {
  zero_fetched = refl;
  return_0 = refl;
  trap_1 = refl;
  illegal_3 = refl;
  fetch_4 = refl;
  fetch_4_above = refl;
  keyboard_5 = refl;
  keyboard_5_by_key = refl;
  keyboard_5_unchecked = refl;
  timer_6 = refl;
  timer_6_first = refl;
  timer_6_by_count = refl;
  timer_6_unchecked = refl;
}
