-- What is told of the next step in each of the rows: each is computed.
use mathlib.Core.Path.{refl}
use Rattle.machine.specs.Rules.{fetched_word_by}
use Rattle.run.proofs.Opened.{opened}
use Rattle.telling.specs.ToldExamples.{ToldExamplesHold}

pub told_examples_hold : ToldExamplesHold
unfolding opened fetched_word_by
told_examples_hold = record {
  three_told = refl;
  fetched_alone = refl;
  pointer_then_datum = refl;
  pointer_then_store = refl;
  store_to_device = refl;
  store_to_psr = refl;
  second_stores_to_word = refl;
  pops = refl;
  trap_pushes = refl;
  second_trap_links = refl;
  fetch_denied = refl;
  second_denies_none = refl;
  key_arrives = refl;
  key_waits = refl;
  halted = refl;
  refused_11 = refl;
  refused_13 = refl;
  last_step = refl;
}
