-- Each number, by computation.
use mathlib.Core.Path.{refl}
use Rattle.word.specs.Writing.{write_of}
use Rattle.lc3_words.specs.Flat.{flat_of}
use Rattle.lc3_words.specs.Writing.{written_of}
use Rattle.numbers.specs.Numbers.{NumbersHold}

pub numbers_hold : NumbersHold
unfolding write_of flat_of written_of
numbers_hold = record {
  stops = refl;
  stops_logged = refl;
  log_full = refl;
  refusals = refl;
  indices = refl;
  index_below_clock = λ i. refl;
  index_out_of_order = λ i. refl;
  refusal_below_clock = λ i. refl;
  refusal_out_of_order = λ i. refl;
  reasons = refl;
  rules_of_causes = refl;
  interrupts = refl;
  kinds = refl;
  last_kind = refl;
  no_kind_19 = refl;
  register_1 = refl;
  field_2 = refl;
  mask_3 = refl;
  negative_vector = refl;
  negative_reserved = refl;
}
