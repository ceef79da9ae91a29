-- The answers: by computing them.
use mathlib.Core.Path.{◌≡◌, refl}
use Rattle.sitting.specs.Values.{value_by}
use Rattle.sitting.proofs.Ours.{testing}
use Rattle.claims.specs.Encoding.{cell_of, cells_of, value_of, values_of, state_of, states_of, rows_of}
use Rattle.findings.specs.Finding.{nothing_wrong, wrong, unless, or_else, wrong_vector, wrong_interrupt, wrong_vectors}
use Rattle.findings.specs.Finding.{wrong_in, wrong_in_row, wrong_at, wrong_in_rows, wrong_with, certify_of}
use Rattle.certify_examples.specs.Monitor.{class_words, class_kinds, class_watched, class_rows, ends_from, joined}
use Rattle.certify_examples.specs.Examples.{answer_of, answer_for, answer_with, rows_with, LeaksAreFound}
use Rattle.certify_examples.specs.Examples.{StoresAreFound, UnfollowedIsFound, OtherFindings, ExamplesHold}
use Rattle.certify_examples.specs.Examples.{FindingsInOrder}

-- To unfold this is to compute an answer.
unfoldable pub computing : Unit {0}
unfolding testing value_by cell_of cells_of value_of values_of state_of states_of rows_of wrong unless
    or_else wrong_vector
    wrong_interrupt wrong_vectors wrong_in wrong_in_row wrong_at wrong_in_rows wrong_with certify_of
    class_words class_kinds
    class_watched class_rows ends_from joined answer_of rows_with
computing = tt

leaks : LeaksAreFound
unfolding computing
leaks = record {
  loads_answer = refl;
  loads_by_pointer = refl;
  loads_by_own_pointer = refl;
  peeks = refl;
  no_look = refl;
  other_bound = refl;
  changed_after_look = refl;
  beside = refl;
}

stores : StoresAreFound
unfolding computing
stores = record {
  pokes = refl;
  alters_code = refl;
  alters_answer = refl;
  makes_privileged = refl;
  enables_keyboard = refl;
}

unfollowed : UnfollowedIsFound
unfolding computing
unfollowed = record {
  keeps_elsewhere = refl;
  jumps_by_r0 = refl;
  to_own_word = refl;
  pops = refl;
  returns_deeper = refl;
  reserved = refl;
}

others : OtherFindings
unfolding computing
others = record {
  seven_watched = refl;
  no_stack = refl;
  least_stack = refl;
  three_words = refl;
  four_words = refl;
  no_row = refl;
  too_low = refl;
  secret_vector = refl;
  keyboard = refl;
  timer = refl;
  own_code = refl;
  own_state = refl;
  of_no_word = refl;
  shallow = refl;
  stack_not_known = refl;
  known_below_lem = refl;
}

certified : answer_for class_words ≡ nothing_wrong
unfolding computing
certified = refl

by_two : answer_with 0x020D 0x1022 ≡ nothing_wrong
unfolding computing
by_two = refl

in_order : FindingsInOrder
unfolding computing
in_order = record {
  nothing = refl;
  in_place = refl;
  first_vector = refl;
  vector_first = refl;
  keyboard_first = refl;
  x0103_is_free = refl;
  own_without = refl;
  secret_without = refl;
  first_state = refl;
}

pub examples_hold : ExamplesHold
examples_hold = record {
  certified = certified;
  by_two = by_two;
  leaks = leaks;
  stores = stores;
  unfollowed = unfollowed;
  others = others;
  in_order = in_order;
}
