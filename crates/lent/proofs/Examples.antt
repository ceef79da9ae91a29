-- The examples hold, by computation.
use mathlib.Core.Path.{refl}
use Rattle.lent.specs.Lent.{wrong_size, too_short}
use Rattle.lent.specs.Examples.{LentHolds}

pub lent_holds : LentHolds
unfolding wrong_size too_short
lent_holds = record {
  whole_memory = λ memory size. rw size refl;
  a_word_less = λ memory size. rw size refl;
  a_word_more = λ memory size. rw size refl;
  too_short = refl;
  fits_exactly = refl;
  nothing_to_write = refl;
  rest_as_lent = refl;
  refused_before_lem = refl;
  answered = refl;
  refused = refl;
  host_answered = refl;
  memory_size = refl;
  no_room = refl;
  broken_file = refl;
  past_memory = refl;
  range_past_memory = refl;
  outside_user_words = refl;
}
