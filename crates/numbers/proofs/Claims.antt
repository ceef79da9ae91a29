-- Each row, by computation.
use mathlib.Core.Path.{refl}
use Rattle.sitting.specs.Values.{kind_of, number_of, value_by}
use Rattle.claims.specs.Encoding.{cell_of, cells_of, value_of, values_of, state_of, states_of, rows_of}
use Rattle.numbers.specs.Claims.{ClaimsHold}

pub claims_hold : ClaimsHold
unfolding kind_of number_of value_by cell_of cells_of value_of values_of state_of states_of rows_of
claims_hold = record {
  cells = refl;
  more_words = refl;
  values = refl;
  state = refl;
  no_number = refl;
  rows = refl;
  claim = refl;
}
