-- The word logged, by computation.
use mathlib.Core.Path.{refl}
use Rattle.machine.specs.Rules.{fetched_word_by}
use Rattle.machine.proofs.Opened.{opened}
use Rattle.rows.specs.Logged.{LoggedHold}

pub logged_hold : LoggedHold
unfolding opened fetched_word_by
logged_hold = record { word_at_pc = refl; none_where_denied = refl; in_another_record = refl }
