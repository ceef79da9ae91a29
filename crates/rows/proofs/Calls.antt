-- The further calls are answered so: each is computed.
use mathlib.Core.Path.{refl}
use Rattle.rows.specs.Calls.{CallsHold}
use Rattle.run.proofs.Opened.{opened}

pub calls_hold : CallsHold
unfolding opened
calls_hold = record {
  second_key_waits = refl;
  keys_wait = refl;
  full_after_three_keys = refl;
  room_with_more_keys = refl;
  done_by_the_step_that_halts = refl;
  halted_on_the_way = refl;
  not_full_where_a_key_interrupts = refl;
  refused_call = refl;
  refused_second_call = refl;
  last_step = refl;
  no_step_after = refl;
  further_refusals = refl;
}
