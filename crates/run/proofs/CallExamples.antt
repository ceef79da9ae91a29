-- The table of fresh records, refusals and stops: by computation, once it is known whether memory has its size.
use mathlib.Core.Path.{refl}
use lib.ListN.{length}
use borrow.Author.Tests.{eq-eqb, ne_eqb}
use Rattle.run.specs.CallExamples.{CallExamplesHold}
use Rattle.run.proofs.Opened.{opened}

pub call_examples_hold : CallExamplesHold
unfolding opened
call_examples_hold = record {
  fresh_in_user_mode = refl;
  fresh_in_supervisor_mode = refl;
  refusals = λ memory size. rw (eq-eqb (length memory) 65536 size);
  memory_size_first = λ memory size. rw (ne_eqb (length memory) 65536 size);
  admission_numbers = refl;
  admission_indices = refl;
  done_with_no_step = refl;
  halted_before_full = refl;
  full_with_a_key_due = refl;
  done_after_two = refl;
  not_full_while_busy = refl;
  full_once_ready = refl;
  shown_once_ready = refl;
  display_takes_its_time = refl;
  interval_1 = refl;
  interval_2 = refl;
  interval_3 = refl;
  interval_0 = refl;
}
