-- The table of logs and stops: each is computed.
use mathlib.Core.Path.{refl}
use Rattle.machine.specs.Rules.{fetched_word_by}
use Rattle.run.proofs.Opened.{opened}
use Rattle.logging.specs.Log.{next_rule_by, entry_by, lacks_room}
use Rattle.logging.specs.LoggedRun.{begin_logged, stopped_by, step_logged_by, one_more_logged_by, logged_run_by}
use Rattle.logging.specs.LoggedCall.{logged_admitted_by, logged_call_by}
use Rattle.run_examples.specs.LogExamples.{LogExamplesHold}

pub log_examples_hold : LogExamplesHold
unfolding opened fetched_word_by next_rule_by entry_by lacks_room begin_logged stopped_by step_logged_by
    one_more_logged_by
    logged_run_by logged_admitted_by logged_call_by
log_examples_hold = record {
  done_first = refl;
  halted_before_log_full = refl;
  log_full_before_output_full = refl;
  output_full_last = refl;
  one_entry = refl;
  full_after_one = refl;
  two_entries = refl;
  refused = refl;
  trap = refl;
  trap_by_the_second = refl;
  denied_fetch = refl;
  none_denied_by_the_second = refl;
  stops = refl;
}
