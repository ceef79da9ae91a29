-- Counts beyond 15 bits, by computation.
use mathlib.Core.Path.{refl}
use Rattle.machine.specs.Exclusions.{instruction_exclusions, accesses_of, address_exclusions, access_exclusions}
use Rattle.machine.specs.Exclusions.{obeyed_exclusions, taken_exclusions, exclusions_of}
use Rattle.machine.specs.Rules.{fetched_word_by}
use Rattle.run.specs.Noninterference.{cause_at}
use Rattle.run.specs.AlteredWords.{reads_at, writes_at}
use Rattle.run.specs.OneAlteredWord.{takes, replaces}
use Rattle.run.specs.SecondEdition.{exclusions_at}
use Rattle.run.proofs.Opened.{opened}
use Rattle.footprint.specs.Altered.{is_among}
use Rattle.logging.specs.Log.{next_rule_by, entry_by, lacks_room}
use Rattle.logging.specs.LoggedRun.{begin_logged, stopped_by, step_logged_by, one_more_logged_by, logged_run_by}
use Rattle.logging.specs.LoggedCall.{logged_admitted_by, logged_call_by}
use Rattle.numbers.specs.Counts.{LongRuns, ManySteps, FirstEntries, CountsHold}

long_runs : LongRuns
unfolding opened fetched_word_by next_rule_by entry_by lacks_room stopped_by step_logged_by one_more_logged_by
long_runs = record {
  due = refl;
  made = refl;
  halted = refl;
  full = refl;
  stopped = refl;
  shown = refl;
  logged = refl;
  stopped_logged = refl;
  entry = refl;
  written = refl;
  room = refl;
  no_room = refl;
  log_full = refl;
}

many_steps : ManySteps
unfolding opened fetched_word_by next_rule_by entry_by lacks_room begin_logged stopped_by step_logged_by
    one_more_logged_by
    logged_run_by logged_admitted_by logged_call_by cause_at reads_at writes_at takes replaces is_among
    instruction_exclusions
    accesses_of address_exclusions access_exclusions obeyed_exclusions taken_exclusions exclusions_of exclusions_at
many_steps = record {
  steps = refl;
  ending = refl;
  second_steps = refl;
  logged_steps = refl;
  logged_ending = refl;
  too_many = refl;
  too_many_logged = refl;
  cause = refl;
  reads = refl;
  writes = refl;
  taken = refl;
  replaced = refl;
  excluded = refl;
}

first_entries : FirstEntries
unfolding opened fetched_word_by next_rule_by entry_by
first_entries = record { each = refl }

pub counts_hold : CountsHold
counts_hold = record { long_runs = long_runs; many_steps = many_steps; first_entries = first_entries }
