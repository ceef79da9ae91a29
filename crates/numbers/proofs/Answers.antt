-- Each number is in its place, by computation.
use mathlib.Core.Path.{refl}
use Rattle.machine.specs.declared.Machine.{Machine}
use Rattle.lc3_words.specs.Flat.{flat_of}
use Rattle.numbers.specs.Answers.{RunsInPlace, LoggedRunsInPlace, OthersInPlace, AnswersInPlace}

runs_in_place : (m : Machine) → RunsInPlace m
runs_in_place m = record {
  of_a_run = refl;
  of_a_refusal = refl;
  report_of_a_run = refl;
  report_of_a_refusal = refl;
  step_to_c = refl;
  run_to_c = refl;
  run = refl;
}

logged_runs_in_place : (m : Machine) → LoggedRunsInPlace m
logged_runs_in_place m = record {
  of_a_run = refl;
  of_a_full_log = refl;
  of_a_refusal = refl;
  to_c = refl;
  run = refl;
}

others_in_place : (m : Machine) → OthersInPlace m
unfolding flat_of
others_in_place m = record {
  told_to_c = refl;
  load = refl;
  load_refused = refl;
  bytes = refl;
  bytes_to_c = refl;
  start = refl;
  start_refused = refl;
  start_to_c = refl;
  reading_to_c = refl;
  writing_to_c = refl;
  writing_refused_to_c = refl;
}

pub answers_in_place : AnswersInPlace
answers_in_place = λ m. record {
  runs = runs_in_place m;
  logged_runs = logged_runs_in_place m;
  others = others_in_place m;
}
