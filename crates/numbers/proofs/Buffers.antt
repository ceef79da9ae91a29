-- What is left in lent buffers, by computation.
use mathlib.Core.Path.{refl}
use Rattle.lent.specs.Lent.{wrong_size, too_short}
use Rattle.word.specs.Reading.{read_of}
use Rattle.word.specs.FixedBits.{fixed_of}
use Rattle.machine.specs.Rules.{fetched_word_by}
use Rattle.run.proofs.Opened.{opened as run_opened}
use Rattle.logging.specs.Log.{next_rule_by, entry_by, lacks_room}
use Rattle.logging.specs.LoggedRun.{begin_logged, stopped_by, step_logged_by, one_more_logged_by, logged_run_by}
use Rattle.logging.specs.LoggedCall.{logged_admitted_by, logged_call_by}
use Rattle.object.specs.File.{bytes_of}
use Rattle.object.specs.Calls.{beyond_memory, save_refusal, save_accepted, save_of}
use Rattle.start.proofs.Opened.{opened as start-opened}
use Rattle.monitor.specs.declared.Routines.{Routines}
use Rattle.monitor.specs.Vectors.{vector_word, vectors_from, vector_table}
use Rattle.monitor.specs.Routines.{routine_words, monitor_words}
use Rattle.monitor.specs.Install.{vectors_of, install_of}
use Rattle.text.specs.Operands.{digits, decimal}
use Rattle.line.specs.Line.{line_of}
use Rattle.lines.specs.Page.{lines_of, page_of}
use Rattle.numbers.specs.Buffers.{LinesAndPages, ObjectFiles, MonitorRefusals, MonitorInPlace}
use Rattle.numbers.specs.Buffers.{LastStepLogged, BuffersHold}

lines_and_pages : LinesAndPages
unfolding read_of fixed_of digits decimal line_of lines_of wrong_size too_short page_of
lines_and_pages = record {
  fits_and_rest_as_lent = refl;
  fits_exactly = refl;
  does_not_fit = refl;
  wrong_size_first = refl;
  beyond_memory_lem = refl;
  beyond_by_count = refl;
  beyond_by_first = refl;
  too_short = refl;
  last_line = refl;
  two_lines = refl;
  last_digits = refl;
}

object_files : ObjectFiles
unfolding start-opened bytes_of wrong_size beyond_memory too_short save_refusal save_accepted save_of
object_files = record {
  rest_as_lent = refl;
  save_11 = refl;
  save_18 = refl;
  save_16 = refl;
  save_16_long = refl;
  file_in_output = refl;
  load_11_even = refl;
  save_11_even = refl;
  load_11 = refl;
  start_11 = refl;
  start_user_11 = refl;
  start_user_17 = refl;
  start_user_18 = refl;
  start_user_21 = refl;
}

monitor : (r : Routines) → MonitorRefusals r
unfolding vector_word vectors_from vector_table wrong_size too_short vectors_of install_of
monitor r = record { vectors_16 = refl; install_11 = refl }

monitor_in_place : MonitorInPlace
unfolding vector_word vectors_from vector_table wrong_size too_short vectors_of routine_words monitor_words install_of
monitor_in_place = record { vectors = refl; fits_exactly = refl; sizes = refl; installed = refl; routines = refl }

last_step_logged : LastStepLogged
unfolding run_opened fetched_word_by next_rule_by entry_by lacks_room begin_logged stopped_by step_logged_by
    one_more_logged_by
    logged_run_by logged_admitted_by logged_call_by
last_step_logged = record { made = refl; written = refl; log = refl }

pub buffers_hold : BuffersHold
buffers_hold = record {
  lines_and_pages = lines_and_pages;
  object_files = object_files;
  monitor = monitor;
  monitor_in_place = monitor_in_place;
  last_step_logged = last_step_logged;
}
