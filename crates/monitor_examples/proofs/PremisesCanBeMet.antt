-- The premises of the theorem on OUT can be met: those on the start by computing, no interrupt by `not_enabled`.
use native.Mathlib.Omega.{arith}
use mathlib.Core.Path.{refl}
use Rattle.word.specs.Reading.{read_of}
use Rattle.machine.specs.Psr.{in_user_mode, defined_psr}
use Rattle.machine.specs.Protection.{privileged}
use Rattle.run.specs.Fresh.{fresh_of}
use Rattle.run.specs.Refusals.{wrong_size, undefined_timer, undefined_devices, undefined_record, too_many_steps}
use Rattle.run.specs.Refusals.{unequal_lists, times_admission, admission_of}
use Rattle.monitor.specs.Vectors.{vector_word, vectors_from, vector_table}
use Rattle.monitor.specs.Routines.{routine_words, monitor_words}
use Rattle.monitor.specs.Install.{install_of}
use Rattle.monitor.specs.Out.{CallsOut, out_called, PremisesCanBeMet}
use Rattle.monitor.proofs.Out.{out_shows}

called : CallsOut out_called 32
unfolding out_called fresh_of read_of in_user_mode defined_psr privileged wrong_size undefined_timer undefined_devices
    undefined_record too_many_steps
    unequal_lists times_admission admission_of vector_word vectors_from vector_table routine_words
    monitor_words install_of
called = record {
  accepted = refl;
  steps = omega arith;
  registers = refl;
  user_mode_lem = refl;
  user_address = refl;
  trap = refl;
  intact = refl;
  stack = refl;
  mcr = refl;
  free_byte = omega arith;
}

pub premises_can_be_met : PremisesCanBeMet
unfolding out_called fresh_of
premises_can_be_met = record {
  calls_out = called;
  uninterrupted = out_shows.not_enabled out_called 32 called
      (record { keyboard = refl; keyboard_word = omega arith; timer = refl; timer_word = omega arith });
}
