-- To unfold `opened` is to unfold every definition that a call is made of: so a worked call is proved by computing it.
use Rattle.machine.proofs.Opened.{opened as step-opened}
use Rattle.run.specs.Fresh.{fresh_of}
use Rattle.run.specs.Run.{begin, ended_by, arriving, next_step_by, with_shown, step_made_by, is_halted, shows_byte}
use Rattle.run.specs.Run.{is_full_by, one_more_by, run_by}
use Rattle.run.specs.Refusals.{wrong_size, undefined_timer, undefined_devices, undefined_record, too_many_steps}
use Rattle.run.specs.Refusals.{unequal_lists, admission_of}
use Rattle.run.specs.Refusals.{entry_admission, first_refusal, times_admission}
use Rattle.run.specs.Call.{admitted_by, call_by}

unfoldable pub opened : Unit {0}
unfolding step-opened fresh_of begin ended_by arriving next_step_by with_shown step_made_by is_halted
    shows_byte is_full_by
    one_more_by run_by wrong_size undefined_timer undefined_devices undefined_record too_many_steps unequal_lists
    entry_admission
    first_refusal times_admission admission_of admitted_by call_by
opened = tt
