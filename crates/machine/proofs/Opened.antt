-- To unfold `opened` is to unfold every definition of a step: so a worked example is proved by computing it.
use Rattle.word.specs.Reading.{read_of}
use Rattle.machine.specs.Words.{and_bits}
use Rattle.machine.specs.Psr.{in_user_mode, defined_psr, codes_of, recoded, is_taken}
use Rattle.machine.specs.Outcome.{with_reads, after_instruction}
use Rattle.machine.specs.Keys.{keys_due, ready_after, last_key, after_keys}
use Rattle.machine.specs.Timer.{ticked, after_timer}
use Rattle.machine.specs.Interrupts.{pending_interrupt}
use Rattle.machine.specs.Protection.{privileged, denied_by}
use Rattle.machine.specs.Entry.{stack_pointer_on_entry, user_stack_on_entry, pushed, after_entry, entry, raised}
use Rattle.machine.specs.Entry.{interrupted}
use Rattle.machine.specs.Edition.{linked}
use Rattle.machine.specs.Devices.{is_device_by, lent_word_by, device_value, loaded_value_by, kbsr_after_load}
use Rattle.machine.specs.Devices.{after_load}
use Rattle.machine.specs.Devices.{display_is_ready, display_status}
use Rattle.machine.specs.Devices.{timer_status_after_load, kbsr_store, timer_status_store, timer_interval_store}
use Rattle.machine.specs.Devices.{psr_store}
use Rattle.machine.specs.Devices.{mcr_store, ddr_store, device_store, stored_by}
use Rattle.machine.specs.Access.{load_to_by, store_at_by, by_pointer_by}
use Rattle.machine.specs.Return.{after_return, popped, return}
use Rattle.machine.specs.Plan.{plan_by}
use Rattle.machine.specs.Step.{perform_by, obeyed_by, interrupted_or_obeyed_by, busy_after, after_tick, ended, step_by}

unfoldable pub opened : Unit {0}
unfolding read_of and_bits in_user_mode defined_psr codes_of recoded is_taken with_reads after_instruction
    keys_due ready_after
    last_key after_keys ticked after_timer pending_interrupt privileged denied_by stack_pointer_on_entry
    user_stack_on_entry pushed
    after_entry entry raised interrupted linked is_device_by lent_word_by display_is_ready display_status device_value
    loaded_value_by kbsr_after_load timer_status_after_load after_load kbsr_store timer_status_store
    timer_interval_store psr_store
    mcr_store ddr_store device_store stored_by load_to_by store_at_by by_pointer_by after_return popped return
    plan_by perform_by
    obeyed_by interrupted_or_obeyed_by busy_after after_tick ended step_by
opened = tt
