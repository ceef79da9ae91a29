-- The premises can be met, by computing.
use native.Mathlib.Omega.{arith}
use Prim.Native.Nat.{ℕ, zero, suc, ◌+◌, ◌%◌, ◌<◌}
use mathlib.Core.Path.{◌≡◌, refl, sym, ◌∙◌}
use mathlib.Core.Bool.{Bool, true, false, cond}
use mathlib.Core.List.{List, [], ◌∷◌, ◌++◌}
use lib.ListN.{length, get_or, set, take}
use lib.Seq.{get_or-set_other}
use Rattle.word.specs.Reading.{read_of}
use Rattle.word.specs.declared.Instruction.TheVariants.{Reserved}
use Rattle.machine.specs.Psr.{in_user_mode, defined_psr, codes_of, recoded}
use Rattle.machine.specs.Keys.{keys_due, ready_after, last_key, after_keys}
use Rattle.machine.specs.Timer.{ticked, after_timer}
use Rattle.machine.specs.Protection.{privileged, denied_by, denied}
use Rattle.machine.specs.Interrupts.{pending_interrupt}
use Rattle.machine.specs.Entry.{pushed, entry, after_entry, raised, interrupted, stack_pointer_on_entry}
use Rattle.machine.specs.Entry.{user_stack_on_entry}
use Rattle.machine.specs.Outcome.{privilege, illegal, access, vector_of, with_reads, after_instruction}
use Rattle.machine.specs.Causes.{takes_interrupt}
use Rattle.machine.specs.Devices.{is_device_by, device_value, loaded_value_by, kbsr_after_load, timer_status_after_load}
use Rattle.machine.specs.Devices.{after_load, stored_by}
use Rattle.machine.specs.Access.{load_to_by, store_at_by, by_pointer_by}
use Rattle.machine.specs.Return.{return, popped, after_return}
use Rattle.machine.specs.Plan.{plan_by}
use Rattle.machine.specs.Step.{perform_by, obeyed_by, interrupted_or_obeyed_by, busy_after, after_tick, ended, step_by}
use Rattle.run.specs.Refusals.{wrong_size, undefined_timer, undefined_devices, undefined_record, too_many_steps}
use Rattle.run.specs.Refusals.{Accepted}
use Rattle.run.specs.Refusals.{unequal_lists, first_refusal, entry_admission, times_admission, admission_of}
use Rattle.run.specs.Run.{Start, begin, arriving, next_step_by, with_shown, step_made_by, is_halted, shows_byte}
use Rattle.run.specs.Run.{is_full_by}
use Rattle.run.specs.Run.{one_more_by, run_by, ended_by}
use Rattle.run.specs.Call.{admitted_by, call_by, call_of}
use Rattle.run.specs.Noninterference.{cause_at}
use Rattle.monitor.specs.Vectors.{vector_word, vectors_from, vector_table}
use Rattle.monitor.specs.Routines.{routine_words, monitor_words}
use Rattle.monitor.specs.Install.{install_of}
use Rattle.monitor.specs.Uses.{HasWords, with_vector, getc_code, out_code, puts_code, in_code, putsp_code}
use Rattle.monitor.specs.Uses.{halt_code, stop_code, back_uses}
use Rattle.monitor.specs.Calls.{stack_of, StackApart, Begins, Calls, Raises, NoInterrupt, none_enabled}
use Rattle.monitor.specs.Keys.{keys_before, key_at}
use Rattle.monitor.specs.Getc.{KeyComes}
use Rattle.monitor.specs.In.{first_poll}
use Rattle.monitor.specs.Puts.{may_read, StringFrom}
use Rattle.monitor.specs.Out.{wait_steps, out_steps_of}
use Rattle.monitor.specs.Back.{Interrupted}
use Rattle.interruptions.specs.GoesOn.{Returned, Interrupts, shown_in, by_steps, by_place, once, again, OnTheWay}
use Rattle.interruptions.specs.GoesOn.{out_last}
use Rattle.interruptions.specs.Reads.{getc_poll, getc_last}
use Rattle.interruptions.proofs.GetcAndIn.{interrupted_reads}
use Rattle.monitor_examples.specs.Examples.{example_memory, example_with, example, key_on_the_way, past_interrupt}
use Rattle.monitor_examples.specs.Examples.{past_the_interrupt, another_on_the_way, past_both, key_in_getc}
use Rattle.monitor_examples.specs.Examples.{past_in_getc}
use Rattle.monitor_examples.specs.Examples.{ExamplesHold}
use Rattle.monitor.proofs.Intact.{monitor_word}
use Rattle.monitor.proofs.UseLaws.{getc_below, out_below, stop_below, puts_below, putsp_below, in_below}
use Rattle.monitor.proofs.UseLaws.{halt_below, back_below, with_vector_below}

-- To unfold this is to compute what a call is handed.
unfoldable handed : Unit {0}
unfolding example_with example_memory read_of in_user_mode defined_psr privileged denied_by wrong_size undefined_timer
    undefined_devices undefined_record too_many_steps unequal_lists first_refusal entry_admission
    times_admission admission_of
    vector_word vectors_from vector_table routine_words monitor_words install_of
handed = tt

whole : (word : ℕ) → take (length monitor_words) (example_memory word) ≡ monitor_words
unfolding handed
whole word = refl

allowed : (user : Bool) → denied (cond user 0x8002 0x0002) 0x3000 ≡ false
unfolding handed
allowed true = refl
allowed false = refl

-- A call that uses no words but the monitor's.
module _ (word : ℕ) (uses : ℕ → Bool) (below : (a : ℕ) → uses a ≡ true → a < 0x02A5) where
  has_words : HasWords uses (example_memory word)
  has_words a used = monitor_word (example_memory word) (whole word) a (below a used)

  ready : (words sp : ℕ) → StackApart words sp → (user : Bool)
      → Begins uses words user (example_with sp user word 0x8000) 1000
  unfolding handed
  ready words sp apart true = record {
    accepted = refl;
    registers = refl;
    mode = refl;
    intact = has_words;
    stack = apart;
    mcr = refl;
  }
  ready words sp apart false = record {
    accepted = refl;
    registers = refl;
    mode = refl;
    intact = has_words;
    stack = apart;
    mcr = refl;
  }

getc : (user : Bool) (sp : ℕ) → StackApart 2 sp → Calls 0x20 getc_code 2 user (example_with sp user 0xF020 0x8000) 1000
unfolding handed
getc user sp apart = record {
  begins =
      ready 0xF020 (with_vector 0x20 getc_code) (with_vector_below 0x20 getc_code (omega arith) getc_below) 2 sp apart
      user;
  may_fetch = allowed user;
  trap = refl;
}

out : (user : Bool) (sp : ℕ) → StackApart 3 sp → Calls 0x21 out_code 3 user (example_with sp user 0xF021 0x8000) 1000
unfolding handed
out user sp apart = record {
  begins =
      ready 0xF021 (with_vector 0x21 out_code) (with_vector_below 0x21 out_code (omega arith) out_below) 3
      sp apart user;
  may_fetch = allowed user;
  trap = refl;
}

puts : (user : Bool) (sp : ℕ) → StackApart 5 sp → Calls 0x22 puts_code 5 user (example_with sp user 0xF022 0x8000) 1000
unfolding handed
puts user sp apart = record {
  begins =
      ready 0xF022 (with_vector 0x22 puts_code) (with_vector_below 0x22 puts_code (omega arith) puts_below) 5 sp apart
      user;
  may_fetch = allowed user;
  trap = refl;
}

input : (user : Bool) (sp : ℕ) → StackApart 4 sp → Calls 0x23 in_code 4 user (example_with sp user 0xF023 0x8000) 1000
unfolding handed
input user sp apart = record {
  begins =
      ready 0xF023 (with_vector 0x23 in_code) (with_vector_below 0x23 in_code (omega arith) in_below) 4 sp apart user;
  may_fetch = allowed user;
  trap = refl;
}

putsp : (user : Bool) (sp : ℕ) → StackApart 6 sp → Calls 0x24 putsp_code 6 user
    (example_with sp user 0xF024 0x8000) 1000
unfolding handed
putsp user sp apart = record {
  begins =
      ready 0xF024 (with_vector 0x24 putsp_code)
      (with_vector_below 0x24 putsp_code (omega arith) putsp_below) 6 sp apart
      user;
  may_fetch = allowed user;
  trap = refl;
}

halt : (user : Bool) (sp : ℕ) → StackApart 5 sp → Calls 0x25 halt_code 5 user (example_with sp user 0xF025 0x8000) 1000
unfolding handed
halt user sp apart = record {
  begins =
      ready 0xF025 (with_vector 0x25 halt_code) (with_vector_below 0x25 halt_code (omega arith) halt_below) 5 sp apart
      user;
  may_fetch = allowed user;
  trap = refl;
}

other : (user : Bool) (sp : ℕ) → StackApart 2 sp → Calls 0xFF stop_code 2 user (example_with sp user 0xF0FF 0x8000) 1000
unfolding handed
other user sp apart = record {
  begins =
      ready 0xF0FF (with_vector 0xFF stop_code) (with_vector_below 0xFF stop_code (omega arith) stop_below) 2 sp apart
      user;
  may_fetch = allowed user;
  trap = refl;
}

-- The first step, and the second, by computing.
unfoldable stepping : Unit {0}
unfolding handed codes_of recoded keys_due ready_after last_key after_keys ticked after_timer denied_by
    pending_interrupt pushed
    entry after_entry raised interrupted stack_pointer_on_entry user_stack_on_entry with_reads after_instruction
    load_to_by return
    popped after_return plan_by perform_by obeyed_by interrupted_or_obeyed_by busy_after after_tick ended step_by
    begin arriving
    next_step_by with_shown step_made_by is_halted shows_byte is_full_by one_more_by run_by ended_by admitted_by
    call_by cause_at
stepping = tt

-- With a load of KBSR, and a store.
unfoldable reading : Unit {0}
unfolding stepping by_pointer_by is_device_by device_value loaded_value_by kbsr_after_load
    timer_status_after_load after_load
    store_at_by stored_by
reading = tt

at_x3000 : StackApart 2 0x3000
at_x3000 = record { above_monitor = omega arith; below_devices = omega arith }

raises : Raises access stop_code 2 (example true 0x21FE 0x8000) 1000
unfolding stepping
raises = record {
  begins =
      ready 0x21FE (with_vector 0x0102 stop_code) (with_vector_below 0x0102 stop_code (omega arith) stop_below) 2 0x3000
      at_x3000 true;
  pushed_psr = 0x8002;
  pushed_pc = 0x3000;
  cause = refl;
}

privilege_raised : Raises privilege stop_code 2 (example true 0x8000 0x8000) 1000
unfolding stepping
privilege_raised = record {
  begins =
      ready 0x8000 (with_vector 0x0100 stop_code) (with_vector_below 0x0100 stop_code (omega arith) stop_below) 2 0x3000
      at_x3000 true;
  pushed_psr = 0x8002;
  pushed_pc = 0x3000;
  cause = refl;
}

illegal_begins : (user : Bool) (sp : ℕ) → StackApart 2 sp
    → Begins (with_vector (vector_of illegal) stop_code) 2 user (example_with sp user 0xD000 0x8000) 1000
illegal_begins user sp apart =
    ready 0xD000 (with_vector 0x0101 stop_code) (with_vector_below 0x0101 stop_code (omega arith) stop_below) 2 sp apart
    user

illegal_raised : Raises illegal stop_code 2 (example true 0xD000 0x8000) 1000
unfolding stepping
illegal_raised = record {
  begins = illegal_begins true 0x3000 at_x3000;
  pushed_psr = 0x8002;
  pushed_pc = 0x3000;
  cause =
      refl;
}

illegal_word : read_of (get_or (example_memory 0xD000) 0x3000 0) ≡ Reserved 0
unfolding handed
illegal_word = refl

is_interrupted : Interrupted (example true 0x1020 0xC000) 1000 0 (call_of (example true 0x1020 0xC000) 0)
unfolding stepping
is_interrupted = record {
  accepted = refl;
  bytes = refl;
  steps = omega arith;
  done = refl;
  registers = refl;
  intact = has_words 0x1020 back_uses back_below;
  mcr = refl;
  above_monitor = omega arith;
  below_devices = omega arith;
  interrupt = refl;
  no_other = refl;
}

-- After TRAP and ADD: the trap has pushed PSR and PC.
pushed_only : (call_of key_on_the_way 2).memory ≡ set (set (example_memory 0xF021) 0x2FFF 0x8002) 0x2FFE 0x3001
unfolding stepping key_on_the_way
pushed_only = refl

still_there : HasWords back_uses (call_of key_on_the_way 2).memory
still_there a used =
    let l : a < 0x02A5 = back_below a used in
    rw pushed_only
    (get_or-set_other (set (example_memory 0xF021) 0x2FFF 0x8002) 0x2FFE a 0x3001 0 (λ e. omega arith)
    ∙ get_or-set_other (example_memory 0xF021) 0x2FFF a 0x8002 0 (λ e. omega arith)
    ∙ has_words 0xF021 back_uses back_below a used)

stack_now : stack_of (call_of key_on_the_way 2).machine ≡ 0x2FFD
unfolding stepping key_on_the_way
stack_now = refl

on_the_way : Interrupted key_on_the_way 1000 2 (call_of key_on_the_way 2)
unfolding stepping key_on_the_way
on_the_way = record {
  accepted = refl;
  bytes = refl;
  steps = omega arith;
  done = refl;
  registers = refl;
  intact = still_there;
  mcr = refl;
  above_monitor = rw stack_now (omega arith);
  below_devices = rw stack_now (omega arith);
  interrupt = refl;
  no_other = refl;
}

-- ---- a class's own routine

own_out : Calls 0x21 out_code 3 true key_on_the_way 1000
unfolding handed key_on_the_way
own_out = record {
  begins = record {
    accepted = refl;
    registers = refl;
    mode = refl;
    intact = has_words 0xF021 (with_vector 0x21 out_code) (with_vector_below 0x21 out_code (omega arith) out_below);
    stack = record { above_monitor = omega arith; below_devices = omega arith };
    mcr = refl;
  };
  may_fetch = refl;
  trap = refl;
}

two_quiet : (j : ℕ) → j < 2 → takes_interrupt (cause_at key_on_the_way j) ≡ false
unfolding stepping key_on_the_way
two_quiet zero l = refl
two_quiet (suc zero) l = refl
two_quiet (suc (suc j)) l = absurd (omega arith)

at_own_stack : StackApart 6 0x3000
at_own_stack = record { above_monitor = omega arith; below_devices = omega arith }

off : (q : Start) → q.machine.devices.kbsr ≡ 0 → q.machine.devices.timer_status ≡ 0 → NoInterrupt q 100
off q p t = none_enabled (record {
  keyboard = rw p;
  keyboard_word = omega (arith, p);
  timer = rw t;
  timer_word = omega (arith, t);
})

-- What goes on after an interrupt is what stood there before it.
back : (q : Start) (k kbsr clock : ℕ) (times bytes : List ℕ) → (call_of q k).machine.devices.mcr ≡ 0x8000
    → Returned q k 3 (past_interrupt q k kbsr clock times bytes)
back q k kbsr clock times bytes mcr = record {
  registers = refl;
  pc = refl;
  psr = refl;
  saved_ssp_lem = refl;
  saved_usp_lem = refl;
  mcr = sym mcr;
  display = omega arith;
  output = refl;
  words_below_lem = refl;
  words_above_lem = refl;
}

mcr_now : (call_of key_on_the_way 2).machine.devices.mcr ≡ 0x8000
unfolding stepping key_on_the_way
mcr_now = refl

first_interrupt : (kbsr : ℕ) (times bytes : List ℕ)
    → Interrupts 3 key_on_the_way 2 (past_interrupt key_on_the_way 2 kbsr 9 times bytes)
first_interrupt kbsr times bytes = record {
  steps = 1000;
  accepted = own_out.begins.accepted;
  fits = omega arith;
  quiet = record { none = two_quiet };
  returned = back key_on_the_way 2 kbsr 9 times bytes mcr_now;
}

own_accepted : admission_of past_the_interrupt 100 ≡ Accepted
unfolding stepping key_on_the_way
own_accepted = refl

own_returned : OnTheWay key_on_the_way (out_steps_of key_on_the_way) out_last 3 3 past_the_interrupt 100
unfolding key_on_the_way wait_steps in_user_mode
own_returned = record {
  made = 2;
  shown = shown_in key_on_the_way 2;
  interrupted = once {k = 2} (omega arith) (by_steps (omega arith)) (first_interrupt 0 [] []);
  apart = at_own_stack;
  accepted = own_accepted;
  no_other = off past_the_interrupt refl refl;
}

-- ---- another one

another_accepted : admission_of another_on_the_way 100 ≡ Accepted
unfolding reading key_on_the_way
another_accepted = refl

another_place : (call_of another_on_the_way 0).machine.pc ≡ 0x0205
unfolding reading key_on_the_way
another_place = refl

another_quiet : takes_interrupt (cause_at another_on_the_way 0) ≡ false
unfolding reading key_on_the_way
another_quiet = refl

another_mcr : (call_of another_on_the_way 1).machine.devices.mcr ≡ 0x8000
unfolding reading key_on_the_way
another_mcr = refl

both_accepted : admission_of past_both 100 ≡ Accepted
unfolding reading key_on_the_way
both_accepted = refl

own_returned_twice : OnTheWay key_on_the_way (out_steps_of key_on_the_way) out_last 3 3 past_both 100
unfolding key_on_the_way wait_steps in_user_mode
own_returned_twice = record {
  made = 3;
  shown = shown_in key_on_the_way 2 ++ shown_in another_on_the_way 1;
  interrupted = again {k = 1}
      (once {k = 2} (omega arith) (by_steps (omega arith)) (first_interrupt 0x4000 (10 ∷ []) (0x62 ∷ [])))
      (record {
        none = λ j l e.
            let z : j ≡ 0 = omega arith in
            let p : (call_of another_on_the_way 0).machine.pc ≡ 0x020B = rw z at e in
            omega (arith, p, another_place);
      })
      (record {
        steps = 100;
        accepted = another_accepted;
        fits = omega arith;
        quiet = record { none = λ j l. let z : j ≡ 0 = omega arith in rw z another_quiet };
        returned = back another_on_the_way 1 0 17 [] [] another_mcr;
      });
  apart = at_own_stack;
  accepted = both_accepted;
  no_other = off past_both refl refl;
}

-- ---- GETC

own_getc : Calls 0x20 getc_code 2 true key_in_getc 1000
unfolding handed key_in_getc
own_getc = record {
  begins = record {
    accepted = refl;
    registers = refl;
    mode = refl;
    intact = has_words 0xF020 (with_vector 0x20 getc_code) (with_vector_below 0x20 getc_code (omega arith) getc_below);
    stack = record { above_monitor = omega arith; below_devices = omega arith };
    mcr = refl;
  };
  may_fetch = refl;
  trap = refl;
}

getc_quiet : (j : ℕ) → j < 2 → takes_interrupt (cause_at key_in_getc j) ≡ false
unfolding reading key_in_getc
getc_quiet zero l = refl
getc_quiet (suc zero) l = refl
getc_quiet (suc (suc j)) l = absurd (omega arith)

getc_there : ((call_of key_in_getc 0).machine.pc ≡ 0x3000) × ((call_of key_in_getc 1).machine.pc ≡ 0x0200)
    × ((call_of key_in_getc 2).machine.devices.mcr ≡ 0x8000)
unfolding reading key_in_getc
getc_there = (refl, refl, refl)

getc_accepted : admission_of past_in_getc 100 ≡ Accepted
unfolding reading key_in_getc
getc_accepted = refl

getc_place : (past_in_getc.machine.pc ≡ getc_poll + 1) × (past_in_getc.machine.psr % 8 ≡ 1)
unfolding reading key_in_getc
getc_place = (refl, refl)

not_at_rti : (j : ℕ) → j < 2 → (call_of key_in_getc j).machine.pc ≡ getc_last → ⊥
not_at_rti zero l e = omega (arith, e, getc_there.0)
not_at_rti (suc zero) l e = omega (arith, e, getc_there.1)
not_at_rti (suc (suc j)) l e = absurd (omega arith)

own_getc_returned : OnTheWay key_in_getc 0 getc_last 2 3 past_in_getc 100
unfolding key_in_getc in_user_mode
own_getc_returned = record {
  made = 2;
  shown = shown_in key_in_getc 2;
  interrupted = once {k = 2} (omega arith) (by_place (record { none = not_at_rti })) (record {
    steps = 1000;
    accepted = own_getc.begins.accepted;
    fits = omega arith;
    quiet = record { none = getc_quiet };
    returned = back key_in_getc 2 0 9 (12 ∷ []) (0x62 ∷ []) getc_there.2;
  });
  apart = record { above_monitor = omega arith; below_devices = omega arith };
  accepted = getc_accepted;
  no_other = off past_in_getc refl refl;
}

getc_reads_key : key_at past_in_getc 5 ≡ 0x62
unfolding keys_before last_key
getc_reads_key = refl

-- A key that is ready at the call.
key_ready : (sp : ℕ) (user : Bool) (word first : ℕ) → KeyComes (example_with sp user word 0x8000) first 0
unfolding example_with
key_ready sp user word first = interrupted_reads.ready (example_with sp user word 0x8000) first (omega arith)

-- The string stands at addresses that may be read.
string : (may : ℕ → Bool) (word : ℕ) → may 0x3002 ≡ true → may 0x3003 ≡ true
    → StringFrom may (example_memory word) 0x3002 (0x0061 ∷ 0xABCD ∷ []) 0x3004
unfolding handed
string may word first second = (first, refl, omega arith, (second, refl, omega arith, refl))

puts_string : (user : Bool)
    → StringFrom (may_read user 5 0x3000) (example_memory 0xF022) 0x3002 (0x0061 ∷ 0xABCD ∷ []) 0x3004
unfolding handed
puts_string true = string (may_read true 5 0x3000) 0xF022 refl refl
puts_string false = string (may_read false 5 0x3000) 0xF022 refl refl

puts_string_below : (user : Bool)
    → StringFrom (may_read user 5 0x3009) (example_memory 0xF022) 0x3002 (0x0061 ∷ 0xABCD ∷ []) 0x3004
unfolding handed
puts_string_below true = string (may_read true 5 0x3009) 0xF022 refl refl
puts_string_below false = string (may_read false 5 0x3009) 0xF022 refl refl

putsp_string : (user : Bool)
    → StringFrom (may_read user 6 0x3000) (example_memory 0xF024) 0x3002 (0x0061 ∷ 0xABCD ∷ []) 0x3004
unfolding handed
putsp_string true = string (may_read true 6 0x3000) 0xF024 refl refl
putsp_string false = string (may_read false 6 0x3000) 0xF024 refl refl

putsp_string_below : (user : Bool)
    → StringFrom (may_read user 6 0x300A) (example_memory 0xF024) 0x3002 (0x0061 ∷ 0xABCD ∷ []) 0x3004
unfolding handed
putsp_string_below true = string (may_read true 6 0x300A) 0xF024 refl refl
putsp_string_below false = string (may_read false 6 0x300A) 0xF024 refl refl

pub examples_hold : ExamplesHold
unfolding handed
examples_hold = record {
  at_x3000 = record { above_monitor = omega arith; below_devices = omega arith };
  at_x5000 = record { above_monitor = omega arith; below_devices = omega arith };
  lowest = record { above_monitor = omega arith; below_devices = omega arith };
  highest = record { above_monitor = omega arith; below_devices = omega arith };
  getc = getc;
  getc_key = λ user sp. key_ready sp user 0xF020 1;
  out = out;
  puts = puts;
  puts_string = puts_string;
  puts_string_below = puts_string_below;
  puts_end = refl;
  input = input;
  input_key = λ user sp. key_ready sp user 0xF023 (first_poll (example_with sp user 0xF023 0x8000));
  putsp = putsp;
  putsp_string = putsp_string;
  putsp_string_below = putsp_string_below;
  halt = halt;
  other = other;
  access_exception_lem = raises;
  privilege_exception = privilege_raised;
  illegal_exception = illegal_raised;
  illegal_begins = illegal_begins false;
  illegal_word = illegal_word;
  no_interrupt = λ user sp word k. none_enabled (record {
    keyboard = refl;
    keyboard_word = omega arith;
    timer = refl;
    timer_word = omega arith;
  });
  interrupted = is_interrupted;
  on_the_way = on_the_way;
  own_out = own_out;
  own_returned = own_returned;
  own_returned_twice = own_returned_twice;
  own_getc = own_getc;
  own_getc_returned = own_getc_returned;
  own_getc_place = (let p = getc_place.1 in (getc_place.0, omega (arith, p)));
  own_getc_key = interrupted_reads.arrives past_in_getc 1 3 [] (omega arith) (omega arith) refl;
  own_getc_reads = getc_reads_key;
}
