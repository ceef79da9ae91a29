-- Fresh records, refusals and stops, each rule with calls that would be answered otherwise without it: one table, in
-- the order of M11 to M13.
use Rattle.std.specs.Prelude.{Err}
use Rattle.std.specs.Prelude.{ℕ, ◌+◌, ◌-◌, ◌^◌, ◌≡◌, true, false, List, [], ◌∷◌, map, length, get_or, replicate}
use Rattle.machine.specs.declared.Machine.{Machine}
use Rattle.machine.specs.declared.Devices.{Devices}
use Rattle.machine.specs.Record.{Timer, with_registers}
use Rattle.machine.specs.Rows.{with_word}
use Rattle.run.specs.declared.Refusal.TheVariants.{MemorySize, UndefinedRecord, TooManySteps, UnequalLists}
use Rattle.run.specs.declared.Refusal.TheVariants.{TimeBelowClock, TimesOutOfOrder}
use Rattle.run.specs.declared.Ending.{Ending}
use Rattle.run.specs.declared.Ending.TheVariants.{Done, Halted, OutputFull}
use Rattle.run.specs.Fresh.{fresh_of}
use Rattle.run.specs.Run.{End, run_of}
use Rattle.run.specs.Refusals.{admission_of, admission_number, admission_index, Admission, Accepted}
use Rattle.run.specs.Call.{start_of}

-- ---- refusals

-- A record with this PSR, these devices and this clock. R6 and the saved stack pointers may be anything.
abbrev pub record_with : ℕ → Devices → ℕ → Machine
record_with psr devices clock = record {
  regs = 1 ∷ 2 ∷ 3 ∷ 4 ∷ 5 ∷ 6 ∷ 0xFFFF ∷ 8 ∷ [];
  pc = 0x4000;
  psr = psr;
  saved_ssp = 0xFFFF;
  saved_usp = 0xFFFF;
  devices = devices;
  clock = clock;
}

-- A timer with this status, interval and count; and devices with this KBSR, KBDR, MCR, busy count and timer.
abbrev pub timer_with : ℕ → ℕ → ℕ → Timer
timer_with status interval count = record { status = status; interval = interval; count = count }

abbrev pub devices_with : ℕ → ℕ → ℕ → ℕ → Timer → Devices
devices_with kbsr kbdr mcr busy t = record {
  kbsr = kbsr;
  kbdr = kbdr;
  mcr = mcr;
  busy = busy;
  timer_status = t.status;
  timer_interval = t.interval;
  timer_count = t.count;
}

-- Devices with this KBSR, KBDR and MCR, and nothing else to tell of.
abbrev pub with_registers_of : ℕ → ℕ → ℕ → Devices
with_registers_of kbsr kbdr mcr = devices_with kbsr kbdr mcr 0 (timer_with 0 0 0)

-- The record, n, the key times, how many bytes there are, the refusal and its index: 0 where the call is accepted.
pub data Asked : Type 0 where
  asked : Machine → ℕ → List ℕ → ℕ → ℕ → ℕ → Asked

-- A record with this PSR, KBSR, KBDR, MCR and clock, and index 0; the rest as above.
abbrev pub with_bits : ℕ → ℕ → ℕ → ℕ → ℕ → ℕ → List ℕ → ℕ → ℕ → Asked
with_bits psr kbsr kbdr mcr clock n times bytes refusal =
    asked (record_with psr (with_registers_of kbsr kbdr mcr) clock) n times bytes refusal 0

-- A record without a fault, at this clock; the rest as above.
abbrev pub at_clock : ℕ → ℕ → List ℕ → ℕ → ℕ → Asked
at_clock clock n times bytes refusal = with_bits 0x8002 0 0 0x8000 clock n times bytes refusal

-- This busy count of the display, and the refusal.
abbrev pub with_busy : ℕ → ℕ → Asked
with_busy busy refusal = asked (record_with 0x8002 (devices_with 0 0 0x8000 busy (timer_with 0 0 0)) 1000) 5
    [] 0 refusal 0

-- A timer with this status, interval and count, and the refusal.
abbrev pub with_timer_of : ℕ → ℕ → ℕ → ℕ → Asked
with_timer_of status interval count refusal =
    asked (record_with 0x8002 (devices_with 0 0 0x8000 0 (timer_with status interval count)) 1000) 5 [] 0 refusal 0

-- These times at clock 1000, a byte for each, and the refusal with its index.
abbrev pub with_times : List ℕ → ℕ → ℕ → Asked
with_times times refusal index =
    asked (record_with 0x8002 (with_registers_of 0 0 0x8000) 1000) 5 times (length times) refusal index

-- with_bits PSR KBSR KBDR MCR clock n times bytes refusal; with_busy busy refusal; with_timer_of status interval count
-- refusal; at_clock clock n times bytes refusal; with_times times refusal index.
abbrev pub calls : List Asked
calls =
    -- every defined bit set, and none
    with_bits 0x8707 0xC000 0x00FF 0x8000 1000 5 [] 0 0
    ∷ with_bits 0x0000 0x0000 0x0000 0x0000 1000 5 [] 0 0
    -- "12 if the record has an undefined bit": of PSR, KBSR, KBDR, MCR
    ∷ with_bits 0x800A 0x0000 0x0000 0x8000 1000 5 [] 0 12
    ∷ with_bits 0x8082 0x0000 0x0000 0x8000 1000 5 [] 0 12
    ∷ with_bits 0x8802 0x0000 0x0000 0x8000 1000 5 [] 0 12
    ∷ with_bits 0x4002 0x0000 0x0000 0x8000 1000 5 [] 0 12
    ∷ with_bits 0x8002 0x2000 0x0000 0x8000 1000 5 [] 0 12
    ∷ with_bits 0x8002 0x8001 0x0000 0x8000 1000 5 [] 0 12
    ∷ with_bits 0x8002 0x0000 0x0100 0x8000 1000 5 [] 0 12
    ∷ with_bits 0x8002 0x0000 0x8000 0x8000 1000 5 [] 0 12
    ∷ with_bits 0x8002 0x0000 0x0000 0xC000 1000 5 [] 0 12
    ∷ with_bits 0x8002 0x0000 0x0000 0x0001 1000 5 [] 0 12
    -- "refusal 12 covers a count above 8"
    ∷ with_busy 8 0
    ∷ with_busy 9 12
    -- "12 covers undefined bits and a count above the interval, or zero with an interval set"
    ∷ with_timer_of 0xC000 7 7 0
    ∷ with_timer_of 0x0000 0xFFFF 1 0
    ∷ with_timer_of 0x2000 7 7 12
    ∷ with_timer_of 0x8001 7 7 12
    ∷ with_timer_of 0x0000 7 8 12
    ∷ with_timer_of 0x0000 0 1 12
    ∷ with_timer_of 0x0000 7 0 12
    -- "or a clock above 2^48"
    ∷ at_clock (2 ^ 48) 0 [] 0 0
    ∷ at_clock (2 ^ 48 + 1) 0 [] 0 12
    -- "13 if n is above 1,048,576 or clock plus n above 2^48"
    ∷ at_clock 0 1048576 [] 0 0
    ∷ at_clock 0 1048577 [] 0 13
    ∷ at_clock (2 ^ 48 - 5) 5 [] 0 0
    ∷ at_clock (2 ^ 48 - 5) 6 [] 0 13
    ∷ at_clock (2 ^ 48) 1 [] 0 13
    -- "14 if the key lists differ in length"
    ∷ at_clock 1000 5 (1000 ∷ []) 1 0
    ∷ at_clock 1000 5 (1000 ∷ []) 0 14
    ∷ at_clock 1000 5 (1000 ∷ []) 2 14
    ∷ at_clock 1000 5 [] 1 14
    -- "15 means a time below the clock", at the first offending entry; the last of these is below the one before it too
    ∷ with_times (1000 ∷ 1000 ∷ 1001 ∷ []) 0 0
    ∷ with_times (999 ∷ []) 15 0
    ∷ with_times (998 ∷ 999 ∷ []) 15 0
    ∷ with_times (1000 ∷ 1002 ∷ 999 ∷ []) 15 2
    -- "19, a time below the one before it, where 15 doesn't apply to that entry", at the first offending entry
    ∷ with_times (1002 ∷ 1001 ∷ []) 19 1
    ∷ with_times (1000 ∷ 1002 ∷ 1001 ∷ 1000 ∷ []) 19 2
    -- "15 and 19 are tested together, entry by entry"
    ∷ with_times (1002 ∷ 1001 ∷ 999 ∷ []) 19 1
    ∷ with_times (999 ∷ 1002 ∷ 1001 ∷ []) 15 0
    -- two faults: "the first of these that applies"
    ∷ with_bits 0x800A 0 0 0x8000 1000 1048577 [] 0 12
    ∷ with_bits 0x800A 0 0 0x8000 1000 5 (1000 ∷ []) 0 12
    ∷ with_bits 0x800A 0 0 0x8000 1000 5 (999 ∷ []) 1 12
    ∷ at_clock (2 ^ 48 + 1) 5 [] 0 12
    ∷ at_clock 1000 1048577 (1000 ∷ []) 0 13
    ∷ at_clock 1000 1048577 (999 ∷ []) 1 13
    ∷ at_clock 1000 5 (999 ∷ []) 0 14
    ∷ at_clock 1000 5 (1002 ∷ 1001 ∷ []) 1 14
    ∷ []

-- Every case of an admission; of two cases the entry that offends.
abbrev pub admissions : List Admission
admissions =
    Accepted ∷ Err MemorySize ∷ Err UndefinedRecord ∷ Err TooManySteps ∷ Err UnequalLists
    ∷ Err (TimeBelowClock 3) ∷ Err (TimesOutOfOrder 4) ∷ []

-- The row with this refusal and index.
abbrev pub with_answer : Admission → Asked → Asked
with_answer a (asked m n times bytes refusal index) = asked m n times bytes (admission_number a) (admission_index a)

-- The row with the answer that its call with this memory comes to.
abbrev pub answered : List ℕ → Asked → Asked
answered memory (asked m n times bytes refusal index) =
    with_answer (admission_of (start_of m memory times (replicate bytes 0) []) n) (asked m n times bytes refusal index)

-- ---- stops

-- Supervisor mode at x0400, with R0 x0041 and R1 at DDR.
abbrev pub storing : ℕ → Machine
storing mcr = record {
  regs = 0x0041 ∷ 0xFE06 ∷ 3 ∷ 4 ∷ 5 ∷ 6 ∷ 0x2F00 ∷ 8 ∷ [];
  pc = 0x0400;
  psr = 0x0002;
  saved_ssp = 0x3000;
  saved_usp = 0xFDFF;
  devices = with_registers_of 0 0 mcr;
  clock = 41;
}

-- The same with R3 at DSR.
abbrev pub polling : Machine
polling = with_registers (0x0041 ∷ 0xFE06 ∷ 3 ∷ 0xFE04 ∷ 5 ∷ 6 ∷ 0x2F00 ∷ 8 ∷ []) (storing 0x8000)

-- What a run answers but the record's registers: steps, keys, bytes shown, PC, KBDR, the output and the stop.
pub data Answered : Type 0 where
  answers : ℕ → ℕ → ℕ → ℕ → ℕ → List ℕ → Ending → Answered

abbrev pub answers_of : End → Answered
answers_of e =
    answers e.steps e.keys e.shown e.machine.pc e.machine.devices.kbdr e.output e.ending

-- n steps of STR R0, R1, #0, which stands everywhere, with this MCR, a key due in each of the first two steps, and this
-- output.
abbrev pub stores : ℕ → List ℕ → ℕ → Answered
stores mcr output n =
    answers_of
    (run_of (start_of (storing mcr) (replicate 65536 0x7040) (41 ∷ 42 ∷ []) (0x61 ∷ 0x62 ∷ []) output) n)

-- ---- the display

-- How many steps were made, and R2 and the busy count after them.
pub data Polled : Type 0 where
  polls : ℕ → ℕ → ℕ → Polled

-- n steps from here: STR R0, R1, #0 shows a byte, and LDR R2, R3, #0, which stands everywhere else, loads DSR.
abbrev pub polled : ℕ → Polled
polled n =
    let e = run_of (start_of polling (with_word (replicate 65536 0x64C0) 0x0400 0x7040) [] [] (0 ∷ 0 ∷ [])) n in
    polls e.steps (get_or e.machine.regs 2 0) e.machine.devices.busy

-- ---- the timer

-- How many steps were made, and the timer's status and count after them.
pub data Timed : Type 0 where
  times : ℕ → ℕ → ℕ → Timed

-- n steps of BR, which stands everywhere, from a new interval i; the timer is not enabled.
abbrev pub timed : ℕ → ℕ → Timed
timed i n =
    let m = record_with 0x8002 (devices_with 0 0 0x8000 0 (timer_with 0 i i)) 41 in
    let e = run_of (start_of m (replicate 65536 0x0000) [] [] []) n in
    times e.steps e.machine.devices.timer_status e.machine.devices.timer_count

-- ---- the table

pub record CallExamplesHold : Type 0 where
  -- "A fresh record takes PC, mode and user stack pointer: codes Z, priority 0, MCR x8000, supervisor stack x3000. R6
  -- is the current mode's pointer and the other mode's is saved; all else is 0."
  pub fresh_in_user_mode :
      fresh_of 0x1234 true 0x5678
      ≡ record {
        regs = 0 ∷ 0 ∷ 0 ∷ 0 ∷ 0 ∷ 0 ∷ 0x5678 ∷ 0 ∷ [];
        pc = 0x1234;
        psr = 0x8002;
        saved_ssp = 0x3000;
        saved_usp = 0;
        devices = with_registers_of 0 0 0x8000;
        clock = 0;
      }
  pub fresh_in_supervisor_mode :
      fresh_of 0x1234 false 0x5678
      ≡ record {
        regs = 0 ∷ 0 ∷ 0 ∷ 0 ∷ 0 ∷ 0 ∷ 0x3000 ∷ 0 ∷ [];
        pc = 0x1234;
        psr = 0x0002;
        saved_ssp = 0;
        saved_usp = 0x5678;
        devices = with_registers_of 0 0 0x8000;
        clock = 0;
      }
  -- The refusals of the rows above, with any memory of 65,536 words; and with any other memory all of them are 11.
  pub refusals : (memory : List ℕ) → length memory ≡ 65536 → map (answered memory) calls ≡ calls
  pub memory_size_first :
      (memory : List ℕ) → (length memory ≡ 65536 → ⊥)
      → map (answered memory) calls ≡ map (with_answer (Err MemorySize)) calls
  -- The number of each case, and its index: "every other answer has index 0".
  pub admission_numbers : map admission_number admissions ≡ 0 ∷ 11 ∷ 12 ∷ 13 ∷ 14 ∷ 15 ∷ 19 ∷ []
  pub admission_indices : map admission_index admissions ≡ 0 ∷ 0 ∷ 0 ∷ 0 ∷ 0 ∷ 3 ∷ 4 ∷ []
  -- The stops, "tested before each step in this order: done, halted, output full".
  pub done_with_no_step : stores 0 [] 0 ≡ answers 0 0 0 0x0400 0 [] Done
  pub halted_before_full : stores 0 [] 1 ≡ answers 0 0 0 0x0400 0 [] Halted
  -- "None of the stopped step has happened, key arrival included."
  pub full_with_a_key_due : stores 0x8000 [] 1 ≡ answers 0 0 0 0x0400 0 [] OutputFull
  pub done_after_two : stores 0x8000 (0 ∷ 0 ∷ 0 ∷ []) 2 ≡ answers 2 2 1 0x0402 0x62 (0x41 ∷ 0 ∷ 0 ∷ []) Done
  -- "Output full now needs a display that isn't busy": eight stores are swallowed, and the ninth after the byte stops.
  pub not_full_while_busy : stores 0x8000 (0 ∷ []) 9 ≡ answers 9 2 1 0x0409 0x62 (0x41 ∷ []) Done
  pub full_once_ready : stores 0x8000 (0 ∷ []) 10 ≡ answers 9 2 1 0x0409 0x62 (0x41 ∷ []) OutputFull
  pub shown_once_ready :
      stores 0x8000 (0 ∷ 0 ∷ 0 ∷ []) 10 ≡ answers 10 2 2 0x040A 0x62 (0x41 ∷ 0x41 ∷ 0 ∷ []) Done
  -- "After a step that shows a byte, the display is busy for the next eight steps: DSR loads 0 and a DDR store shows
  -- nothing. The ninth step finds it ready."
  pub display_takes_its_time : map polled (1 ∷ 2 ∷ 3 ∷ 4 ∷ 5 ∷ 6 ∷ 7 ∷ 8 ∷ 9 ∷ 10 ∷ [])
      ≡ polls 1 3 8 ∷ polls 2 0 7 ∷ polls 3 0 6 ∷ polls 4 0 5 ∷ polls 5 0 4 ∷ polls 6 0 3 ∷ polls 7 0 2 ∷ polls 8 0 1
      ∷ polls 9 0 0 ∷ polls 10 0x8000 0 ∷ []
  -- The timer, step by step: ready is set at every interval, 1, 2 and 3 steps; and never where the interval is 0.
  pub interval_1 : map (timed 1) (0 ∷ 1 ∷ 2 ∷ []) ≡ times 0 0 1 ∷ times 1 0x8000 1 ∷ times 2 0x8000 1 ∷ []
  pub interval_2 : map (timed 2) (1 ∷ 2 ∷ 3 ∷ 4 ∷ [])
      ≡ times 1 0 1 ∷ times 2 0x8000 2 ∷ times 3 0x8000 1 ∷ times 4 0x8000 2 ∷ []
  pub interval_3 : map (timed 3) (1 ∷ 2 ∷ 3 ∷ 4 ∷ 5 ∷ 6 ∷ [])
      ≡ times 1 0 2 ∷ times 2 0 1 ∷ times 3 0x8000 3 ∷ times 4 0x8000 2 ∷ times 5 0x8000 1 ∷ times 6 0x8000 3 ∷ []
  pub interval_0 : map (timed 0) (1 ∷ 2 ∷ []) ≡ times 1 0 0 ∷ times 2 0 0 ∷ []
