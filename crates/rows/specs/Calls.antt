-- Further calls that would be answered otherwise without a rule: keys that wait for their time, two keys in one step,
-- equal times, a machine that halts on the way, a full output with a key due, numbers beyond 15 bits, bytes above x7F.
use Rattle.std.specs.Prelude.{ℕ, ◌+◌, ◌-◌, ◌^◌, ◌≡◌, List, [], ◌∷◌, ◌++◌, map, length, replicate}
use Rattle.machine.specs.declared.Machine.{Machine}
use Rattle.machine.specs.Rows.{PC, PSR, applied, record_of, user_mode}
use Rattle.run.specs.declared.Refusal.TheVariants.{MemorySize, TooManySteps}
use Rattle.run.specs.declared.Ending.TheVariants.{Done, Halted, OutputFull, Refused}
use Rattle.run.specs.Run.{run_of}
use Rattle.run.specs.Call.{start_of, call_of, second_call_of}
use Rattle.run.specs.CallExamples.{Answered, answers, answers_of, stores, with_registers_of, Asked, asked, at_clock}
use Rattle.run.specs.CallExamples.{record_with, with_times, with_busy, with_timer_of, with_bits, answered}

-- Supervisor mode at x0400, at this clock, with R0 x7FC1 and this in R1 and KBSR.
abbrev pub late_at : ℕ → ℕ → ℕ → Machine
late_at clock r1 kbsr = record {
  regs = 0x7FC1 ∷ r1 ∷ 3 ∷ 4 ∷ 5 ∷ 6 ∷ 0x2F00 ∷ 8 ∷ [];
  pc = 0x0400;
  psr = 0x0002;
  saved_ssp = 0x3000;
  saved_usp = 0xFDFF;
  devices = with_registers_of kbsr 0 0x8000;
  clock = clock;
}

-- With R1 at DDR at the last clock at which a step may be made.
abbrev pub last : Machine
last = late_at (2 ^ 48 - 1) 0xFE06 0

-- n steps of STR R0, R1, #0, which stands everywhere, from clock 2^40 + 41, with one key due in the first step and two
-- in the third.
abbrev pub late_stores : ℕ → ℕ → List ℕ → ℕ → Answered
late_stores r1 kbsr output n =
    let t = 2 ^ 40 + 41 in
    answers_of
    (run_of
    (start_of (late_at t r1 kbsr) (replicate 65536 0x7040) (t ∷ (t + 2) ∷ (t + 2) ∷ [])
    (0xE1 ∷ 0xE2 ∷ 0xE3 ∷ []) output)
    n)

-- These times at clock 2^40, a byte for each, and the refusal with its index.
abbrev pub with_late_times : List ℕ → ℕ → ℕ → Asked
with_late_times times refusal index =
    asked (record_with 0x8002 (with_registers_of 0 0 0x8000) (2 ^ 40)) 5 times (length times) refusal index

-- The same at an odd clock.
abbrev pub with_odd_times : List ℕ → ℕ → ℕ → Asked
with_odd_times times refusal index =
    asked (record_with 0x8002 (with_registers_of 0 0 0x8000) (2 ^ 40 + 1)) 5 times (length times) refusal index

abbrev pub further_calls : List Asked
further_calls =
    -- "the index, from 0, of the first offending entry", also an odd one; and what is beyond 15 bits
    with_times (1000 ∷ 999 ∷ []) 15 1
    ∷ with_times (1001 ∷ 1000 ∷ []) 19 1
    ∷ with_times (1000 ∷ 1000 ∷ 1000 ∷ []) 0 0
    ∷ with_times (1002 ∷ 1003 ∷ 1001 ∷ []) 19 2
    ∷ with_late_times ((2 ^ 40 - 1) ∷ []) 15 0
    ∷ with_late_times ((2 ^ 40) ∷ (2 ^ 40 + 0x8000) ∷ []) 0 0
    ∷ with_late_times ((2 ^ 40 + 0x8000) ∷ (2 ^ 40 + 0x7FFF) ∷ []) 19 1
    ∷ with_late_times ((2 ^ 40 + 1) ∷ (2 ^ 40) ∷ []) 19 1
    ∷ with_late_times (1 ∷ []) 15 0
    ∷ at_clock (2 ^ 48 - 0x9000) 0x9000 [] 0 0
    ∷ at_clock (2 ^ 48 - 0x9000) 0x9001 [] 0 13
    ∷ with_timer_of 0x0000 7 0x0080 12
    ∷ with_timer_of 0x0000 7 0x8000 12
    ∷ with_timer_of 0x0000 0xFFFF 0x0080 0
    ∷ with_timer_of 0x0000 0xFFFF 0x8000 0
    ∷ with_timer_of 0xC000 0x8000 0x8000 0
    ∷ with_timer_of 0xC000 0x8000 0 12
    ∷ with_bits 0x870A 0x0000 0x0000 0x8000 1000 5 [] 0 12
    ∷ with_late_times ((2 ^ 40) ∷ (2 ^ 40 - 1) ∷ []) 15 1
    ∷ with_odd_times ((2 ^ 40) ∷ []) 15 0
    ∷ with_odd_times ((2 ^ 40 + 1) ∷ (2 ^ 40) ∷ []) 15 1
    -- an index beyond 15 bits
    ∷ with_times (replicate 0x8081 1000 ++ 999 ∷ []) 15 0x8081
    ∷ with_times (replicate 0x8081 1001 ++ 1000 ∷ []) 19 0x8081
    -- a count of 128 or of 32,768, and a count of 0 with an interval of 1; undefined bits where PC is high
    ∷ with_busy 0x0080 12
    ∷ with_busy 0x8000 12
    ∷ with_timer_of 0x0000 1 0 12
    ∷ asked (record_of (applied (PC 0x9001 ∷ PSR 0x8802 ∷ []) user_mode).numbers) 5 [] 0 12 0
    ∷ []

pub record CallsHold : Type 0 where
  -- "Key presses with time t arrive" at clock t, and not before.
  pub second_key_waits : stores 0x8000 (0 ∷ 0 ∷ 0 ∷ []) 1 ≡ answers 1 1 1 0x0401 0x61 (0x41 ∷ 0 ∷ 0 ∷ []) Done
  pub keys_wait :
      map (late_stores 0xFE06 0 (0 ∷ 0 ∷ [])) (1 ∷ 2 ∷ 3 ∷ [])
      ≡ answers 1 1 1 0x0401 0xE1 (0xC1 ∷ 0 ∷ []) Done
      ∷ answers 2 1 1 0x0402 0xE1 (0xC1 ∷ 0 ∷ []) Done
      ∷ answers 3 3 1 0x0403 0xE3 (0xC1 ∷ 0 ∷ []) Done
      ∷ []
  pub full_after_three_keys : late_stores 0xFE06 0 (0 ∷ []) 10 ≡ answers 9 3 1 0x0409 0xE3 (0xC1 ∷ []) OutputFull
  -- The output is full by the bytes shown, and not by the keys that have arrived.
  pub room_with_more_keys :
      late_stores 0xFE06 0 (0 ∷ 0 ∷ []) 10 ≡ answers 10 3 2 0x040A 0xE3 (0xC1 ∷ 0xC1 ∷ []) Done
  -- A store to MCR halts: the step that makes it is made and the run is done; the step after it is not made.
  pub done_by_the_step_that_halts : late_stores 0xFFFE 0 [] 1 ≡ answers 1 1 0 0x0401 0xE1 [] Done
  pub halted_on_the_way :
      map (late_stores 0xFFFE 0 []) (2 ∷ 3 ∷ [])
      ≡ answers 1 1 0 0x0401 0xE1 [] Halted ∷ answers 1 1 0 0x0401 0xE1 [] Halted ∷ []
  -- "This step would store to DDR": it is asked with the keys that arrive in it. Here the key interrupts, so it does
  -- not.
  pub not_full_where_a_key_interrupts : late_stores 0xFE06 0x4000 [] 1 ≡ answers 1 1 0 0x7040 0xE1 [] Done
  -- The calls themselves: turned down with nothing altered, and accepted at the last clock.
  pub refused_call :
      answers_of (call_of (start_of last [] [] [] (7 ∷ [])) 1) ≡ answers 0 0 0 0x0400 0 (7 ∷ []) (Refused MemorySize)
  pub refused_second_call :
      answers_of (second_call_of (start_of last [] [] [] (7 ∷ [])) 1)
      ≡ answers 0 0 0 0x0400 0 (7 ∷ []) (Refused MemorySize)
  pub last_step :
      answers_of (call_of (start_of last (replicate 65536 0x7040) [] [] (7 ∷ [])) 1)
      ≡ answers 1 0 1 0x0401 0 (0xC1 ∷ []) Done
  pub no_step_after :
      answers_of (call_of (start_of last (replicate 65536 0x7040) [] [] (7 ∷ [])) 2)
      ≡ answers 0 0 0 0x0400 0 (7 ∷ []) (Refused TooManySteps)
  -- The refusals of the rows above.
  pub further_refusals : map (answered (replicate 65536 0)) further_calls ≡ further_calls
