-- Counts, addresses and numbers of steps beyond 15 bits, of runs and logged runs: each would be answered otherwise if
-- it lost a bit. And what a log has of a step by each rule.
use Rattle.std.specs.Prelude.{ℕ, ◌≡◌, true, false, List, [], ◌∷◌, ◌++◌, map, get_or, replicate}
use Rattle.machine.specs.declared.Machine.{Machine}
use Rattle.machine.specs.Record.{devices_of, zero_timer, with_busy}
use Rattle.machine.specs.Outcome.{trap, entered}
use Rattle.machine.specs.Exclusions.{trap as trapMet}
use Rattle.machine.specs.Step.{step_of}
use Rattle.machine.specs.Rows.{with_word}
use Rattle.run.specs.declared.Refusal.TheVariants.{TooManySteps}
use Rattle.run.specs.declared.Ending.TheVariants.{Done, Halted, Refused}
use Rattle.run.specs.Run.{Start, End, begin, ended_by, arriving, step_made, is_halted, is_full}
use Rattle.run.specs.Call.{start_of, call_of, second_call_of}
use Rattle.run.specs.Noninterference.{cause_at}
use Rattle.run.specs.AlteredWords.{reads_at, writes_at}
use Rattle.run.specs.OneAlteredWord.{takes, replaces}
use Rattle.run.specs.SecondEdition.{exclusions_at}
use Rattle.logging.specs.declared.LoggedEnding.TheVariants.{Run, LogFull}
use Rattle.logging.specs.Log.{entry_of, lacks_room}
use Rattle.logging.specs.LoggedRun.{Logged, with_log, stopped_by, step_logged, one_more_logged}
use Rattle.logging.specs.LoggedCall.{logged_call_of}

-- Supervisor mode at this PC and clock 41, with R0 x00C1, this in R1, R6 xAF01, and this MCR.
abbrev pub storing : ℕ → ℕ → ℕ → Machine
storing pc r1 mcr = record {
  regs = 0x00C1 ∷ r1 ∷ 3 ∷ 4 ∷ 5 ∷ 6 ∷ 0xAF01 ∷ 8 ∷ [];
  pc = pc;
  psr = 0x0002;
  saved_ssp = 0x3000;
  saved_usp = 0xFDFF;
  devices = devices_of 0 0 mcr 0 zero_timer;
  clock = 41;
}

-- ---- a run that has gone on for long

-- x8081 keys have arrived; one more is due. STR R0, R1, #0 stands everywhere, with R1 at DDR.
abbrev pub crowded : Start
crowded =
    start_of (storing 0x8101 0xFE06 0x8000) (replicate 65536 0x7040) (replicate 0x8081 7 ++ 41 ∷ [])
    (replicate 0x8081 0x41 ++ 0xE5 ∷ []) (replicate 0x8083 0)

-- The run after x18081 steps, x8081 keys and x8081 bytes shown, with this MCR.
abbrev pub far : ℕ → End
far mcr = record {
  machine = storing 0x8101 0xFE06 mcr;
  memory = replicate 65536 0x7040;
  output = replicate 0x8083 0;
  steps = 0x18081;
  keys = 0x8081;
  shown = 0x8081;
  ending = Done;
}

-- The same halted, with the display busy; and with an output that is full.
abbrev pub far_halted : End
far_halted = record {
  machine = with_busy 3 (storing 0x8101 0xFE06 0);
  memory = [];
  output = [];
  steps = 0x18081;
  keys = 0x8081;
  shown = 0x8081;
  ending = Done;
}

abbrev pub far_full : End
far_full = record {
  machine = storing 0x8101 0xFE06 0x8000;
  memory = replicate 65536 0x7040;
  output = replicate 0x8081 0;
  steps = 0x18081;
  keys = 0x8081;
  shown = 0x8081;
  ending = Done;
}

-- The same logged, with x8081 words of a log of so many written.
abbrev pub far_logged : ℕ → Logged
far_logged size = with_log (Run Done) (far 0x8000) (replicate size 0) 0x8081

abbrev pub counts : End → List ℕ
counts e = e.steps ∷ e.keys ∷ e.shown ∷ []

abbrev pub counts_logged : Logged → List ℕ
counts_logged l = l.steps ∷ l.keys ∷ l.shown ∷ l.words ∷ []

-- What stands at these places.
abbrev pub places : List ℕ → List ℕ → List ℕ
places values = map (λ i. get_or values i 0)

pub record LongRuns : Type 0 where
  pub due : arriving crowded (far 0) ≡ 0xE5 ∷ []
  pub made : counts (step_made crowded (far 0)) ≡ 0x18082 ∷ 0x8082 ∷ 0x8082 ∷ []
  pub halted : is_halted far_halted ≡ true
  pub full : is_full crowded far_full ≡ true
  pub stopped : counts (ended_by Halted (far 0)) ≡ 0x18081 ∷ 0x8081 ∷ 0x8081 ∷ []
  pub shown : places (step_made crowded (far 0x8000)).output (1 ∷ 0x81 ∷ 0x8080 ∷ 0x8081 ∷ [])
      ≡ 0 ∷ 0 ∷ 0 ∷ 0xC1 ∷ []
  pub logged : counts_logged (step_logged crowded (far_logged 0x8084)) ≡ 0x18082 ∷ 0x8082 ∷ 0x8082 ∷ 0x8084 ∷ []
  pub stopped_logged : counts_logged (stopped_by LogFull (far_logged 0x8084)) ≡ 0x18081 ∷ 0x8081 ∷ 0x8081 ∷ 0x8081 ∷ []
  pub entry : entry_of crowded (far 0) ≡ 0x8101 ∷ 0x7040 ∷ 0 ∷ []
  pub written :
      places (step_logged crowded (far_logged 0x8084)).log (1 ∷ 0x81 ∷ 0x8080 ∷ 0x8081 ∷ 0x8082 ∷ 0x8083 ∷ [])
      ≡ 0 ∷ 0 ∷ 0 ∷ 0x8101 ∷ 0x7040 ∷ 0 ∷ []
  pub room : lacks_room (replicate 0x8084 0) 0x8081 ≡ false
  pub no_room : lacks_room (replicate 0x8083 0) 0x8081 ≡ true
  pub log_full : (one_more_logged (Run Done) crowded (far_logged 0x8083)).ending ≡ LogFull

-- ---- calls of many steps that halt in their first

-- STR R0, R1, #0 stands at x8400, with R1 at MCR; TRAP x25 stands everywhere else.
abbrev pub halting : Start
halting = start_of (storing 0x8400 0xFFFE 0x8000) (with_word (replicate 65536 0xF025) 0x8400 0x7040) [] [] []

pub record ManySteps : Type 0 where
  -- x8000 steps are asked for: one is made
  pub steps : (call_of halting 0x8000).steps ≡ 1
  pub ending : (call_of halting 0x8000).ending ≡ Halted
  pub second_steps : (second_call_of halting 0x8000).steps ≡ 1
  pub logged_steps : (logged_call_of halting (0 ∷ 0 ∷ 0 ∷ []) 0x8000).steps ≡ 1
  pub logged_ending : (logged_call_of halting (0 ∷ 0 ∷ 0 ∷ []) 0x8000).ending ≡ Run Halted
  -- 1,048,577 are too many
  pub too_many : (call_of halting 1048577).ending ≡ Refused TooManySteps
  pub too_many_logged : (logged_call_of halting [] 1048577).ending ≡ Run (Refused TooManySteps)
  -- what the theorems say of the step that would be made next, after so many
  pub cause : map (cause_at halting) (1 ∷ 0x8000 ∷ [])
      ≡ entered (trap 0x0025) 0x0002 0x8402 ∷ entered (trap 0x0025) 0x0002 0x8402 ∷ []
  pub reads : reads_at step_of halting 0x8000 ≡ 0x8401 ∷ 0x0025 ∷ []
  pub writes : writes_at step_of halting 0x8000 ≡ 0xAF00 ∷ 0xAEFF ∷ []
  pub taken : takes step_of 0x8401 halting 0x8000 ≡ true
  pub replaced : replaces step_of 0xAEFF halting 0x8000 ≡ true
  pub excluded : map (exclusions_at halting) (1 ∷ 0x8000 ∷ []) ≡ (trapMet ∷ []) ∷ (trapMet ∷ []) ∷ []

-- ---- the entry of a step by each rule

-- A start in User mode at this PC, with R1 at MCR, this KBSR and this status of the timer, and a word that stands
-- everywhere; and the entry of its first step.
abbrev pub first_entry : ℕ → ℕ → ℕ → ℕ → List ℕ
first_entry pc kbsr status w =
    let m : Machine = record {
      regs = 1 ∷ 0xFFFE ∷ 3 ∷ 4 ∷ 5 ∷ 6 ∷ 0xAF01 ∷ 8 ∷ [];
      pc = pc;
      psr = 0x8002;
      saved_ssp = 0x3000;
      saved_usp = 0xFDFF;
      devices = devices_of kbsr 0 0x8000 0 (record { status = status; interval = 0; count = 0 });
      clock = 41;
    } in
    let s : Start = start_of m (replicate 65536 w) [] [] [] in
    entry_of s (begin s)

pub record FirstEntries : Type 0 where
  -- "PC before the step, the word fetched .., and the reason"; ST R0, #-1 replaces the word that was fetched
  pub each :
      first_entry 0x8401 0 0 0x1021
      ∷ first_entry 0x8401 0 0 0xF025
      ∷ first_entry 0x8401 0 0 0x8000
      ∷ first_entry 0x8401 0 0 0xD000
      ∷ first_entry 0x8401 0 0 0x6040
      ∷ first_entry 0x2FFF 0 0 0x1021
      ∷ first_entry 0x8401 0 0 0x31FF
      ∷ first_entry 0x8401 0xC000 0 0x1021
      ∷ first_entry 0x8401 0 0xC000 0x1021
      ∷ []
      ≡ (0x8401 ∷ 0x1021 ∷ 0 ∷ [])
      ∷ (0x8401 ∷ 0xF025 ∷ 1 ∷ [])
      ∷ (0x8401 ∷ 0x8000 ∷ 2 ∷ [])
      ∷ (0x8401 ∷ 0xD000 ∷ 3 ∷ [])
      ∷ (0x8401 ∷ 0x6040 ∷ 4 ∷ [])
      ∷ (0x2FFF ∷ 0 ∷ 4 ∷ [])
      ∷ (0x8401 ∷ 0x31FF ∷ 0 ∷ [])
      ∷ (0x8401 ∷ 0 ∷ 5 ∷ [])
      ∷ (0x8401 ∷ 0 ∷ 6 ∷ [])
      ∷ []

pub record CountsHold : Type 0 where
  pub long_runs : LongRuns
  pub many_steps : ManySteps
  pub first_entries : FirstEntries
