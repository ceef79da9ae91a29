-- The premises can be met; and sittings that would tell, or change a secret word, without the one or the other.
use Rattle.std.specs.Prelude.{ℕ, ◌≡◌, Bool, true, false, List, [], ◌∷◌, map, get_or, replicate}
use Rattle.machine.specs.declared.Machine.{Machine}
use Rattle.machine.specs.declared.Devices.{Devices}
use Rattle.machine.specs.Record.{with_devices}
use Rattle.machine.specs.Rows.{with_word}
use Rattle.footprint.specs.Altered.{SameOutside}
use Rattle.run.specs.declared.Ending.TheVariants.{Halted}
use Rattle.run.specs.Fresh.{fresh_of}
use Rattle.logging.specs.declared.LoggedEnding.TheVariants.{Run}
use Rattle.monitor.specs.Install.{install_of}
use Rattle.sitting.specs.Sitting.{is_secret, Call, answer_to, answer_after, Begins, HasMonitor}

-- ---- the machine, the memories and the calls

-- A fresh machine in User mode at x3000.
unfoldable pub fresh : Machine
fresh = fresh_of 0x3000 true 0xFDFF

-- The monitor, and nothing else.
unfoldable pub monitored : List ℕ
monitored = (install_of (replicate 65536 0)).words

-- This answer at x0400, and a program that asks PUTS to show it: LD R0, #1; TRAP x22; .FILL x0400.
unfoldable pub prying : List ℕ → ℕ → List ℕ
prying memory answer =
    with_word (with_word (with_word (with_word memory 0x3000 0x2001) 0x3001 0xF022) 0x3002 0x0400) 0x0400 answer

-- PUTS as it would be without the look at the caller's PSR: BRnzp in the place of BRzp at x0211.
unfoldable pub unguarded : List ℕ
unguarded = with_word monitored 0x0211 0x0E06

-- A call of so many steps, with no key, room for one byte, and a log of so many words or none.
abbrev pub call_with : Bool → ℕ → ℕ → Bool → Call
call_with restarts steps room logged = record {
  restarts = restarts;
  steps = steps;
  times = [];
  bytes = [];
  output = 0 ∷ [];
  logged = logged;
  log = replicate room 0;
}

abbrev pub plain_call : ℕ → Call
plain_call steps = call_with false steps 0 false

abbrev pub logged_call : ℕ → ℕ → Call
logged_call steps room = call_with false steps room true

-- The host lets a halted machine go on.
abbrev pub restarting_call : ℕ → Call
restarting_call steps = call_with true steps 0 false

-- ---- records that are not fresh

-- KBSR and TSR hold this, and the rest is as in a fresh record.
abbrev pub devices_with : ℕ → ℕ → Devices
devices_with kbsr status = record {
  kbsr = kbsr;
  kbdr = 0;
  mcr = 0x8000;
  busy = 0;
  timer_status = status;
  timer_interval = 0;
  timer_count = 0;
}

-- Nothing is as in a fresh record, but what `Begins` asks.
unfoldable pub used : Machine
used = record {
  regs = 1 ∷ 2 ∷ 3 ∷ 4 ∷ 5 ∷ 6 ∷ 7 ∷ 8 ∷ [];
  pc = 0x1234;
  psr = 0x8705;
  saved_ssp = 0x3000;
  saved_usp = 9;
  devices = devices_with 0xC000 0xC000;
  clock = 77;
}

-- A stack that begins in a secret word.
unfoldable pub stack_elsewhere : Machine
stack_elsewhere = record {
  regs = fresh.regs;
  pc = fresh.pc;
  psr = fresh.psr;
  saved_ssp = 0x0402;
  saved_usp = fresh.saved_usp;
  devices = fresh.devices;
  clock = fresh.clock;
}

-- In Supervisor mode, a program that shows the answer: LDI R0, #2; STI R0, #2; .FILL x0400; .FILL xFE06 (DDR).
unfoldable pub supervisor : Machine
supervisor = fresh_of 0x3000 false 0xFDFF

unfoldable pub showing : ℕ → List ℕ
showing answer =
    with_word
    (with_word (with_word (with_word (with_word monitored 0x3000 0xA002) 0x3001 0xB002) 0x3003 0x0400) 0x3004 0xFE06)
    0x0400 answer

-- Which of the words x2FF5 to x2FFA are secret where the devices' status registers hold this.
abbrev pub secret_with : ℕ → ℕ → List Bool
secret_with kbsr status =
    map (is_secret (devices_with kbsr status)) (0x2FF5 ∷ 0x2FF6 ∷ 0x2FF7 ∷ 0x2FF8 ∷ 0x2FF9 ∷ 0x2FFA ∷ [])

-- ---- interrupts of interrupts

-- Keyboard and timer may both interrupt, and the timer's count comes to zero in the fourth step.
abbrev pub both_enabled : Devices
both_enabled = record {
  kbsr = 0x4000;
  kbdr = 0;
  mcr = 0x8000;
  busy = 0;
  timer_status = 0x4000;
  timer_interval = 4;
  timer_count = 4;
}

unfoldable pub interruptible : Machine
interruptible = with_devices both_enabled fresh

-- A program that calls PUTSP, TRAP x24.
unfoldable pub packing : List ℕ
packing = with_word monitored 0x3000 0xF024

-- A key arrives in the third step, once PUTSP has moved R6 to x2FFA; the timer interrupts before the RTI.
abbrev pub key_in_third_step : Call
key_in_third_step = record {
  restarts = false;
  steps = 4;
  times = 2 ∷ [];
  bytes = 97 ∷ [];
  output = [];
  logged = false;
  log = [];
}

pub record ExamplesHold : Type 0 where
  -- sittings with other answers begin, and are alike but for secret words
  pub begins : (answer : ℕ) → Begins HasMonitor fresh (prying monitored answer)
  pub alike : (answer₁ answer₂ : ℕ)
      → SameOutside (is_secret fresh.devices) (prying monitored answer₁) (prying monitored answer₂)
  pub answers : (answer : ℕ) → get_or (prying monitored answer) 0x0400 0 ≡ answer
  pub begins_used : (answer : ℕ) → Begins HasMonitor used (prying monitored answer)
  -- the stack has six words, and two more for each device that is enabled
  pub six_words : secret_with 0 0 ∷ secret_with 0x8000 0x8000 ∷ []
      ≡ replicate 2 (true ∷ true ∷ true ∷ true ∷ true ∷ false ∷ [])
  pub eight_words : secret_with 0x4000 0 ∷ secret_with 0xC000 0x8000 ∷ secret_with 0 0x4000
      ∷ secret_with 0x8000 0xC000 ∷ []
      ≡ replicate 4 (true ∷ true ∷ true ∷ false ∷ false ∷ false ∷ [])
  pub ten_words : secret_with 0x4000 0xC000 ≡ true ∷ false ∷ false ∷ false ∷ false ∷ false ∷ []
  -- PUTS halts, and nothing is shown
  pub halted : (answer_to (plain_call 100) fresh (prying monitored 0x41)).ending ≡ Run Halted
  pub nothing_shown : (answer_to (plain_call 100) fresh (prying monitored 0x41)).shown ≡ 0
  -- it stays so; and a machine that is let go on halts again, three steps later
  pub still_halted : (answer_after (plain_call 100 ∷ []) (plain_call 100) fresh (prying monitored 0x41)).steps ≡ 0
  pub halted_again :
      (answer_after (plain_call 100 ∷ []) (restarting_call 100) fresh (prying monitored 0x41)).steps ≡ 3
  -- without the look at the PSR the answer is shown, and the log tells whether it is zero
  pub told : ((answer_to (plain_call 13) fresh (prying unguarded 0x41)).output ≡ 0x41 ∷ [])
      × ((answer_to (plain_call 13) fresh (prying unguarded 0x42)).output ≡ 0x42 ∷ [])
  pub told_by_log : (get_or (answer_to (logged_call 11 33) fresh (prying unguarded 0x41)).log 30 0 ≡ 0x021A)
      × (get_or (answer_to (logged_call 11 33) fresh (prying unguarded 0)).log 30 0 ≡ 0x021F)
  -- in Supervisor mode the answer is shown, and with its stack there a trap replaces it by Next
  pub shown_in_supervisor_mode : (answer_to (plain_call 2) supervisor (showing 0x41)).output ≡ 0x41 ∷ []
  pub replaced_by_stack :
      get_or (answer_to (plain_call 2) stack_elsewhere (prying monitored 0x41)).memory 0x0400 0 ≡ 0x3002
  -- the ninth and tenth words of the stack are used, where both devices may interrupt
  pub begins_too : Begins HasMonitor interruptible packing
  pub ninth_and_tenth_before : (get_or packing 0x2FF7 0 ≡ 0) × (get_or packing 0x2FF6 0 ≡ 0)
  pub ninth_and_tenth_after :
      (get_or (answer_to key_in_third_step interruptible packing).memory 0x2FF7 0 ≡ 0x0401)
      × (get_or (answer_to key_in_third_step interruptible packing).memory 0x2FF6 0 ≡ 0x027F)
