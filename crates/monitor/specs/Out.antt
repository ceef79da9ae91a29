-- OUT: "Called from User mode with the monitor's words intact, Saved_SSP x3000, MCR x8000, a free output byte, 32 steps
-- to run and no interrupt on the way, OUT shows R0's low byte and nothing else, and within those steps the caller
-- resumes at Next with its registers and PSR as before and no word but x2FF8 to x2FFF changed."
use Rattle.std.specs.Prelude.{ℕ, zero, suc, ◌+◌, ◌-◌, ◌%◌, ◌≤◌, ◌<◌, ◌≡◌, true, false, List, [], ◌∷◌, length, get_or}
use Rattle.std.specs.Prelude.{set, take, drop, replicate}
use Rattle.word.specs.Reading.{read_of}
use Rattle.word.specs.declared.Instruction.TheVariants.{Trap}
use Rattle.machine.specs.declared.Devices.{Devices}
use Rattle.machine.specs.Words.{next}
use Rattle.machine.specs.Record.{timer_of}
use Rattle.machine.specs.Psr.{in_user_mode}
use Rattle.machine.specs.Protection.{privileged}
use Rattle.machine.specs.Keys.{ready_after, last_key}
use Rattle.machine.specs.Timer.{ticked_by}
use Rattle.machine.specs.Causes.{takes_interrupt}
use Rattle.run.specs.declared.Ending.TheVariants.{Done}
use Rattle.run.specs.Fresh.{fresh_of}
use Rattle.run.specs.Run.{Start, End}
use Rattle.run.specs.Refusals.{admission_of, Accepted}
use Rattle.run.specs.Call.{start_of, call_of}
use Rattle.run.specs.Noninterference.{cause_at}
use Rattle.monitor.specs.Routines.{monitor_words}
use Rattle.monitor.specs.Install.{install_of}

-- The call of n steps calls OUT. Nothing is asked of registers, codes, priority, other words and keys.
pub record CallsOut (s : Start) (n : ℕ) : Type 0 where
  -- an accepted call with "32 steps to run"
  pub accepted : admission_of s n ≡ Accepted
  pub steps : 32 ≤ n
  -- the record has R0 to R7
  pub registers : length s.machine.regs ≡ 8
  -- "called from User mode": the next instruction is TRAP x21, at an address that User mode may fetch from
  pub user_mode_lem : in_user_mode s.machine.psr ≡ true
  pub user_address : privileged s.machine.pc ≡ false
  pub trap : read_of (get_or s.memory s.machine.pc 0) ≡ Trap 0x21
  -- "with the monitor's words intact, Saved_SSP x3000, MCR x8000, a free output byte"
  pub intact : take (length monitor_words) s.memory ≡ monitor_words
  pub stack : s.machine.saved_ssp ≡ 0x3000
  pub mcr : s.machine.devices.mcr ≡ 0x8000
  pub free_byte : 0 < length s.output

-- "No interrupt on the way": the first k steps take none.
pub record Uninterrupted (s : Start) (k : ℕ) : Type 0 where
  pub none : (j : ℕ) → j < k → takes_interrupt (cause_at s j) ≡ false

-- The interrupt enable, bit 14, of keyboard and timer is clear.
pub record NotEnabled (d : Devices) : Type 0 where
  pub keyboard : d.kbsr % 0x8000 ≡ 0
  pub keyboard_word : d.kbsr ≤ 0x8000
  pub timer : d.timer_status % 0x8000 ≡ 0
  pub timer_word : d.timer_status ≤ 0x8000

-- The call of n steps makes k of them, and e, what the call of k answers and leaves, is this.
pub record Resumed (s : Start) (n k : ℕ) (e : End) : Type 0 where
  pub made : k ≤ (call_of s n).steps
  pub steps : e.steps ≡ k
  pub ending : e.ending ≡ Done
  -- "OUT shows R0's low byte and nothing else"
  pub shown : e.shown ≡ 1
  pub output : e.output ≡ set s.output 0 (get_or s.machine.regs 0 0 % 256)
  -- "the caller resumes at Next with its registers and PSR as before"
  pub pc : e.machine.pc ≡ next s.machine.pc
  pub registers : e.machine.regs ≡ s.machine.regs
  pub psr : e.machine.psr ≡ s.machine.psr
  -- the rest of the record: Saved_USP keeps R6, as the trap left it; the keyboard is as the keys that arrived leave it
  pub saved_ssp_lem : e.machine.saved_ssp ≡ s.machine.saved_ssp
  pub saved_usp_lem : e.machine.saved_usp ≡ get_or s.machine.regs 6 0
  pub kbsr : e.machine.devices.kbsr ≡ ready_after (take e.keys s.bytes) s.machine.devices.kbsr
  pub kbdr : e.machine.devices.kbdr ≡ last_key (take e.keys s.bytes) s.machine.devices.kbdr
  pub mcr : e.machine.devices.mcr ≡ s.machine.devices.mcr
  -- the byte was shown four steps before the end: LDR, ADD and RTI have followed
  pub busy : e.machine.devices.busy ≡ 5
  -- the timer has counted k steps
  pub timer : timer_of e.machine.devices ≡ ticked_by k (timer_of s.machine.devices)
  pub clock : e.machine.clock ≡ s.machine.clock + k
  -- "and no word but x2FF8 to x2FFF changed"
  pub words_below_lem : take 0x2FF8 e.memory ≡ take 0x2FF8 s.memory
  pub words_above_lem : drop 0x3000 e.memory ≡ drop 0x3000 s.memory

-- The wait for the display, where the first LDI finds this busy count: LDI and BRzp, as often as LDI finds it busy, and
-- once more.
unfoldable pub wait_steps : ℕ → ℕ
wait_steps zero = 2
wait_steps (suc zero) = 4
wait_steps (suc (suc busy)) = 2 + wait_steps busy

-- "OUT's steps now include the wait". Its steps with this busy count at the trap: the trap, two of the routine, during
-- which the count falls by three; the wait; and four more. So 9 to 15.
abbrev pub out_steps : ℕ → ℕ
out_steps busy = 3 + (wait_steps (busy - 1 - 1 - 1) + 4)

-- The same, from where a call begins.
abbrev pub out_steps_of : Start → ℕ
out_steps_of s = out_steps s.machine.devices.busy

pub record OutShows : Type 0 where
  -- "within those steps", whatever the count is at the call
  pub within : (busy : ℕ) → busy ≤ 8 → out_steps busy ≤ 32
  pub resumes : (s : Start) (n : ℕ) → CallsOut s n → Uninterrupted s (out_steps_of s)
      → Resumed s n (out_steps_of s) (call_of s (out_steps_of s))
  -- where no device is enabled, no step is interrupted, whatever keys arrive
  pub not_enabled : (s : Start) (n : ℕ) → CallsOut s n → NotEnabled s.machine.devices → Uninterrupted s (out_steps_of
      s)

-- ---- the premises can be met

-- A fresh machine in User mode at x3000, the monitor in memory, TRAP x21 at x3000, no key, and room for one byte.
unfoldable pub out_called : Start
out_called =
    start_of (fresh_of 0x3000 true 0xFDFF) (set (install_of (replicate 65536 0)).words 0x3000 0xF021) [] [] (0 ∷ [])

pub record PremisesCanBeMet : Type 0 where
  pub calls_out : CallsOut out_called 32
  pub uninterrupted : Uninterrupted out_called (out_steps_of out_called)

-- Memory that the monitor was put into holds its words.
abbrev pub InstalledIsIntact : Type 0
InstalledIsIntact = (memory : List ℕ) → length memory ≡ 65536
    → take (length monitor_words) (install_of memory).words ≡ monitor_words
