-- BACK: "every other word of x0100 to x01FF [leads] to a lone RTI". An interrupt, of either device, in either mode and
-- at any step of a call, on the way through a routine too, comes back at once to where it was taken.
use Rattle.std.specs.Prelude.{ℕ, ◌+◌, ◌-◌, ◌*◌, ◌≤◌, ◌<◌, ◌≡◌, true, false, cond, List, length, get_or, set, take, drop}
use Rattle.std.proofs.Math.Pow.{are_bytes}
use Rattle.machine.specs.Record.{timer_of}
use Rattle.machine.specs.Psr.{in_user_mode}
use Rattle.machine.specs.Keys.{ready_after, last_key}
use Rattle.machine.specs.Timer.{ticked_by}
use Rattle.machine.specs.Causes.{takes_interrupt}
use Rattle.run.specs.declared.Ending.TheVariants.{Done}
use Rattle.run.specs.Run.{Start, End}
use Rattle.run.specs.Refusals.{admission_of, Accepted}
use Rattle.run.specs.Call.{call_of}
use Rattle.run.specs.Noninterference.{cause_at}
use Rattle.monitor.specs.Uses.{HasWords, back_uses}
use Rattle.monitor.specs.Calls.{stack_of}

-- After k steps of an accepted call the machine is e, and the next step takes an interrupt, and the one after it, the
-- RTI, none. The stack has room above the monitor's words and below the device registers.
pub record Interrupted (s : Start) (n k : ℕ) (e : End) : Type 0 where
  pub accepted : admission_of s n ≡ Accepted
  pub bytes : are_bytes s.bytes ≡ true
  pub steps : k + 2 ≤ n
  pub done : e.ending ≡ Done
  pub registers : length e.machine.regs ≡ 8
  pub intact : HasWords back_uses e.memory
  pub mcr : e.machine.devices.mcr ≡ 0x8000
  pub above_monitor : 0x02A7 ≤ stack_of e.machine
  pub below_devices : stack_of e.machine ≤ 0xFE00
  pub interrupt : takes_interrupt (cause_at s k) ≡ true
  pub no_other : takes_interrupt (cause_at s (k + 1)) ≡ false

-- The keys that arrived between the two.
abbrev pub keys_between : Start → End → End → List ℕ
keys_between s e e' = take (e'.keys - e.keys) (drop e.keys s.bytes)

-- Two steps later registers, PSR and PC are as before, and nothing is shown.
pub record CameBack (s : Start) (e e' : End) : Type 0 where
  pub ending : e'.ending ≡ Done
  pub steps : e'.steps ≡ e.steps + 2
  pub shown : e'.shown ≡ e.shown
  pub output : e'.output ≡ e.output
  pub registers : e'.machine.regs ≡ e.machine.regs
  pub psr : e'.machine.psr ≡ e.machine.psr
  pub pc : e'.machine.pc ≡ e.machine.pc
  pub saved_ssp_lem : e'.machine.saved_ssp ≡ e.machine.saved_ssp
  -- as every entry from User mode leaves it
  pub saved_usp_lem : e'.machine.saved_usp
      ≡ cond (in_user_mode e.machine.psr) (get_or e.machine.regs 6 0) e.machine.saved_usp
  -- the device stays ready: it interrupts again, unless something else is done about it
  pub kbsr : e'.machine.devices.kbsr ≡ ready_after (keys_between s e e') e.machine.devices.kbsr
  pub kbdr : e'.machine.devices.kbdr ≡ last_key (keys_between s e e') e.machine.devices.kbdr
  pub timer : timer_of e'.machine.devices ≡ ticked_by 2 (timer_of e.machine.devices)
  pub mcr : e'.machine.devices.mcr ≡ 0x8000
  pub busy : e'.machine.devices.busy ≡ e.machine.devices.busy - 1 - 1
  pub clock : e'.machine.clock ≡ e.machine.clock + 2
  -- the two words that the entry pushed to, below those that are in use
  pub memory : e'.memory
      ≡ set (set e.memory (stack_of e.machine - 1) e.machine.psr) (stack_of e.machine - 2) e.machine.pc

pub record BackReturns : Type 0 where
  pub made : (s : Start) (n k : ℕ) → Interrupted s n k (call_of s k) → k + 2 ≤ (call_of s n).steps
  pub returns : (s : Start) (n k : ℕ) → Interrupted s n k (call_of s k) → CameBack s (call_of s k) (call_of s (k + 2))
  -- BACK leaves the device ready and enabled: it interrupts again at once.
  pub again : (s : Start) (n k : ℕ) → Interrupted s n k (call_of s k) → (call_of s k).machine.devices.kbsr < 65536
      → (call_of s k).machine.devices.timer_status < 65536 → takes_interrupt (cause_at s (k + 2)) ≡ true

-- The machine is where it was.
pub record StaysAt (e e' : End) : Type 0 where
  pub registers : e'.machine.regs ≡ e.machine.regs
  pub psr : e'.machine.psr ≡ e.machine.psr
  pub pc : e'.machine.pc ≡ e.machine.pc
  pub shown : e'.shown ≡ e.shown
  pub output : e'.output ≡ e.output

-- So program and routine make no further step: after any number of interrupts, none of whose RTIs is interrupted in its
-- turn, the machine is where it was at the first.
abbrev pub Standstill : Type 0
Standstill = (s : Start) (n k : ℕ) → Interrupted s n k (call_of s k) → (call_of s k).machine.devices.kbsr < 65536
    → (call_of s k).machine.devices.timer_status < 65536 → (i : ℕ) → k + 2 * i ≤ n
    → ((j : ℕ) → j < i → takes_interrupt (cause_at s (k + 2 * j + 1)) ≡ false)
    → StaysAt (call_of s k) (call_of s (k + 2 * i))
