-- A call of one of the monitor's routines, from User mode or from Supervisor mode, and what it leaves: the caller
-- resumed, or the machine halted.
use Rattle.std.specs.Prelude.{ℕ, suc, ◌+◌, ◌-◌, ◌*◌, ◌/◌, ◌%◌, ◌≤◌, ◌≡◌, Bool, true, false, cond, List, length, get_or}
use Rattle.std.specs.Prelude.{set, take, drop}
use Rattle.word.specs.Reading.{read_of}
use Rattle.word.specs.declared.Instruction.TheVariants.{Trap}
use Rattle.machine.specs.declared.Machine.{Machine}
use Rattle.machine.specs.Words.{next}
use Rattle.machine.specs.Record.{timer_of}
use Rattle.machine.specs.Psr.{in_user_mode}
use Rattle.machine.specs.Protection.{denied}
use Rattle.machine.specs.Keys.{ready_after, last_key}
use Rattle.machine.specs.Timer.{ticked_by}
use Rattle.machine.specs.Outcome.{Reason, vector_of, entered}
use Rattle.run.specs.declared.Ending.TheVariants.{Done, Halted}
use Rattle.run.specs.Run.{Start, End}
use Rattle.run.specs.Refusals.{admission_of, Accepted}
use Rattle.run.specs.Call.{call_of}
use Rattle.run.specs.Noninterference.{cause_at}
use Rattle.lent.specs.Lent.{written_over}
use Rattle.monitor.specs.Uses.{HasWords, with_vector}
use Rattle.monitor.specs.Keys.{arrived_by}
use Rattle.monitor.specs.Out.{Uninterrupted, NotEnabled}

-- Where the entry's pushes begin: Saved_SSP in User mode, and R6 in Supervisor mode.
abbrev pub stack_of : Machine → ℕ
stack_of m = cond (in_user_mode m.psr) m.saved_ssp (get_or m.regs 6 0)

-- So many words below sp are apart from the monitor's own words, x0000 to x02A4, and from the device registers.
pub record StackApart (words sp : ℕ) : Type 0 where
  pub above_monitor : 0x02A5 + words ≤ sp
  pub below_devices : sp ≤ 0xFE00

-- An accepted call of n steps that begins in User mode or not, "with the monitor's words intact", as far as these are
-- used, so many words of supervisor stack apart from them, wherever it is, and MCR x8000. Nothing is asked of other
-- registers, codes, priority, other words and keys.
pub record Begins (uses : ℕ → Bool) (words : ℕ) (user : Bool) (s : Start) (n : ℕ) : Type 0 where
  pub accepted : admission_of s n ≡ Accepted
  pub registers : length s.machine.regs ≡ 8
  pub mode : in_user_mode s.machine.psr ≡ user
  pub intact : HasWords uses s.memory
  pub stack : StackApart words (stack_of s.machine)
  pub mcr : s.machine.devices.mcr ≡ 0x8000

-- Its next instruction is this TRAP, at an address that it may fetch from.
pub record Calls (vector : ℕ) (code : ℕ → Bool) (words : ℕ) (user : Bool) (s : Start) (n : ℕ) : Type 0 where
  pub begins : Begins (with_vector vector code) words user s n
  pub may_fetch : denied s.machine.psr s.machine.pc ≡ false
  pub trap : read_of (get_or s.memory s.machine.pc 0) ≡ Trap vector

-- In User mode its next step raises this exception, or makes the entry for this trap, and pushes this PC.
pub record Raises (reason : Reason) (code : ℕ → Bool) (words : ℕ) (s : Start) (n : ℕ) : Type 0 where
  pub begins : Begins (with_vector (vector_of reason) code) words true s n
  pub pushed_psr : ℕ
  pub pushed_pc : ℕ
  pub cause : cause_at s 0 ≡ entered reason pushed_psr pushed_pc

-- "No interrupt on the way": the first k steps take none, or no device is enabled at the call.
pub data NoInterrupt (s : Start) (k : ℕ) : Type 0 where
  takes_none : Uninterrupted s k → NoInterrupt s k
  none_enabled : NotEnabled s.machine.devices → NoInterrupt s k

-- KBSR once so many keys have arrived: where KBDR has not been loaded since the call, and where it was loaded in step
-- j, which clears ready.
abbrev pub not_read : Start → ℕ → ℕ
not_read s keys = ready_after (take keys s.bytes) s.machine.devices.kbsr

abbrev pub read_in : ℕ → Start → ℕ → ℕ
read_in j s keys =
    ready_after (take (keys - arrived_by s (suc j)) (drop (arrived_by s (suc j)) s.bytes))
    (s.machine.devices.kbsr % 0x8000)

-- What the routine leaves of record, memory and output in k steps: it showed these bytes and nothing else, stored to no
-- word but so many of the stack's, and the display's count is `busy`.
pub record Leaves (s : Start) (k : ℕ) (bytes : List ℕ) (busy words : ℕ) (e : End) : Type 0 where
  pub steps : e.steps ≡ k
  pub keys : e.keys ≡ arrived_by s k
  pub shown : e.shown ≡ length bytes
  pub output : e.output ≡ written_over bytes s.output
  pub saved_ssp_lem : e.machine.saved_ssp ≡ s.machine.saved_ssp
  -- as every entry from User mode leaves it
  pub saved_usp_lem : e.machine.saved_usp
      ≡ cond (in_user_mode s.machine.psr) (get_or s.machine.regs 6 0) s.machine.saved_usp
  pub kbdr : e.machine.devices.kbdr ≡ last_key (take e.keys s.bytes) s.machine.devices.kbdr
  pub timer : timer_of e.machine.devices ≡ ticked_by k (timer_of s.machine.devices)
  pub display : e.machine.devices.busy ≡ busy
  pub clock : e.machine.clock ≡ s.machine.clock + k
  pub words_below_lem : take (stack_of s.machine - words) e.memory ≡ take (stack_of s.machine - words) s.memory
  pub words_above_lem : drop (stack_of s.machine) e.memory ≡ drop (stack_of s.machine) s.memory

-- The call of n steps makes k of them, and after those the caller has resumed at Next, with its PSR as before, these
-- registers, and KBSR by the keys that have arrived.
pub record Resumes (s : Start) (n k : ℕ) (bytes : List ℕ) (busy words : ℕ) (registers : List ℕ) (status : ℕ → ℕ) :
    Type 0 where
  pub made : k ≤ (call_of s n).steps
  pub leaves : Leaves s k bytes busy words (call_of s k)
  pub ending : (call_of s k).ending ≡ Done
  pub pc : (call_of s k).machine.pc ≡ next s.machine.pc
  pub psr : (call_of s k).machine.psr ≡ s.machine.psr
  pub registers_are : (call_of s k).machine.regs ≡ registers
  pub mcr : (call_of s k).machine.devices.mcr ≡ 0x8000
  pub kbsr : (call_of s k).machine.devices.kbsr ≡ status (call_of s k).keys

-- The call of n steps makes k of them and is then halted, with R0 to R5 and R7 as before.
pub record Halts (s : Start) (n k : ℕ) (bytes : List ℕ) (busy words : ℕ) : Type 0 where
  pub leaves : Leaves s k bytes busy words (call_of s n)
  pub ending : (call_of s n).ending ≡ Halted
  pub mcr : (call_of s n).machine.devices.mcr ≡ 0
  pub kbsr : (call_of s n).machine.devices.kbsr ≡ not_read s (call_of s n).keys
  pub registers_are : (call_of s n).machine.regs ≡ set s.machine.regs 6 0x2FFE
  -- in Supervisor mode, in front of the branch back to the start of STOP
  pub pc : (call_of s n).machine.pc ≡ 0x027E
  pub psr : (call_of s n).machine.psr ≡ s.machine.psr / 8 % 4096 * 8 + 1
