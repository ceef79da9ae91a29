-- STOP: "all other trap vectors lead to one routine that halts. The three exception words lead to a routine that
-- halts"; and "the other halting routines show nothing".
use Rattle.std.specs.Prelude.{ℕ, ◌+◌, ◌-◌, ◌≤◌, ◌<◌, ◌≡◌, Bool, false, List, [], length, get_or, take}
use Rattle.word.specs.Reading.{read_of}
use Rattle.word.specs.declared.Instruction.TheVariants.{Reserved}
use Rattle.machine.specs.Record.{with_mcr, timer_of}
use Rattle.machine.specs.Keys.{last_key}
use Rattle.machine.specs.Timer.{ticked_by}
use Rattle.machine.specs.Outcome.{privilege, illegal, access, vector_of}
use Rattle.run.specs.declared.Ending.TheVariants.{Halted}
use Rattle.run.specs.Run.{Start}
use Rattle.run.specs.Refusals.{admission_of, Accepted}
use Rattle.run.specs.Call.{call_of}
use Rattle.monitor.specs.Keys.{arrived_by}
use Rattle.monitor.specs.Uses.{HasWords, with_vector, stop_code}
use Rattle.monitor.specs.Calls.{stack_of, StackApart, Begins, Calls, Raises, NoInterrupt, not_read, Halts}

-- A trap vector that is none of x20 to x25.
pub record OtherTrap (vector : ℕ) : Type 0 where
  pub below : vector < 0x0100
  pub no_service : 0x0020 ≤ vector → 0x0026 ≤ vector

-- A host that finds the machine halted sets the clock enable of MCR and lets it go on, with any keys and any output.
pub record GoesOn (s : Start) (n : ℕ) (s' : Start) (n' : ℕ) : Type 0 where
  pub machine : s'.machine ≡ with_mcr 0x8000 (call_of s n).machine
  pub memory : s'.memory ≡ (call_of s n).memory
  pub accepted : admission_of s' n' ≡ Accepted

-- The machine is halted again after three steps, with nothing shown, registers, stack pointers, PC, PSR and memory as
-- they were; keyboard, timer and the display's count have gone on by three steps.
pub record HaltsAgain (s : Start) (n : ℕ) : Type 0 where
  pub steps : (call_of s n).steps ≡ 3
  pub ending : (call_of s n).ending ≡ Halted
  pub mcr : (call_of s n).machine.devices.mcr ≡ 0
  pub shown : (call_of s n).shown ≡ 0
  pub output : (call_of s n).output ≡ s.output
  pub registers : (call_of s n).machine.regs ≡ s.machine.regs
  pub saved_ssp_lem : (call_of s n).machine.saved_ssp ≡ s.machine.saved_ssp
  pub saved_usp_lem : (call_of s n).machine.saved_usp ≡ s.machine.saved_usp
  pub pc : (call_of s n).machine.pc ≡ s.machine.pc
  pub psr : (call_of s n).machine.psr ≡ s.machine.psr
  pub memory : (call_of s n).memory ≡ s.memory
  pub keys : (call_of s n).keys ≡ arrived_by s 3
  pub kbsr : (call_of s n).machine.devices.kbsr ≡ not_read s (call_of s n).keys
  pub kbdr : (call_of s n).machine.devices.kbdr
      ≡ last_key (take (call_of s n).keys s.bytes) s.machine.devices.kbdr
  pub timer : timer_of (call_of s n).machine.devices ≡ ticked_by 3 (timer_of s.machine.devices)
  pub display : (call_of s n).machine.devices.busy ≡ s.machine.devices.busy - 3
  pub clock : (call_of s n).machine.clock ≡ s.machine.clock + 3

-- Three steps, the entry, LD and STI: halted, nothing shown, no word changed but two of the stack's.
pub record StopHalts : Type 0 where
  pub other_trap : (vector : ℕ) → OtherTrap vector → (user : Bool) (s : Start) (n : ℕ)
      → Calls vector stop_code 2 user s n
      → 3 < n → NoInterrupt s 3 → Halts s n 3 [] (s.machine.devices.busy - 3) 2
  pub privilege_exception : (s : Start) (n : ℕ) → Raises privilege stop_code 2 s n → 3 < n → NoInterrupt s 3
      → Halts s n 3 [] (s.machine.devices.busy - 3) 2
  pub illegal_exception : (s : Start) (n : ℕ) → Raises illegal stop_code 2 s n → 3 < n → NoInterrupt s 3
      → Halts s n 3 [] (s.machine.devices.busy - 3) 2
  pub access_exception_lem : (s : Start) (n : ℕ) → Raises access stop_code 2 s n → 3 < n → NoInterrupt s 3
      → Halts s n 3 [] (s.machine.devices.busy - 3) 2
  -- the one exception in Supervisor mode: the word at PC is reserved
  pub illegal_in_supervisor_mode : (s : Start) (n reserved : ℕ)
      → Begins (with_vector (vector_of illegal) stop_code) 2 false s n
      → read_of (get_or s.memory s.machine.pc 0) ≡ Reserved reserved → 3 < n → NoInterrupt s 3
      → Halts s n 3 [] (s.machine.devices.busy - 3) 2
  -- "and it halts again": after STOP, after HALT, and after PUTS or PUTSP that was refused a word
  pub again : (s : Start) (n k : ℕ) (bytes : List ℕ) (busy words : ℕ) → length s.machine.regs ≡ 8
      → HasWords stop_code s.memory → Halts s n k bytes busy words → StackApart words (stack_of s.machine)
      → (s' : Start) (n' : ℕ)
      → GoesOn s n s' n' → 3 < n' → NoInterrupt s' 3 → HaltsAgain s' n'
