-- GETC: waits for a key; R0 becomes the key. Nothing is shown.
use Rattle.std.specs.Prelude.{ℕ, suc, ◌+◌, ◌-◌, ◌*◌, ◌/◌, ◌≤◌, ◌<◌, ◌≡◌, Bool, true, List, [], ◌∷◌, length, set}
use Rattle.std.proofs.Math.Pow.{are_bytes}
use Rattle.run.specs.Run.{Start}
use Rattle.run.specs.Refusals.{admission_of, Accepted}
use Rattle.monitor.specs.Uses.{getc_code}
use Rattle.monitor.specs.Keys.{arrived_by, status_at, key_at}
use Rattle.monitor.specs.Calls.{Calls, NoInterrupt, read_in, Resumes}

-- KBSR is polled from step `first` on, every two steps: so many polls find no key, and the next finds one.
pub record KeyComes (s : Start) (first turns : ℕ) : Type 0 where
  pub none : (j : ℕ) → j < turns → status_at s (first + 2 * j) < 0x8000
  pub comes : 0x8000 ≤ status_at s (first + 2 * turns)

-- The trap; two steps for each poll; LDI of KBDR and RTI.
abbrev pub getc_steps : ℕ → ℕ
getc_steps turns = 5 + 2 * turns

pub record GetcReads : Type 0 where
  -- R0 becomes the last key that has arrived by the step that loads KBDR, all other registers and the PSR are as
  -- before, nothing is shown, ready is cleared, and no word is changed but two of the stack's.
  pub resumes : (user : Bool) (s : Start) (n turns : ℕ) → Calls 0x20 getc_code 2 user s n → KeyComes s 1 turns
      → getc_steps turns ≤ n → NoInterrupt s (getc_steps turns)
      → Resumes s n (getc_steps turns) [] (s.machine.devices.busy - getc_steps turns) 2
      (set s.machine.regs 0 (key_at s (3 + 2 * turns))) (read_in (3 + 2 * turns) s)
  -- "The high eight bits of R0 are cleared."
  pub is_byte : (s : Start) (n j : ℕ) → admission_of s n ≡ Accepted → are_bytes s.bytes ≡ true → key_at s j < 256
  -- a key that is ready at the call is found at once, and is the one in KBDR unless another arrives on the way
  pub ready : (s : Start) → 0x8000 ≤ s.machine.devices.kbsr → KeyComes s 1 0
  pub ready_key : (s : Start) (j : ℕ) → arrived_by s (suc j) ≡ 0 → key_at s j ≡ s.machine.devices.kbdr
  -- the first key to arrive, in step w: half as many polls find none, and it is that key unless another arrives
  pub arrives : (s : Start) (w : ℕ) (times : List ℕ) → s.machine.devices.kbsr < 0x8000 → 0 < length s.bytes
      → s.times ≡ (s.machine.clock + w) ∷ times → KeyComes s 1 (w / 2)
  pub arrived_key : (s : Start) (j b : ℕ) (bytes : List ℕ) → s.bytes ≡ b ∷ bytes → arrived_by s (suc j) ≡ 1
      → key_at s j ≡ b
