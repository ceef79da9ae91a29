-- What is proved of the timer: it is entered at once, and it is ready at every interval.
use Rattle.std.specs.Prelude.{ℕ, suc, ◌+◌, ◌-◌, ◌*◌, ◌%◌, ◌≤◌, ◌<◌, ◌≡◌, List, eqb}
use Rattle.machine.specs.declared.Machine.{Machine}
use Rattle.machine.specs.Record.{Timer}
use Rattle.machine.specs.Psr.{priority_of}
use Rattle.machine.specs.Timer.{expires, ticked_by}
use Rattle.machine.specs.Interrupts.{timer_vector, timer_priority}
use Rattle.machine.specs.Entry.{interrupted}
use Rattle.machine.specs.Step.{ended, after_start, step_of}

-- "A ready and enabled timer, with PSR priority below 6, must be entered in that very step", whatever else holds: keys,
-- the keyboard's interrupt, the word at PC.
pub record TimerIsEnteredAtOnce (keys : List ℕ) (m : Machine) (mem : List ℕ) : Type 0 where
  -- where it is ready once the count has fallen, in that very step;
  pub once_ready : 0xC000 ≤ (after_start keys m).devices.timer_status → priority_of m.psr < timer_priority
      → step_of keys m mem ≡ ended (interrupted timer_vector timer_priority (after_start keys m) mem)
  -- and so where it was ready before
  pub ready_before : 0xC000 ≤ m.devices.timer_status → m.devices.timer_status < 0x10000
      → priority_of m.psr < timer_priority
      → step_of keys m mem ≡ ended (interrupted timer_vector timer_priority (after_start keys m) mem)

-- The timer once this interval has been stored.
abbrev pub new_interval : ℕ → ℕ → Timer
new_interval status i = record { status = status; interval = i; count = i }

-- With nothing else touching it, the timer is ready "at the i-th step and every i steps after".
pub record ReadyAtEveryInterval (status i : ℕ) : Type 0 where
  -- fewer than i steps lower the count, and no more;
  pub not_before : (k : ℕ) → k < i → ticked_by k (new_interval status i)
      ≡ record { status = status; interval = i; count = i - k }
  -- i steps set ready, and the count is the interval again;
  pub at_the_interval : ticked_by i (new_interval status i) ≡ new_interval (status % 0x8000 + 0x8000) i
  -- step number q * i + r + 1, for r below i, is one in which the count comes to zero exactly if r + 1 is i
  pub every_interval : (q r : ℕ) → r < i → expires (ticked_by (q * i + r) (new_interval status i)) ≡ eqb (suc r) i

pub record TimerTheorems : Type 0 where
  pub entered_at_once : (keys : List ℕ) (m : Machine) (mem : List ℕ) → TimerIsEnteredAtOnce keys m mem
  pub ready_at_every_interval : (status i : ℕ) → 0 < i → ReadyAtEveryInterval status i
