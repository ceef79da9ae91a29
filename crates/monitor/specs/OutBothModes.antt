-- OUT called from either mode, where no more than the words that it uses are intact, in the terms of the other
-- routines.
use Rattle.std.specs.Prelude.{ℕ, ◌%◌, ◌≤◌, ◌<◌, Bool, [], ◌∷◌, length, get_or}
use Rattle.run.specs.Run.{Start}
use Rattle.monitor.specs.Uses.{out_code}
use Rattle.monitor.specs.Out.{out_steps_of}
use Rattle.monitor.specs.Calls.{Calls, NoInterrupt, not_read, Resumes}

-- R0's low byte is shown and nothing else, registers and PSR are as before, and no word is changed but three of the
-- stack's. The byte was shown four steps before the end, so that the display's count is 5.
abbrev pub OutResumes : Type 0
OutResumes = (user : Bool) (s : Start) (n : ℕ) → Calls 0x21 out_code 3 user s n → 0 < length s.output
    → out_steps_of s ≤ n → NoInterrupt s (out_steps_of s)
    → Resumes s n (out_steps_of s) ((get_or s.machine.regs 0 0 % 256) ∷ []) 5 3 s.machine.regs (not_read s)
