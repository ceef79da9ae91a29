-- HALT: shows "Halted" and a line feed, then halts.
use Rattle.std.specs.Prelude.{ℕ, ◌≤◌, ◌<◌, Bool, List, length}
use Rattle.text.specs.Characters.{codes_in}
use Rattle.run.specs.Run.{Start}
use Rattle.monitor.specs.Uses.{halt_code}
use Rattle.monitor.specs.Calls.{Calls, NoInterrupt, Halts}

-- "HALT's message [is] "Halted" and a line feed."
abbrev pub message : List ℕ
message = codes_in "Halted\n"

-- Its steps, from the trap to the store to MCR: they are as many whatever the display's count is at the call.
abbrev pub halt_steps : ℕ
halt_steps = 86

-- Called with room for seven bytes, HALT shows its message and nothing else, and halts; no word is
-- changed but five of the stack's.
abbrev pub HaltShows : Type 0
HaltShows = (user : Bool) (s : Start) (n : ℕ) → Calls 0x25 halt_code 5 user s n → halt_steps < n → 7 ≤ length s.output
    → NoInterrupt s halt_steps → Halts s n halt_steps message 0 5
