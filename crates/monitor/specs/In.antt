-- IN: shows its prompt, waits for a key, shows it; R0 becomes the key.
use Rattle.std.specs.Prelude.{ℕ, ◌+◌, ◌-◌, ◌*◌, ◌%◌, ◌≤◌, Bool, List, [], ◌∷◌, ◌++◌, length, set}
use Rattle.text.specs.Characters.{codes_in}
use Rattle.run.specs.Run.{Start}
use Rattle.monitor.specs.Out.{wait_steps}
use Rattle.monitor.specs.Keys.{key_at}
use Rattle.monitor.specs.Uses.{in_code}
use Rattle.monitor.specs.Calls.{Calls, NoInterrupt, read_in, Resumes}
use Rattle.monitor.specs.Getc.{KeyComes}

-- "IN's prompt is "Input a character> "."
abbrev pub prompt : List ℕ
prompt = codes_in "Input a character> "

-- The step that first polls KBSR: the trap and six steps, during which the display's count falls by seven; the wait for
-- the display; and 203 steps, with the prompt shown and the waits between its bytes.
abbrev pub first_poll : Start → ℕ
first_poll s = 7 + (wait_steps (s.machine.devices.busy - 7) + 203)

-- The step that loads KBDR, after so many polls that find no key.
abbrev pub key_step : Start → ℕ → ℕ
key_step s turns = first_poll s + 2 * turns + 2

-- The wait before the echo: the count was 4 at the first poll of KBSR.
abbrev pub echo_wait : ℕ → ℕ
echo_wait turns = wait_steps (4 - 2 * turns - 1 - 1 - 1)

-- STI, two LDR, ADD and RTI follow.
abbrev pub in_steps : Start → ℕ → ℕ
in_steps s turns = key_step s turns + 1 + (echo_wait turns + 4) + 1

-- What is shown: the prompt, and the key.
abbrev pub shown_by_in : Start → ℕ → List ℕ
shown_by_in s turns = prompt ++ (key_at s (key_step s turns) % 256) ∷ []

-- R0 becomes the key, which is a byte (Getc's `is_byte_lem`), all other registers and the PSR are as before, prompt and
-- key
-- are shown and nothing else, ready is cleared, and no word is changed but four of the stack's.
abbrev pub InReads : Type 0
InReads = (user : Bool) (s : Start) (n turns : ℕ) → Calls 0x23 in_code 4 user s n → KeyComes s (first_poll s) turns
    → length (shown_by_in s turns) ≤ length s.output → in_steps s turns ≤ n → NoInterrupt s (in_steps s turns)
    → Resumes s n (in_steps s turns) (shown_by_in s turns) 4 4
    (set s.machine.regs 0 (key_at s (key_step s turns))) (read_in (key_step s turns) s)
