-- PUTS: shows the low byte of each word from R0 on, up to a word x0000; "a routine .. reads no privileged word" for a
-- caller in User mode.
use Rattle.std.specs.Prelude.{ℕ, suc, ◌+◌, ◌-◌, ◌%◌, ◌≤◌, ◌<◌, ◌≡◌, Bool, true, false, cond, not, ◌&&◌, List, [], ◌∷◌}
use Rattle.std.specs.Prelude.{map, leb, ltb, length, get_or}
use Rattle.machine.specs.Protection.{privileged}
use Rattle.run.specs.Run.{Start}
use Rattle.monitor.specs.Uses.{between, puts_code}
use Rattle.monitor.specs.Out.{wait_steps}
use Rattle.monitor.specs.Calls.{stack_of, Calls, NoInterrupt, not_read, Resumes, Halts}

-- The words of a string. A caller in User mode has it where User mode may read, and one in Supervisor mode anywhere
-- below the device registers; but neither in the words of the stack, below sp, that the routine uses itself.
abbrev pub may_read : Bool → ℕ → ℕ → ℕ → Bool
may_read user words sp a = cond user (not (privileged a)) (ltb a 0xFE00) && not (between (sp - words) (sp - 1) a)

-- The same for a call that uses so many words of its stack.
abbrev pub may_read_of : Bool → ℕ → Start → ℕ → Bool
may_read_of user words s a = may_read user words (stack_of s.machine) a

-- From a up to b stand these words, at addresses that may be read, and none of them is zero.
abbrev pub StringFrom : (ℕ → Bool) → List ℕ → ℕ → List ℕ → ℕ → Type 0
StringFrom may mem a [] b = a ≡ b
StringFrom may mem a (w ∷ words) b =
    (may a ≡ true) × (get_or mem a 0 ≡ w) × (0 < w) × StringFrom may mem (suc a) words b

-- "The low byte of each word."
abbrev pub low_bytes : List ℕ → List ℕ
low_bytes words = map (λ (w : ℕ). w % 256) words

-- The look at the address: in User mode five steps from x7E00 on, and eight below; in Supervisor mode LDR and BRzp.
abbrev pub look_steps : Bool → ℕ → ℕ
look_steps user a = cond user (cond (leb 0x7E00 a) 5 8) 2

-- The steps for these words from a on, where the display's count is this at the first look: the look, LDR, BRz; the
-- wait; STI, ADD, BRnzp, after which the count is 6. So in User mode the display is ready each time.
unfoldable pub word_steps : Bool → ℕ → ℕ → List ℕ → ℕ
word_steps user busy a [] = 0
word_steps user busy a (w ∷ words) =
    look_steps user a + (2 + (wait_steps (busy - look_steps user a - 2) + 3)) + word_steps user 6 (suc a) words

abbrev pub r0 : Start → ℕ
r0 s = get_or s.machine.regs 0 0

-- Up to the look that finds the end, or a privileged address: the trap and four steps, and the words.
abbrev pub string_steps : Bool → Start → List ℕ → ℕ
string_steps user s words = 5 + word_steps user (s.machine.devices.busy - 5) (r0 s) words

-- All: the look, LDR, BRz, three LDR, ADD, RTI follow.
abbrev pub puts_steps : Bool → Start → List ℕ → ℕ → ℕ
puts_steps user s words b = string_steps user s words + (look_steps user b + 7)

-- Where PUTS is refused a word: the look takes eight steps, and LDR, LDR, LDR, BRnzp, LD, STI follow.
abbrev pub refused_steps : Start → List ℕ → ℕ
refused_steps s words = string_steps true s words + 14

pub record PutsShows : Type 0 where
  -- where the stack is below x3000, as a start makes it, a caller in User mode may have its string wherever it may read
  pub in_user_mode_lem : (words sp a : ℕ) → sp ≤ 0x3000 → privileged a ≡ false → may_read true words sp a ≡ true
  -- A string that ends in a word x0000: its low bytes are shown in order, and nothing else; the caller resumes with all
  -- registers as before; no word is changed but five of the stack's. The display is ready again.
  pub shows : (user : Bool) (s : Start) (n : ℕ) → Calls 0x22 puts_code 5 user s n → (words : List ℕ) (b : ℕ)
      → StringFrom (may_read_of user 5 s) s.memory (r0 s) words b → may_read_of user 5 s b ≡ true
      → get_or s.memory b 0 ≡ 0 → length words ≤ length s.output → puts_steps user s words b ≤ n
      → NoInterrupt s (puts_steps user s words b)
      → Resumes s n (puts_steps user s words b) (low_bytes words) 0 5 s.machine.regs (not_read s)
  -- One of a caller in User mode that begins in a privileged word or runs into one: what came before is shown, and the
  -- machine halts.
  pub is_refused : (s : Start) (n : ℕ) → Calls 0x22 puts_code 5 true s n → (words : List ℕ) (b : ℕ)
      → StringFrom (may_read_of true 5 s) s.memory (r0 s) words b → privileged b ≡ true → b < 65536
      → length words ≤ length s.output → refused_steps s words < n → NoInterrupt s (refused_steps s words)
      → Halts s n (refused_steps s words) (low_bytes words) 0 5
