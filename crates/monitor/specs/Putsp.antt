-- PUTSP: shows the low byte, then the high byte, of each word from R0 on, up to a word x0000; "PUTSP no zero byte".
use Rattle.std.specs.Prelude.{ℕ, zero, suc, ◌+◌, ◌*◌, ◌/◌, ◌%◌, ◌≤◌, ◌<◌, ◌≡◌, Bool, true, cond, List, [], ◌∷◌, ◌++◌}
use Rattle.std.specs.Prelude.{eqb, length, get_or}
use Rattle.machine.specs.Protection.{privileged}
use Rattle.run.specs.Run.{Start}
use Rattle.monitor.specs.Uses.{putsp_code}
use Rattle.monitor.specs.Calls.{Calls, NoInterrupt, not_read, Resumes, Halts}
use Rattle.monitor.specs.Puts.{may_read_of, StringFrom, look_steps, r0}

-- Words of 16 bits.
abbrev pub AreWords : List ℕ → Type 0
AreWords [] = Unit {0}
AreWords (w ∷ words) = (w < 65536) × AreWords words

-- "No zero byte."
abbrev pub unless_zero : ℕ → List ℕ
unless_zero b = cond (eqb b 0) [] (b ∷ [])

-- The low byte, then the high byte, of each word.
unfoldable pub pair_bytes : List ℕ → List ℕ
pair_bytes [] = []
pair_bytes (w ∷ words) = unless_zero (w % 256) ++ (unless_zero (w / 256) ++ pair_bytes words)

-- The steps that shift so many bits out of R1: seven for a bit that is set, and six for another.
unfoldable pub shift_steps : ℕ → ℕ → ℕ
shift_steps zero r₁ = 0
shift_steps (suc bits) r₁ = 6 + r₁ / 0x8000 + shift_steps bits (r₁ * 2 % 65536)

-- LDI, BRzp, STI for a byte that is shown. The display is ready each time, in either mode.
abbrev pub byte_steps : ℕ → ℕ
byte_steps b = 3 * length (unless_zero b)

-- The look; LDR, BRz, LD, AND, BRz; the low byte; AND, ADD; the shift; ADD, BRz; the high byte; ADD, BRnzp.
abbrev pub pair_steps : Bool → ℕ → ℕ → ℕ
pair_steps user a w =
    look_steps user a + (5 + (byte_steps (w % 256) + (2 + (shift_steps 8 w + (2 + (byte_steps (w / 256) + 2))))))

unfoldable pub pairs_steps : Bool → ℕ → List ℕ → ℕ
pairs_steps user a [] = 0
pairs_steps user a (w ∷ words) = pair_steps user a w + pairs_steps user (suc a) words

-- All: the trap and five steps; the words; the look, LDR, BRz, four LDR, ADD, RTI.
abbrev pub putsp_steps : Bool → ℕ → List ℕ → ℕ → ℕ
putsp_steps user a words b = 6 + pairs_steps user a words + (look_steps user b + 8)

-- Where PUTSP is refused a word: the look takes eight steps, and four LDR, BRnzp, LD, STI follow.
abbrev pub refused_pair_steps : ℕ → List ℕ → ℕ
refused_pair_steps a words = 6 + pairs_steps true a words + 15

-- As PUTS, and no word is changed but six of the stack's.
pub record PutspShows : Type 0 where
  pub shows : (user : Bool) (s : Start) (n : ℕ) → Calls 0x24 putsp_code 6 user s n → (words : List ℕ) (b : ℕ)
      → StringFrom (may_read_of user 6 s) s.memory (r0 s) words b → AreWords words → may_read_of user 6 s b ≡ true
      → get_or s.memory b 0 ≡ 0 → length (pair_bytes words) ≤ length s.output → putsp_steps user (r0 s) words b ≤ n
      → NoInterrupt s (putsp_steps user (r0 s) words b)
      → Resumes s n (putsp_steps user (r0 s) words b) (pair_bytes words) 0 6 s.machine.regs (not_read s)
  pub is_refused : (s : Start) (n : ℕ) → Calls 0x24 putsp_code 6 true s n → (words : List ℕ) (b : ℕ)
      → StringFrom (may_read_of true 6 s) s.memory (r0 s) words b → AreWords words → privileged b ≡ true → b < 65536
      → length (pair_bytes words) ≤ length s.output → refused_pair_steps (r0 s) words < n
      → NoInterrupt s (refused_pair_steps (r0 s) words)
      → Halts s n (refused_pair_steps (r0 s) words) (pair_bytes words) 0 6
