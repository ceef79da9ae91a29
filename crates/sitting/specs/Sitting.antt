-- A sitting: a candidate's program runs in User mode beside our monitor, and privileged memory also holds words that
-- must not become known. Two sittings begin alike but for such secret words. However often the program traps, raises an
-- exception or is interrupted, and whatever the monitor's routines do for it: each call of the one sitting is answered
-- as that of the other, and no secret word is changed. So nothing that the program computes, nothing that is displayed
-- and nothing that is logged depends on a secret word.
use Rattle.std.specs.Prelude.{ℕ, ◌-◌, ◌≡◌, Bool, true, cond, ◌&&◌, ◌||◌, not, List, [], ◌∷◌, leb, ltb, eqb, length}
use Rattle.std.specs.Prelude.{take}
use Rattle.machine.specs.declared.Machine.{Machine}
use Rattle.machine.specs.declared.Devices.{Devices}
use Rattle.machine.specs.Psr.{in_user_mode}
use Rattle.machine.specs.Record.{with_mcr}
use Rattle.footprint.specs.Footprint.{SameWordAt}
use Rattle.footprint.specs.Altered.{SameOutside}
use Rattle.run.specs.Run.{Start, End}
use Rattle.run.specs.Call.{start_of, call_of}
use Rattle.run.specs.AlteredWords.{SameEnds}
use Rattle.logging.specs.declared.LoggedEnding.TheVariants.{Run}
use Rattle.logging.specs.LoggedRun.{Logged, with_log, run_in}
use Rattle.logging.specs.LoggedCall.{logged_call_of}
use Rattle.monitor.specs.Routines.{monitor_words}

-- ---- secret words

-- The interrupt enable, bit 14, of a status register. Bits 15 and 14 alone are defined, so it is clear in x0000 and
-- x8000 only. (An undefined bit counts as enabled: every call refuses it with 12.)
unfoldable pub is_enabled : ℕ → Bool
is_enabled status = not (eqb status 0 || eqb status 0x8000)

-- The lowest word of a stack that goes down to `lowest` without interrupts. An interrupt pushes two words more, and the
-- timer's may interrupt the keyboard's.
unfoldable pub stack_from : ℕ → Devices → ℕ
stack_from lowest d = lowest - cond (is_enabled d.kbsr) 2 0 - cond (is_enabled d.timer_status) 2 0

-- The lowest word of our monitor's stack, which ends at x2FFF. The deepest routine, PUTSP, has six words, the
-- trap's two among them.
abbrev pub lowest_stack_word : Devices → ℕ
lowest_stack_word = stack_from 0x2FFA

-- The words that can be kept secret beside a stack: every privileged word (below x3000, or from xFE00 on) but the
-- monitor's, x0000 to x02A4, and the stack's. From xFE00 on these are the lent words, those behind the device registers
-- too.
unfoldable pub is_secret_above : ℕ → ℕ → Bool
is_secret_above stack a = leb 0x02A5 a && ltb a stack || leb 0xFE00 a

abbrev pub is_secret : Devices → ℕ → Bool
is_secret d = is_secret_above (lowest_stack_word d)

-- ---- the calls of a sitting

-- A call of the host's. Where it `restarts`, a halted machine is first set going again, by the clock enable of MCR. The
-- call makes at most so many steps, with these keys and this output; where it is `logged`, it writes to the log.
pub record Call : Type 0 where
  pub restarts : Bool
  pub steps : ℕ
  pub times : List ℕ
  pub bytes : List ℕ
  pub output : List ℕ
  pub logged : Bool
  pub log : List ℕ

-- Where a call begins, from this record and memory.
unfoldable pub start_at : Call → Machine → List ℕ → Start
start_at c m memory =
    start_of (cond c.restarts (with_mcr 0x8000 m) m) memory c.times c.bytes c.output

-- What a run answers and leaves, and the log as it is.
abbrev pub without_log : End → List ℕ → Logged
without_log e log = with_log (Run e.ending) e log 0

-- What a call answers and leaves. One that is not logged leaves the log as it is.
unfoldable pub answer_to : Call → Machine → List ℕ → Logged
answer_to c m memory = cond c.logged
    (logged_call_of (start_at c m memory) c.log c.steps)
    (without_log (call_of (start_at c m memory) c.steps) c.log)

-- What a call answers and leaves that comes after earlier ones, each of which begins where the one before it stopped.
unfoldable pub answer_after : List Call → Call → Machine → List ℕ → Logged
answer_after [] call m memory = answer_to call m memory
answer_after (c ∷ earlier) call m memory =
    answer_after earlier call (answer_to c m memory).machine (answer_to c m memory).memory

-- ---- two sittings

-- A sitting begins beside a monitor. Nothing is asked of registers, PC, codes, priority, devices, clock and other
-- words, and nothing of the calls: one that is malformed is refused, in both sittings, and does nothing.
pub record Begins (Intact : List ℕ → Type 0) (m : Machine) (memory : List ℕ) : Type 0 where
  -- the record has R0 to R7, and memory 65,536 words
  pub registers : length m.regs ≡ 8
  pub size : length memory ≡ 65536
  pub user_mode_lem : in_user_mode m.psr ≡ true
  -- the monitor is in memory, with its stack at x3000
  pub intact : Intact memory
  pub stack : m.saved_ssp ≡ 0x3000

-- Equal records, counts, stops, outputs and logs, and memories that are equal but for secret words.
pub record SameAnswers (secret : ℕ → Bool) (a₁ a₂ : Logged) : Type 0 where
  pub run : SameEnds secret (run_in a₁) (run_in a₂)
  pub log : a₁.log ≡ a₂.log
  pub words : a₁.words ≡ a₂.words
  pub ending : a₁.ending ≡ a₂.ending

-- Every secret word is as it was before the sitting, and the monitor is intact.
pub record Guarded (Intact : List ℕ → Type 0) (secret : ℕ → Bool) (before after : List ℕ) : Type 0 where
  pub secrets : (a : ℕ) → secret a ≡ true → SameWordAt after before a
  pub size : length after ≡ 65536
  pub intact : Intact after

pub record TellsNothing (Intact : List ℕ → Type 0) (secret : ℕ → Bool) (memory₁ memory₂ : List ℕ)
    (a₁ a₂ : Logged) : Type 0
  where
    pub same : SameAnswers secret a₁ a₂
    pub guarded₁ : Guarded Intact secret memory₁ a₁.memory
    pub guarded₂ : Guarded Intact secret memory₂ a₂.memory

-- Beside a monitor nothing is told of secret words: two sittings begin with one record and with memories that are equal
-- but for secret words (so that the second has the monitor too). After whatever earlier calls, whatever call comes next
-- is answered alike in both.
abbrev pub SecrecyBeside : (List ℕ → Type 0) → (Devices → ℕ → Bool) → Type 0
SecrecyBeside Intact is_secret =
    (m : Machine) (memory₁ memory₂ : List ℕ) → Begins Intact m memory₁
    → SameOutside (is_secret m.devices) memory₁ memory₂
    → (earlier : List Call) (call : Call)
    → TellsNothing Intact (is_secret m.devices) memory₁ memory₂
    (answer_after earlier call m memory₁) (answer_after earlier call m memory₂)

-- Our monitor is in memory.
abbrev pub HasMonitor : List ℕ → Type 0
HasMonitor memory = take (length monitor_words) memory ≡ monitor_words

abbrev pub SittingTellsNothing : Type 0
SittingTellsNothing = SecrecyBeside HasMonitor is_secret
