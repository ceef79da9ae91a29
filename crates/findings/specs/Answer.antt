-- One page for an examiner's reviewer: what is claimed of a class's monitor, and what is concluded of whole sittings
-- beside it where `certify` finds nothing wrong. M31 of docs/MACHINE.md has the rules, and docs/CERTIFY.md says it in
-- words. Where something is found wrong, specs/Wrong.antt says what that means.
use Rattle.std.specs.Prelude.{ℕ, ◌≡◌, Bool, true, cond, ◌&&◌, ◌||◌, not, List, leb, ltb, eqb, length, get_or}
use Rattle.machine.specs.declared.Devices.{Devices}
use Rattle.machine.specs.declared.Machine.{Machine}
use Rattle.machine.specs.Psr.{in_user_mode}
use Rattle.footprint.specs.Footprint.{SameWordAt}
use Rattle.footprint.specs.Altered.{SameOutside}
use Rattle.start.specs.Start.{user_started_of}
use Rattle.sitting.specs.Sitting.{stack_from, Call, answer_after, TellsNothing}
use Rattle.sitting.specs.Test.{passes}
use Rattle.claims.specs.Encoding.{claim_of}
use Rattle.findings.specs.Finding.{certify_of}

-- ---- what is claimed

-- Three of the things that `certify` is lent are the claim (M31.1). `memory` has the words. `kinds` has a number for
-- each word from x0000 on: 1, it is fixed, and never changes; 2, it is the monitor's own, which the routines may write;
-- any other number, or none, it is secret. `lowest` is the lowest word of the routines' stack, which ends at x2FFF. By
-- `watched`, `ends` and `table` nothing is claimed: they show the test what is known at each word, and any tool may
-- make them.
abbrev pub is_fixed_by : List ℕ → ℕ → Bool
is_fixed_by kinds a = eqb (get_or kinds a 0) 1

abbrev pub is_own_by : List ℕ → ℕ → Bool
is_own_by kinds a = eqb (get_or kinds a 0) 2

-- The secret words: those of privileged memory (M6.1) below the stack that are neither fixed nor the monitor's own, and
-- the lent words from xFE00 on. An interrupt pushes two words below `lowest` (M8.4), and the timer's may interrupt the
-- keyboard's.
unfoldable pub is_secret_by : List ℕ → ℕ → Devices → ℕ → Bool
is_secret_by kinds lowest d a =
    cond (ltb a (stack_from lowest d)) (not (is_fixed_by kinds a || is_own_by kinds a)) (leb 0xFE00 a)

-- ---- what is concluded

-- A sitting begins on the memory that was tested: in User mode, with the monitor's stack at x3000. Nothing is asked of
-- the other registers, of PC, codes, priority, devices and clock, of the monitor's own words, of User mode's.
pub record SitsOn (memory : List ℕ) (m : Machine) : Type 0 where
  pub registers : length m.regs ≡ 8
  pub size : length memory ≡ 65536
  pub user_mode_lem : in_user_mode m.psr ≡ true
  pub stack : m.saved_ssp ≡ 0x3000

-- Every fixed word is as it was.
abbrev pub FixedStay : List ℕ → List ℕ → List ℕ → Type 0
FixedStay kinds before after = (a : ℕ) → is_fixed_by kinds a ≡ true → SameWordAt after before a

-- Take any other memory that is equal to it but for secret words. Every call, after whatever earlier calls, is answered
-- alike on both: with equal records, counts, stops, outputs and logs, and memories that are equal but for secret words.
-- And it leaves every secret word and every fixed word as it was (M31.5, M30.3; `TellsNothing` in crates/sitting).
abbrev pub CertifyingIsEnough : Type 0
CertifyingIsEnough =
    (memory kinds : List ℕ) (lowest : ℕ) (watched ends table : List ℕ)
    → (certify_of memory kinds lowest watched ends table).finding ≡ 0
    → (m : Machine) → SitsOn memory m
    → (other : List ℕ) → SameOutside (is_secret_by kinds lowest m.devices) memory other
    → (earlier : List Call) (call : Call)
    → TellsNothing (FixedStay kinds memory) (is_secret_by kinds lowest m.devices) memory other
    (answer_after earlier call m memory) (answer_after earlier call m other)

-- The file that a candidate hands in, any bytes at all: where `start_user` accepts it (M25.6), the machine that it
-- answers sits on the memory that it leaves, and there too nothing is wrong.
abbrev pub AcceptedFileSits : Type 0
AcceptedFileSits =
    (memory kinds : List ℕ) (lowest : ℕ) (watched ends table : List ℕ)
    → (certify_of memory kinds lowest watched ends table).finding ≡ 0
    → (file : List ℕ) (userStack : ℕ) → (user_started_of file memory userStack).refusal ≡ 0
    → SitsOn (user_started_of file memory userStack).memory (user_started_of file memory userStack).machine
    × ((certify_of (user_started_of file memory userStack).memory kinds lowest watched ends table).finding ≡ 0)

-- And no good claim is refused: the finding is 0 exactly where eight words are watched and the claim passes the test
-- (M31.2; crates/sitting/specs/Test.antt).
abbrev pub CertifiesWhatPasses : Type 0
CertifiesWhatPasses =
    (memory kinds : List ℕ) (lowest : ℕ) (watched ends table : List ℕ)
    → eqb (certify_of memory kinds lowest watched ends table).finding 0
    ≡ (eqb (length watched) 8 && passes (claim_of memory kinds lowest watched ends table))
