-- Our own monitor passes the test, with this table: so a sitting beside it tells nothing.
use Prim.Native.Nat.{ℕ, zero, suc, ◌-◌, ◌≤◌, ◌<◌}
use native.Mathlib.Decide.{dec_le}
use native.Mathlib.Omega.{arith}
use mathlib.Core.Path.{◌≡◌, refl, sym, ap, ◌∙◌}
use mathlib.Core.Bool.{Bool, true, false, cond, true≢false}
use mathlib.Core.List.{List, [], ◌∷◌, ◌++◌, map}
use borrow.Author.Tests.{lt-leb, le-leb, lt-ltb, le-ltb}
use lib.ListN.{length, get_or, replicate}
use Rattle.word.specs.Reading.{read_of}
use Rattle.machine.specs.declared.Machine.{Machine}
use Rattle.machine.specs.declared.Devices.{Devices}
use Rattle.machine.specs.Words.{and_bits}
use Rattle.machine.specs.Psr.{codes_of}
use Rattle.machine.specs.Devices.{is_device_by}
use Rattle.monitor.specs.Vectors.{vector_word, vectors_from, vector_table}
use Rattle.monitor.specs.Routines.{routine_words, monitor_words}
use Rattle.monitor.proofs.Intact.{monitor_length, monitor_word}
use Rattle.run.proofs.AlteredWords.{wider_ends}
use Rattle.logging.specs.LoggedRun.{Logged}
use Rattle.sitting.specs.Sitting.{is_enabled, stack_from, lowest_stack_word, is_secret_above, is_secret, Begins}
use Rattle.sitting.specs.Sitting.{answer_after, SameAnswers, Guarded, HasMonitor, SittingTellsNothing}
use Rattle.sitting.specs.Values.{Value, unset, any, is, high, sum, allowed, forget, kind_of, number_of, same}
use Rattle.sitting.specs.Values.{implies, all_imply, sum_with, sum_of, and_with, and_of, not_of, taking, besides}
use Rattle.sitting.specs.Values.{all_besides}
use Rattle.sitting.specs.Test.{Cell, fixed, own, hidden, State, Row, Claim, cell_at, is_hidden, is_own, covers}
use Rattle.sitting.specs.Test.{one_covers, accepts, is_stack, is_free_stack, is_loadable, held, from_cell, loaded_from}
use Rattle.sitting.specs.Test.{stored_in, remember, is_first, moved, put, loads_at, loads_by, stores_at, stores_by}
use Rattle.sitting.specs.Test.{loads_through, stores_through, refined_if, is_above, is_below, where_taken}
use Rattle.sitting.specs.Test.{where_not_taken, either_way, branches, jumps_by, calling, calls_from, calls_by}
use Rattle.sitting.specs.Test.{returning, returns_by, harmless, is_kept, all_kept, sound, all_harmless, is_empty}
use Rattle.sitting.specs.Test.{row_holds, rows_hold, leads_in, all_lead_in, is_return, leads_back, vectors_hold}
use Rattle.sitting.specs.Test.{room_holds, passes}
use Rattle.sitting.specs.Certified.{is_secret_in, is_secret_beside, Loaded}
use Rattle.sitting.proofs.MonitorWords.{has_monitor}
use Rattle.sitting.proofs.Certified.{certified_tells_nothing}

-- ---- the table

-- What is known of R0, R1 and R2, R6 itself, and the codes.
abbrev state : Value → Value → Value → ℕ → Value → State
state r₀ r₁ r₂ sp codes = record {
  regs = r₀ ∷ r₁ ∷ r₂ ∷ any ∷ any ∷ any ∷ is sp ∷ any ∷ [];
  codes = codes;
  words = [];
}

abbrev one : Value → Value → Value → ℕ → Value → Row
one r₀ r₁ r₂ sp codes = state r₀ r₁ r₂ sp codes ∷ []

-- R6 alone is known.
abbrev at : ℕ → Row
at sp = one any any any sp any

-- And the codes may be as the caller had them.
abbrev entry : ℕ → Row
entry sp = one any any any sp unset

abbrev count_from : ℕ → ℕ → List ℕ
count_from a zero = []
count_from a (suc n) = a ∷ count_from (suc a) n

-- R0 is one of the n addresses from a on.
abbrev within : ℕ → ℕ → ℕ → Row
within sp a n = map (λ c. state (is c) any any sp any) (count_from a n)

-- And the codes are those of the word there.
abbrev with_word : List ℕ → ℕ → ℕ → ℕ → Row
with_word ws sp a n = map (λ c. state (is c) any any sp (is (get_or ws (c - 0x0200) 0))) (count_from a n)

-- The seven words that show a text of n characters and its end, from a on: LDR, BRz, LDI, BRzp, STI, ADD, BRnzp.
abbrev showing : List ℕ → ℕ → ℕ → ℕ → List Row
showing ws sp a n =
    within sp a (suc n)
    ∷ with_word ws sp a (suc n)
    ∷ within sp a n
    ∷ within sp a n
    ∷ within sp a n
    ∷ within sp a n
    ∷ within sp (suc a) n
    ∷ []

-- The eight words that look at the caller's PSR and at the address in R0, and the first after them: BRzp, LD, ADD, BRn,
-- LD, ADD, BRn, LDR.
abbrev looking : ℕ → List Row
looking sp =
    one any any any sp high
    ∷ at sp
    ∷ one any (is 0x0200) any sp any
    ∷ one any (sum 0x0200) any sp (sum 0x0200)
    ∷ one any (sum 0x0200) any sp any
    ∷ one any (sum 0x0200) (is 0xCE00) sp any
    ∷ one any any any sp (sum 0xD000)
    ∷ one allowed any any sp any
    ∷ []

-- A row for each word from x0200 to x027F.
unfoldable pub table_for : List ℕ → List Row
table_for ws =
    -- GETC
    entry 0x2FFE ∷ replicate 3 (at 0x2FFE)
    -- OUT
    ++ entry 0x2FFE ∷ replicate 6 (at 0x2FFD) ++ at 0x2FFE
    -- PUTS
    ∷ entry 0x2FFE ∷ replicate 4 (at 0x2FFB) ++ looking 0x2FFB ++ replicate 10 (at 0x2FFB)
    ++ at 0x2FFE ∷ replicate 4 (at 0x2FFB)
    -- IN
    ++ entry 0x2FFE ∷ replicate 3 (at 0x2FFC) ++ showing ws 0x2FFC 0x0289 19 ++ replicate 9 (at 0x2FFC) ++ at 0x2FFE
    -- PUTSP
    ∷ entry 0x2FFE ∷ replicate 5 (at 0x2FFA) ++ looking 0x2FFA ++ replicate 28 (at 0x2FFA)
    ++ at 0x2FFE ∷ replicate 5 (at 0x2FFA)
    -- HALT
    ++ entry 0x2FFE ∷ replicate 4 (at 0x2FFB) ++ showing ws 0x2FFB 0x029D 7 ++ replicate 3 (at 0x2FFB)
    -- STOP
    ++ (entry 0x2FFE ++ at 0x2FFB ++ at 0x2FFA) ∷ at 0x2FFE ∷ at 0x2FFE
    -- BACK
    ∷ entry 0x2FFE ∷ []

-- To unfold this is to compute the test of a claim.
unfoldable pub testing : Unit {0}
unfolding read_of codes_of is_device_by and_bits forget kind_of number_of same implies all_imply sum_with sum_of
    and_with and_of
    not_of taking besides all_besides is_hidden is_own covers one_covers accepts is_stack is_free_stack is_loadable
    held from_cell
    loaded_from stored_in remember is_first moved put loads_at loads_by stores_at stores_by loads_through stores_through
    refined_if is_above is_below where_taken where_not_taken either_way branches jumps_by calling calls_from
    calls_by returning returns_by harmless is_kept all_kept sound
    all_harmless is_empty row_holds rows_hold leads_in all_lead_in is_return leads_back vectors_hold room_holds passes
testing = tt

-- ---- our claim

unfoldable pub claim_of_ours : Claim
claim_of_ours = record {
  cells = map fixed monitor_words;
  lowest = 0x2FFA;
  watched = [];
  table = table_for routine_words;
}

pub ours_passes : passes claim_of_ours ≡ true
unfolding testing claim_of_ours table_for routine_words monitor_words vector_table vectors_from vector_word
ours_passes = refl

-- ---- the statement of our monitor, from that of any

cell_listed : (ws : List ℕ) (a : ℕ) → a < length ws → cell_at (map fixed ws) a ≡ fixed (get_or ws a 0)
cell_listed [] a l = absurd (omega arith)
cell_listed (w ∷ ws) zero l = refl
cell_listed (w ∷ ws) (suc a) l = cell_listed ws a (omega arith)

cell_unlisted : (ws : List ℕ) (a : ℕ) → length ws ≤ a → cell_at (map fixed ws) a ≡ hidden
cell_unlisted [] a l = refl
cell_unlisted (w ∷ ws) zero l = absurd (omega arith)
cell_unlisted (w ∷ ws) (suc a) l = cell_unlisted ws a (omega arith)

same_secrets : (stack a : ℕ) → 0x02A5 ≤ stack → is_secret_in (map fixed monitor_words) stack a ≡ is_secret_above stack a
unfolding is_secret_in is_secret_above is_hidden
same_secrets stack a l = elim (dec_le 0x02A5 a) [
  | yes h ↦ elim (dec_le stack a) [
    | yes k ↦ rw (le-ltb a stack k, le-leb 0x02A5 a h)
    | no k ↦
        rw (
          lt-ltb a stack (omega arith),
          le-leb 0x02A5 a h,
          cell_unlisted monitor_words a (omega (arith, monitor_length)),
        )
  ]
  | no h ↦
      rw (
        lt-ltb a stack (omega arith),
        lt-leb 0x02A5 a (omega arith),
        lt-leb 0xFE00 a (omega arith),
        cell_listed monitor_words a (omega (arith, monitor_length)),
      )
]

loaded_of_lem : (memory : List ℕ) → HasMonitor memory → Loaded (map fixed monitor_words) memory
loaded_of_lem memory h a w e = elim (dec_le (suc a) (length monitor_words)) [
  | yes l ↦
      monitor_word memory h a (omega (arith, monitor_length)) ∙ ap word_in (sym (cell_listed monitor_words a l) ∙ e)
  | no l ↦ absurd (not_fixed w (sym (cell_unlisted monitor_words a (omega arith)) ∙ e))
]
  where
    word_in : Cell → ℕ
    word_in (fixed w) = w
    word_in own = 0
    word_in hidden = 0

    not_fixed : (w : ℕ) → hidden ≡ fixed w → ⊥
    not_fixed w e = true≢false (unfold is_hidden in ap is_hidden e)

loaded_is_monitor : (memory : List ℕ) → length memory ≡ 65536 → Loaded (map fixed monitor_words) memory
    → HasMonitor memory
loaded_is_monitor memory size h =
    has_monitor memory size
    (λ a l. h a (get_or monitor_words a 0) (cell_listed monitor_words a (omega (arith, monitor_length))))

deep_enough : (d : Devices) → 0x02A5 ≤ lowest_stack_word d
unfolding stack_from
deep_enough d = go (is_enabled d.kbsr) (is_enabled d.timer_status)
  where
    go : (k t : Bool) → 0x02A5 ≤ 0x2FFA - cond k 2 0 - cond t 2 0
    go false false = omega arith
    go true false = omega arith
    go false true = omega arith
    go true true = omega arith

same_secret : (d : Devices) (a : ℕ) → is_secret_beside claim_of_ours d a ≡ is_secret d a
unfolding claim_of_ours
same_secret d a = same_secrets (lowest_stack_word d) a (deep_enough d)

-- ---- the theorem

begins_beside : (m : Machine) (memory : List ℕ) → Begins HasMonitor m memory
    → Begins (Loaded claim_of_ours.cells) m memory
unfolding claim_of_ours
begins_beside m memory b = record {
  registers = b.registers;
  size = b.size;
  user_mode_lem = b.user_mode_lem;
  intact = loaded_of_lem memory b.intact;
  stack = b.stack;
}

guarded : (d : Devices) (before after : List ℕ)
    → Guarded (Loaded claim_of_ours.cells) (is_secret_beside claim_of_ours d) before after
    → Guarded HasMonitor (is_secret d) before after
unfolding claim_of_ours
guarded d before after t = record {
  secrets = λ a z. t.secrets a (same_secret d a ∙ z);
  size = t.size;
  intact = loaded_is_monitor after t.size t.intact;
}

same_answers : (d : Devices) (a₁ a₂ : Logged) → SameAnswers (is_secret_beside claim_of_ours d) a₁ a₂
    → SameAnswers (is_secret d) a₁ a₂
same_answers d a₁ a₂ s = record {
  run = wider_ends (λ a z. same_secret d a ∙ z) s.run;
  log = s.log;
  words = s.words;
  ending = s.ending;
}

pub sitting_tells_nothing : SittingTellsNothing
sitting_tells_nothing m memory₁ memory₂ b v earlier call =
    let t = certified_tells_nothing claim_of_ours ours_passes m memory₁ memory₂ (begins_beside m memory₁ b)
    (record { size = v.size; words = λ a z. v.words a (sym (same_secret m.devices a) ∙ z) }) earlier call in
    record {
      same = same_answers m.devices (answer_after earlier call m memory₁) (answer_after earlier call m memory₂)
          t.same;
      guarded₁ = guarded m.devices memory₁ (answer_after earlier call m memory₁).memory t.guarded₁;
      guarded₂ = guarded m.devices memory₂ (answer_after earlier call m memory₂).memory t.guarded₂;
    }
