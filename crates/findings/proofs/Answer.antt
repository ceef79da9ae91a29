-- What is concluded. Each part of the answer finds nothing exactly where its part of the test holds.
use Prim.Native.Nat.{ℕ, zero, suc, ◌≤◌}
use mathlib.Core.Path.{◌≡◌, refl, sym, ◌∙◌}
use mathlib.Core.Bool.{Bool, true, false, cond, ◌&&◌}
use mathlib.Core.List.{List, [], ◌∷◌}
use borrow.Author.Tests.{eq-eqb}
use lib.Dec.{eqb}
use lib.ListN.{length}
use Rattle.word.specs.Reading.{read_of}
use Rattle.word.specs.declared.Instruction.{Instruction}
use Rattle.machine.specs.declared.Devices.{Devices}
use Rattle.machine.specs.Interrupts.{keyboard_vector, timer_vector}
use Rattle.run.proofs.AlteredWords.{wider_ends}
use Rattle.sitting.specs.Sitting.{answer_after}
use Rattle.sitting.specs.Test.{Claim, State, Row, Cell, fixed, own, hidden, cell_at, value_in, sound, harmless}
use Rattle.sitting.specs.Test.{all_harmless, is_empty, row_holds, rows_hold, leads_in, all_lead_in, leads_back}
use Rattle.sitting.specs.Test.{vectors_hold}
use Rattle.sitting.specs.Test.{room_holds, passes}
use Rattle.sitting.specs.Certified.{is_secret_beside}
use Rattle.sitting.proofs.Certified.{certified_tells_nothing}
use Rattle.claims.specs.Encoding.{row_of, rows_of, claim_of}
use Rattle.claims.proofs.Encoding.{tested_is_loaded}
use Rattle.findings.specs.declared.Certified.{Certified}
use Rattle.findings.specs.Finding.{wrong, unless, or_else, wrong_vector, wrong_interrupt, wrong_vectors}
use Rattle.findings.specs.Finding.{wrong_in, wrong_in_row, wrong_at, wrong_in_rows, wrong_with, certify_of}
use Rattle.findings.specs.Answer.{is_secret_by, CertifyingIsEnough, CertifiesWhatPasses}
use Rattle.findings.proofs.Claimed.{second, low_stack, cells_below, secret_by, guarded_by, short_kinds}

-- ---- nothing is wrong

nothing_by_both : (f g : Certified)
    → eqb (or_else f g).finding 0 ≡ (eqb f.finding 0 && eqb g.finding 0)
unfolding or_else
nothing_by_both f g = go (eqb f.finding 0) refl
  where
    go : (b : Bool) → eqb f.finding 0 ≡ b → eqb (cond b g f).finding 0 ≡ (b && eqb g.finding 0)
    go true e = refl
    go false e = e

nothing_if : (b : Bool) (finding a k : ℕ) → eqb finding 0 ≡ false → eqb (unless b (wrong finding a k)).finding 0 ≡ b
unfolding unless wrong
nothing_if true finding a k e = refl
nothing_if false finding a k e = e

swapped : (p q : Bool) → (p && q) ≡ (q && p)
swapped true true = refl
swapped true false = refl
swapped false true = refl
swapped false false = refl

module _ (c : Claim) where
  vectors_nothing : (n : ℕ) → eqb (wrong_vector c n).finding 0 ≡ all_lead_in c n
  unfolding wrong_vector all_lead_in
  vectors_nothing zero = refl
  vectors_nothing (suc n) =
      nothing_by_both (wrong_vector c n) (unless (leads_in c (cell_at c.cells n)) (wrong 3 n 0))
      ∙ rw (vectors_nothing n, nothing_if (leads_in c (cell_at c.cells n)) 3 n 0 refl)
      (swapped (all_lead_in c n) (leads_in c (cell_at c.cells n)))

  interrupt_nothing : (a : ℕ) → eqb (wrong_interrupt c a).finding 0 ≡ leads_back c (cell_at c.cells a)
  unfolding wrong_interrupt
  interrupt_nothing a = nothing_if (leads_back c (cell_at c.cells a)) 4 a 0 refl

  all_vectors_nothing : eqb (wrong_vectors c).finding 0 ≡ vectors_hold c
  unfolding wrong_vectors vectors_hold
  all_vectors_nothing =
      nothing_by_both (wrong_vector c 0x0103)
      (or_else (wrong_interrupt c keyboard_vector) (wrong_interrupt c timer_vector))
      ∙ rw (
        vectors_nothing 0x0103,
        nothing_by_both (wrong_interrupt c keyboard_vector) (wrong_interrupt c timer_vector),
        interrupt_nothing keyboard_vector,
        interrupt_nothing timer_vector,
      ) refl

  state_nothing : (pc : ℕ) (i : Instruction) (k : ℕ) (σ : State)
      → eqb (wrong_in c pc i k σ).finding 0 ≡ (sound c (value_in σ.regs 6) σ.words && harmless c pc i σ)
  unfolding wrong_in
  state_nothing pc i k σ =
      nothing_by_both (unless (sound c (value_in σ.regs 6) σ.words) (wrong 6 pc k))
      (unless (harmless c pc i σ) (wrong 7 pc k))
      ∙ rw (
        nothing_if (sound c (value_in σ.regs 6) σ.words) 6 pc k refl,
        nothing_if (harmless c pc i σ) 7 pc k refl,
      ) refl

  states_nothing : (pc : ℕ) (i : Instruction) (k : ℕ) (row : Row)
      → eqb (wrong_in_row c pc i k row).finding 0 ≡ all_harmless c pc i row
  unfolding wrong_in_row all_harmless
  states_nothing pc i k [] = refl
  states_nothing pc i k (σ ∷ row) =
      nothing_by_both (wrong_in c pc i k σ) (wrong_in_row c pc i (suc k) row)
      ∙ rw (state_nothing pc i k σ, states_nothing pc i (suc k) row) refl

  row_nothing : (pc : ℕ) (x : Cell) (k : ℕ) (row : Row) → eqb (wrong_at c pc x k row).finding 0 ≡ row_holds c pc x row
  unfolding wrong_at row_holds
  row_nothing pc (fixed w) k row = states_nothing pc (read_of w) k row
  row_nothing pc own k row = nothing_if (is_empty row) 5 pc k refl
  row_nothing pc hidden k row = nothing_if (is_empty row) 5 pc k refl

  rows_nothing : (table : List ℕ) (pc start : ℕ) (ends : List ℕ)
      → eqb (wrong_in_rows c table pc start ends).finding 0 ≡ rows_hold c pc (rows_of table start ends)
  unfolding wrong_in_rows rows_hold rows_of
  rows_nothing table pc start [] = refl
  rows_nothing table pc start (end ∷ ends) =
      nothing_by_both (wrong_at c pc (cell_at c.cells pc) start (row_of table start end))
      (wrong_in_rows c table (suc pc) end ends)
      ∙ rw (
        row_nothing pc (cell_at c.cells pc) start (row_of table start end),
        rows_nothing table (suc pc) end ends,
      ) refl

pub certifies_what_passes : CertifiesWhatPasses
unfolding certify_of wrong_with passes
certifies_what_passes memory kinds lowest watched ends table =
    let c = claim_of memory kinds lowest watched ends table in
    nothing_by_both (unless (eqb (length watched) 8) (wrong 1 0 0)) (wrong_with c ends table)
    ∙ rw (
      nothing_if (eqb (length watched) 8) 1 0 0 refl,
      nothing_by_both (unless (room_holds c) (wrong 2 0 0)) (or_else (wrong_vectors c) (wrong_in_rows c table 0x0200 0
          ends)),
      nothing_if (room_holds c) 2 0 0 refl,
      nothing_by_both (wrong_vectors c) (wrong_in_rows c table 0x0200 0 ends),
      all_vectors_nothing c,
      rows_nothing c table 0x0200 0 ends,
    ) refl

-- ---- what is concluded

pub passed : (memory kinds : List ℕ) (lowest : ℕ) (watched ends table : List ℕ)
    → (certify_of memory kinds lowest watched ends table).finding ≡ 0
    → passes (claim_of memory kinds lowest watched ends table) ≡ true
passed memory kinds lowest watched ends table h =
    second (eqb (length watched) 8) (passes (claim_of memory kinds lowest watched ends table))
    (sym (certifies_what_passes memory kinds lowest watched ends table)
    ∙ eq-eqb (certify_of memory kinds lowest watched ends table).finding 0 h)

pub certifying_is_enough : CertifyingIsEnough
certifying_is_enough memory kinds lowest watched ends table h m s other v earlier call =
    let c : Claim = claim_of memory kinds lowest watched ends table in
    let d : Devices = m.devices in
    let p : passes c ≡ true = passed memory kinds lowest watched ends table h in
    let low : lowest ≤ 0x2FFE = low_stack c p in
    let b : (a : ℕ) → is_secret_beside c d a ≡ is_secret_by kinds lowest d a =
    secret_by memory kinds lowest s.size low d in
    let t = certified_tells_nothing c p m memory other
    (record {
      registers = s.registers;
      size = s.size;
      user_mode_lem = s.user_mode_lem;
      intact = tested_is_loaded memory kinds;
      stack = s.stack;
    })
    (record { size = v.size; words = λ a z. v.words a (sym (b a) ∙ z) }) earlier call in
    let n : length kinds ≤ 0x2FFE = short_kinds memory kinds s.size (cells_below c p) in
    record {
      same = record {
        run = wider_ends (λ a z. b a ∙ z) t.same.run;
        log = t.same.log;
        words = t.same.words;
        ending = t.same.ending;
      };
      guarded₁ = guarded_by memory kinds lowest s.size low n d memory (answer_after earlier call m memory).memory
          t.guarded₁;
      guarded₂ = guarded_by memory kinds lowest s.size low n d other (answer_after earlier call m other).memory
          t.guarded₂;
    }
