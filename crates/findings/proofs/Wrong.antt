-- What is found wrong is wrong: two answers that are true give one that is.
use Prim.Native.Nat.{ℕ, zero, suc, ◌+◌, ◌-◌, ◌*◌, ◌/◌, ◌≤◌, ◌<◌, min}
use native.Mathlib.Omega.{arith}
use native.Mathlib.Decide.{dec_le}
use mathlib.Core.Path.{◌≡◌, refl}
use mathlib.Core.Bool.{Bool, true, false, cond}
use mathlib.Core.List.{List}
use lib.Dec.{eqb}
use lib.ListN.{length, get_or, drop}
use Rattle.word.specs.Reading.{read_of}
use Rattle.machine.specs.Interrupts.{keyboard_vector, timer_vector}
use Rattle.sitting.specs.Test.{Claim, Cell, fixed, own, hidden, cell_at, is_empty, leads_in, leads_back, room_holds}
use Rattle.claims.specs.Encoding.{states_of, row_of, start_of, claim_of}
use Rattle.findings.specs.declared.Certified.{Certified}
use Rattle.findings.specs.Finding.{wrong, unless, or_else, wrong_vector, wrong_interrupt, wrong_vectors}
use Rattle.findings.specs.Finding.{wrong_in, wrong_in_row, wrong_at, wrong_in_rows, wrong_with, certify_of}
use Rattle.findings.specs.Wrong.{state_in, InRow, is_fixed, IsTrue, nothing, not_eight_watched, no_room, no_entry}
use Rattle.findings.specs.Wrong.{no_return, not_fixed, not_sound, not_harmless, FindingsAreTrue}
use Rattle.findings.proofs.FindingLaws.{states_step, states_end, rows_step, rows_end}

module _ (c : Claim) (ends table : List ℕ) where
  true_by_both : (f g : Certified) → IsTrue c ends table f → IsTrue c ends table g → IsTrue c ends table (or_else f g)
  unfolding or_else
  true_by_both f g t u = go (eqb f.finding 0)
    where
      go : (b : Bool) → IsTrue c ends table (cond b g f)
      go true = u
      go false = t

  true_unless : (b : Bool) (f : Certified) → (b ≡ false → IsTrue c ends table f) → IsTrue c ends table (unless b f)
  unfolding unless
  true_unless true f t = nothing refl
  true_unless false f t = t refl

  vectors_true : (n : ℕ) → IsTrue c ends table (wrong_vector c n)
  unfolding wrong_vector
  vectors_true zero = nothing refl
  vectors_true (suc n) =
      true_by_both (wrong_vector c n) _ (vectors_true n)
      (true_unless (leads_in c (cell_at c.cells n)) (wrong 3 n 0) (λ e. no_entry n refl e))

  interrupt_true : (a : ℕ) → IsTrue c ends table (wrong_interrupt c a)
  unfolding wrong_interrupt
  interrupt_true a = true_unless (leads_back c (cell_at c.cells a)) (wrong 4 a 0) (λ e. no_return a refl e)

  all_vectors_true : IsTrue c ends table (wrong_vectors c)
  unfolding wrong_vectors
  all_vectors_true =
      true_by_both (wrong_vector c 0x0103) _ (vectors_true 0x0103)
      (true_by_both (wrong_interrupt c keyboard_vector) _ (interrupt_true keyboard_vector)
      (interrupt_true timer_vector))

  -- The states from k on, n of them, of row j.
  module _ (j w : ℕ) (x : cell_at c.cells (0x0200 + j) ≡ fixed w) (l : j < length ends) where
    state_true : (k : ℕ) → InRow ends table j k
        → IsTrue c ends table (wrong_in c (0x0200 + j) (read_of w) k (state_in table k))
    unfolding wrong_in
    state_true k r =
        true_by_both (unless _ (wrong 6 (0x0200 + j) k)) _
        (true_unless _ (wrong 6 (0x0200 + j) k) (λ e. not_sound j k refl r e))
        (true_unless _ (wrong 7 (0x0200 + j) k) (λ e. not_harmless j k w refl r x e))

    states_true : (n k : ℕ) → start_of 0 ends j ≤ k → k + n ≤ min (get_or ends j 0) (length table / 17)
        → IsTrue c ends table (wrong_in_row c (0x0200 + j) (read_of w) k (states_of n (drop (k * 17) table)))
    states_true zero k h m =
        rw (← states_end c (0x0200 + j) (read_of w) table k 0 (drop (k * 17) table) refl) (nothing refl)
    states_true (suc n) k h m =
        let r : InRow ends table j k = record { row = l; from = h; below = omega arith } in
        let e : suc n ≡ (k + suc n) - k = omega arith in
        let f : (k + suc n) - (k + 1) ≡ n = omega arith in
        rw (e, states_step c (0x0200 + j) (read_of w) table k (k + suc n) (omega arith), f)
        (true_by_both (wrong_in c (0x0200 + j) (read_of w) k (state_in table k)) _ (state_true k r)
        (states_true n (k + 1) (omega arith) (omega arith)))

  -- The row of a word that is not fixed.
  module _ (j : ℕ) (x : is_fixed (cell_at c.cells (0x0200 + j)) ≡ false) (l : j < length ends) where
    fetched_true : (n start : ℕ) (ns : List ℕ) → start ≡ start_of 0 ends j
        → n ≡ min (get_or ends j 0) (length table / 17) - start
        → IsTrue c ends table (unless (is_empty (states_of n ns)) (wrong 5 (0x0200 + j) start))
    unfolding unless is_empty states_of
    fetched_true zero start ns e f = nothing refl
    fetched_true (suc n) start ns e f =
        not_fixed j start refl (record { row = l; from = omega arith; below = omega arith }) x

  row_true : (j : ℕ) (x : Cell) → cell_at c.cells (0x0200 + j) ≡ x → j < length ends
      → IsTrue c ends table (wrong_at c (0x0200 + j) x (start_of 0 ends j)
      (row_of table (start_of 0 ends j) (get_or ends j 0)))
  unfolding wrong_at is_fixed
  row_true j (fixed w) x l =
      elim (dec_le (start_of 0 ends j) (min (get_or ends j 0) (length table / 17))) [
        | yes h ↦ states_true j w x l _ (start_of 0 ends j) (omega arith) (omega arith)
        | no h ↦
            let n : min (get_or ends j 0) (length table / 17) - start_of 0 ends j ≡ 0 = omega arith in
            rw (← states_end c (0x0200 + j) (read_of w) table (start_of 0 ends j) _ _ n) (nothing refl)
      ]
  row_true j own x l = fetched_true j (rw x refl) l _ (start_of 0 ends j) _ refl refl
  row_true j hidden x l = fetched_true j (rw x refl) l _ (start_of 0 ends j) _ refl refl

  rows_true : (n j : ℕ) → n + j ≡ length ends
      → IsTrue c ends table (wrong_in_rows c table (0x0200 + j) (start_of 0 ends j) (drop j ends))
  rows_true zero j e =
      rw (← rows_end c table ends (0x0200 + j) (start_of 0 ends j) j (omega arith)) (nothing refl)
  rows_true (suc n) j e =
      rw (rows_step c table ends j (omega arith))
      (true_by_both _ _ (row_true j _ refl (omega arith)) (rows_true n (j + 1) (omega arith)))

pub findings_are_true : FindingsAreTrue
unfolding certify_of wrong_with start_of
findings_are_true memory kinds lowest watched ends table =
    let c : Claim = claim_of memory kinds lowest watched ends table in
    true_by_both c ends table _ _ (true_unless c ends table (eqb (length watched) 8) (wrong 1 0 0) (λ e.
    not_eight_watched refl e))
    (true_by_both c ends table _ _ (true_unless c ends table (room_holds c) (wrong 2 0 0) (λ e. no_room refl e))
    (true_by_both c ends table _ _ (all_vectors_true c ends table) (rows_true c ends table (length ends) 0 (omega
    arith))))
