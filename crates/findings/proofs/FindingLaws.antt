-- Laws of what is wrong first: of two answers, of vectors, of states, of rows.
use Prim.Native.Nat.{ℕ, zero, suc, ◌+◌, ◌-◌, ◌*◌, ◌≤◌, ◌<◌}
use native.Mathlib.Omega.{arith}
use native.Mathlib.Decide.{dec_le}
use mathlib.Core.Path.{◌≡◌, refl, ap, ◌∙◌}
use mathlib.Core.Bool.{true, false}
use mathlib.Core.List.{List, [], ◌∷◌}
use borrow.Author.Tests.{eq-eqb, ne_eqb}
use lib.ListN.{length, get_or, take, drop}
use lib.Seq.{drop-cons, drop-drop}
use Rattle.word.specs.declared.Instruction.{Instruction}
use Rattle.sitting.specs.Test.{Claim, State, cell_at, value_in, sound, harmless, is_empty}
use Rattle.sitting.specs.Test.{leads_in, room_holds}
use Rattle.claims.specs.Encoding.{state_of, states_of, row_of, start_of, claim_of}
use Rattle.claims.specs.Decoded.{known_cell}
use Rattle.claims.specs.declared.cells.Cell.{Cell as Word}
use Rattle.claims.specs.declared.cells.Cell.TheVariants.{Fixed, Own, Hidden}
use Rattle.claims.proofs.StateLaws.{start_is}
use Rattle.findings.specs.declared.Certified.{Certified}
use Rattle.findings.specs.declared.Fault.{Fault}
use Rattle.findings.specs.declared.Fault.TheVariants.{NotEightWatched, NoRoom, NoEntry, NoReturn, NotFixed, NotSound}
use Rattle.findings.specs.declared.Fault.TheVariants.{NotHarmless}
use Rattle.findings.specs.Found.{finding_of}
use Rattle.findings.specs.Finding.{nothing_wrong, wrong, unless, or_else, wrong_vector, wrong_in}
use Rattle.findings.specs.Finding.{wrong_in_row, wrong_at, wrong_in_rows, wrong_with, certify_of}

-- ---- two answers

pub found_first : (f g : Certified) → (f.finding ≡ 0 → ⊥) → f ≡ or_else f g
unfolding or_else
found_first f g n = rw (ne_eqb f.finding 0 n) refl

pub found_second : (f g : Certified) → f.finding ≡ 0 → g ≡ or_else f g
unfolding or_else
found_second f g e = rw (eq-eqb f.finding 0 e) refl

-- The same of a fault, and of none.
pub fault_first : (w : Fault) (f : Certified) → or_else (finding_of w) f ≡ finding_of w
unfolding or_else wrong
fault_first NotEightWatched f = refl
fault_first NoRoom f = refl
fault_first (NoEntry a) f = refl
fault_first (NoReturn a) f = refl
fault_first (NotFixed a k) f = refl
fault_first (NotSound a k) f = refl
fault_first (NotHarmless a k) f = refl

pub nothing_first : (f : Certified) → or_else nothing_wrong f ≡ f
unfolding or_else
nothing_first f = refl

pub ruleset found = (fault_first, nothing_first)

-- ---- vectors

pub vectors_more : (c : Claim) (a : ℕ) → nothing_wrong ≡ wrong_vector c a → leads_in c (cell_at c.cells a) ≡ true
    → nothing_wrong ≡ wrong_vector c (a + 1)
unfolding wrong_vector or_else unless
vectors_more c a h e = let z : a + 1 ≡ suc a = omega arith in rw (z, ← h, e) refl

pub vectors_first : (c : Claim) (a n : ℕ) → a < n → nothing_wrong ≡ wrong_vector c a
    → leads_in c (cell_at c.cells a) ≡ false → wrong 3 a 0 ≡ wrong_vector c n
unfolding wrong_vector or_else unless wrong
vectors_first c a zero l h e = absurd (omega arith)
vectors_first c a (suc n) l h e = elim (dec_le n a) [
  | yes b ↦ let z : n ≡ a = omega arith in rw (z, ← h, e) refl
  | no b ↦ rw (← vectors_first c a n (omega arith) h e) refl
]

-- ---- rows

module _ (c : Claim) (pc : ℕ) (i : Instruction) (table : List ℕ) where
  pub states_step : (k end : ℕ) → k < end
      → wrong_in_row c pc i k (states_of (end - k) (drop (k * 17) table))
      ≡ or_else (wrong_in c pc i k (state_of (take 17 (drop (k * 17) table))))
      (wrong_in_row c pc i (k + 1) (states_of (end - (k + 1)) (drop ((k + 1) * 17) table)))
  unfolding wrong_in_row states_of
  states_step k end l =
      let n : end - k ≡ suc (end - (k + 1)) = omega arith in
      let m : suc k ≡ k + 1 = omega arith in
      let e : k * 17 + 17 ≡ (k + 1) * 17 = omega arith in
      let d : drop 17 (drop (k * 17) table) ≡ drop ((k + 1) * 17) table =
      drop-drop 17 (k * 17) table ∙ ap (λ (m : ℕ). drop m table) e in
      rw (n, d, m) refl

  pub states_end : (k n : ℕ) (ns : List ℕ) → n ≡ 0 → nothing_wrong ≡ wrong_in_row c pc i k (states_of n ns)
  unfolding wrong_in_row states_of
  states_end k n ns e = rw e refl

-- Of a state: its stack is not known, or the instruction is not harmless, or neither.
module _ (c : Claim) (pc : ℕ) (i : Instruction) (k : ℕ) (σ : State) where
  pub wrong_stack : sound c (value_in σ.regs 6) σ.words ≡ false → wrong 6 pc k ≡ wrong_in c pc i k σ
  unfolding wrong_in or_else unless wrong
  wrong_stack h = rw h refl

  pub wrong_instruction : sound c (value_in σ.regs 6) σ.words ≡ true → harmless c pc i σ ≡ false
      → wrong 7 pc k ≡ wrong_in c pc i k σ
  unfolding wrong_in or_else unless
  wrong_instruction h e = rw (h, e) refl

  pub state_holds : sound c (value_in σ.regs 6) σ.words ≡ true → harmless c pc i σ ≡ true
      → nothing_wrong ≡ wrong_in c pc i k σ
  unfolding wrong_in or_else unless
  state_holds h e = rw (h, e) refl

pub ruleset in_state = (wrong_stack, wrong_instruction, state_holds)

pub ruleset in_row = (states_step, states_end, fault_first, nothing_first)

has_states : (n : ℕ) (ns : List ℕ) → 0 < n → is_empty (states_of n ns) ≡ false
unfolding is_empty states_of
has_states zero ns l = absurd (omega arith)
has_states (suc n) ns l = refl

no_states : (n : ℕ) (ns : List ℕ) → n ≡ 0 → is_empty (states_of n ns) ≡ true
unfolding is_empty states_of
no_states zero ns e = refl
no_states (suc n) ns e = absurd (omega arith)

pub rows_step : (c : Claim) (table ends : List ℕ) (j : ℕ) → j < length ends
    → wrong_in_rows c table (0x0200 + j) (start_of 0 ends j) (drop j ends)
    ≡ or_else (wrong_at c (0x0200 + j) (cell_at c.cells (0x0200 + j)) (start_of 0 ends j)
    (row_of table (start_of 0 ends j) (get_or ends j 0)))
    (wrong_in_rows c table (0x0200 + (j + 1)) (start_of 0 ends (j + 1)) (drop (j + 1) ends))
unfolding wrong_in_rows
rows_step c table ends j l =
    let a : suc j ≡ j + 1 = omega arith in
    let b : suc (0x0200 + j) ≡ 0x0200 + (j + 1) = omega arith in
    let x : drop j ends ≡ get_or ends j 0 ∷ drop (j + 1) ends =
    drop-cons ends j 0 l ∙ ap (λ (n : ℕ). get_or ends j 0 ∷ drop n ends) a in
    let y : get_or ends j 0 ≡ start_of 0 ends (j + 1) = start_is ends 0 j l ∙ ap (start_of 0 ends) a in
    rw (x, ← b, ← y) refl

pub rows_end : (c : Claim) (table ends : List ℕ) (pc start j : ℕ) → length ends ≤ j
    → nothing_wrong ≡ wrong_in_rows c table pc start (drop j ends)
unfolding wrong_in_rows
rows_end c table ends pc start j l = rw (past ends j l) refl
  where
    past : (l : List ℕ) (n : ℕ) → length l ≤ n → drop n l ≡ []
    past [] zero h = refl
    past [] (suc n) h = refl
    past (x ∷ xs) zero h = absurd (omega arith)
    past (x ∷ xs) (suc n) h = past xs n (omega arith)

pub ruleset in_rows = (rows_step, rows_end, fault_first, nothing_first)

-- A word that is not fixed, with states and without.
module _ (c : Claim) (pc start n : ℕ) (ns : List ℕ) where
  pub row_fetched : (x : Word) → ((w : ℕ) → x ≡ Fixed w → ⊥) → 0 < n
      → wrong 5 pc start ≡ wrong_at c pc (known_cell x) start (states_of n ns)
  unfolding wrong_at unless
  row_fetched (Fixed w) h l = absurd (h w refl)
  row_fetched Own h l = rw (has_states n ns l) refl
  row_fetched Hidden h l = rw (has_states n ns l) refl

  pub row_empty : (x : Word) → ((w : ℕ) → x ≡ Fixed w → ⊥) → n ≡ 0
      → nothing_wrong ≡ wrong_at c pc (known_cell x) start (states_of n ns)
  unfolding wrong_at unless
  row_empty (Fixed w) h e = absurd (h w refl)
  row_empty Own h e = rw (no_states n ns e) refl
  row_empty Hidden h e = rw (no_states n ns e) refl

-- ---- the parts of the test

pub wrong_room : (c : Claim) (ends table : List ℕ) → room_holds c ≡ false → wrong 2 0 0 ≡ wrong_with c ends table
unfolding wrong_with or_else unless wrong
wrong_room c ends table h = rw h refl

module _ (memory kinds : List ℕ) (lowest : ℕ) (watched ends table : List ℕ) where
  pub wrong_watched : (length watched ≡ 8 → ⊥) → wrong 1 0 0 ≡ certify_of memory kinds lowest watched ends table
  unfolding certify_of or_else unless wrong
  wrong_watched n = rw (ne_eqb (length watched) 8 n) refl

  pub eight_watched : length watched ≡ 8 → wrong_with (claim_of memory kinds lowest watched ends table) ends table
      ≡ certify_of memory kinds lowest watched ends table
  unfolding certify_of or_else unless
  eight_watched e = rw (eq-eqb (length watched) 8 e) refl
