-- What the test of a claim gives: at each address whose state the table accepts, a state from which the instruction is
-- harmless; the vectors; and room between the monitor's words and its stack.
use Prim.Native.Nat.{ℕ, zero, suc, ◌+◌, ◌-◌, ◌≤◌, ◌<◌}
use native.Mathlib.Nat.{add-zero, add-suc, suc-add}
use native.Mathlib.Decide.{dec_le}
use native.Mathlib.Omega.{arith}
use mathlib.Core.Path.{◌≡◌, refl, sym, ap, subst, ◌∙◌}
use mathlib.Core.Bool.{Bool, true, false, ◌&&◌, ◌||◌, true≢false, false≢true}
use mathlib.Core.Logic.{◌⊎◌, inl, inr}
use mathlib.Core.List.{List, [], ◌∷◌}
use borrow.Author.Tests.{leb-true, eqb-true, ltb-true}
use lib.Dec.{leb, ltb}
use lib.ListN.{length, get_or, set, get_or-eq_default}
use lib.Seq.{get_or-set_other}
use Rattle.word.specs.Reading.{read_of}
use Rattle.machine.specs.Interrupts.{keyboard_vector, timer_vector}
use Rattle.machine.proofs.Tests.{both_true}
use Rattle.sitting.specs.Values.{Value, unset, any, is, high, low, sum, allowed, implies}
use Rattle.sitting.specs.Test.{Cell, fixed, own, hidden, State, Row, Claim, cell_at, is_hidden, is_own, covers}
use Rattle.sitting.specs.Test.{one_covers, accepts, value_in, harmless, is_kept, all_kept, sound, all_harmless}
use Rattle.sitting.specs.Test.{is_empty, row_holds, rows_hold, on_entry, leads_in, all_lead_in, is_return, leads_back}
use Rattle.sitting.specs.Test.{vectors_hold, room_holds, passes}
use Rattle.sitting.proofs.Values.{Registers, weaker, words_at}

-- ---- cells

-- A word that is not secret is listed.
pub listed : (cells : List Cell) (a : ℕ) → is_hidden (cell_at cells a) ≡ false → a < length cells
unfolding is_hidden
listed cells a h = elim (dec_le (suc a) (length cells)) [
  | yes l ↦ l
  | no l ↦ absurd (true≢false
      (rw (get_or-eq_default cells hidden {n = a} (omega arith)) at h))
]

pub fixed_is_open : (x : Cell) (w : ℕ) → x ≡ fixed w → is_hidden x ≡ false
unfolding is_hidden
fixed_is_open x w e = rw e

pub own_is_open : (x : Cell) → is_own x ≡ true → is_hidden x ≡ false
unfolding is_hidden is_own
own_is_open (fixed w) h = refl
own_is_open own h = refl
own_is_open hidden h = absurd (false≢true h)

pub own_is_not_fixed : (x : Cell) → is_own x ≡ true → (w : ℕ) → x ≡ fixed w → ⊥
unfolding is_own
own_is_not_fixed x h w e = true≢false (sym h ∙ ap is_own e)

-- ---- the rows

record RowAt (c : Claim) (pc : ℕ) (row : Row) : Type 0 where
  holds : row_holds c pc (cell_at c.cells pc) row ≡ true

no_row : (c : Claim) (pc : ℕ) (x : Cell) → row_holds c pc x [] ≡ true
unfolding row_holds all_harmless is_empty
no_row c pc (fixed w) = refl
no_row c pc own = refl
no_row c pc hidden = refl

rows_at : (c : Claim) (rows : List Row) (pc : ℕ) → rows_hold c pc rows ≡ true → (i : ℕ)
    → RowAt c (pc + i) (get_or rows i [])
unfolding rows_hold
rows_at c [] pc h i = record { holds = no_row c (pc + i) (cell_at c.cells (pc + i)) }
rows_at c (row ∷ rows) pc h zero =
    rw (add-zero pc)
    (record {
      holds = (both_true (row_holds c pc (cell_at c.cells pc) row) (rows_hold c (suc pc) rows) h).0;
    })
rows_at c (row ∷ rows) pc h (suc i) =
    subst (λ (p : ℕ). RowAt c p (get_or rows i []))
    (suc-add pc i ∙ sym (add-suc pc i))
    (rows_at c rows (suc pc) (both_true (row_holds c pc (cell_at c.cells pc) row) (rows_hold c (suc pc) rows) h).1 i)

-- A state of the table, from which the instruction at pc is harmless.
pub record Found (c : Claim) (pc : ℕ) : Type 0 where
  pub state : State
  pub word : ℕ
  pub at : cell_at c.cells pc ≡ fixed word
  pub is_sound : sound c (value_in state.regs 6) state.words ≡ true
  pub is_harmless : harmless c pc (read_of word) state ≡ true

abbrev pub FoundFor : Claim → ℕ → State → Type 0
FoundFor c pc σ = (f : Found c pc) × (covers σ f.state ≡ true)

found_in : (c : Claim) (pc w : ℕ) → cell_at c.cells pc ≡ fixed w → (σ : State) (row : Row) → one_covers σ row ≡ true
    → all_harmless c pc (read_of w) row ≡ true → FoundFor c pc σ
unfolding one_covers all_harmless
found_in c pc w at σ [] o h = absurd (false≢true o)
found_in c pc w at σ (τ ∷ row) o h =
    let b = both_true (sound c (value_in τ.regs 6) τ.words && harmless c pc (read_of w) τ)
    (all_harmless c pc (read_of w) row) h in
    let d = both_true (sound c (value_in τ.regs 6) τ.words) (harmless c pc (read_of w) τ) b.0 in
    go (covers σ τ) refl o
    (λ e. (record { state = τ; word = w; at = at; is_sound = d.0; is_harmless = d.1 }, e))
    (λ o. found_in c pc w at σ row o b.1)
  where
    go : (x : Bool) → covers σ τ ≡ x → x || one_covers σ row ≡ true → (covers σ τ ≡ true → FoundFor c pc σ)
        → (one_covers σ row ≡ true → FoundFor c pc σ) → FoundFor c pc σ
    go true e o this rest = this e
    go false e o this rest = rest o

none_covers : (σ : State) (row : Row) → one_covers σ row ≡ true → is_empty row ≡ true → ⊥
unfolding one_covers is_empty
none_covers σ [] o h = false≢true o
none_covers σ (τ ∷ row) o h = false≢true h

found_at : (c : Claim) (pc : ℕ) (σ : State) (row : Row) → one_covers σ row ≡ true → RowAt c pc row → FoundFor c pc σ
unfolding row_holds
found_at c pc σ row o r = go (cell_at c.cells pc) refl r.holds
  where
    go : (x : Cell) → cell_at c.cells pc ≡ x → row_holds c pc x row ≡ true → FoundFor c pc σ
    go (fixed w) e h = found_in c pc w e σ row o h
    go own e h = absurd (none_covers σ row o h)
    go hidden e h = absurd (none_covers σ row o h)

-- ---- R6, and what interrupts leave alone

pub record SoundAt (c : Claim) (v : Value) (vs : List Value) : Type 0 where
  pub sp : ℕ
  pub known : v ≡ is sp
  pub from : c.lowest ≤ sp
  pub below : sp ≤ 0x2FFE
  pub kept : all_kept c sp c.watched vs ≡ true

pub sound_at : (c : Claim) (v : Value) (vs : List Value) → sound c v vs ≡ true → SoundAt c v vs
unfolding sound
sound_at c unset vs h = absurd (false≢true h)
sound_at c any vs h = absurd (false≢true h)
sound_at c (is sp) vs h =
    let b = both_true (leb c.lowest sp && leb sp 0x2FFE) (all_kept c sp c.watched vs) h in
    let d = both_true (leb c.lowest sp) (leb sp 0x2FFE) b.0 in
    record {
      sp = sp;
      known = refl;
      from = leb-true c.lowest sp d.0;
      below = leb-true sp 0x2FFE d.1;
      kept = b.1;
    }
sound_at c high vs h = absurd (false≢true h)
sound_at c low vs h = absurd (false≢true h)
sound_at c (sum sp) vs h = absurd (false≢true h)
sound_at c allowed vs h = absurd (false≢true h)

-- A word of which something may be known.
abbrev pub Keepable : Claim → ℕ → ℕ → Type 0
Keepable c sp w = (is_own (cell_at c.cells w) ≡ true) ⊎ ((sp ≤ w) × (w < 0x3000))

kept_one : (c : Claim) (sp w : ℕ) (v : Value) → is_kept c sp w v ≡ true → (implies any v ≡ true) ⊎ Keepable c sp w
unfolding is_kept
kept_one c sp w v h = go (implies any v) refl (is_own (cell_at c.cells w)) refl h
  where
    go : (x : Bool) → implies any v ≡ x → (y : Bool) → is_own (cell_at c.cells w) ≡ y
        → x || (y || leb sp w && ltb w 0x3000) ≡ true → (implies any v ≡ true) ⊎ Keepable c sp w
    go true e y f h = inl e
    go false e true f h = inr (inl f)
    go false e false f h =
        let b = both_true (leb sp w) (ltb w 0x3000) h in
        inr (inr (leb-true sp w b.0, ltb-true w 0x3000 b.1))

-- A store elsewhere leaves what is known of watched words.
pub kept_holds : (c : Claim) (r sp a x : ℕ) (mem : List ℕ) → ((w : ℕ) → Keepable c sp w → w ≡ a → ⊥)
    → (ws : List ℕ) (vs : List Value) → all_kept c sp ws vs ≡ true → Registers r vs (words_at ws mem)
    → Registers r vs (words_at ws (set mem a x))
unfolding all_kept words_at
kept_holds c r sp a x mem apart [] [] k h = tt
kept_holds c r sp a x mem apart [] (v ∷ vs) k h = absurd (false≢true k)
kept_holds c r sp a x mem apart (w ∷ ws) [] k h = absurd (false≢true k)
kept_holds c r sp a x mem apart (w ∷ ws) (v ∷ vs) k h =
    let b = both_true (is_kept c sp w v) (all_kept c sp ws vs) k in (
      elim (kept_one c sp w v b.0) [
        | inl i ↦ weaker r any v _ i tt
        | inr n ↦ rw (get_or-set_other mem a w x 0 (apart w n)) h.0
      ],
      kept_holds c r sp a x mem apart ws vs b.1 h.1,
    )

-- ---- the whole test

module _ (c : Claim) (passed : passes c ≡ true) where
  pub room : (length c.cells + 4 ≤ c.lowest) × (c.lowest ≤ 0x2FFE)
  unfolding passes room_holds
  room =
      let b = both_true (room_holds c) (vectors_hold c && rows_hold c 0x0200 c.table) passed in
      let d = both_true (leb (length c.cells + 4) c.lowest) (leb c.lowest 0x2FFE) b.0 in
      (leb-true (length c.cells + 4) c.lowest d.0, leb-true c.lowest 0x2FFE d.1)

  rows_hold_lem : rows_hold c 0x0200 c.table ≡ true
  unfolding passes
  rows_hold_lem =
      (both_true (vectors_hold c) (rows_hold c 0x0200 c.table)
      (both_true (room_holds c) (vectors_hold c && rows_hold c 0x0200 c.table) passed).1).1

  pub found : (pc : ℕ) (σ : State) → accepts c pc σ ≡ true → FoundFor c pc σ
  unfolding accepts
  found pc σ h =
      let b = both_true (leb 0x0200 pc) (one_covers σ (get_or c.table (pc - 0x0200) [])) h in
      let l : 0x0200 ≤ pc = leb-true 0x0200 pc b.0 in
      let z : 0x0200 + (pc - 0x0200) ≡ pc = omega arith in
      found_at c pc σ (get_or c.table (pc - 0x0200) []) b.1
      (subst (λ (p : ℕ). RowAt c p (get_or c.table (pc - 0x0200) [])) z
      (rows_at c c.table 0x0200 rows_hold_lem (pc - 0x0200)))

  -- ---- the vectors

  vectors_hold_lem : (all_lead_in c 0x0103 ≡ true) × (leads_back c (cell_at c.cells keyboard_vector) ≡ true)
      × (leads_back c (cell_at c.cells timer_vector) ≡ true)
  unfolding passes vectors_hold
  vectors_hold_lem =
      let v = (both_true (vectors_hold c) (rows_hold c 0x0200 c.table)
      (both_true (room_holds c) (vectors_hold c && rows_hold c 0x0200 c.table) passed).1).0 in
      let b = both_true (all_lead_in c 0x0103)
      (leads_back c (cell_at c.cells keyboard_vector) && leads_back c (cell_at c.cells timer_vector)) v in
      let d = both_true (leads_back c (cell_at c.cells keyboard_vector))
      (leads_back c (cell_at c.cells timer_vector)) b.1 in
      (b.0, d.0, d.1)

-- A vector word that leads to where the table knows the entry.
pub record LeadsIn (c : Claim) (a : ℕ) : Type 0 where
  pub to : ℕ
  pub word : cell_at c.cells a ≡ fixed to
  pub accepted : accepts c to (on_entry c) ≡ true

pub record LeadsBack (c : Claim) (a : ℕ) : Type 0 where
  pub entry : LeadsIn c a
  pub lone : cell_at c.cells entry.to ≡ fixed 0x8000

leads_in_lem : (c : Claim) (a : ℕ) → leads_in c (cell_at c.cells a) ≡ true → LeadsIn c a
unfolding leads_in
leads_in_lem c a h = go (cell_at c.cells a) refl h
  where
    go : (x : Cell) → cell_at c.cells a ≡ x → leads_in c x ≡ true → LeadsIn c a
    go (fixed w) e h = record { to = w; word = e; accepted = h }
    go own e h = absurd (false≢true h)
    go hidden e h = absurd (false≢true h)

return_is : (x : Cell) → is_return x ≡ true → x ≡ fixed 0x8000
unfolding is_return
return_is (fixed w) h = ap fixed (eqb-true w 0x8000 h)
return_is own h = absurd (false≢true h)
return_is hidden h = absurd (false≢true h)

leads_back_lem : (c : Claim) (a : ℕ) → leads_back c (cell_at c.cells a) ≡ true → LeadsBack c a
unfolding leads_back
leads_back_lem c a h = go (cell_at c.cells a) refl h
  where
    go : (x : Cell) → cell_at c.cells a ≡ x → leads_back c x ≡ true → LeadsBack c a
    go (fixed w) e h =
        let b = both_true (accepts c w (on_entry c)) (is_return (cell_at c.cells w)) h in
        record {
          entry = record { to = w; word = e; accepted = b.0 };
          lone = return_is (cell_at c.cells w) b.1;
        }
    go own e h = absurd (false≢true h)
    go hidden e h = absurd (false≢true h)

all_lead_in_lem : (c : Claim) (n : ℕ) → all_lead_in c n ≡ true → (a : ℕ) → a < n → LeadsIn c a
unfolding all_lead_in
all_lead_in_lem c zero h a l = absurd (omega arith)
all_lead_in_lem c (suc n) h a l =
    let b = both_true (leads_in c (cell_at c.cells n)) (all_lead_in c n) h in
    elim (dec_le (suc a) n) [
      | yes k ↦ all_lead_in_lem c n b.1 a k
      | no k ↦ let e : n ≡ a = omega arith in subst (LeadsIn c) e (leads_in_lem c n b.0)
    ]

module _ (c : Claim) (passed : passes c ≡ true) where
  pub trap_leads : (a : ℕ) → a < 0x0103 → LeadsIn c a
  trap_leads a l = all_lead_in_lem c 0x0103 (vectors_hold_lem c passed).0 a l

  pub keyboard_leads : LeadsBack c keyboard_vector
  keyboard_leads = leads_back_lem c keyboard_vector (vectors_hold_lem c passed).1

  pub timer_leads : LeadsBack c timer_vector
  timer_leads = leads_back_lem c timer_vector (vectors_hold_lem c passed).2
