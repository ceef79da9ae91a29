-- A memory that holds the monitor's words which a routine uses, and the words of a view: the routine's, those of the
-- stack, and all others.
use Prim.Native.Nat.{ℕ, ◌+◌, ◌-◌, ◌≤◌, ◌<◌}
use native.Mathlib.Omega.{arith}
use mathlib.Core.Path.{◌≡◌, refl, sym, ap, ◌∙◌}
use mathlib.Core.Bool.{Bool, true, false, cond, ◌&&◌}
use mathlib.Core.List.{List, [], ◌∷◌, ◌++◌}
use borrow.Author.Tests.{leb-true, ltb-true, eqb-true, eqb-false}
use lib.Dec.{leb, ltb, eqb}
use lib.ListN.{length, get_or, set, take, length-set, get_or-append}
use lib.Seq.{get_or-take, get_or-set_same, get_or-set_other, get_or-append-add}
use Rattle.machine.proofs.Tests.{both_true}
use Rattle.monitor.specs.Vectors.{vector_word, vectors_from, vector_table, ours}
use Rattle.monitor.specs.Routines.{routine_words, monitor_words}
use Rattle.monitor.specs.Uses.{HasWords}
use Rattle.monitor.specs.Calls.{StackApart}
use Rattle.monitor.proofs.VectorLaws.{table_holds}
use Rattle.monitor.proofs.Execution.{Frame, Cell, View, memory_with, memory_at}

-- The words x0000 to x02A4.
pub monitor_length : length monitor_words ≡ 0x02A5
unfolding monitor_words vector_table vectors_from routine_words
monitor_length = refl

-- A memory of all addresses that holds these words of the monitor.
pub record Intact (uses : ℕ → Bool) (mem : List ℕ) : Type 0 where
  pub words : HasWords uses mem
  pub size : length mem ≡ 65536

-- Where all of them are there, each is.
pub monitor_word : (mem : List ℕ) → take (length monitor_words) mem ≡ monitor_words → (a : ℕ) → a < 0x02A5
    → get_or mem a 0 ≡ get_or monitor_words a 0
monitor_word mem all a l =
    let b : a < length monitor_words = omega (arith, monitor_length) in
    sym (get_or-take (length monitor_words) mem a 0 b) ∙ ap (λ (ws : List ℕ). get_or ws a 0) all

pub routine_word : {uses : ℕ → Bool} {mem : List ℕ} → Intact uses mem → (a : ℕ) → 0x0200 ≤ a → uses a ≡ true
    → get_or mem a 0 ≡ get_or routine_words (a - 0x0200) 0
routine_word i a l used = i.words a used ∙ skip (a - 0x0200) a (omega arith)
  where
    skip : (n a : ℕ) → 512 + n ≡ a → get_or monitor_words a 0 ≡ get_or routine_words n 0
    skip n a e = unfold monitor_words in
        rw (← e)
        (ap (λ (k : ℕ). get_or (vector_table ours ++ routine_words) (k + n) 0) (sym (table_holds.size ours))
        ∙ get_or-append-add (vector_table ours) routine_words n 0)

pub monitor_vector : (a : ℕ) → a < 0x0200 → get_or monitor_words a 0 ≡ vector_word ours a
unfolding monitor_words
monitor_vector a h =
    get_or-append (vector_table ours) routine_words 0 a (omega (arith, table_holds.size ours))
    ∙ table_holds.words ours a h

pub vector_word_lem : {uses : ℕ → Bool} {mem : List ℕ} → Intact uses mem → (a : ℕ) → a < 0x0200 → uses a ≡ true
    → get_or mem a 0 ≡ vector_word ours a
vector_word_lem i a h used = i.words a used ∙ monitor_vector a h

-- ---- the words of a view

-- The words stored since are words of the stack.
abbrev pub cells_fine : ℕ → List Cell → Bool
cells_fine words [] = true
cells_fine words (c ∷ cells) = leb 1 c.slot && leb c.slot words && cells_fine words cells

pub cells_fine_lem : (words : ℕ) (c : Cell) (cells : List Cell) → cells_fine words (c ∷ cells) ≡ true
    → (1 ≤ c.slot) × (c.slot ≤ words) × (cells_fine words cells ≡ true)
cells_fine_lem words c cells h =
    let outer = both_true (leb 1 c.slot && leb c.slot words) (cells_fine words cells) h in
    let inner = both_true (leb 1 c.slot) (leb c.slot words) outer.0 in
    (leb-true 1 c.slot inner.0, leb-true c.slot words inner.1, outer.1)

pub size_with : (sp : ℕ) (mem : List ℕ) (cells : List Cell) → length (memory_with sp mem cells) ≡ length mem
size_with sp mem [] = refl
size_with sp mem (c ∷ cells) =
    length-set (memory_with sp mem cells) (sp - c.slot) c.value ∙ size_with sp mem cells

-- The monitor's own words are none of the stack's.
pub low_word : {words sp : ℕ} → StackApart words sp → (mem : List ℕ) (cells : List Cell) → cells_fine words cells ≡ true
    → (a : ℕ) → a < 0x02A5 → get_or (memory_with sp mem cells) a 0 ≡ get_or mem a 0
low_word apart mem [] fine a h = refl
low_word {words} {sp} apart mem (c ∷ cells) fine a h =
    let w = cells_fine_lem words c cells fine in
    let most : c.slot ≤ words = w.1 in
    let above : 0x02A5 + words ≤ sp = apart.above_monitor in
    get_or-set_other (memory_with sp mem cells) (sp - c.slot) a c.value 0 (λ e. omega arith)
    ∙ low_word apart mem cells w.2 a h

-- The word at a: one that the routine uses, or whatever memory has.
unfoldable pub word_with : (ℕ → Bool) → List ℕ → ℕ → ℕ
unfolding routine_words
word_with uses mem a =
    cond (leb 0x0200 a && (ltb a 0x02A5 && uses a)) (get_or routine_words (a - 0x0200) 0) (get_or mem a 0)

-- A word that the routine uses.
abbrev pub usable : Frame → ℕ → Bool
usable f a = leb 0x0200 a && (ltb a 0x02A5 && f.uses a)

abbrev pub word_at : Frame → View → ℕ → ℕ
word_at f v a = word_with f.uses (memory_at f v) a

pub word_with_lem : {uses : ℕ → Bool} {mem : List ℕ} → Intact uses mem → {words sp : ℕ} → StackApart words sp
    → (cells : List Cell) → cells_fine words cells ≡ true → (a : ℕ)
    → get_or (memory_with sp mem cells) a 0 ≡ word_with uses (memory_with sp mem cells) a
unfolding word_with
word_with_lem {uses} {mem} i {words} {sp} apart cells fine a = go (leb 0x0200 a && (ltb a 0x02A5 && uses a)) refl
  where
    go : (b : Bool) → (leb 0x0200 a && (ltb a 0x02A5 && uses a)) ≡ b
        → get_or (memory_with sp mem cells) a 0
        ≡ cond b (get_or routine_words (a - 0x0200) 0) (get_or (memory_with sp mem cells) a 0)
    go true e =
        let outer = both_true (leb 0x0200 a) (ltb a 0x02A5 && uses a) e in
        let inner = both_true (ltb a 0x02A5) (uses a) outer.1 in
        low_word apart mem cells fine a (ltb-true a 0x02A5 inner.0)
        ∙ routine_word i a (leb-true 0x0200 a outer.0) inner.1
    go false e = refl

-- The word of the stack that is i below its beginning.
abbrev pub slot_with : ℕ → List ℕ → List Cell → ℕ → ℕ
slot_with sp mem [] i = get_or mem (sp - i) 0
slot_with sp mem (c ∷ cells) i = cond (eqb i c.slot) c.value (slot_with sp mem cells i)

abbrev pub slot_at : Frame → View → ℕ → ℕ
slot_at f v i = slot_with f.sp f.memory v.cells i

pub slot_with_lem : {words sp : ℕ} → StackApart words sp → (mem : List ℕ) → length mem ≡ 65536 → (cells : List Cell)
    → cells_fine words cells ≡ true → (i : ℕ) → 1 ≤ i → i ≤ words
    → get_or (memory_with sp mem cells) (sp - i) 0 ≡ slot_with sp mem cells i
slot_with_lem apart mem size [] fine i least most = refl
slot_with_lem {words} {sp} apart mem size (c ∷ cells) fine i least most =
    let w = cells_fine_lem words c cells fine in
    go (eqb i c.slot) refl w.0 w.1 apart.above_monitor apart.below_devices
    (slot_with_lem apart mem size cells w.2 i least most)
  where
    go : (b : Bool) → eqb i c.slot ≡ b → 1 ≤ c.slot → c.slot ≤ words → 0x02A5 + words ≤ sp → sp ≤ 0xFE00
        → get_or (memory_with sp mem cells) (sp - i) 0 ≡ slot_with sp mem cells i
        → get_or (set (memory_with sp mem cells) (sp - c.slot) c.value) (sp - i) 0
        ≡ cond b c.value (slot_with sp mem cells i)
    go true e l m above below ih =
        let z : i ≡ c.slot = eqb-true i c.slot e in
        rw z
        (get_or-set_same (memory_with sp mem cells) (sp - c.slot) c.value 0
        (omega (arith, size_with sp mem cells, size)))
    go false e l m above below ih =
        get_or-set_other (memory_with sp mem cells) (sp - c.slot) (sp - i) c.value 0
        (λ q. eqb-false i c.slot e (omega arith))
        ∙ ih
