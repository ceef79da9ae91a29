-- The way through a routine, apart from any run: its steps one after the other, with what each of them rests on. A run
-- that stands where the way begins, and takes no interrupt, comes to where it ends; and the way can be left anywhere.
use Prim.Native.Nat.{ℕ, zero, suc, ◌+◌, ◌-◌, ◌*◌, ◌≤◌, ◌<◌}
use native.Mathlib.Omega.{arith}
use mathlib.Core.Path.{◌≡◌, refl, sym, subst, ◌∙◌}
use mathlib.Core.Bool.{Bool, true, false, ◌&&◌, ◌||◌}
use mathlib.Core.List.{List, [], ◌∷◌}
use borrow.Author.Tests.{lt-ltb, eqb-true}
use lib.Dec.{eqb, leb, ltb}
use lib.ListN.{length, get_or}
use lib.Seq.{get_or-set_other}
use Rattle.machine.specs.declared.Plan.{Plan}
use Rattle.machine.specs.declared.Plan.TheVariants.{Move, Put, Jump, Load, LoadBy, Store, StoreBy, Call, Illegal}
use Rattle.machine.specs.declared.Plan.TheVariants.{Return}
use Rattle.machine.specs.Words.{next, plus, wrap, with_register}
use Rattle.machine.proofs.Tests.{both_true}
use Rattle.run.specs.Run.{Start}
use Rattle.monitor.specs.Out.{wait_steps}
use Rattle.monitor.specs.Calls.{StackApart}
use Rattle.monitor.proofs.Execution.{Frame, Known, from, codes_number, Cell, View, memory_with, Quiet, Leads}
use Rattle.monitor.proofs.Execution.{no_step}
use Rattle.monitor.proofs.Execution.{then as thenLeads}
use Rattle.monitor.proofs.Intact.{cells_fine, cells_fine_lem, usable, word_at}
use Rattle.monitor.proofs.Instructions.{Sound, plan_at, changed, valued, Use, loads_slot, stores_slot, moves_stack}
use Rattle.monitor.proofs.Instructions.{leaves_stack, elsewhere, slot_of, use_at, stepped, may_step, Kept, word_is}
use Rattle.monitor.proofs.Instructions.{other, same, by_plan, keeps_once, steps_once, stepped_by, may_steps}
use Rattle.monitor.proofs.Entries.{called_frame, within, Polls, waits, recoded}
use Rattle.monitor.proofs.Calls.{AtReturn}

-- ---- what a step rests on

-- A word of the stack that was stored.
abbrev pub holds : List Cell → ℕ → Bool
holds [] i = false
holds (c ∷ cells) i = eqb i c.slot || holds cells i

-- It loads words that the routine uses, and DSR where the display is ready.
abbrev pub calm_plan : Frame → View → Plan → Bool
calm_plan f v (Move r x pc) = true
calm_plan f v (Put r x pc) = true
calm_plan f v (Jump pc) = true
calm_plan f v (Load r a) = usable f a
calm_plan f v (LoadBy r a) = usable f a && eqb v.busy 0
calm_plan f v (Store x a) = true
calm_plan f v (StoreBy x a) = usable f a
calm_plan f v (Call vector) = true
calm_plan f v Illegal = true
calm_plan f v Return = true

-- It loads from the stack what it stored there, and what is not below R6; R6 falls only where nothing was stored below.
abbrev pub calm_use : Frame → View → Use → Bool
calm_use f v (loads_slot r n) = holds v.cells (slot_of v.depth n) && leb (slot_of v.depth n) v.depth
calm_use f v (stores_slot r n) = true
calm_use f v (moves_stack n) = leb (slot_of v.depth n) v.depth || cells_fine v.depth v.cells
calm_use f v (leaves_stack n) = usable f (plus (next v.pc) n)
calm_use f v elsewhere = calm_plan f v (plan_at f v)

unfoldable pub calm : Frame → View → Bool
unfolding plan_at
calm f v = usable f v.pc && calm_use f v (use_at f v)

unfoldable pub calmly : ℕ → Frame → View → Bool
calmly zero f v = true
calmly (suc n) f v = calm f v && calmly n f (stepped f v)

-- An address that may be read: no device's, and none of the stack's.
pub record Readable (words sp a : ℕ) : Type 0 where
  pub plain : a < 0xFE00
  pub outside : sp - words ≤ a → sp ≤ a

-- The end of a way: RTI, at this address, with what the entry pushed on top of the stack.
pub record Ends (uses : ℕ → Bool) (words : ℕ) (user : Bool) (s : Start) (last : ℕ) (end : View) : Type 0 where
  pub there : end.pc ≡ last
  pub returns : AtReturn uses words user s end
  pub own : usable (called_frame uses words user s) end.pc ≡ true
  pub pc_stored : holds end.cells 2 ≡ true
  pub psr_stored : holds end.cells 1 ≡ true
  pub depth : end.depth ≡ 2

-- ---- a way of n steps from one view to another

-- It makes no step; it knows the codes otherwise; it makes a step that can be computed; it branches; it loads R1 from a
-- word that may be read; it waits for the display; and one way after the other.
pub data Path (f : Frame) (may : ℕ → Bool) : View → ℕ → View → Type 0 where
  stays : {v v' : View} {n : ℕ} → v ≡ v' → n ≡ 0 → Path f may v n v'
  knows : {v v' : View} {n : ℕ} (c : Known) → codes_number v.codes ≡ codes_number c
      → within v v.regs v.pc c v.busy ≡ v' → n ≡ 0 → Path f may v n v'
  makes : {v v' : View} {n : ℕ} (room : ℕ) → room ≤ length f.output → Kept f v → may_step f room v ≡ true
      → calm f v ≡ true → stepped f v ≡ v' → n ≡ 1 → Path f may v n v'
  jumps : {v v' : View} {n : ℕ} → v.mcr ≡ 0x8000 → cells_fine f.words v.cells ≡ true → usable f v.pc ≡ true
      → (pc : ℕ) → plan_at f v ≡ Jump pc → changed v v.regs pc v.codes v.cells ≡ v' → n ≡ 1
      → Path f may v n v'
  fetches : {v v' : View} {n : ℕ} → v.mcr ≡ 0x8000 → cells_fine f.words v.cells ≡ true → usable f v.pc ≡ true
      → (a w : ℕ) → may a ≡ true → Readable f.words f.sp a → plan_at f v ≡ Load 1 (wrap (a + 0))
      → get_or f.memory a 0 ≡ w → valued v 1 w (next v.pc) ≡ v' → n ≡ 1 → Path f may v n v'
  attends : {v v' : View} {n : ℕ} (u : View) → u.mcr ≡ 0x8000 → cells_fine f.words u.cells ≡ true → (r pc : ℕ)
      → Polls f u r pc → (busy : ℕ) (regs : List ℕ) (c : Known) → within u regs pc c busy ≡ v
      → within u (with_register regs r 0x8000) (next (next pc)) (from 0x8000) 0 ≡ v' → n ≡ wait_steps busy
      → Path f may v n v'
  joins : {v v' : View} {n : ℕ} (w : View) (i j : ℕ) → Path f may v i w → Path f may w j v' → i + j ≡ n
      → Path f may v n v'

pub no_step_more : {f : Frame} {may : ℕ → Bool} (v : View) → Path f may v 0 v
no_step_more v = stays refl refl

pub then : {f : Frame} {may : ℕ → Bool} {v w v' : View} {m n : ℕ} → Path f may v m w → Path f may w n v'
    → Path f may v (m + n) v'
then {w = w} {m = m} {n = n} first second = joins w m n first second refl

pub knowing : {f : Frame} {may : ℕ → Bool} (v : View) (c c' : Known) → codes_number c ≡ codes_number c'
    → Path f may (within v v.regs v.pc c v.busy) 0 (within v v.regs v.pc c' v.busy)
knowing v c c' e = knows c' e refl refl

-- R6 stays where the view says, all along a way.
pub keeps : {f : Frame} {may : ℕ → Bool} {v v' : View} {n : ℕ} → Path f may v n v' → Kept f v → Kept f v'
keeps {f} {v = v} (stays e z) k = subst (λ (x : View). Kept f x) e k
keeps {f} {v = v} (knows c codes e z) k =
    subst (λ (x : View). Kept f x) e (same f v k (within v v.regs v.pc c v.busy) refl refl)
keeps {f} {v = v} (makes room has_room k₀ may calms e z) k =
    subst (λ (x : View). Kept f x) e (keeps_once f room v k may)
keeps {f} {v = v} (jumps going fine own pc plan e z) k =
    subst (λ (x : View). Kept f x) e (same f v k (changed v v.regs pc v.codes v.cells) refl refl)
keeps {f} {v = v} (fetches going fine own a w ok r plan is e z) k =
    subst (λ (x : View). Kept f x) e (other f v k 1 w refl (valued v 1 w (next v.pc)) refl refl)
keeps {f} {v = v} (attends u going fine r pc p busy regs c first last z) k =
    subst (λ (x : View). Kept f x) last
    (other f (within u regs pc c busy) (subst (λ (x : View). Kept f x) (sym first) k) r 0x8000 p.other
    (within u (with_register regs r 0x8000) (next (next pc)) (from 0x8000) 0) refl refl)
keeps (joins w i j first second z) k = keeps second (keeps first k)

-- Steps that can be computed.
module _ (f : Frame) (may : ℕ → Bool) (room : ℕ) (has_room : room ≤ length f.output) where
  abbrev Treads : ℕ → Type 0
  Treads n = (v : View) → Kept f v → may_steps n f room v ≡ true → calmly n f v ≡ true
      → Path f may v n (stepped_by n f v)

  one_more : (n : ℕ) → Treads n → Treads (suc n)
  unfolding stepped_by may_steps calmly
  one_more n rest v k steps calms =
      let both = both_true (may_step f room v) (may_steps n f room (stepped f v)) steps in
      let calmed = both_true (calm f v) (calmly n f (stepped f v)) calms in
      let z : 1 + n ≡ suc n = omega arith in
      joins (stepped f v) 1 n (makes room has_room k both.0 calmed.0 refl refl)
      (rest (stepped f v) (keeps_once f room v k both.0) both.1 calmed.1) z

  none : Treads zero
  unfolding stepped_by
  none v k steps calms = no_step_more v

  pub treads : (n : ℕ) → Treads n
  treads zero = none
  treads (suc n) = one_more n (treads n)

-- A loop that shows a text: in each turn five steps that can be computed, to the poll of DSR at pc, where the count is
-- four; and the wait.
module _ (f : Frame) (may : ℕ → Bool) (room : ℕ) (has_room : room ≤ length f.output) (r pc : ℕ)
    (polls : (u : View) → Polls f u r pc) where
  abbrev turned : View → View
  turned v = within v (with_register v.regs r 0x8000) (next (next pc)) (from 0x8000) 0

  unfoldable pub turned_by : ℕ → View → View
  turned_by zero v = v
  turned_by (suc n) v = turned_by n (turned (stepped_by 5 f v))

  abbrev may_turn : View → Bool
  may_turn v =
      let w = stepped_by 5 f v in
      (may_steps 5 f room v && calmly 5 f v)
      && ((eqb w.pc pc && eqb w.busy 4) && (eqb w.mcr 0x8000 && cells_fine f.words w.cells))

  unfoldable pub may_turns : ℕ → View → Bool
  may_turns zero v = true
  may_turns (suc n) v = may_turn v && may_turns n (turned (stepped_by 5 f v))

  abbrev Turns : ℕ → Type 0
  Turns n = (v : View) → Kept f v → may_turns n v ≡ true → Path f may v (n * 11) (turned_by n v)

  one_turn : (v : View) → Kept f v → may_turn v ≡ true → Path f may v 11 (turned (stepped_by 5 f v))
  unfolding wait_steps
  one_turn v k h =
      let w : View = stepped_by 5 f v in
      let outer = both_true (may_steps 5 f room v && calmly 5 f v)
      ((eqb w.pc pc && eqb w.busy 4) && (eqb w.mcr 0x8000 && cells_fine f.words w.cells)) h in
      let steps = both_true (may_steps 5 f room v) (calmly 5 f v) outer.0 in
      let inner = both_true (eqb w.pc pc && eqb w.busy 4)
      (eqb w.mcr 0x8000 && cells_fine f.words w.cells) outer.1 in
      let place = both_true (eqb w.pc pc) (eqb w.busy 4) inner.0 in
      let rest = both_true (eqb w.mcr 0x8000) (cells_fine f.words w.cells) inner.1 in
      let at : pc ≡ w.pc = sym (eqb-true w.pc pc place.0) in
      let count : 4 ≡ w.busy = sym (eqb-true w.busy 4 place.1) in
      joins w 5 6 (treads f may room has_room 5 v k steps.0 steps.1)
      (attends w (eqb-true w.mcr 0x8000 rest.0) rest.1 r pc (polls w) 4 w.regs w.codes
      (λ i. within w w.regs (at i) w.codes (count i)) refl refl)
      refl

  turn_keeps : (v : View) → Kept f v → may_turn v ≡ true → Kept f (turned (stepped_by 5 f v))
  turn_keeps v k h = keeps (one_turn v k h) k

  no_turn : Turns zero
  unfolding turned_by
  no_turn v k h = no_step_more v

  one_more_turn : (n : ℕ) → Turns n → Turns (suc n)
  unfolding turned_by may_turns
  one_more_turn n rest v k h =
      let both = both_true (may_turn v) (may_turns n (turned (stepped_by 5 f v))) h in
      let z : 11 + n * 11 ≡ suc n * 11 = omega arith in
      joins (turned (stepped_by 5 f v)) 11 (n * 11) (one_turn v k both.0)
      (rest (turned (stepped_by 5 f v)) (turn_keeps v k both.0) both.1) z

  pub turns : (n : ℕ) → Turns n
  turns zero = no_turn
  turns (suc n) = one_more_turn n (turns n)

-- ---- a run on its way

-- A word outside the stack is as it was.
pub other_word : {words sp : ℕ} → StackApart words sp → (mem : List ℕ) (cells : List Cell)
    → cells_fine words cells ≡ true → (a : ℕ) → (sp - words ≤ a → sp ≤ a)
    → get_or (memory_with sp mem cells) a 0 ≡ get_or mem a 0
other_word apart mem [] fine a h = refl
other_word {words} {sp} apart mem (c ∷ cells) fine a h =
    let w = cells_fine_lem words c cells fine in
    let least : 1 ≤ c.slot = w.0 in
    let most : c.slot ≤ words = w.1 in
    let room : 0x02A5 + words ≤ sp = apart.above_monitor in
    get_or-set_other (memory_with sp mem cells) (sp - c.slot) a c.value 0
    (λ e.
    let above : sp ≤ a = h (omega arith) in
    omega arith)
    ∙ other_word apart mem cells w.2 a h

module _ {s : Start} {since bound : ℕ} (quiet : Quiet s since bound) (f : Frame) (sound : Sound f) where
  -- LDR of the word at R0.
  pub gets_word : (v : View) → v.mcr ≡ 0x8000 → cells_fine f.words v.cells ≡ true → (a w : ℕ)
      → Readable f.words f.sp a → plan_at f v ≡ Load 1 (wrap (a + 0)) → get_or f.memory a 0 ≡ w
      → Leads s since bound f v 1 f (valued v 1 w (next v.pc))
  gets_word v going fine a w r plan is =
      let plain : a < 0xFE00 = r.plain in
      let z : wrap (a + 0) ≡ a = omega arith in
      let x : word_at f v (wrap (a + 0)) ≡ w =
      rw z
      (sym (word_is f sound v fine a)
      ∙ other_word sound.stack f.memory v.cells fine a r.outside
      ∙ is) in
      let may : ltb (wrap (a + 0)) 0xFE00 ≡ true = rw z (lt-ltb a 0xFE00 plain) in
      rw x at (by_plan quiet f sound 0 (omega arith) v going fine (Load 1 (wrap (a + 0))) plan may)

  -- The same to a view, in a number of steps, that are known otherwise.
  fits : {v w v' : View} {m n : ℕ} → Leads s since bound f v m f w → w ≡ v' → n ≡ m → Leads s since bound f v n f v'
  fits {v} {w} {v'} {m} {n} l e z =
      subst (λ (x : View). Leads s since bound f v n f x) e
      (subst (λ (i : ℕ). Leads s since bound f v i f w) (sym z) l)

  awaited : {v v' : View} {n : ℕ} (u : View) → u.mcr ≡ 0x8000 → cells_fine f.words u.cells ≡ true → (r pc : ℕ)
      → Polls f u r pc → (busy : ℕ) (regs : List ℕ) (c : Known) → within u regs pc c busy ≡ v
      → within u (with_register regs r 0x8000) (next (next pc)) (from 0x8000) 0 ≡ v' → n ≡ wait_steps busy
      → Leads s since bound f v n f v'
  awaited {v' = v'} {n = n} u going fine r pc p busy regs c first last z =
      subst (λ (x : View). Leads s since bound f x n f v') first
      (fits (waits quiet f sound u going fine r pc p busy regs c) last z)

  module _ {may : ℕ → Bool} where
    pub walks : {v v' : View} {n : ℕ} → Path f may v n v' → Leads s since bound f v n f v'
    walks {v} (stays e z) = fits (no_step f v) e z
    walks {v} (knows c same e z) = fits (recoded f v v.codes c same) e z
    walks {v} (makes room has_room k may calms e z) =
        fits (steps_once quiet f sound room has_room v k may) e z
    walks {v} (jumps going fine own pc plan e z) =
        fits (by_plan quiet f sound 0 (omega arith) v going fine (Jump pc) plan refl) e z
    walks {v} (fetches going fine own a w allowed r plan is e z) =
        fits (gets_word v going fine a w r plan is) e z
    walks (attends u going fine r pc p busy regs c first last z) =
        awaited u going fine r pc p busy regs c first last z
    walks (joins w i j first second z) = fits (thenLeads (walks first) (walks second)) refl (sym z)
