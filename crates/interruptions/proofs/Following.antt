-- A run that stands on a way, but for what is below the stack, the display's count and the keyboard, follows it step by
-- step: it shows the same bytes, in as many steps at most.
use Prim.Native.Nat.{ℕ, zero, suc, ◌+◌, ◌-◌, ◌%◌, ◌≤◌, ◌<◌}
use native.Mathlib.Omega.{arith}
use mathlib.Core.Path.{◌≡◌, refl, sym, ap, subst, ◌∙◌}
use mathlib.Core.Bool.{Bool, true, false, cond, ◌&&◌, ◌||◌, true≢false}
use mathlib.Core.List.{List, [], ◌∷◌, ◌++◌, append_assoc}
use borrow.Author.Tests.{leb-true, le-leb, ltb-true, lt-ltb, eqb-true, eq-eqb, ne_eqb}
use lib.Dec.{eqb, leb, ltb}
use lib.IntN.{ℤ, negsuc}
use lib.ListN.{length, get_or, length-append}
use lib.Seq.{set-set}
use Rattle.word.specs.Reading.{read_of}
use Rattle.word.specs.declared.Instruction.TheVariants.{Br}
use Rattle.machine.specs.declared.Plan.{Plan}
use Rattle.machine.specs.declared.Plan.TheVariants.{Move, Put, Jump, Load, LoadBy, Store, StoreBy, Call, Illegal}
use Rattle.machine.specs.declared.Plan.TheVariants.{Return}
use Rattle.machine.specs.Words.{next, plus, wrap, register, with_register, and_bits}
use Rattle.machine.specs.Psr.{codes_of, is_taken}
use Rattle.machine.specs.Devices.{DSR, DDR, MCR}
use Rattle.machine.specs.Plan.{plan_of}
use Rattle.machine.proofs.Tests.{both_true}
use Rattle.run.specs.Run.{Start}
use Rattle.monitor.specs.Out.{wait_steps}
use Rattle.monitor.proofs.UseLaws.{either}
use Rattle.monitor.proofs.Execution.{Frame, Known, from, codes_number, Cell, cell, View, Quiet, Leads, then, no_step}
use Rattle.monitor.proofs.Intact.{cells_fine, cells_fine_lem, word_with, usable, word_at, slot_with, slot_at}
use Rattle.monitor.proofs.Instructions.{Sound, codes_for, plan_at, changed, showing, clocked, valued, display_at}
use Rattle.monitor.proofs.Instructions.{performed}
use Rattle.monitor.proofs.Instructions.{is_plain, may_perform, Use, loads_slot, stores_slot, moves_stack, leaves_stack}
use Rattle.monitor.proofs.Instructions.{elsewhere, use_of, slot_of, deeper, used, keeps_six, may_use}
use Rattle.monitor.proofs.Instructions.{use_at}
use Rattle.monitor.proofs.Instructions.{stepped, may_step, PlanIs, plan_by_use, Kept, other, same, on_stack_lem}
use Rattle.monitor.proofs.Instructions.{by_plan}
use Rattle.monitor.proofs.Instructions.{by_use, keeps_once}
use Rattle.monitor.proofs.Entries.{within, Polls, recoded}
use Rattle.monitor.proofs.Paths.{holds, calm_plan, calm_use, calm, Readable, Path, stays, knows, makes, jumps, fetches}
use Rattle.monitor.proofs.Paths.{attends, joins, keeps, gets_word}

-- What may be another's: the words stored since, the bytes shown since, the display's count, and the keyboard.
pub record Rest : Type 0 where
  pub cells : List Cell
  pub bytes : List ℕ
  pub busy : ℕ
  pub read : ℕ
  pub status : ℕ

abbrev pub twin : View → Rest → View
twin w x = record {
  regs = w.regs;
  pc = w.pc;
  codes = w.codes;
  cells = x.cells;
  depth = w.depth;
  bytes = x.bytes;
  busy = x.busy;
  mcr = w.mcr;
  read = x.read;
  status = x.status;
}

-- The same frame over another memory and another output.
abbrev pub beside : Frame → List ℕ → List ℕ → Frame
beside f mem out = record {
  uses = f.uses;
  words = f.words;
  sp = f.sp;
  high = f.high;
  ssp = f.ssp;
  usp = f.usp;
  memory = mem;
  output = out;
}

-- One step less on the display's count.
abbrev pub less : Rest → Rest
less x = record { cells = x.cells; bytes = x.bytes; busy = x.busy - 1; read = x.read; status = x.status }

-- Those bytes were shown before; the display has had time; and what the stack holds is the same, down to R6.
pub record Like (f : Frame) (mem before : List ℕ) (w : View) (x : Rest) : Type 0 where
  pub fine : cells_fine f.words x.cells ≡ true
  pub bytes : w.bytes ≡ before ++ x.bytes
  pub busy : x.busy ≤ w.busy
  pub slots : (i : ℕ) → holds w.cells i ≡ true → i ≤ w.depth → slot_with f.sp mem x.cells i ≡ slot_at f w i

pub holds_fine : (d : ℕ) (cells : List Cell) → cells_fine d cells ≡ true → (i : ℕ) → holds cells i ≡ true → i ≤ d
holds_fine d [] fine i h = absurd (true≢false (sym h))
holds_fine d (c ∷ cells) fine i h =
    let w = cells_fine_lem d c cells fine in
    let most : c.slot ≤ d = w.1 in
    either (eqb i c.slot) (holds cells i) h
    (λ e. let z : i ≡ c.slot = eqb-true i c.slot e in omega arith)
    (λ e. holds_fine d cells w.2 i e)

pub holds_least : (d : ℕ) (cells : List Cell) → cells_fine d cells ≡ true → (i : ℕ) → holds cells i ≡ true → 1 ≤ i
holds_least d [] fine i h = absurd (true≢false (sym h))
holds_least d (c ∷ cells) fine i h =
    let w = cells_fine_lem d c cells fine in
    let least : 1 ≤ c.slot = w.0 in
    either (eqb i c.slot) (holds cells i) h
    (λ e. let z : i ≡ c.slot = eqb-true i c.slot e in omega arith)
    (λ e. holds_least d cells w.2 i e)

module _ {r : Start} {since bound : ℕ} (quiet : Quiet r since bound) (f : Frame) (mem out before : List ℕ)
    (sound : Sound (beside f mem out)) (total : length f.output ≡ length before + length out) (may : ℕ → Bool)
    (same_word : (a : ℕ) → may a ≡ true → get_or mem a 0 ≡ get_or f.memory a 0) where
  abbrev g : Frame
  g = beside f mem out

  -- ---- what it reads is the same

  own_word : (w v : View) (a : ℕ) → usable f a ≡ true → word_at g v a ≡ word_at f w a
  unfolding word_with
  own_word w v a own = rw own

  pub own_plan : (w : View) (x : Rest) → usable f w.pc ≡ true → plan_at g (twin w x) ≡ plan_at f w
  unfolding plan_at
  own_plan w x own =
      ap (λ (word : ℕ). plan_of w.regs w.pc (codes_for w.codes (read_of word)) (read_of word))
      (own_word w (twin w x) w.pc own)

  own_use : (w : View) (x : Rest) → usable f w.pc ≡ true → use_at g (twin w x) ≡ use_at f w
  own_use w x own = ap (λ (word : ℕ). use_of (read_of word)) (own_word w (twin w x) w.pc own)

  -- ---- one step

  -- It has followed, in one step.
  record One (w : View) (x : Rest) (w' : View) : Type 0 where
    rest : Rest
    like : Like f mem before w' rest
    leads : Leads r since bound g (twin w x) 1 g (twin w' rest)
    keyboard : (rest.read ≡ x.read) × (rest.status ≡ x.status)
    counts : x.busy ≡ w.busy → rest.busy ≡ w'.busy

  like_less : (w : View) (x : Rest) → Like f mem before w x → (w' : View) → w'.bytes ≡ w.bytes
      → w'.busy ≡ w.busy - 1
      → w'.cells ≡ w.cells → w'.depth ≡ w.depth → Like f mem before w' (less x)
  like_less w x l w' bytes busy cells depth = record {
    fine = l.fine;
    bytes = bytes ∙ l.bytes;
    busy = rw busy (omega (arith, l.busy));
    slots = λ i h d.
        rw cells (l.slots i (rw cells at h) (rw depth at d));
  }

  module _ (w : View) (x : Rest) (l : Like f mem before w x) (k : Kept f w) (going : w.mcr ≡ 0x8000)
      (own : usable f w.pc ≡ true) where
    abbrev v : View
    v = twin w x

    k' : Kept g v
    k' = record { eight = k.eight; six = k.six; few = k.few }

    abbrev room : ℕ
    room = length out

    plain_step : (plan : Plan) (w' : View) → plan_at f w ≡ plan → may_perform g v room plan ≡ true
        → performed g v plan ≡ twin w' (less x) → w'.bytes ≡ w.bytes → w'.busy ≡ w.busy - 1 → w'.cells ≡ w.cells
        → w'.depth ≡ w.depth → One w x w'
    plain_step plan w' is allowed e bytes busy cells depth = record {
      rest = less x;
      like = like_less w x l w' bytes busy cells depth;
      leads = subst (λ (y : View). Leads r since bound g v 1 g y) e
          (by_plan quiet g sound room (omega arith) v going l.fine plan (own_plan w x own ∙ is) allowed);
      keyboard = (refl, refl);
      counts = λ same. rw (busy, same);
    }

    -- A store by a pointer: to MCR, or to DDR.
    store : (y a room₀ : ℕ) → room₀ ≤ length f.output → plan_at f w ≡ StoreBy y a → usable f a ≡ true
        → is_plain a ≡ true → (m : Bool) → eqb (word_at f w a) MCR ≡ m
        → (m || eqb (word_at f w a) DDR && (eqb w.busy 0 && ltb (length w.bytes) room₀)) ≡ true
        → One w x (cond m (clocked w y) (showing w (y % 256)))
    store y a room₀ has_room is used plain true e allowed =
        let same : word_at g v a ≡ word_at f w a = own_word w v a used in
        let e' : eqb (word_at g v a) MCR ≡ true = rw same e in
        plain_step (StoreBy y a) (clocked w y) is (rw (plain, e')) (rw e') refl refl refl refl
    store y a room₀ has_room is used plain false e allowed =
        let same : word_at g v a ≡ word_at f w a = own_word w v a used in
        let outer = both_true (eqb (word_at f w a) DDR) (eqb w.busy 0 && ltb (length w.bytes) room₀) allowed in
        let inner = both_true (eqb w.busy 0) (ltb (length w.bytes) room₀) outer.1 in
        let none : w.busy ≡ 0 = eqb-true w.busy 0 inner.0 in
        let none' : x.busy ≡ 0 = omega (arith, l.busy) in
        let shown : length w.bytes ≡ length before + length x.bytes =
        ap length l.bytes ∙ length-append before x.bytes in
        let fits : length w.bytes < room₀ = ltb-true (length w.bytes) room₀ inner.1 in
        let free : length x.bytes < room = omega (arith, total) in
        let e' : eqb (word_at g v a) MCR ≡ false = rw same e in
        let d' : eqb (word_at g v a) DDR ≡ true = rw same outer.0 in
        record {
          rest = record {
            cells = x.cells;
            bytes = x.bytes ++ (y % 256) ∷ [];
            busy = 8;
            read = x.read;
            status = x.status;
          };
          like = record {
            fine = l.fine;
            bytes =
                ap (λ (bs : List ℕ). bs ++ (y % 256) ∷ []) l.bytes
                ∙ append_assoc before x.bytes ((y % 256) ∷ []);
            busy = omega arith;
            slots = l.slots;
          };
          leads = subst (λ (z : View). Leads r since bound g v 1 g z) (rw e')
              (by_plan quiet g sound room (omega arith) v going l.fine (StoreBy y a) (own_plan w x own ∙ is)
              (rw (plain, e', d', eq-eqb x.busy 0 none', lt-ltb (length x.bytes) room free)));
          keyboard = (refl, refl);
          counts = λ same. refl;
        }

    by_this_plan : (room₀ : ℕ) → room₀ ≤ length f.output → (plan : Plan) → plan_at f w ≡ plan
        → may_perform f w room₀ plan ≡ true → calm_plan f w plan ≡ true → One w x (performed f w plan)
    by_this_plan room₀ has_room (Move d y pc) is allowed calms =
        plain_step (Move d y pc) (valued w d y pc) is refl refl refl refl refl refl
    by_this_plan room₀ has_room (Put d y pc) is allowed calms =
        plain_step (Put d y pc) (changed w (with_register w.regs d y) pc w.codes w.cells) is refl refl refl refl
        refl refl
    by_this_plan room₀ has_room (Jump pc) is allowed calms =
        plain_step (Jump pc) (changed w w.regs pc w.codes w.cells) is refl refl refl refl refl refl
    by_this_plan room₀ has_room (Load d a) is allowed calms =
        plain_step (Load d a) (valued w d (word_at f w a) (next w.pc)) is allowed
        (ap (λ (y : ℕ). valued v d y (next w.pc)) (own_word w v a calms)) refl refl refl refl
    by_this_plan room₀ has_room (LoadBy d a) is allowed calms =
        let both = both_true (usable f a) (eqb w.busy 0) calms in
        let none : w.busy ≡ 0 = eqb-true w.busy 0 both.1 in
        let none' : x.busy ≡ 0 = omega (arith, l.busy) in
        let parts = both_true (is_plain a) (eqb (word_at f w a) DSR) allowed in
        let shows : display_at v ≡ display_at w =
        rw (eq-eqb x.busy 0 none') (sym (rw both.1)) in
        plain_step (LoadBy d a) (valued w d (display_at w) (next w.pc)) is
        (rw (parts.0, own_word w v a both.0, parts.1))
        (ap (λ (y : ℕ). valued v d y (next w.pc)) shows) refl refl refl refl
    by_this_plan room₀ has_room (Store y a) is allowed calms = absurd (true≢false (sym allowed))
    by_this_plan room₀ has_room (StoreBy y a) is allowed calms =
        let both = both_true (is_plain a)
        (eqb (word_at f w a) MCR || eqb (word_at f w a) DDR && (eqb w.busy 0 && ltb (length w.bytes) room₀)) allowed
        in
        store y a room₀ has_room is calms both.0 (eqb (word_at f w a) MCR) refl both.1
    by_this_plan room₀ has_room (Call vector) is allowed calms = absurd (true≢false (sym allowed))
    by_this_plan room₀ has_room Illegal is allowed calms = absurd (true≢false (sym allowed))
    by_this_plan room₀ has_room Return is allowed calms = absurd (true≢false (sym allowed))

    -- ---- by what the instruction does with the stack

    planned : (u : Use) → use_at f w ≡ u → PlanIs u w.regs w.pc (plan_at g v)
    unfolding plan_at
    planned u e =
        subst (λ (y : Use). PlanIs y w.regs w.pc (plan_at g v)) (own_use w x own ∙ e)
        (plan_by_use w.regs w.pc (codes_for w.codes (read_of (word_at g v w.pc)))
        (read_of (word_at g v w.pc)))

    -- It loads a word of the stack, stores one, moves R6, or loads it.
    abbrev ByUse : Use → Type 0
    ByUse u = (room₀ : ℕ) → use_at f w ≡ u → may_use f w room₀ u ≡ true → calm_use f w u ≡ true → One w x (used f w u)

    loads_slot_lem : (d : ℕ) (n : ℤ) → ByUse (loads_slot d n)
    loads_slot_lem d n room₀ e allowed calms =
        let i : ℕ = slot_of w.depth n in
        let both = both_true (holds w.cells i) (leb i w.depth) calms in
        let same : slot_at g v i ≡ slot_at f w i = l.slots i both.0 (leb-true i w.depth both.1) in
        record {
          rest = less x;
          like = like_less w x l (used f w (loads_slot d n)) refl refl refl refl;
          leads = subst (λ (y : ℕ). Leads r since bound g v 1 g (valued v d y (next w.pc))) same
              (by_use quiet g sound room (omega arith) v going l.fine k' (loads_slot d n) (planned (loads_slot d n) e)
              allowed);
          keyboard = (refl, refl);
          counts = λ same. rw same;
        }

    either_slot : (j i y : ℕ) → (eqb j i || holds w.cells j) ≡ true → j ≤ w.depth
        → slot_with f.sp mem (cell i y ∷ x.cells) j ≡ slot_with f.sp f.memory (cell i y ∷ w.cells) j
    either_slot j i y h d = go (eqb j i) h
      where
        go : (b : Bool) → (b || holds w.cells j) ≡ true
            → cond b y (slot_with f.sp mem x.cells j) ≡ cond b y (slot_with f.sp f.memory w.cells j)
        go true h = refl
        go false h = l.slots j h d

    stores_slot_lem : (d : ℕ) (n : ℤ) → ByUse (stores_slot d n)
    stores_slot_lem d n room₀ e allowed calms =
        let i : ℕ = slot_of w.depth n in
        let y : ℕ = register w.regs d in
        let o = on_stack_lem f w n allowed in
        record {
          rest = record {
            cells = cell i y ∷ x.cells;
            bytes = x.bytes;
            busy = x.busy - 1;
            read = x.read;
            status = x.status;
          };
          like = record {
            fine = rw (le-leb 1 i o.least, le-leb i f.words o.most) l.fine;
            bytes = l.bytes;
            busy = omega (arith, l.busy);
            slots = λ j h d. either_slot j i y h d;
          };
          leads = by_use quiet g sound room (omega arith) v going l.fine k' (stores_slot d n)
              (planned (stores_slot d n) e) allowed;
          keyboard = (refl, refl);
          counts = λ same. rw same;
        }

    moves_stack_lem : (n : ℤ) → ByUse (moves_stack n)
    moves_stack_lem n room₀ e allowed calms =
        let i : ℕ = slot_of w.depth n in
        record {
          rest = less x;
          like = record {
            fine = l.fine;
            bytes = l.bytes;
            busy = omega (arith, l.busy);
            slots = λ j h d. l.slots j h (
                either (leb i w.depth) (cells_fine w.depth w.cells) calms
                (λ c. let up : i ≤ w.depth = leb-true i w.depth c in omega arith)
                (λ c. holds_fine w.depth w.cells c j h));
          };
          leads = by_use quiet g sound room (omega arith) v going l.fine k' (moves_stack n) (planned (moves_stack n) e)
              allowed;
          keyboard = (refl, refl);
          counts = λ same. rw same;
        }

    leaves_stack_lem : (n : ℤ) → ByUse (leaves_stack n)
    leaves_stack_lem n room₀ e allowed calms =
        let a : ℕ = plus (next w.pc) n in
        record {
          rest = less x;
          like = record {
            fine = l.fine;
            bytes = l.bytes;
            busy = omega (arith, l.busy);
            slots = λ j h d. l.slots j h (omega arith);
          };
          leads = subst (λ (y : ℕ). Leads r since bound g v 1 g (deeper (valued v 6 y (next w.pc)) 0))
              (own_word w v a calms)
              (by_use quiet g sound room (omega arith) v going l.fine k' (leaves_stack n) (planned (leaves_stack n) e)
              allowed);
          keyboard = (refl, refl);
          counts = λ same. rw same;
        }

    by_this_use : (room₀ : ℕ) → room₀ ≤ length f.output → (u : Use) → use_at f w ≡ u → may_use f w room₀ u ≡ true
        → calm_use f w u ≡ true → One w x (used f w u)
    by_this_use room₀ has_room (loads_slot d n) e allowed calms = loads_slot_lem d n room₀ e allowed calms
    by_this_use room₀ has_room (stores_slot d n) e allowed calms = stores_slot_lem d n room₀ e allowed calms
    by_this_use room₀ has_room (moves_stack n) e allowed calms = moves_stack_lem n room₀ e allowed calms
    by_this_use room₀ has_room (leaves_stack n) e allowed calms = leaves_stack_lem n room₀ e allowed calms
    by_this_use room₀ has_room elsewhere e allowed calms =
        by_this_plan room₀ has_room (plan_at f w) refl
        (both_true (keeps_six (plan_at f w)) (may_perform f w room₀ (plan_at f w)) allowed).1 calms

  -- ---- the way

  -- It stands at the end of a way of n steps; or it makes one step, and has fewer before it. Where the display's count
  -- is the way's own, so are the steps.
  pub data Next (w : View) (x : Rest) (n : ℕ) (w' : View) : Type 0 where
    arrived : (x' : Rest) → Like f mem before w' x' → Leads r since bound g (twin w x) 0 g (twin w' x')
        → (x'.read ≡ x.read) × (x'.status ≡ x.status)
        → (x.busy ≡ w.busy → (x'.busy ≡ w'.busy) × (n ≡ 0)) → Next w x n w'
    onward : (w₁ : View) (x₁ : Rest) (n₁ : ℕ) → Like f mem before w₁ x₁ → Kept f w₁
        → Leads r since bound g (twin w x) 1 g (twin w₁ x₁) → (x₁.read ≡ x.read) × (x₁.status ≡ x.status)
        → Path f may w₁ n₁ w' → suc n₁ ≤ n → (x.busy ≡ w.busy → (x₁.busy ≡ w₁.busy) × (suc n₁ ≡ n))
        → Next w x n w'

  once : {w w₁ w' : View} {n : ℕ} (x : Rest) → One w x w₁ → Kept f w₁ → w₁ ≡ w' → n ≡ 1 → Next w x n w'
  once {w₁ = w₁} x o k e z =
      onward w₁ o.rest 0 o.like k o.leads o.keyboard (stays e refl) (omega arith)
      (λ same. (o.counts same, omega arith))

  stayed : {w w' : View} {n : ℕ} (x : Rest) → Like f mem before w x → w ≡ w' → n ≡ 0 → Next w x n w'
  stayed {w} {n = n} x l e z = subst (λ (y : View). Next w x n y) e
      (arrived x l (no_step g (twin w x)) (refl, refl) (λ same. (same, z)))

  knew : {w w' : View} {n : ℕ} (x : Rest) → Like f mem before w x → (c : Known) → codes_number w.codes ≡ codes_number c
      → within w w.regs w.pc c w.busy ≡ w' → n ≡ 0 → Next w x n w'
  knew {w} {n = n} x l c codes e z = subst (λ (y : View). Next w x n y) e
      (arrived x (record { fine = l.fine; bytes = l.bytes; busy = l.busy; slots = l.slots })
      (recoded g (twin w x) w.codes c codes) (refl, refl) (λ same. (same, z)))

  made : {w w' : View} {n : ℕ} (x : Rest) → Like f mem before w x → Kept f w → (room : ℕ) → room ≤ length f.output
      → may_step f room w ≡ true → calm f w ≡ true → stepped f w ≡ w' → n ≡ 1 → Next w x n w'
  unfolding stepped may_step calm plan_at
  made {w} x l k room has_room steps calms e z =
      let outer = both_true (eqb w.mcr 0x8000) (cells_fine f.words w.cells && may_use f w room (use_at f w)) steps
      in
      let inner = both_true (cells_fine f.words w.cells) (may_use f w room (use_at f w)) outer.1 in
      let calmed = both_true (usable f w.pc) (calm_use f w (use_at f w)) calms in
      once x
      (by_this_use w x l k (eqb-true w.mcr 0x8000 outer.0) calmed.0 room has_room (use_at f w) refl inner.1
      calmed.1) (keeps_once f room w k steps) e z

  fetched : {w w' : View} {n : ℕ} (x : Rest) → Like f mem before w x → Kept f w → w.mcr ≡ 0x8000
      → usable f w.pc ≡ true → (a y : ℕ) → may a ≡ true → Readable f.words f.sp a
      → plan_at f w ≡ Load 1 (wrap (a + 0)) → get_or f.memory a 0 ≡ y → valued w 1 y (next w.pc) ≡ w' → n ≡ 1
      → Next w x n w'
  fetched {w} x l k going own a y ok readable plan is e z =
      once x (record {
        rest = less x;
        like = like_less w x l (valued w 1 y (next w.pc)) refl refl refl refl;
        leads = gets_word quiet g sound (twin w x) going l.fine a y readable (own_plan w x own ∙ plan)
            (same_word a ok ∙ is);
        keyboard = (refl, refl);
        counts = λ same. rw same;
      })
      (other f w k 1 y refl (valued w 1 y (next w.pc)) refl refl) e z

  -- ---- the wait for the display

  two_at_least : (busy : ℕ) → 2 ≤ wait_steps busy
  unfolding wait_steps
  two_at_least zero = omega arith
  two_at_least (suc zero) = omega arith
  two_at_least (suc (suc busy)) = omega arith

  one_turn : (busy : ℕ) → wait_steps (suc busy) ≡ 2 + wait_steps (busy - 1)
  unfolding wait_steps
  one_turn zero = refl
  one_turn (suc busy) = let z : suc busy - 1 ≡ busy = omega arith in rw z

  module _ (u : View) (going : u.mcr ≡ 0x8000) (fine : cells_fine f.words u.cells ≡ true) (d pc : ℕ)
      (p : Polls f u d pc) (x : Rest) where
    abbrev at_count : ℕ → Rest
    at_count b = record { cells = x.cells; bytes = x.bytes; busy = b; read = x.read; status = x.status }

    own : (usable f pc ≡ true) × (usable f (next pc) ≡ true) × (usable f p.pointer ≡ true)
    own =
        let outer = both_true (usable f pc) (usable f (next pc) && usable f p.pointer) p.own in
        let inner = both_true (usable f (next pc)) (usable f p.pointer) outer.1 in
        (outer.0, inner.0, inner.1)

    abbrev ready : List ℕ → View
    ready regs = within u (with_register regs d 0x8000) (next (next pc)) (from 0x8000) 0

    -- LDI, one step, finds this.
    polled : (regs : List ℕ) (c : Known) (y : ℕ) → cond (eqb x.busy 0) 0x8000 0 ≡ y
        → cells_fine f.words x.cells ≡ true
        → Leads r since bound g (within (twin u x) regs pc c x.busy) 1 g
        (within (twin u x) (with_register regs d y) (next pc) (from y) (x.busy - 1))
    polled regs c y finds all-fine =
        let parts = both_true (is_plain p.pointer) (eqb (word_at f u p.pointer) DSR) p.display in
        rw finds at (by_plan quiet g sound 0 (omega arith) (within (twin u x) regs pc c x.busy) going all-fine
        (LoadBy d p.pointer)
        (own_plan (within u regs pc c x.busy) x own.0 ∙ p.loads regs c x.busy)
        (rw (parts.0, own_word u (twin u x) p.pointer own.2, parts.1)))

    -- BRzp, after LDI found this.
    branch : (regs : List ℕ) (busy y to : ℕ)
        → cond (is_taken 3 (codes_for (from y) (Br 3 (negsuc 1)))) pc (next (next pc)) ≡ to
        → Path f may (within u regs (next pc) (from y) busy) 1 (within u regs to (from y) (busy - 1))
    branch regs busy y to goes =
        jumps {v = within u regs (next pc) (from y) busy} going fine own.1 to
        (p.branches regs (from y) busy ∙ ap (λ (a : ℕ). Jump a) goes) refl refl

    polled_kept : (regs : List ℕ) (c : Known) (busy y to busy' : ℕ) → Kept f (within u regs pc c busy)
        → Kept f (within u (with_register regs d y) to (from y) busy')
    polled_kept regs c busy y to busy' k =
        other f (within u regs pc c busy) k d y p.other (within u (with_register regs d y) to (from y) busy') refl
        refl

    -- The display is ready, whatever the way's count is.
    finds_ready : (regs : List ℕ) (c : Known) (busy : ℕ) → x.busy ≡ 0
        → Like f mem before (within u regs pc c busy) x → Kept f (within u regs pc c busy)
        → Next (within u regs pc c busy) x (wait_steps busy) (ready regs)
    unfolding is_taken codes_of and_bits
    finds_ready regs c busy none l k =
        onward (within u (with_register regs d 0x8000) (next pc) (from 0x8000) 0) (less x) 1
        (record { fine = l.fine; bytes = l.bytes; busy = omega arith; slots = l.slots })
        (polled_kept regs c busy 0x8000 (next pc) 0 k)
        (polled regs c 0x8000 (ap (λ (b : Bool). cond {A = ℕ} b 0x8000 0) (eq-eqb x.busy 0 none)) l.fine)
        (refl, refl) (branch (with_register regs d 0x8000) 0 0x8000 (next (next pc)) refl)
        (omega (arith, two_at_least busy)) (λ same. (omega arith, exact (sym same ∙ none)))
      where
        exact : busy ≡ 0 → 2 ≡ wait_steps busy
        exact e = unfold wait_steps in rw e

    -- It is busy.
    finds_busy : (regs : List ℕ) (c : Known) (b busy : ℕ) → x.busy ≡ suc b
        → Like f mem before (within u regs pc c (suc busy)) x → Kept f (within u regs pc c (suc busy))
        → Next (within u regs pc c (suc busy)) x (wait_steps (suc busy)) (ready regs)
    unfolding is_taken codes_of and_bits
    finds_busy regs c b busy some l k =
        let regs' : List ℕ = with_register regs d 0 in
        let found : cond {A = ℕ} (eqb x.busy 0) 0x8000 0 ≡ 0 =
        ap (λ (t : Bool). cond {A = ℕ} t 0x8000 0) (ne_eqb x.busy 0 (λ q. absurd (omega arith))) in
        let same : with_register regs' d 0x8000 ≡ with_register regs d 0x8000 = set-set regs (d % 8) 0 0x8000 in
        let turn = one_turn busy in
        onward (within u regs' (next pc) (from 0) busy) (less x) (1 + wait_steps (busy - 1))
        (record { fine = l.fine; bytes = l.bytes; busy = omega (arith, l.busy); slots = l.slots })
        (polled_kept regs c (suc busy) 0 (next pc) busy k) (polled regs c 0 found l.fine) (refl, refl)
        (joins (within u regs' pc (from 0) (busy - 1)) 1 (wait_steps (busy - 1)) (branch regs' busy 0 pc refl)
        (subst (λ (rs : List ℕ). Path f may (within u regs' pc (from 0) (busy - 1)) (wait_steps (busy - 1))
        (within u rs (next (next pc)) (from 0x8000) 0)) same
        (attends u going fine d pc p (busy - 1) regs' (from 0) refl refl refl)) refl)
        (omega arith) (λ e. (omega arith, omega arith))

    polls_once : (regs : List ℕ) (c : Known) (busy b : ℕ) → x.busy ≡ b
        → Like f mem before (within u regs pc c busy) x
        → Kept f (within u regs pc c busy) → Next (within u regs pc c busy) x (wait_steps busy) (ready regs)
    polls_once regs c busy zero e l k = finds_ready regs c busy e l k
    polls_once regs c zero (suc b) e l k = absurd (omega (arith, l.busy))
    polls_once regs c (suc busy) (suc b) e l k = finds_busy regs c b busy e l k

  waited : {w w' : View} {n : ℕ} (x : Rest) → Like f mem before w x → Kept f w → (u : View) → u.mcr ≡ 0x8000
      → cells_fine f.words u.cells ≡ true → (d pc : ℕ)
      → Polls f u d pc → (busy : ℕ) (regs : List ℕ) (c : Known) → within u regs pc c busy ≡ w
      → within u (with_register regs d 0x8000) (next (next pc)) (from 0x8000) 0 ≡ w' → n ≡ wait_steps busy
      → Next w x n w'
  waited {w} {w'} {n} x l k u going fine d pc p busy regs c first last z =
      subst (λ (m : ℕ). Next w x m w') (sym z)
      (subst (λ (y : View). Next w x (wait_steps busy) y) last
      (subst (λ (y : View). Next y x (wait_steps busy)
      (within u (with_register regs d 0x8000) (next (next pc)) (from 0x8000) 0)) first
      (polls_once u going fine d pc p x regs c busy x.busy refl
      (subst (λ (y : View). Like f mem before y x) (sym first) l) (subst (λ (y : View). Kept f y) (sym first) k))))

  -- ---- one way after the other

  second_too : {w w₁ w' : View} {i j n : ℕ} {x x₁ : Rest} → Leads r since bound g (twin w x) 0 g (twin w₁ x₁)
      → (x₁.read ≡ x.read) × (x₁.status ≡ x.status)
      → (x.busy ≡ w.busy → (x₁.busy ≡ w₁.busy) × (i ≡ 0)) → i + j ≡ n → Next w₁ x₁ j w' → Next w x n w'
  second_too first keys counts z (arrived x' l leads keys' counts') =
      arrived x' l (then first leads) (keys'.0 ∙ keys.0, keys'.1 ∙ keys.1)
      (λ same. let a = counts same in let b = counts' a.0 in
      (b.0, (let p = a.1 in let q = b.1 in omega (arith, p, q))))
  second_too first keys counts z (onward w₂ x₂ n₂ l k leads keys' path fewer counts') =
      onward w₂ x₂ n₂ l k (then first leads) (keys'.0 ∙ keys.0, keys'.1 ∙ keys.1) path (omega arith)
      (λ same. let a = counts same in let b = counts' a.0 in
      (b.0, (let p = a.1 in let q = b.1 in omega (arith, p, q))))

  both : {w w₁ w' : View} {i j n : ℕ} {x : Rest} → Next w x i w₁ → Path f may w₁ j w' → i + j ≡ n
      → ((x₁ : Rest) → Like f mem before w₁ x₁ → Next w₁ x₁ j w') → Next w x n w'
  both (arrived x' l leads keys counts) second z rest = second_too leads keys counts z (rest x' l)
  both {w₁ = w₁} {j = j} (onward w₂ x₂ n₂ l k leads keys path fewer counts) second z rest =
      onward w₂ x₂ (n₂ + j) l k leads keys (joins w₁ n₂ j path second refl) (omega arith)
      (λ same. let a = counts same in (a.0, (let p = a.1 in omega (arith, p))))

  pub goes : {w w' : View} {n : ℕ} → Path f may w n w' → Kept f w → (x : Rest) → Like f mem before w x
      → Next w x n w'
  goes (stays e z) k x l = stayed x l e z
  goes (knows c codes e z) k x l = knew x l c codes e z
  goes (makes room has_room k₀ steps calms e z) k x l = made x l k room has_room steps calms e z
  goes {w} (jumps going fine own pc plan e z) k x l =
      once x (by_this_plan w x l k going own 0 (omega arith) (Jump pc) plan refl refl)
      (same f w k (changed w w.regs pc w.codes w.cells) refl refl) e z
  goes (fetches going fine own a y ok readable plan is e z) k x l =
      fetched x l k going own a y ok readable plan is e z
  goes (attends u going fine d pc p busy regs c first last z) k x l =
      waited x l k u going fine d pc p busy regs c first last z
  goes (joins w i j first second z) k x l =
      both (goes first k x l) second z (λ x₁ l₁. goes second (keeps first k) x₁ l₁)
