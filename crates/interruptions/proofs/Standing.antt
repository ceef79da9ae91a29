-- Where a run stands on the way through a routine that it did not begin, and that each kind of move keeps it there: a
-- step of its own, and an interrupt that is taken and returns.
use Prim.Native.Nat.{ℕ, ◌+◌, ◌-◌, ◌*◌, ◌/◌, ◌%◌, ◌≤◌, ◌<◌}
use native.Mathlib.Omega.{arith}
use native.Mathlib.Decide.{dec_le}
use mathlib.Core.Path.{◌≡◌, refl, sym, ap, subst, ◌∙◌}
use mathlib.Core.Bool.{true}
use mathlib.Core.List.{List, [], ◌++◌, append-nil}
use lib.ListN.{length, get_or, take, drop, length-append, length-drop}
use lib.Seq.{get_or-take, get_or-drop, take-take, drop-drop}
use Rattle.run.specs.Run.{Start, End}
use Rattle.run.specs.Refusals.{admission_of, Accepted}
use Rattle.run.specs.Call.{call_of}
use Rattle.run.proofs.Acceptance.{accepted_is_acceptable}
use Rattle.monitor.specs.Calls.{StackApart}
use Rattle.monitor.proofs.Execution.{Frame, codes_number, View, memory_with, standing_at, At}
use Rattle.monitor.proofs.Intact.{Intact, cells_fine, slot_with_lem}
use Rattle.monitor.proofs.Instructions.{Sound, codes_below, deeper, Kept}
use Rattle.monitor.proofs.Entries.{start_frame, at_start_with}
use Rattle.monitor.proofs.Calls.{words_below_lem, words_above_lem, call_stands}
use Rattle.interruptions.specs.GoesOn.{six_after, Returned}
use Rattle.interruptions.proofs.Following.{Rest, twin, beside, Like, holds_fine, holds_least}

-- Two memories that are the same up to one address, and from another on.
module _ (low high : ℕ) (one other : List ℕ) (below : take low one ≡ take low other)
    (above : drop high one ≡ drop high other) where
  same_below : (a : ℕ) → a < low → get_or one a 0 ≡ get_or other a 0
  same_below a h =
      sym (get_or-take low one a 0 h) ∙ ap (λ (l : List ℕ). get_or l a 0) below ∙ get_or-take low other a 0 h

  same_above : (a : ℕ) → high ≤ a → get_or one a 0 ≡ get_or other a 0
  same_above a h =
      let z : high + (a - high) ≡ a = omega arith in
      rw z at (sym (get_or-drop high one (a - high) 0) ∙ ap (λ (l : List ℕ). get_or l (a - high) 0) above
      ∙ get_or-drop high other (a - high) 0)

pub shorter : (i j : ℕ) (one other : List ℕ) → i ≤ j → take j one ≡ take j other → take i one ≡ take i other
shorter i j one other le e =
    sym (take-take i j one le) ∙ ap (λ (l : List ℕ). take i l) e ∙ take-take i j other le

later : (i j : ℕ) (one other : List ℕ) → i ≤ j → drop i one ≡ drop i other → drop j one ≡ drop j other
later i j one other le e =
    let z : i + (j - i) ≡ j = omega arith in
    rw z at (sym (drop-drop (j - i) i one) ∙ ap (λ (l : List ℕ). drop (j - i) l) e ∙ drop-drop (j - i) i other)

-- The run q of j steps stands at w, with what may be another's as x says. Those bytes were shown before q; the words
-- that q found are those of the frame, but for the stack's and so many below them.
pub record Standing (f : Frame) (below : ℕ) (q : Start) (j : ℕ) (before : List ℕ) (w : View) (x : Rest) : Type 0 where
  pub sound : Sound (beside f q.memory q.output)
  pub total : length f.output ≡ length before + length q.output
  pub words_below_lem : take (f.sp - (f.words + below)) q.memory ≡ take (f.sp - (f.words + below)) f.memory
  pub words_above_lem : drop f.sp q.memory ≡ drop f.sp f.memory
  pub like : Like f q.memory before w x
  pub kept : Kept f w
  pub at : At q 0 j (beside f q.memory q.output) (twin w x)

-- A word that is not the stack's, nor an interrupt's.
pub untouched : {f : Frame} {below : ℕ} {q : Start} {j : ℕ} {before : List ℕ} {w : View} {x : Rest}
    → Standing f below q j before w x → (a : ℕ) → (f.sp - (f.words + below) ≤ a → f.sp ≤ a)
    → get_or q.memory a 0 ≡ get_or f.memory a 0
untouched {f} {below} {q} st a outside = elim (dec_le (f.sp - (f.words + below)) a) [
  | yes h ↦
      same_above (f.sp - (f.words + below)) f.sp q.memory f.memory st.words_below_lem st.words_above_lem a
      (outside h)
  | no h ↦
      same_below (f.sp - (f.words + below)) f.sp q.memory f.memory st.words_below_lem st.words_above_lem a
      (omega arith)
]

-- What a view says of R6's place is no part of the run.
deepened : {r : Start} {g : Frame} {v : View} (depth : ℕ) → At r 0 0 g v → At r 0 0 g (deeper v depth)
deepened depth a = record {
  keys = a.keys;
  devices = a.devices;
  clock = a.clock;
  ticks = a.ticks;
  order = a.order;
  equal = a.equal;
  arrived_by_lem = a.arrived_by_lem;
  read_before = a.read_before;
  kbsr = a.kbsr;
  kbdr = a.kbdr;
  rest_of_status = a.rest_of_status;
  status_below = a.status_below;
  timer = a.timer;
  stands = a.stands;
  quiet = a.quiet;
}

-- ---- an interrupt is taken and returns

-- What may be another's at the return.
abbrev pub fresh : Start → Rest
fresh r = record {
  cells = [];
  bytes = [];
  busy = r.machine.devices.busy;
  read = 0;
  status = r.machine.devices.kbsr;
}

module _ (f : Frame) (low : (a : ℕ) → f.uses a ≡ true → a < 0x02A5) (below : ℕ)
    (apart : StackApart (f.words + below) f.sp) {q : Start} {j : ℕ} {before : List ℕ} {w : View} {x : Rest}
    (st : Standing f below q j before w x) (n : ℕ) (accepted : admission_of q n ≡ Accepted) (le : j ≤ n) (r : Start)
    (m : ℕ) (back : Returned q j below r) (accepted' : admission_of r m ≡ Accepted)
    (fine : cells_fine f.words w.cells ≡ true) (deep : 0 < w.depth) where
  abbrev g : Frame
  g = beside f q.memory q.output

  abbrev e : End
  e = standing_at g (twin w x) j st.at.keys st.at.devices st.at.clock

  abbrev memory : List ℕ
  memory = memory_with f.sp q.memory x.cells

  stands : call_of q j ≡ e
  stands = call_stands st.at n accepted le

  six : six_after q j ≡ f.sp - w.depth
  six = ap (λ (y : End). get_or y.machine.regs 6 0) stands ∙ st.kept.six deep

  left_below : take (f.sp - w.depth - below) r.memory ≡ take (f.sp - w.depth - below) memory
  left_below =
      subst (λ (y : End). take (f.sp - w.depth - below) r.memory ≡ take (f.sp - w.depth - below) y.memory)
      stands
      (subst (λ (y : ℕ). take (y - below) r.memory ≡ take (y - below) (call_of q j).memory) six back.words_below_lem)

  left_above : drop (f.sp - w.depth) r.memory ≡ drop (f.sp - w.depth) memory
  left_above =
      subst (λ (y : End). drop (f.sp - w.depth) r.memory ≡ drop (f.sp - w.depth) y.memory) stands
      (subst (λ (y : ℕ). drop y r.memory ≡ drop y (call_of q j).memory) six back.words_above_lem)

  below_is : take (f.sp - (f.words + below)) r.memory ≡ take (f.sp - (f.words + below)) f.memory
  below_is =
      let h = apart.above_monitor in
      let few = st.kept.few in
      shorter (f.sp - (f.words + below)) (f.sp - w.depth - below) r.memory memory (omega arith) left_below
      ∙ shorter (f.sp - (f.words + below)) (f.sp - f.words) memory q.memory (omega arith)
      (words_below_lem st.sound.stack q.memory x.cells st.like.fine)
      ∙ st.words_below_lem

  above_is : drop f.sp r.memory ≡ drop f.sp f.memory
  above_is =
      later (f.sp - w.depth) f.sp r.memory memory (omega arith) left_above
      ∙ words_above_lem st.sound.stack q.memory x.cells st.like.fine
      ∙ st.words_above_lem

  intact : Intact f.uses r.memory
  intact = record {
    words = λ a used.
        let is_low : a < 0x02A5 = low a used in
        let room = apart.above_monitor in
        same_below (f.sp - (f.words + below)) f.sp r.memory f.memory below_is above_is a (omega arith)
        ∙ sym (same_below (f.sp - (f.words + below)) f.sp q.memory f.memory st.words_below_lem
        st.words_above_lem a (omega arith))
        ∙ st.sound.intact.words a used;
    size = (accepted_is_acceptable r m accepted').size;
  }

  psr_is : r.machine.psr ≡ f.high * 8 + codes_number w.codes
  psr_is = back.psr ∙ ap (λ (y : End). y.machine.psr) stands

  at_begin : At r 0 0 (beside f r.memory r.output) (twin w (fresh r))
  at_begin =
      let few = codes_below w.codes in
      let high : r.machine.psr / 8 ≡ f.high = omega (arith, psr_is, few) in
      let codes : codes_number w.codes ≡ r.machine.psr % 8 = omega (arith, psr_is, few) in
      let ssp : r.machine.saved_ssp ≡ f.ssp = back.saved_ssp_lem ∙ ap (λ (y : End). y.machine.saved_ssp) stands in
      let usp : r.machine.saved_usp ≡ f.usp = back.saved_usp_lem ∙ ap (λ (y : End). y.machine.saved_usp) stands in
      let regs : r.machine.regs ≡ w.regs = back.registers ∙ ap (λ (y : End). y.machine.regs) stands in
      let pc : r.machine.pc ≡ w.pc = back.pc ∙ ap (λ (y : End). y.machine.pc) stands in
      let mcr : r.machine.devices.mcr ≡ w.mcr = back.mcr ∙ ap (λ (y : End). y.machine.devices.mcr) stands in
      subst (λ (h : Frame). At r 0 0 h (twin w (fresh r)))
      (λ i. record {
        uses = f.uses;
        words = f.words;
        sp = f.sp;
        high = high i;
        ssp = ssp i;
        usp = usp i;
        memory = r.memory;
        output = r.output;
      })
      (subst (λ (v : View). At r 0 0 (start_frame f.uses f.words f.sp r) v)
      (λ i. record {
        regs = regs i;
        pc = pc i;
        codes = w.codes;
        cells = [];
        depth = w.depth;
        bytes = [];
        busy = r.machine.devices.busy;
        mcr = mcr i;
        read = 0;
        status = r.machine.devices.kbsr;
      })
      (deepened w.depth (at_start_with f.uses f.words f.sp r m accepted' 0 w.codes codes)))

  like_again : Like f r.memory (before ++ x.bytes) w (fresh r)
  like_again = record {
    fine = refl;
    bytes = st.like.bytes ∙ sym (append-nil (before ++ x.bytes));
    busy = (let d = subst (λ (y : End). r.machine.devices.busy ≤ y.machine.devices.busy) stands back.display in
        omega (arith, d, st.like.busy));
    slots = λ i h d.
        let most : i ≤ f.words = holds_fine f.words w.cells fine i h in
        same_above (f.sp - w.depth - below) (f.sp - w.depth) r.memory memory left_below left_above (f.sp - i)
        (omega (arith, apart.above_monitor))
        ∙ slot_with_lem st.sound.stack q.memory st.sound.intact.size x.cells st.like.fine i
        (holds_least f.words w.cells fine i h) most
        ∙ st.like.slots i h d;
  }

  total_is : length w.bytes ≤ length f.output
      → length f.output ≡ length (before ++ x.bytes) + length r.output
  total_is room =
      let o : r.output ≡ drop (length x.bytes) (x.bytes ++ drop (length x.bytes) q.output) =
      back.output ∙ ap (λ (y : End). drop y.shown y.output) stands in
      let p = ap length o in
      let d = length-drop (length x.bytes) (x.bytes ++ drop (length x.bytes) q.output) in
      let u = length-append x.bytes (drop (length x.bytes) q.output) in
      let t = length-drop (length x.bytes) q.output in
      let all = ap length st.like.bytes in
      let two = length-append before x.bytes in
      omega (arith, p, d, u, t, all, two, st.total)

  pub goes_on_as : length w.bytes ≤ length f.output → Standing f below r 0 (before ++ x.bytes) w (fresh r)
  goes_on_as room = record {
    sound = record { above = st.sound.above; intact = intact; stack = st.sound.stack };
    total = total_is room;
    words_below_lem = below_is;
    words_above_lem = above_is;
    like = like_again;
    kept = st.kept;
    at = at_begin;
  }
