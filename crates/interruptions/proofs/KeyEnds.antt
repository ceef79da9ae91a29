-- From where a routine that reads a key goes on, to its end: by its PC it has its key, has found one, or polls for one.
use Prim.Native.Nat.{ℕ, suc, ◌+◌, ◌-◌, ◌*◌, ◌%◌, ◌≤◌, ◌<◌}
use native.Mathlib.Omega.{arith}
use mathlib.Core.Path.{◌≡◌, refl, sym, ap, subst, ◌∙◌}
use mathlib.Core.Bool.{Bool, true, false, cond}
use mathlib.Core.List.{List, []}
use borrow.Author.Tests.{lt-ltb, le-ltb}
use lib.Dec.{eqb}
use lib.ListN.{get_or, set, take, drop}
use lib.Seq.{set-set}
use Rattle.machine.specs.Words.{next, with_register}
use Rattle.machine.specs.Psr.{codes_of}
use Rattle.machine.specs.Keys.{ready_after}
use Rattle.run.specs.Run.{Start, End}
use Rattle.monitor.specs.Calls.{stack_of, Begins, not_read, read_in}
use Rattle.monitor.specs.Keys.{arrived_by, status_at, key_at}
use Rattle.monitor.specs.Getc.{KeyComes}
use Rattle.monitor.proofs.Execution.{Frame, Known, from, codes_number, View, At, Quiet, status_in}
use Rattle.monitor.proofs.Instructions.{codes_below, other}
use Rattle.monitor.proofs.Entries.{at_start, psr_parts, called_frame, within}
use Rattle.monitor.proofs.Calls.{quiet_steps, call_stands}
use Rattle.monitor.proofs.KeyLaws.{ready_leaves_rest}
use Rattle.monitor.proofs.Keyboard.{key_read, Turned, turns, takes_key}
use Rattle.monitor.proofs.Strings.{negative}
use Rattle.monitor.proofs.Paths.{Readable, Ends, Path}
use Rattle.interruptions.specs.GoesOn.{OnTheWay}
use Rattle.interruptions.specs.Reads.{ResumesWith, TakesKey, TakesKeyLater, HasKey, Reads}
use Rattle.interruptions.proofs.Following.{Rest, twin, beside}
use Rattle.interruptions.proofs.Standing.{Standing}
use Rattle.interruptions.proofs.Chain.{Chained, chained}
use Rattle.interruptions.proofs.Ways.{own_rest, same_pc, moved, reaches}
use Rattle.interruptions.proofs.Narrowing.{relying, relied, narrowed, inside}
use Rattle.interruptions.proofs.Resuming.{resumed, keyboard_then}
use Rattle.interruptions.proofs.KeyWait.{Unread, keyed, Reader, Same, polling, branching, loading, OnWait}
use Rattle.interruptions.proofs.KeyWait.{polls, found_none, found_one, loads, with_key_lem, branched, key_loaded_lem}
use Rattle.interruptions.proofs.KeyWait.{to_wait, waiting}

-- The display's count at the key, from what is left of it after the polls that find none.
three_less : (left busy most t : ℕ) → left ≡ busy - 2 * t → busy ≤ most → left - 1 - 1 - 1 ≤ most - 1 - 1 - 1
three_less left busy most t e le = at_once left most (omega arith)
  where
    at_once : (left most : ℕ) → left ≤ most → left - 1 - 1 - 1 ≤ most - 1 - 1 - 1
    at_once left most le = omega arith

n_is_clear : (x : ℕ) → x < 0x8000 → codes_of x < 4
unfolding codes_of
n_is_clear x h = rw (lt-ltb x 0x8000 h) (go (eqb x 0))
  where
    go : (z : Bool) → cond {A = ℕ} z 2 1 < 4
    go true = omega arith
    go false = omega arith

-- KBSR, once so many keys have arrived, where the first `read` of them had when it was last loaded, and was `status`.
abbrev kbsr_after : Start → ℕ → ℕ → ℕ → ℕ
kbsr_after r read status keys = ready_after (take (keys - read) (drop read r.bytes)) status

abbrev KeyboardIs : Start → ℕ → ℕ → (ℕ → ℕ) → Type 0
KeyboardIs r read status is = (keys : ℕ) → kbsr_after r read status keys ≡ is keys

same_keyboard : (r : Start) {read read' status status' : ℕ} → read ≡ read' → status ≡ status' → (keys : ℕ)
    → kbsr_after r read status keys ≡ kbsr_after r read' status' keys
same_keyboard r p q keys = λ i. kbsr_after r (p i) (q i) keys

none_of_them : (r : Start) (keys : ℕ) → kbsr_after r 0 r.machine.devices.kbsr keys ≡ not_read r keys
none_of_them r keys = let z : keys - 0 ≡ keys = omega arith in rw z

module _ (uses : ℕ → Bool) (words : ℕ) (user : Bool) (s : Start) (n : ℕ) (b : Begins uses words user s n)
    (two : 2 ≤ words) (low : (a : ℕ) → uses a ≡ true → a < 0x02A5) (may : ℕ → Bool) (below : ℕ)
    (away : (a : ℕ) → may a ≡ true → Readable (words + below) (stack_of s.machine) a) (last len rest : ℕ)
    (begin wait : View) (end : ℕ → View)
    (reader : Reader (called_frame uses words user s) may last len rest begin wait end)
    (start : (k : ℕ) → 0 < k → Quiet s 0 k
    → Standing (called_frame uses words user s) below s 1 [] begin (own_rest begin))
    (begin-unread : Unread s (own_rest begin)) (ends : (y : ℕ) → Ends uses words user s last (end y))
    (regs_back : (y : ℕ) → set (end y).regs 6 (get_or s.machine.regs 6 0) ≡ set s.machine.regs 0 y)
    (text : ℕ → List ℕ) (text-is : (y : ℕ) → (end y).bytes ≡ text y) (r : Start) (m : ℕ)
    (o : OnTheWay s 0 last words below r m) where
  abbrev f : Frame
  f = called_frame uses words user s

  abbrev poll : ℕ
  poll = wait.pc

  abbrev quiet : Quiet r 0 m
  quiet = quiet_steps r m m 0 o.accepted (omega arith) o.no_other

  abbrev On : Start → ℕ → ℕ → View → Rest → Type 0
  On = OnWait f below may away last len rest begin wait end reader

  chain : Chained f below s 0 last On low o.apart
      (waiting f below may away last len rest begin wait end reader s start begin-unread) o.interrupted
  chain =
      chained f below s 0 last On low o.apart
      (waiting f below may away last len rest begin wait end reader s start begin-unread) o.interrupted m
      o.accepted

  -- ---- with the key

  abbrev With : ℕ → ℕ → (ℕ → ℕ) → Type 0
  With = ResumesWith s o.shown r m (words + below) text

  module _ {j : ℕ} {w : View} {x : Rest} (st : Standing f below r j o.shown w x) where
    back : (y i : ℕ) → i ≤ rest → Path (relying f reader.later) may w i (end y) → (most : ℕ) → j + suc rest ≤ most
        → most ≤ m → (status : ℕ → ℕ) → KeyboardIs r x.read x.status status → With most y status
    back y i few path most le fits status is =
        let e = reaches (relying f reader.later) below may away quiet o.shown i j i w (end y) x
        (narrowed f f.uses reader.later reader.later_used st) path (omega arith) (omega arith) in
        let st' = relied f reader.later f.uses st e.standing in
        record {
          steps = suc (j + e.steps);
          in_time = omega (arith, e.fewer);
          resumed = resumed uses words user s n b two may below o.apart away st' m o.accepted quiet
              (omega (arith, e.fewer)) (ends y) (set s.machine.regs 0 y) (regs_back y) (text y) (text-is y);
          kbsr =
              keyboard_then uses words user s n b two may below o.apart away st' m o.accepted quiet
              (omega (arith, e.fewer)) (ends y)
              ∙ same_keyboard r e.keyboard.0 e.keyboard.1 _
              ∙ is _;
        }

  -- At the load of KBDR.
  loads_now : (j : ℕ) (regs : List ℕ) (c : Known) → Same wait regs
      → (x : Rest)
      → Standing f below r j o.shown (loading wait regs c) x
      → Unread r x → (most : ℕ) → suc j + suc rest ≤ most → most ≤ m → With most (key_at r j) (read_in j r)
  loads_now j regs c same_Regs x st u most le fits =
      let p = key_loaded_lem f below may away last len rest begin wait end reader quiet j o.shown (omega arith) regs c
      same_Regs x st u in
      back p.standing (key_at r j) rest (omega arith) (reader.way_back (key_at r j)) most le fits (read_in j r)
      (same_keyboard r p.read p.status)

  -- ---- the wait

  module _ (first : ℕ) (regs : List ℕ) (c : Known)
      (same_Regs : Same wait regs) (x : Rest)
      (st : Standing f below r first o.shown (polling wait regs c) x)
      (u : Unread r x) (t : ℕ) (key : KeyComes r first t) (fits : first + 2 * t + 3 + suc rest ≤ m) where
    abbrev g : Frame
    g = beside f r.memory r.output

    waited : Turned r (first + 2 * t) g (twin wait x) regs 0 poll t x.busy
    waited =
        turns quiet g st.sound (twin wait x) reader.going st.like.fine u.none u.status 0 poll
        (reader.keys r.memory r.output x) first regs c x.busy st.at t (omega arith) key.none

    -- the view at the load of KBDR
    abbrev found : View
    found = within (twin wait x) (with_register waited.regs_now 0 (status_at r (first + 2 * t))) (next (next poll))
        (from (status_at r (first + 2 * t))) (waited.busy_now - 1 - 1)

    abbrev byte : ℕ
    byte = key_at r (first + 2 * t + 2)

    abbrev then : Rest
    then = record {
      cells = x.cells;
      bytes = x.bytes;
      busy = waited.busy_now - 1 - 1 - 1;
      read = arrived_by r (suc (first + 2 * t + 2));
      status = status_in r (first + 2 * t + 2) found % 0x8000;
    }

    taken : At r 0 (first + 2 * t + 3) g (twin (keyed wait byte) then)
    taken =
        let a : At r 0 (first + 2 * t + 3) g (key_read r (first + 2 * t + 2) found 0) =
        takes_key quiet g st.sound (twin wait x) reader.going st.like.fine u.none u.status 0 poll
        (reader.keys r.memory r.output x) (first + 2 * t) (omega arith) waited.regs_now waited.codes
        waited.busy_now waited.at key.comes in
        subst (λ (rs : List ℕ). At r 0 (first + 2 * t + 3) g
        (twin (within wait rs (next (next (next poll))) (from byte) (wait.busy - 1 - 1 - 1)) then))
        (set-set waited.regs_now 0 (status_at r (first + 2 * t)) byte ∙ waited.same byte ∙ same_Regs byte) a

    with_byte : Standing f below r (first + 2 * t + 3) o.shown (keyed wait byte) then
    with_byte =
        moved f below may away st
        (record {
          fine = st.like.fine;
          bytes = st.like.bytes;
          busy = three_less waited.busy_now x.busy wait.busy t waited.count st.like.busy;
          slots = st.like.slots;
        })
        (other f (polling wait regs c) st.kept 0 byte refl
        (keyed wait byte) (sym (same_Regs byte)) refl)
        taken

    takes : With (first + 2 * t + 3 + suc rest) byte (read_in (first + 2 * t + 2) r)
    takes =
        back with_byte byte rest (omega arith) (reader.way_back byte) (first + 2 * t + 3 + suc rest) (omega arith) fits
        (read_in (first + 2 * t + 2) r)
        (same_keyboard r refl (ready_leaves_rest _ x.status ∙ ap (λ (y : ℕ). y % 0x8000) u.status))

  -- ---- by its PC

  place : {w : View} {x : Rest} → Standing f below r 0 o.shown w x → w.pc ≡ r.machine.pc
  place st = same_pc st.at (at_start uses words 0 r m o.accepted 0)

  codes_there : {w : View} {x : Rest} → Standing f below r 0 o.shown w x
      → codes_number w.codes ≡ r.machine.psr % 8
  codes_there {w} st =
      let a = at_start uses words 0 r m o.accepted 0 in
      let e = ap (λ (z : End). z.machine.psr) (sym st.at.stands ∙ a.stands) in
      omega (arith, e, psr_parts r.machine.psr, codes_below w.codes)

  -- The way to the wait is at no word behind the poll, and the way back at none up to the load of KBDR.
  not_behind : {i : ℕ} {w : View} → Path (relying f reader.earlier) may w i wait → poll < w.pc → w.pc ≤ last → ⊥
  not_behind {w = w} path = reader.earlier_pc w.pc (inside path reader.there)

  behind : {y i : ℕ} {w : View} → Path (relying f reader.later) may w i (end y) → poll + 2 < w.pc
  behind {y} {w = w} path = reader.later_pc w.pc (inside path (reader.end_used y))

  abbrev Later : Type 0
  Later = TakesKeyLater s o.shown r m (words + below) text (suc rest) poll (suc len)

  abbrev Has : Type 0
  Has = HasKey s o.shown r m (words + below) text (suc rest) poll below

  -- It polls from there on.
  from_poll : {w : View} {x : Rest} (first : ℕ) → first < suc len → first ≤ m → (regs : List ℕ) (c : Known)
      → Same wait regs → polling wait regs c ≡ w → Standing f below r first o.shown w x → Unread r x → Later
  from_poll {x = x} first soon le regs c same_Regs e st u =
      let here = subst (λ (v : View). Standing f below r first o.shown v x) (sym e) st in
      record {
        first = first;
        soon = soon;
        there = ap (λ (z : End). z.machine.pc) (call_stands here.at m o.accepted le);
        takes = λ t key fits. takes first regs c same_Regs x here u t key fits;
      }

  module _ {w : View} {x : Rest} (st : Standing f below r 0 o.shown w x) where
    from_way : (i : ℕ) → i ≤ len → Path (relying f reader.earlier) may w i wait → Unread r x → suc len ≤ m → Later
    from_way i few path u enough =
        let e = reaches (relying f reader.earlier) below may away quiet o.shown i 0 i w wait x
        (narrowed f f.uses reader.earlier reader.earlier_used st) path (omega arith) (omega arith) in
        from_poll (0 + e.steps) (omega (arith, e.fewer)) (omega (arith, e.fewer)) wait.regs wait.codes
        (λ y. refl) refl (relied f reader.earlier f.uses st e.standing)
        (record { none = e.keyboard.0 ∙ u.none; status = e.keyboard.1 ∙ u.status })

    to_poll : On r 0 o.made w x → r.machine.pc ≤ poll → suc len ≤ m → Later
    to_poll (to_wait i few path u) h enough = from_way i few path u enough
    to_poll (polls regs c same_Regs e u) h enough = from_poll 0 (omega arith) (omega arith) regs c same_Regs e st u
    to_poll (found_none regs y same_Regs small e u) h enough =
        let p = ap (λ (v : View). v.pc) e ∙ place st in absurd (omega (arith, p, reader.one))
    to_poll (found_one regs y same_Regs big e u) h enough =
        let p = ap (λ (v : View). v.pc) e ∙ place st in absurd (omega (arith, p, reader.one))
    to_poll (loads regs c same_Regs e u) h enough =
        let p = ap (λ (v : View). v.pc) e ∙ place st in absurd (omega (arith, p, reader.two))
    to_poll (with_key_lem y i key few path) h enough = absurd (omega (arith, behind {y = y} path, place st))

    -- At the branch the way to the wait and the way back are not.
    at_branch : {A : Type 0} → r.machine.pc ≡ poll + 1 → On r 0 o.made w x
        → ((regs : List ℕ) (y : ℕ) → Same wait regs → y < 0x8000 → branching wait regs y ≡ w → Unread r x → A)
        → ((regs : List ℕ) (y : ℕ) → Same wait regs → 0x8000 ≤ y → branching wait regs y ≡ w → Unread r x → A) → A
    at_branch h (to_wait i few path u) none one =
        absurd (not_behind path (omega (arith, place st)) (omega (arith, place st, reader.before_last)))
    at_branch h (polls regs c same_Regs e u) none one =
        let p = ap (λ (v : View). v.pc) e ∙ place st in absurd (omega (arith, p))
    at_branch h (found_none regs y same_Regs small e u) none one = none regs y same_Regs small e u
    at_branch h (found_one regs y same_Regs big e u) none one = one regs y same_Regs big e u
    at_branch h (loads regs c same_Regs e u) none one =
        let p = ap (λ (v : View). v.pc) e ∙ place st in absurd (omega (arith, p, reader.two))
    at_branch h (with_key_lem y i key few path) none one = absurd (omega (arith, behind {y = y} path, place st))

    -- The codes at the branch.
    codes_at : (regs : List ℕ) (y : ℕ) → branching wait regs y ≡ w → codes_of y ≡ r.machine.psr % 8
    codes_at regs y e = ap (λ (v : View). codes_number v.codes) e ∙ codes_there st

    none_found : On r 0 o.made w x → r.machine.pc ≡ poll + 1 → r.machine.psr % 8 < 4
        → TakesKey s o.shown r m (words + below) text (suc rest) 1
    none_found on h clear t key fits =
        at_branch h on
        (λ regs y same_Regs small e u.
        let p = branched f below may away last len rest begin wait end reader quiet 0 o.shown (omega arith) regs y
        wait.busy true (omega arith) (lt-ltb y 0x8000 small) x
        (subst (λ (v : View). Standing f below r 0 o.shown v x) (sym e) st) u in
        takes 1 regs (from y) same_Regs p.rest p.standing p.unread t key fits)
        (λ regs y same_Regs big e u. absurd (omega (arith, negative y big, codes_at regs y e)))

    found_then : On r 0 o.made w x → r.machine.pc ≡ poll + 1 → 4 ≤ r.machine.psr % 8 → 2 + suc rest ≤ m
        → With (2 + suc rest) (key_at r 1) (read_in 1 r)
    found_then on h set-n enough =
        at_branch h on
        (λ regs y same_Regs small e u. absurd (omega (arith, n_is_clear y small, codes_at regs y e)))
        (λ regs y same_Regs big e u.
        let p = branched f below may away last len rest begin wait end reader quiet 0 o.shown (omega arith) regs y
        (wait.busy - 1 - 1) false (omega arith) (le-ltb y 0x8000 big) x
        (subst (λ (v : View). Standing f below r 0 o.shown v x) (sym e) st) u in
        loads_now 1 regs (from y) same_Regs p.rest p.standing p.unread (2 + suc rest) (omega arith) enough)

    to_load : On r 0 o.made w x → r.machine.pc ≡ poll + 2 → 1 + suc rest ≤ m
        → With (1 + suc rest) (key_at r 0) (read_in 0 r)
    to_load (to_wait i few path u) h enough =
        absurd (not_behind path (omega (arith, place st)) (omega (arith, place st, reader.before_last)))
    to_load (polls regs c same_Regs e u) h enough =
        let p = ap (λ (v : View). v.pc) e ∙ place st in absurd (omega (arith, p))
    to_load (found_none regs y same_Regs small e u) h enough =
        let p = ap (λ (v : View). v.pc) e ∙ place st in absurd (omega (arith, p, reader.one))
    to_load (found_one regs y same_Regs big e u) h enough =
        let p = ap (λ (v : View). v.pc) e ∙ place st in absurd (omega (arith, p, reader.one))
    to_load (loads regs c same_Regs e u) h enough =
        loads_now 0 regs c same_Regs x (subst (λ (v : View). Standing f below r 0 o.shown v x) (sym e) st) u
        (1 + suc rest) (omega arith) enough
    to_load (with_key_lem y i key few path) h enough = absurd (omega (arith, behind {y = y} path, place st))

    has : KeyboardIs r x.read x.status (not_read r) → On r 0 o.made w x → poll + 2 < r.machine.pc
        → r.machine.pc ≤ last → suc rest ≤ m → Has
    has unread (to_wait i few path u) h l enough =
        absurd (not_behind path (omega (arith, place st)) (omega (arith, place st)))
    has unread (polls regs c same_Regs e u) h l enough =
        let p = ap (λ (v : View). v.pc) e ∙ place st in absurd (omega (arith, p))
    has unread (found_none regs y same_Regs small e u) h l enough =
        let p = ap (λ (v : View). v.pc) e ∙ place st in absurd (omega (arith, p, reader.one))
    has unread (found_one regs y same_Regs big e u) h l enough =
        let p = ap (λ (v : View). v.pc) e ∙ place st in absurd (omega (arith, p, reader.one))
    has unread (loads regs c same_Regs e u) h l enough =
        let p = ap (λ (v : View). v.pc) e ∙ place st in absurd (omega (arith, p, reader.two))
    has unread (with_key_lem y i key few path) h l enough = record {
      key = y;
      is = key;
      resumes = back st y i few path (suc rest) (omega arith) enough (not_read r) unread;
    }

  pub reads : Reads s poll last words below r m o text (suc rest) (suc len)
  reads =
      let first = chain.first in
      let t = first.stood in
      record {
        before = chain.before;
        to_poll = to_poll t.standing t.on;
        none_found = none_found t.standing t.on;
        found = found_then t.standing t.on;
        to_load = to_load t.standing t.on;
        has = has t.standing
            (λ keys. same_keyboard r first.none first.status keys ∙ none_of_them r keys) t.on;
      }
