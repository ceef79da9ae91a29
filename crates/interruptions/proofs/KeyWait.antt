-- The wait for a key, between a way to it and a way from it, is a course: LDI of KBSR, BRzp back, LDI of KBDR.
use Prim.Native.Nat.{ℕ, suc, ◌+◌, ◌-◌, ◌%◌, ◌≤◌, ◌<◌}
use native.Mathlib.Nat.{add-zero}
use native.Mathlib.Numerals.{add-one}
use native.Mathlib.Omega.{arith}
use native.Mathlib.Decide.{dec_le}
use mathlib.Core.Path.{◌≡◌, refl, sym, ap, subst, ◌∙◌}
use mathlib.Core.Bool.{Bool, true, false, cond}
use mathlib.Core.List.{List, []}
use borrow.Author.Tests.{lt-ltb, le-ltb}
use lib.Dec.{ltb}
use lib.IntN.{negsuc}
use lib.ListN.{length}
use lib.Seq.{set-set}
use Rattle.word.specs.declared.Instruction.TheVariants.{Br}
use Rattle.machine.specs.declared.Plan.TheVariants.{Jump}
use Rattle.machine.specs.Words.{next, with_register}
use Rattle.machine.specs.Psr.{is_taken}
use Rattle.run.specs.Run.{Start, End}
use Rattle.run.specs.Refusals.{admission_of, Accepted}
use Rattle.monitor.specs.Keys.{arrived_by, key_at}
use Rattle.monitor.proofs.Execution.{Frame, Known, from, View, At, Quiet, status_in}
use Rattle.monitor.proofs.Intact.{cells_fine, usable}
use Rattle.monitor.proofs.Instructions.{codes_for, other, same, by_plan}
use Rattle.monitor.proofs.Entries.{within}
use Rattle.monitor.proofs.Calls.{call_stands}
use Rattle.monitor.proofs.KeyLaws.{ready_leaves_rest}
use Rattle.monitor.proofs.Keyboard.{key_read, loads_status, loads_key, taken_after, Keys}
use Rattle.monitor.proofs.Paths.{Readable, Path, keeps}
use Rattle.interruptions.specs.GoesOn.{Returned}
use Rattle.interruptions.specs.Reads.{KeyOf, loaded, before}
use Rattle.interruptions.proofs.Leaving.{before as beforeWay}
use Rattle.interruptions.proofs.Following.{Rest, twin, beside, less, arrived, onward}
use Rattle.interruptions.proofs.Standing.{Standing, fresh}
use Rattle.interruptions.proofs.Chain.{Stood, Course}
use Rattle.interruptions.proofs.Ways.{own_rest, same_pc, moved, Goes, once_more}
use Rattle.interruptions.proofs.Narrowing.{relying, relied, narrowed}

-- KBDR has not been loaded since the run began.
pub record Unread (q : Start) (x : Rest) : Type 0 where
  pub none : x.read ≡ 0
  pub status : x.status ≡ q.machine.devices.kbsr

-- The run q of j steps stands at w, and has loaded KBDR in the last of them; or it has not loaded it.
pub record Loaded (f : Frame) (below : ℕ) (q : Start) (j : ℕ) (shown : List ℕ) (w : View) : Type 0 where
  pub rest : Rest
  pub standing : Standing f below q j shown w rest
  pub read : rest.read ≡ arrived_by q j
  pub status : rest.status ≡ q.machine.devices.kbsr % 0x8000

pub record ThereUnread (f : Frame) (below : ℕ) (q : Start) (j : ℕ) (shown : List ℕ) (w : View) : Type 0 where
  pub rest : Rest
  pub standing : Standing f below q j shown w rest
  pub unread : Unread q rest

-- With the key y in R0, behind the load of KBDR.
abbrev pub keyed : View → ℕ → View
keyed wait y =
    within wait (with_register wait.regs 0 y) (next (next (next wait.pc))) (from y) (wait.busy - 1 - 1 - 1)

-- But for R0 the registers are those of the wait.
abbrev pub Same : View → List ℕ → Type 0
Same wait regs = (y : ℕ) → with_register regs 0 y ≡ with_register wait.regs 0 y

-- At the poll of KBSR, at the branch, with the codes from this value, and at the load of KBDR.
abbrev pub polling : View → List ℕ → Known → View
polling wait regs c = within wait regs wait.pc c wait.busy

abbrev pub branching : View → List ℕ → ℕ → View
branching wait regs y = within wait regs (next wait.pc) (from y) (wait.busy - 1)

abbrev pub loading : View → List ℕ → Known → View
loading wait regs c = within wait regs (next (next wait.pc)) c (wait.busy - 1 - 1)

-- A routine that reads a key: a way to the first poll of KBSR, in words up to it; and a way from the key to RTI, in
-- words behind the load of KBDR.
pub record Reader (f : Frame) (may : ℕ → Bool) (last len rest : ℕ) (begin wait : View) (end : ℕ → View) : Type 0 where
  pub earlier : ℕ → Bool
  pub earlier_used : (a : ℕ) → earlier a ≡ true → f.uses a ≡ true
  pub earlier_pc : (a : ℕ) → usable (relying f earlier) a ≡ true → wait.pc < a → a ≤ last → ⊥
  pub way : Path (relying f earlier) may begin len wait
  pub there : usable (relying f earlier) wait.pc ≡ true
  pub one : next wait.pc ≡ wait.pc + 1
  pub two : next (next wait.pc) ≡ wait.pc + 2
  pub before_last : wait.pc + 2 < last
  pub going : wait.mcr ≡ 0x8000
  pub fine : cells_fine f.words wait.cells ≡ true
  pub deep : 0 < wait.depth
  pub room : length wait.bytes ≤ length f.output
  pub keys : (mem out : List ℕ) (x : Rest) → Keys (beside f mem out) (twin wait x) 0 wait.pc
  pub later : ℕ → Bool
  pub later_used : (a : ℕ) → later a ≡ true → f.uses a ≡ true
  pub later_pc : (a : ℕ) → usable (relying f later) a ≡ true → wait.pc + 2 < a
  pub way_back : (y : ℕ) → Path (relying f later) may (keyed wait y) rest (end y)
  pub end_used : (y : ℕ) → usable (relying f later) (end y).pc ≡ true
  pub end_there : (y : ℕ) → (end y).pc ≡ last
  pub end_fine : (y : ℕ) → cells_fine f.words (end y).cells ≡ true
  pub end_deep : (y : ℕ) → 0 < (end y).depth
  pub end_room : (y : ℕ) → length (end y).bytes ≤ length f.output

module _ (f : Frame) (below : ℕ) (may : ℕ → Bool)
    (away : (a : ℕ) → may a ≡ true → Readable (f.words + below) f.sp a) (last len rest : ℕ) (begin wait : View)
    (end : ℕ → View) (reader : Reader f may last len rest begin wait end) where
  abbrev poll : ℕ
  poll = wait.pc

  -- On the way to the wait; at the poll; at the branch, behind a poll that found no key, or found one; at the load; and
  -- on the way back.
  pub data OnWait (q : Start) (j made : ℕ) (w : View) (x : Rest) : Type 0 where
    to_wait : (n : ℕ) → n ≤ len → Path (relying f reader.earlier) may w n wait → Unread q x → OnWait q j made w x
    polls : (regs : List ℕ) (c : Known) → Same wait regs → polling wait regs c ≡ w → Unread q x → OnWait q j made w x
    found_none : (regs : List ℕ) (y : ℕ) → Same wait regs → y < 0x8000 → branching wait regs y ≡ w → Unread q x
        → OnWait q j made w x
    found_one : (regs : List ℕ) (y : ℕ) → Same wait regs → 0x8000 ≤ y → branching wait regs y ≡ w → Unread q x
        → OnWait q j made w x
    loads : (regs : List ℕ) (c : Known) → Same wait regs → loading wait regs c ≡ w → Unread q x → OnWait q j made w x
    with_key_lem : (y n : ℕ) → KeyOf poll below q j y → n ≤ rest → Path (relying f reader.later) may w n (end y)
        → OnWait q j made w x

  module _ {q : Start} {bound : ℕ} (quiet : Quiet q 0 bound) (j : ℕ) (shown : List ℕ) (le : j < bound) where
    abbrev g : Frame
    g = beside f q.memory q.output

    -- ---- LDI of KBSR

    module _ (regs : List ℕ) (c : Known) (x : Rest) (st : Standing f below q j shown (polling wait regs c) x)
        (u : Unread q x) where
      abbrev status : ℕ
      status = status_in q j (twin (polling wait regs c) x)

      abbrev polled_view : View
      polled_view = branching wait (with_register regs 0 status) status

      polled : ThereUnread f below q (suc j) shown polled_view
      polled =
          let k = reader.keys q.memory q.output x in
          record {
            rest = less x;
            standing = moved f below may away st
                (record {
                  fine = st.like.fine;
                  bytes = st.like.bytes;
                  busy = omega (arith, st.like.busy);
                  slots = st.like.slots;
                })
                (other f (polling wait regs c) st.kept 0 status refl polled_view refl refl)
                (loads_status g st.sound (within (twin wait x) regs poll c x.busy) reader.going
                st.like.fine 0 k.pointer (k.loads regs c x.busy) k.pointer_plain st.at
                (quiet.at st.at le) k.keyboard);
            unread = record { none = u.none; status = u.status };
          }

    -- ---- BRzp

    pub branched : (regs : List ℕ) (y busy : ℕ) (back : Bool) → wait.busy - 1 - 1 ≤ busy → ltb y 0x8000 ≡ back
        → (x : Rest) → Standing f below q j shown (branching wait regs y) x → Unread q x
        → ThereUnread f below q (suc j) shown (within wait regs (cond back poll (next (next poll))) (from y) busy)
    branched regs y busy back enough is x st u =
        let k = reader.keys q.memory q.output x in
        let to : ℕ = cond back poll (next (next poll)) in
        let goes : is_taken 3 (codes_for (from y) (Br 3 (negsuc 1))) ≡ back = taken_after y ∙ is in
        let l = by_plan quiet g st.sound 0 (omega arith) (within (twin wait x) regs (next poll) (from y) x.busy)
        reader.going st.like.fine
        (Jump (cond (is_taken 3 (codes_for (from y) (Br 3 (negsuc 1)))) poll (next (next poll))))
        (k.branches regs (from y) x.busy) refl in
        record {
          rest = less x;
          standing = moved f below may away st
              (record {
                fine = st.like.fine;
                bytes = st.like.bytes;
                busy = omega (arith, st.like.busy);
                slots = st.like.slots;
              })
              (same f (branching wait regs y) st.kept (within wait regs to (from y) busy) refl refl)
              (subst (λ (i : ℕ). At q 0 i g (twin (within wait regs to (from y) busy) (less x))) (add-one j)
              (rw goes at (l.on (omega arith) st.at)));
          unread = record { none = u.none; status = u.status };
        }

    -- ---- LDI of KBDR

    pub key_loaded_lem : (regs : List ℕ) (c : Known) → Same wait regs → (x : Rest)
        → Standing f below q j shown (loading wait regs c) x → Unread q x
        → Loaded f below q (suc j) shown (keyed wait (key_at q j))
    key_loaded_lem regs c same_Regs x st u =
        let k = reader.keys q.memory q.output x in
        let v : View = within (twin wait x) regs (next (next poll)) c x.busy in
        let x' : Rest = record {
          cells = x.cells;
          bytes = x.bytes;
          busy = x.busy - 1;
          read = arrived_by q (suc j);
          status = status_in q j v % 0x8000;
        } in
        let a : At q 0 (suc j) g (key_read q j v 0) =
        loads_key g st.sound v reader.going st.like.fine 0 k.data_pointer (k.reads regs c x.busy)
        k.data_plain st.at (quiet.at st.at le) k.data_register in
        record {
          rest = x';
          standing = moved f below may away st
              (record {
                fine = st.like.fine;
                bytes = st.like.bytes;
                busy = omega (arith, st.like.busy);
                slots = st.like.slots;
              })
              (other f (loading wait regs c) st.kept 0 (key_at q j) refl (keyed wait (key_at q j))
              (sym (same_Regs (key_at q j))) refl)
              (subst (λ (rs : List ℕ). At q 0 (suc j) g
              (twin (within wait rs (next (next (next poll))) (from (key_at q j)) (wait.busy - 1 - 1 - 1)) x'))
              (same_Regs (key_at q j)) a);
          read = refl;
          status = ready_leaves_rest _ x.status ∙ ap (λ (y : ℕ). y % 0x8000) u.status;
        }

  -- ---- the course

  kept_key : {q : Start} {j y : ℕ} → KeyOf poll below q j y → KeyOf poll below q (suc j) y
  kept_key {j = j} (loaded i l p) = loaded {k = suc j} i (omega arith) p
  kept_key (before k back) = before k back

  module _ (s : Start) (start : (k : ℕ) → 0 < k → Quiet s 0 k → Standing f below s 1 [] begin (own_rest begin))
      (begin-unread : Unread s (own_rest begin)) where
    abbrev Here : Start → ℕ → List ℕ → ℕ → Type 0
    Here = Stood f below s 0 last OnWait

    module _ {q : Start} {bound : ℕ} (quiet : Quiet q 0 bound) (j : ℕ) (shown : List ℕ) (le : j < bound) (made : ℕ)
      where
        module _ (regs : List ℕ) (c : Known) (same_Regs : Same wait regs) (x : Rest)
            (st : Standing f below q j shown (polling wait regs c) x) (u : Unread q x) where
          abbrev found : ℕ
          found = status quiet j shown le regs c x st u

          again : Same wait (with_register regs 0 found)
          again y = set-set regs 0 found y ∙ same_Regs y

          poll_next : Here q (suc j) shown (suc made)
          poll_next =
              let p = polled quiet j shown le regs c x st u in
              record {
                view = branching wait (with_register regs 0 found) found;
                rest = p.rest;
                standing = p.standing;
                on = elim (dec_le 0x8000 found) [
                  | yes h ↦ found_one (with_register regs 0 found) found again h refl p.unread
                  | no h ↦ found_none (with_register regs 0 found) found again (omega arith) refl p.unread
                ];
              }

        -- On the way to the wait.
        abbrev f₁ : Frame
        f₁ = relying f reader.earlier

        on_way : (n : ℕ) → n ≤ len → {w : View} {x : Rest} → Path f₁ may w n wait
            → Standing f below q j shown w x → Unread q x → Here q (suc j) shown (suc made)
        on_way n few {w} {x} path st u = go (once_more f₁ below may away st₁ quiet path)
          where
            st₁ : Standing f₁ below q j shown w x
            st₁ = narrowed f f.uses reader.earlier reader.earlier_used st

            go : Goes f₁ below may away st₁ quiet n wait → Here q (suc j) shown (suc made)
            go (arrived x' l leads keys counts) =
                poll_next wait.regs wait.codes (λ y. refl) x'
                (relied f reader.earlier f.uses st
                (moved f₁ below may away st₁ l (keeps path st₁.kept)
                (subst (λ (i : ℕ). At q 0 i (beside f₁ q.memory q.output) (twin wait x')) (add-zero j)
                (leads.on (omega arith) st₁.at))))
                (record { none = keys.0 ∙ u.none; status = keys.1 ∙ u.status })
            go (onward w₁ x₁ n₁ l k₁ leads keys path₁ fewer counts) = record {
              view = w₁;
              rest = x₁;
              standing = relied f reader.earlier f.uses st
                  (moved f₁ below may away st₁ l k₁
                  (subst (λ (i : ℕ). At q 0 i (beside f₁ q.memory q.output) (twin w₁ x₁)) (add-one j)
                  (leads.on (omega arith) st₁.at)));
              on = to_wait n₁ (omega arith) path₁
                  (record { none = keys.0 ∙ u.none; status = keys.1 ∙ u.status });
            }

        -- On the way back.
        abbrev f₂ : Frame
        f₂ = relying f reader.later

        way_on : (y n : ℕ) → KeyOf poll below q j y → n ≤ rest → {w : View} {x : Rest} → Path f₂ may w n (end y)
            → Standing f below q j shown w x → (w.pc ≡ last → ⊥) → Here q (suc j) shown (suc made)
        way_on y n key few {w} {x} path st not_last = go (once_more f₂ below may away st₂ quiet path)
          where
            st₂ : Standing f₂ below q j shown w x
            st₂ = narrowed f f.uses reader.later reader.later_used st

            go : Goes f₂ below may away st₂ quiet n (end y) → Here q (suc j) shown (suc made)
            go (arrived x' l leads keys counts) =
                absurd (not_last (same_pc st₂.at
                (subst (λ (i : ℕ). At q 0 i (beside f₂ q.memory q.output) (twin (end y) x')) (add-zero j)
                (leads.on (omega arith) st₂.at))
                ∙ reader.end_there y))
            go (onward w₁ x₁ n₁ l k₁ leads keys path₁ fewer counts) = record {
              view = w₁;
              rest = x₁;
              standing = relied f reader.later f.uses st
                  (moved f₂ below may away st₂ l k₁
                  (subst (λ (i : ℕ). At q 0 i (beside f₂ q.memory q.output) (twin w₁ x₁)) (add-one j)
                  (leads.on (omega arith) st₂.at)));
              on = with_key_lem y n₁ (kept_key key) (omega arith) path₁;
            }

        by_place : (n : ℕ) → admission_of q n ≡ Accepted → j ≤ n → {w : View} {x : Rest}
            → Standing f below q j shown w x
            → OnWait q j made w x → (w.pc ≡ last → ⊥) → Here q (suc j) shown (suc made)
        by_place n accepted fits st (to_wait i few path u) not_last = on_way i few path st u
        by_place n accepted fits {x = x} st (polls regs c same_Regs e u) not_last =
            poll_next regs c same_Regs x (subst (λ (y : View). Standing f below q j shown y x) (sym e) st) u
        by_place n accepted fits {x = x} st (found_none regs y same_Regs small e u) not_last =
            let p = branched quiet j shown le regs y wait.busy true (omega arith) (lt-ltb y 0x8000 small) x
            (subst (λ (v : View). Standing f below q j shown v x) (sym e) st) u in
            record {
              view = polling wait regs (from y);
              rest = p.rest;
              standing = p.standing;
              on = polls regs (from y) same_Regs refl p.unread;
            }
        by_place n accepted fits {x = x} st (found_one regs y same_Regs big e u) not_last =
            let p = branched quiet j shown le regs y (wait.busy - 1 - 1) false (omega arith) (le-ltb y 0x8000 big) x
            (subst (λ (v : View). Standing f below q j shown v x) (sym e) st) u in
            record {
              view = loading wait regs (from y);
              rest = p.rest;
              standing = p.standing;
              on = loads regs (from y) same_Regs refl p.unread;
            }
        by_place n accepted fits {x = x} st (loads regs c same_Regs e u) not_last =
            let here = subst (λ (v : View). Standing f below q j shown v x) (sym e) st in
            let p = key_loaded_lem quiet j shown le regs c same_Regs x here u in
            record {
              view = keyed wait (key_at q j);
              rest = p.rest;
              standing = p.standing;
              on = with_key_lem (key_at q j) rest
                  (loaded {k = suc j} j (omega arith)
                  (ap (λ (z : End). z.machine.pc) (call_stands here.at n accepted fits) ∙ reader.two))
                  (omega arith) (reader.way_back (key_at q j));
            }
        by_place n accepted fits st (with_key_lem y i key few path) not_last = way_on y i key few path st not_last

    -- ---- what is so everywhere on it

    deep_there : {q : Start} {j made : ℕ} {w : View} {x : Rest} → OnWait q j made w x → 0 < w.depth
    deep_there (to_wait n few path u) = (beforeWay path).known reader.deep
    deep_there (polls regs c same_Regs e u) = subst (λ (v : View). 0 < v.depth) e reader.deep
    deep_there (found_none regs y same_Regs small e u) = subst (λ (v : View). 0 < v.depth) e reader.deep
    deep_there (found_one regs y same_Regs big e u) = subst (λ (v : View). 0 < v.depth) e reader.deep
    deep_there (loads regs c same_Regs e u) = subst (λ (v : View). 0 < v.depth) e reader.deep
    deep_there (with_key_lem y n key few path) = (beforeWay path).known (reader.end_deep y)

    abbrev Fine : View → Type 0
    Fine v = cells_fine f.words v.cells ≡ true

    fine_there : {q : Start} {j made : ℕ} {w : View} {x : Rest} → OnWait q j made w x → Fine w
    fine_there (to_wait n few path u) = (beforeWay path).fine reader.fine
    fine_there (polls regs c same_Regs e u) = subst Fine e reader.fine
    fine_there (found_none regs y same_Regs small e u) = subst Fine e reader.fine
    fine_there (found_one regs y same_Regs big e u) = subst Fine e reader.fine
    fine_there (loads regs c same_Regs e u) = subst Fine e reader.fine
    fine_there (with_key_lem y n key few path) = (beforeWay path).fine (reader.end_fine y)

    abbrev Fits : View → Type 0
    Fits v = length v.bytes ≤ length f.output

    room_there : {q : Start} {j made : ℕ} {w : View} {x : Rest} → OnWait q j made w x → Fits w
    room_there (to_wait n few path u) = omega (arith, (beforeWay path).fewer, reader.room)
    room_there (polls regs c same_Regs e u) = subst Fits e reader.room
    room_there (found_none regs y same_Regs small e u) = subst Fits e reader.room
    room_there (found_one regs y same_Regs big e u) = subst Fits e reader.room
    room_there (loads regs c same_Regs e u) = subst Fits e reader.room
    room_there (with_key_lem y n key few path) = omega (arith, (beforeWay path).fewer, reader.end_room y)

    unread_again : (r : Start) → Unread r (fresh r)
    unread_again r = record { none = refl; status = refl }

    goes_on_there : {q : Start} {j made : ℕ} {w : View} {x : Rest} {r : Start} → OnWait q j made w x
        → Returned q j below r → OnWait r 0 made w (fresh r)
    goes_on_there {r = r} (to_wait n few path u) back = to_wait n few path (unread_again r)
    goes_on_there {r = r} (polls regs c same_Regs e u) back = polls regs c same_Regs e (unread_again r)
    goes_on_there {r = r} (found_none regs y same_Regs small e u) back =
        found_none regs y same_Regs small e (unread_again r)
    goes_on_there {r = r} (found_one regs y same_Regs big e u) back =
        found_one regs y same_Regs big e (unread_again r)
    goes_on_there {r = r} (loads regs c same_Regs e u) back = loads regs c same_Regs e (unread_again r)
    goes_on_there (with_key_lem y n key few path) back = with_key_lem y n (before key back) few path

    pub waiting : Course f below s 0 last OnWait
    waiting = record {
      deep = deep_there;
      fine = fine_there;
      room = room_there;
      steps = λ quiet n accepted j le fits {before = shown} {made = made} t not_last.
          by_place quiet j shown le made n accepted fits t.standing t.on not_last;
      returns = goes_on_there;
      begins = λ k some quiet. record {
        view = begin;
        rest = own_rest begin;
        standing = start k some quiet;
        on = to_wait len (omega arith) reader.way begin-unread;
      };
      in_steps_lem = λ k some few quiet. absurd (omega arith);
    }
