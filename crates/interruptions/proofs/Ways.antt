-- A way through a routine is a course: a run on it goes on, and comes to its end.
use Prim.Native.Nat.{ℕ, zero, suc, ◌+◌, ◌-◌, ◌≤◌, ◌<◌}
use native.Mathlib.Nat.{add-zero}
use native.Mathlib.Numerals.{add-one}
use native.Mathlib.Omega.{arith}
use mathlib.Core.Path.{◌≡◌, refl, sym, ap, subst, ◌∙◌}
use mathlib.Core.Bool.{Bool, true}
use mathlib.Core.List.{List, []}
use lib.ListN.{length, get_or}
use Rattle.run.specs.Run.{Start, End}
use Rattle.monitor.proofs.Execution.{Frame, View, At, Quiet, Leads}
use Rattle.monitor.proofs.Intact.{cells_fine}
use Rattle.monitor.proofs.Instructions.{Kept}
use Rattle.monitor.proofs.Paths.{Readable, Path, keeps}
use Rattle.interruptions.proofs.Leaving.{before}
use Rattle.interruptions.proofs.Following.{Rest, twin, beside, Like, Next, arrived, onward, goes}
use Rattle.interruptions.proofs.Standing.{Standing, untouched}
use Rattle.interruptions.proofs.Chain.{Stood, Course}

-- Where the same run stands, the PC is the same.
pub same_pc : {q : Start} {j : ℕ} {f g : Frame} {v v' : View} → At q 0 j f v → At q 0 j g v' → v.pc ≡ v'.pc
same_pc a b = ap (λ (e : End). e.machine.pc) (sym a.stands ∙ b.stands)

-- A view that is described by its own.
abbrev pub own_rest : View → Rest
own_rest v = record {
  cells = v.cells;
  bytes = v.bytes;
  busy = v.busy;
  read = v.read;
  status = v.status;
}

module _ (f : Frame) (below : ℕ) (may : ℕ → Bool)
    (away : (a : ℕ) → may a ≡ true → Readable (f.words + below) f.sp a) where
  module _ {q : Start} {j : ℕ} {shown : List ℕ} {w : View} {x : Rest} (st : Standing f below q j shown w x) where
    pub same_word : (a : ℕ) → may a ≡ true → get_or q.memory a 0 ≡ get_or f.memory a 0
    same_word a ok = untouched st a (away a ok).outside

    -- The same run elsewhere.
    pub moved : {i : ℕ} {w' : View} {x' : Rest} → Like f q.memory shown w' x' → Kept f w'
        → At q 0 i (beside f q.memory q.output) (twin w' x') → Standing f below q i shown w' x'
    moved l k a = record {
      sound = st.sound;
      total = st.total;
      words_below_lem = st.words_below_lem;
      words_above_lem = st.words_above_lem;
      like = l;
      kept = k;
      at = a;
    }

    -- One step, or the end.
    abbrev pub Goes : {bound : ℕ} → Quiet q 0 bound → ℕ → View → Type 0
    Goes quiet n end =
        Next quiet f q.memory q.output shown st.sound st.total may same_word w x n end

    pub once_more : {bound : ℕ} (quiet : Quiet q 0 bound) {n : ℕ} {end : View} → Path f may w n end → Goes quiet n end
    once_more quiet way =
        goes quiet f q.memory q.output shown st.sound st.total may same_word way st.kept x st.like

  -- ---- to the end

  -- It has come there, in n steps at most.
  pub record Reached (q : Start) (j : ℕ) (shown : List ℕ) (x : Rest) (n : ℕ) (end : View) : Type 0 where
    pub steps : ℕ
    pub fewer : steps ≤ n
    pub rest : Rest
    pub standing : Standing f below q (j + steps) shown end rest
    pub keyboard : (rest.read ≡ x.read) × (rest.status ≡ x.status)

  module _ {q : Start} {bound : ℕ} (quiet : Quiet q 0 bound) (shown : List ℕ) where
    abbrev Reaches : ℕ → Type 0
    Reaches fuel = (j n : ℕ) (w end : View) (x : Rest) → Standing f below q j shown w x → Path f may w n end
        → n ≤ fuel → j + n ≤ bound → Reached q j shown x n end

    there : {j n : ℕ} {w end : View} {x : Rest} (st : Standing f below q j shown w x) (x' : Rest)
        → Like f q.memory shown end x' → Kept f end
        → Leads q 0 bound (beside f q.memory q.output) (twin w x) 0 (beside f q.memory q.output)
        (twin end x')
        → (x'.read ≡ x.read) × (x'.status ≡ x.status) → j + 0 ≤ bound → Reached q j shown x n end
    there st x' l k leads keys fits = record {
      steps = 0;
      fewer = omega arith;
      rest = x';
      standing = moved st l k (leads.on fits st.at);
      keyboard = keys;
    }

    farther : {j n : ℕ} {end : View} {x x₁ : Rest} (n₁ : ℕ) → suc n₁ ≤ n
        → (x₁.read ≡ x.read) × (x₁.status ≡ x.status) → Reached q (j + 1) shown x₁ n₁ end
        → Reached q j shown x n end
    farther {j} {end = end} n₁ fewer keys r = record {
      steps = suc r.steps;
      fewer = omega (arith, r.fewer);
      rest = r.rest;
      standing = (let z : j + 1 + r.steps ≡ j + suc r.steps = omega arith in
          subst (λ (i : ℕ). Standing f below q i shown end r.rest) z r.standing);
      keyboard = (r.keyboard.0 ∙ keys.0, r.keyboard.1 ∙ keys.1);
    }

    by_next : (fuel : ℕ) → Reaches fuel → {j n : ℕ} {w end : View} {x : Rest} (st : Standing f below q j shown w x)
        → Kept f end → n ≤ suc fuel → j + n ≤ bound → Goes st quiet n end → Reached q j shown x n end
    by_next fuel rest st k le fits (arrived x' l leads keys counts) =
        there st x' l k leads keys (omega arith)
    by_next fuel rest {j} {end = end} st k le fits (onward w₁ x₁ n₁ l k₁ leads keys path fewer counts) =
        farther n₁ fewer keys
        (rest (j + 1) n₁ w₁ end x₁ (moved st l k₁ (leads.on (omega arith) st.at)) path (omega arith) (omega arith))

    at_once : Reaches zero
    at_once j n w end x st path le fits = go (once_more st quiet path)
      where
        go : Goes st quiet n end → Reached q j shown x n end
        go (arrived x' l leads keys counts) = there st x' l (keeps path st.kept) leads keys (omega arith)
        go (onward w₁ x₁ n₁ l k₁ leads keys path fewer counts) = absurd (omega arith)

    pub reaches : (fuel : ℕ) → Reaches fuel
    reaches zero = at_once
    reaches (suc fuel) = λ j n w end x st path le fits.
        by_next fuel (reaches fuel) st (keeps path st.kept) le fits (once_more st quiet path)

  -- ---- the course

  -- On a way to mid, which is come to after so many steps.
  pub record OnWay (mid : View) (most : ℕ) (q : Start) (j made : ℕ) (w : View) (x : Rest) : Type 0 where
    pub left : ℕ
    pub way : Path f may w left mid
    pub in_time : made + left ≤ most

  module _ (s : Start) (begin mid : View) (len total last : ℕ) (z : total ≡ 2 + len) (way : Path f may begin len mid)
      (mid-fine : cells_fine f.words mid.cells ≡ true) (mid-deep : 0 < mid.depth)
      (mid-room : length mid.bytes ≤ length f.output) (mid-last : mid.pc ≡ last)
      (start : (k : ℕ) → 0 < k → Quiet s 0 k → Standing f below s 1 [] begin (own_rest begin)) where
    abbrev On : Start → ℕ → ℕ → View → Rest → Type 0
    On = OnWay mid (1 + len)

    abbrev Here : Start → ℕ → List ℕ → ℕ → Type 0
    Here = Stood f below s total last On

    steps_once : {q : Start} {bound : ℕ} (quiet : Quiet q 0 bound) (j : ℕ) → j < bound → {shown : List ℕ} {made : ℕ}
        → (t : Here q j shown made) → (t.view.pc ≡ last → ⊥) → Here q (suc j) shown (suc made)
    steps_once {q} quiet j le {shown} {made} t not_last = go (once_more t.standing quiet t.on.way)
      where
        go : Goes t.standing quiet t.on.left mid → Here q (suc j) shown (suc made)
        go (arrived x' l leads keys counts) =
            absurd (not_last (same_pc t.standing.at
            (subst (λ (i : ℕ). At q 0 i (beside f q.memory q.output) (twin mid x')) (add-zero j)
            (leads.on (omega arith) t.standing.at))
            ∙ mid-last))
        go (onward w₁ x₁ n₁ l k₁ leads keys path fewer counts) = record {
          view = w₁;
          rest = x₁;
          standing = moved t.standing l k₁
              (subst (λ (i : ℕ). At q 0 i (beside f q.memory q.output) (twin w₁ x₁)) (add-one j)
              (leads.on (omega arith) t.standing.at));
          on = record { left = n₁; way = path; in_time = omega (arith, t.on.in_time) };
        }

    -- The call itself makes as many steps as the way has.
    record Exactly (j : ℕ) : Type 0 where
      here : Here s j [] j
      counts : here.rest.busy ≡ here.view.busy
      exact : j + here.on.left ≡ 1 + len

    exactly_once : {bound : ℕ} (quiet : Quiet s 0 bound) (j : ℕ) → j < bound → j < 1 + len → Exactly j
        → Exactly (suc j)
    exactly_once quiet j le few t = go (once_more t.here.standing quiet t.here.on.way)
      where
        go : Goes t.here.standing quiet t.here.on.left mid → Exactly (suc j)
        go (arrived x' l leads keys counts) =
            let none = (counts t.counts).1 in absurd (omega (arith, none, t.exact))
        go (onward w₁ x₁ n₁ l k₁ leads keys path fewer counts) =
            let same = counts t.counts in
            let one = same.1 in
            record {
              here = record {
                view = w₁;
                rest = x₁;
                standing = moved t.here.standing l k₁
                    (subst (λ (i : ℕ). At s 0 i (beside f s.memory s.output) (twin w₁ x₁)) (add-one j)
                    (leads.on (omega arith) t.here.standing.at));
                on = record { left = n₁; way = path; in_time = omega (arith, one, t.exact) };
              };
              counts = same.0;
              exact = omega (arith, one, t.exact);
            }

    begun_there : (k : ℕ) → 0 < k → Quiet s 0 k → Here s 1 [] 1
    begun_there k some quiet = record {
      view = begin;
      rest = own_rest begin;
      standing = start k some quiet;
      on = record { left = len; way = way; in_time = omega arith };
    }

    exactly : {k : ℕ} (quiet : Quiet s 0 k) → 0 < k → k < total → (i : ℕ) → suc i ≤ k → Exactly (suc i)
    unfolding begun_there
    exactly {k} quiet some few zero le = record { here = begun_there k some quiet; counts = refl; exact = refl }
    exactly quiet some few (suc i) le =
        exactly_once quiet (suc i) (omega arith) (omega arith) (exactly quiet some few i (omega arith))

    pub course : Course f below s total last On
    course = record {
      deep = λ o. (before o.way).known mid-deep;
      fine = λ o. (before o.way).fine mid-fine;
      room = λ o. omega (arith, (before o.way).fewer);
      steps = λ quiet n accepted j le fits t not_last. steps_once quiet j le t not_last;
      returns = λ o back. record { left = o.left; way = o.way; in_time = o.in_time };
      begins = begun_there;
      in_steps_lem = λ k some few quiet.
          let y : suc (k - 1) ≡ k = omega arith in
          subst (λ (j : ℕ). Here s j [] j) y (exactly quiet some few (k - 1) (omega arith)).here;
    }
