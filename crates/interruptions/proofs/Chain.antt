-- One interrupt after the other: a run that goes on after the last of them stands on the way, whatever way that is.
use Prim.Native.Nat.{ℕ, zero, suc, ◌+◌, ◌-◌, ◌≤◌, ◌<◌}
use native.Mathlib.Nat.{zero-add}
use native.Mathlib.Omega.{arith}
use mathlib.Core.Path.{◌≡◌, refl, sym, ap, subst, ◌∙◌}
use mathlib.Core.Bool.{true}
use mathlib.Core.List.{List, [], ◌++◌}
use lib.ListN.{length, drop}
use lib.Seq.{take-append_seam}
use Rattle.run.specs.Run.{Start, End}
use Rattle.run.specs.Refusals.{admission_of, Accepted}
use Rattle.monitor.specs.Calls.{StackApart, takes_none}
use Rattle.monitor.proofs.Execution.{Frame, View, Quiet}
use Rattle.monitor.proofs.Intact.{cells_fine}
use Rattle.monitor.proofs.Calls.{quiet_steps, call_stands}
use Rattle.interruptions.specs.GoesOn.{Returned, Interrupts, shown_in, NotYet, Within, by_steps, by_place}
use Rattle.interruptions.specs.GoesOn.{AfterInterrupts, once, again, ShowsOnly, ShownBefore}
use Rattle.interruptions.proofs.Following.{Rest}
use Rattle.interruptions.proofs.Standing.{Standing, fresh, goes_on_as}

-- What the run q has shown.
module _ {f : Frame} {below : ℕ} {q : Start} {k : ℕ} {before : List ℕ} {w : View} {x : Rest}
    (st : Standing f below q k before w x) (n : ℕ) (accepted : admission_of q n ≡ Accepted) (le : k ≤ n) where
  shown_is : shown_in q k ≡ x.bytes
  shown_is =
      rw (call_stands st.at n accepted le) (take-append_seam x.bytes (drop (length x.bytes) q.output))

  shows_only : ShowsOnly q k
  shows_only =
      let stands = call_stands st.at n accepted le in
      record {
        shown = ap (λ (e : End). e.shown) stands ∙ ap length (sym shown_is);
        output =
            ap (λ (e : End). e.output) stands
            ∙ ap (λ (bytes : List ℕ). bytes ++ drop (length bytes) q.output) (sym shown_is);
      }

module _ (f : Frame) (below : ℕ) (s : Start) (total last : ℕ) (On : Start → ℕ → ℕ → View → Rest → Type 0) where
  -- The run q of j steps stands on the way, after so many steps outside of the interrupts.
  pub record Stood (q : Start) (j : ℕ) (before : List ℕ) (made : ℕ) : Type 0 where
    pub view : View
    pub rest : Rest
    pub standing : Standing f below q j before view rest
    pub on : On q j made view rest

  -- The same at the start of a run, which has not loaded KBDR.
  pub record StoodFirst (r : Start) (before : List ℕ) (made : ℕ) : Type 0 where
    pub stood : Stood r 0 before made
    pub none : stood.rest.read ≡ 0
    pub status : stood.rest.status ≡ r.machine.devices.kbsr

  -- What a way is: each step but the last leads on, a return leads on, and the call comes to its beginning.
  pub record Course : Type 0 where
    pub deep : {q : Start} {j made : ℕ} {w : View} {x : Rest} → On q j made w x → 0 < w.depth
    pub fine : {q : Start} {j made : ℕ} {w : View} {x : Rest} → On q j made w x → cells_fine f.words w.cells ≡ true
    pub room : {q : Start} {j made : ℕ} {w : View} {x : Rest} → On q j made w x
        → length w.bytes ≤ length f.output
    pub steps : {q : Start} {bound : ℕ} → Quiet q 0 bound → (n : ℕ) → admission_of q n ≡ Accepted → (j : ℕ) → j < bound
        → j ≤ n → {before : List ℕ} {made : ℕ} → (t : Stood q j before made) → (t.view.pc ≡ last → ⊥)
        → Stood q (suc j) before (suc made)
    pub returns : {q : Start} {j made : ℕ} {w : View} {x : Rest} {r : Start} → On q j made w x → Returned q j below r
        → On r 0 made w (fresh r)
    pub begins : (k : ℕ) → 0 < k → Quiet s 0 k → Stood s 1 [] 1
    pub in_steps_lem : (k : ℕ) → 0 < k → k < total → Quiet s 0 k → Stood s k [] k

  module _ (low : (a : ℕ) → f.uses a ≡ true → a < 0x02A5) (apart : StackApart (f.words + below) f.sp)
      (course : Course) where
    -- Some steps that do not come to the last instruction.
    module _ {q : Start} {k : ℕ} (quiet : Quiet q 0 k) (n : ℕ) (accepted : admission_of q n ≡ Accepted) (le : k ≤ n)
        (not_yet : NotYet last q k) (j : ℕ) {before : List ℕ} (made : ℕ) where
      no_more : Stood q j before made → Stood q (j + 0) before (made + 0)
      no_more start =
          let a : j ≡ j + 0 = omega arith in
          let b : made ≡ made + 0 = omega arith in
          subst (λ (i : ℕ). Stood q i before (made + 0)) a (subst (λ (i : ℕ). Stood q j before i) b start)

      one_more : (t : ℕ) → j + suc t ≤ k → Stood q (j + t) before (made + t)
          → Stood q (j + suc t) before (made + suc t)
      one_more t fits here =
          let a : suc (j + t) ≡ j + suc t = omega arith in
          let b : suc (made + t) ≡ made + suc t = omega arith in
          subst (λ (i : ℕ). Stood q i before (made + suc t)) a
          (subst (λ (i : ℕ). Stood q (suc (j + t)) before i) b
          (course.steps quiet n accepted (j + t) (omega arith) (omega arith) here
          (λ p. not_yet.none (j + t) (omega arith)
          (ap (λ (e : End). e.machine.pc) (call_stands here.standing.at n accepted (omega arith)) ∙ p))))

      walks_on : Stood q j before made → (t : ℕ) → j + t ≤ k → Stood q (j + t) before (made + t)
      walks_on start zero fits = no_more start
      walks_on start (suc t) fits = one_more t fits (walks_on start t (omega arith))

    -- The run goes on as r.
    returned : {q : Start} {k : ℕ} {before : List ℕ} {made : ℕ} {r : Start} → Stood q k before made
        → Interrupts below q k r → (m : ℕ) → admission_of r m ≡ Accepted
        → StoodFirst r (before ++ shown_in q k) made
    returned {before = before} {made} {r} t i m accepted =
        subst (λ (bytes : List ℕ). StoodFirst r (before ++ bytes) made)
        (sym (shown_is t.standing i.steps i.accepted i.fits))
        (record {
          stood = record {
            view = t.view;
            rest = fresh r;
            standing = goes_on_as f low below apart t.standing i.steps i.accepted i.fits r m i.returned
                accepted (course.fine t.on) (course.deep t.on) (course.room t.on);
            on = course.returns t.on i.returned;
          };
          none = refl;
          status = refl;
        })

    -- Where it stands after all of them, and what was shown before.
    pub record Chained {r : Start} {made : ℕ} {shown : List ℕ} (i : AfterInterrupts total last below s r made shown) :
        Type 0 where
      pub first : StoodFirst r shown made
      pub before : ShownBefore i

    first_part : {k : ℕ} {r : Start} → 0 < k → Within total last s k → Interrupts below s k r → Stood s k [] k
    first_part {k} some (by_steps few) i =
        course.in_steps_lem k some few (quiet_steps s i.steps k 0 i.accepted i.fits (takes_none i.quiet))
    first_part {k} some (by_place not_yet) i =
        let quiet = quiet_steps s i.steps k 0 i.accepted i.fits (takes_none i.quiet) in
        let z : 1 + (k - 1) ≡ k = omega arith in
        subst (λ (j : ℕ). Stood s j [] j) z
        (walks_on quiet i.steps i.accepted i.fits not_yet 1 1 (course.begins k some quiet) (k - 1)
        (omega arith))

    next_part : {q : Start} {made k : ℕ} {shown : List ℕ} {r : Start} → Stood q 0 shown made → NotYet last q k
        → Interrupts below q k r → Stood q k shown (made + k)
    next_part {q} {made} {k} {shown} t not_yet i =
        subst (λ (j : ℕ). Stood q j shown (made + k)) (zero-add k)
        (walks_on (quiet_steps q i.steps k 0 i.accepted i.fits (takes_none i.quiet)) i.steps
        i.accepted i.fits not_yet 0 made t k (omega (arith, zero-add k)))

    pub chained : {r : Start} {made : ℕ} {shown : List ℕ} → (i : AfterInterrupts total last below s r made shown)
        → (m : ℕ) → admission_of r m ≡ Accepted → Chained i
    chained (once some within i) m accepted =
        let t = first_part some within i in
        record {
          first = returned t i m accepted;
          before = shows_only t.standing i.steps i.accepted i.fits;
        }
    chained (again earlier not_yet i) m accepted =
        let c = chained earlier i.steps i.accepted in
        let t = next_part c.first.stood not_yet i in
        record {
          first = returned t i m accepted;
          before = (c.before, shows_only t.standing i.steps i.accepted i.fits);
        }
