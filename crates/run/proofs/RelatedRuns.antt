-- Two accepted runs side by side. A relation that holds at the start, and that a step of both keeps while a condition
-- holds, holds up to the first step at which the condition fails, and both make the steps before it; where it never
-- fails, both stop alike. By induction on the steps made, and by the tests before each step.
use Prim.Native.Nat.{ℕ, zero, suc, ◌≤◌, ◌<◌}
use mathlib.Core.Path.{◌≡◌, refl, sym, ap, subst, ◌∙◌}
use mathlib.Core.Bool.{Bool, true, false, true≢false}
use native.Mathlib.Omega.{arith}
use native.Mathlib.Decide.{dec_le}
use Rattle.machine.specs.Step.{Step}
use Rattle.run.specs.declared.Ending.{Ending}
use Rattle.run.specs.declared.Ending.TheVariants.{Done, Halted, OutputFull}
use Rattle.run.specs.Run.{Start, End, begin, ended_by, step_made_by, is_halted, is_full_by, run_by}
use Rattle.run.specs.Refusals.{admission_of, Accepted}
use Rattle.run.specs.Call.{call_by}
use Rattle.run.proofs.RunLaws.{halted_is_not_done, full_is_not_done, run_of_none, one_more_halts, one_more_fills}
use Rattle.run.proofs.RunLaws.{done_run_goes_on, step_leaves_done, stopped_run_stays, done_makes_all_steps}
use Rattle.run.proofs.RunLaws.{steps_made_are_done, done_steps_are_made}
use Rattle.run.proofs.Acceptance.{call_is_run, call_steps_are_run_steps, call_makes_at_most}

-- ---- one run

-- A run that stands at e after k steps makes one more and stands at e', or ends there.
data Next (step : Step) (s : Start) (k : ℕ) (e e' last : End) : Type 0 where
  goes : k < last.steps → is_halted e ≡ false → is_full_by step s e ≡ false → e' ≡ step_made_by step s e
      → Next step s k e e' last
  halts : last.steps ≡ k → is_halted e ≡ true → last ≡ ended_by Halted e → Next step s k e e' last
  fills : last.steps ≡ k → is_halted e ≡ false → is_full_by step s e ≡ true → last ≡ ended_by OutputFull e
      → Next step s k e e' last

run_next : (step : Step) (s : Start) (n k : ℕ) → k < n → (run_by step s k).ending ≡ Done
    → Next step s k (run_by step s k) (run_by step s (suc k)) (run_by step s n)
unfolding run_by ended_by
run_next step s n k b d = go (is_halted (run_by step s k)) (is_full_by step s (run_by step s k)) refl refl
  where
    ended : (w : Ending) → (w ≡ Done → ⊥) → run_by step s (suc k) ≡ ended_by w (run_by step s k)
        → run_by step s n ≡ ended_by w (run_by step s k)
    ended w x e = stopped_run_stays step s n (suc k) b (λ q. x (sym (ap (λ (a : End). a.ending) e) ∙ q)) ∙ e

    go : (h f : Bool) → is_halted (run_by step s k) ≡ h → is_full_by step s (run_by step s k) ≡ f
        → Next step s k (run_by step s k) (run_by step s (suc k)) (run_by step s n)
    go true f x y =
        let e = ended Halted (halted_is_not_done Halted refl) (one_more_halts step _ s _ d x) in
        halts (ap (λ (a : End). a.steps) e ∙ done_makes_all_steps step s k d) x e
    go false true x y =
        let e = ended OutputFull (full_is_not_done OutputFull refl) (one_more_fills step _ s _ d x y) in
        fills (ap (λ (a : End). a.steps) e ∙ done_makes_all_steps step s k d) x y e
    go false false x y =
        let e = done_run_goes_on step s k d x y in
        goes (done_steps_are_made step s n (suc k) b (step_leaves_done step s k e)) x y e

module _ (step : Step) (s : Start) (n : ℕ) (accepted : admission_of s n ≡ Accepted) where
  abbrev at : ℕ → End
  at = call_by step s

  abbrev NextAt : ℕ → Type 0
  NextAt k = Next step s k (at k) (at (suc k)) (at n)

  next_at : (k : ℕ) → k < n → k ≤ (at n).steps → NextAt k
  next_at k b l =
      rw (
        call_is_run step s n k accepted (omega arith),
        call_is_run step s n (suc k) accepted b,
        call_is_run step s n n accepted (omega arith),
      )
      (run_next step s n k b
      (steps_made_are_done step s n k (omega (arith, l, call_steps_are_run_steps step s n accepted))))

  -- Where it makes all its steps, there is no stop.
  all_made : (k : ℕ) → n ≤ k → k ≤ (at n).steps → at n ≡ ended_by Done (at k)
  unfolding ended_by
  all_made k b l =
      let z : k ≡ n = omega (arith, l, call_makes_at_most step s n accepted) in
      let d : (at n).ending ≡ Done = rw (call_is_run step s n n accepted (omega arith))
      (steps_made_are_done step s n n (omega (arith, l, call_steps_are_run_steps step s n accepted))) in
      rw z (ap (λ (w : Ending). ended_by w (at n)) d)

  pub call_of_none : at 0 ≡ begin s
  call_of_none = call_is_run step s n 0 accepted (omega arith) ∙ run_of_none step s

  pub each_made : (k : ℕ) → k < (at n).steps → at (suc k) ≡ step_made_by step s (at k)
  each_made k h = go (next_at k (omega (arith, h, call_makes_at_most step s n accepted)) (omega arith))
    where
      go : NextAt k → at (suc k) ≡ step_made_by step s (at k)
      go (goes l x f e) = e
      go (halts l x e) = absurd (omega arith)
      go (fills l x f e) = absurd (omega arith)

  -- What an accepted call leaves is what its last step left; the stop alters the ending alone.
  pub last_step_left : (w : Ending) × (at n ≡ ended_by w (at (at n).steps))
  last_step_left = elim (dec_le (suc (at n).steps) n) [
    | yes b ↦ go (next_at (at n).steps b (omega arith))
    | no b ↦ (Done, all_made (at n).steps (omega arith) (omega arith))
  ]
    where
      go : NextAt (at n).steps → (w : Ending) × (at n ≡ ended_by w (at (at n).steps))
      go (goes l x f e) = absurd (omega arith)
      go (halts l x e) = (Halted, e)
      go (fills l x f e) = (OutputFull, e)

-- ---- two runs

module _ (step₁ step₂ : Step) (s₁ s₂ : Start) (n : ℕ) where
  abbrev at₁ : ℕ → End
  at₁ = call_by step₁ s₁

  abbrev at₂ : ℕ → End
  at₂ = call_by step₂ s₂

  -- Both make step number k.
  pub record BothMake (k : ℕ) : Type 0 where
    pub reached₁ : k < (at₁ n).steps
    pub reached₂ : k < (at₂ n).steps
    pub made₁ : at₁ (suc k) ≡ step_made_by step₁ s₁ (at₁ k)
    pub made₂ : at₂ (suc k) ≡ step_made_by step₂ s₂ (at₂ k)

  -- What the law asks of a relation R after k steps, and of the condition that the first k steps meet.
  pub record Related (Meets : ℕ → Type 0) (R : ℕ → End → End → Type 0) : Type 0 where
    pub accepted₁ : admission_of s₁ n ≡ Accepted
    pub accepted₂ : admission_of s₂ n ≡ Accepted
    pub begins : R 0 (begin s₁) (begin s₂)
    pub fewer : (k : ℕ) → Meets (suc k) → Meets k
    pub halted : (k : ℕ) → R k (at₁ k) (at₂ k) → is_halted (at₁ k) ≡ is_halted (at₂ k)
    pub full : (k : ℕ) → Meets (suc k) → R k (at₁ k) (at₂ k) → is_full_by step₁ s₁ (at₁ k) ≡ is_full_by step₂ s₂ (at₂ k)
    pub keeps : (k : ℕ) → Meets (suc k) → BothMake k → R k (at₁ k) (at₂ k)
        → R (suc k) (step_made_by step₁ s₁ (at₁ k)) (step_made_by step₂ s₂ (at₂ k))
    pub ends : (k : ℕ) (w : Ending) → R k (at₁ k) (at₂ k) → R k (ended_by w (at₁ k)) (ended_by w (at₂ k))

  -- The second run has made k steps too, and the relation holds.
  pub record Together (R : ℕ → End → End → Type 0) (k : ℕ) : Type 0 where
    pub reached : k ≤ (at₂ n).steps
    pub related : R k (at₁ k) (at₂ k)

  -- Both make equally many steps and end by the same stop, and the relation holds of what they leave.
  pub record StopAlike (R : ℕ → End → End → Type 0) : Type 0 where
    pub steps : (at₁ n).steps ≡ (at₂ n).steps
    pub ending : (at₁ n).ending ≡ (at₂ n).ending
    pub related : R (at₁ n).steps (at₁ n) (at₂ n)

  abbrev Nexts : ℕ → Type 0
  Nexts k = Next step₁ s₁ k (at₁ k) (at₁ (suc k)) (at₁ n) × Next step₂ s₂ k (at₂ k) (at₂ (suc k)) (at₂ n)

  module _ {Meets : ℕ → Type 0} {R : ℕ → End → End → Type 0} (r : Related Meets R) where
    nexts : (k : ℕ) → k < n → k ≤ (at₁ n).steps → Together R k → Nexts k
    nexts k b h t =
        (next_at step₁ s₁ n r.accepted₁ k b h, next_at step₂ s₂ n r.accepted₂ k b t.reached)

    -- A step that the first run makes, the second makes, where the tests before it answer alike.
    pub both_make : (k : ℕ) → k < (at₁ n).steps → Together R k
        → is_full_by step₁ s₁ (at₁ k) ≡ is_full_by step₂ s₂ (at₂ k) → BothMake k
    both_make k h t q =
        go (nexts k (omega (arith, h, call_makes_at_most step₁ s₁ n r.accepted₁)) (omega arith) t)
      where
        go : Nexts k → BothMake k
        go (goes l₁ x₁ f₁ e₁, goes l₂ x₂ f₂ e₂) =
            record { reached₁ = l₁; reached₂ = l₂; made₁ = e₁; made₂ = e₂ }
        go (goes l₁ x₁ f₁ e₁, halts l₂ x₂ e₂) =
            absurd (true≢false (sym x₂ ∙ (sym (r.halted k t.related) ∙ x₁)))
        go (goes l₁ x₁ f₁ e₁, fills l₂ x₂ f₂ e₂) = absurd (true≢false (sym f₂ ∙ (sym q ∙ f₁)))
        go (halts l₁ x₁ e₁, u) = absurd (omega arith)
        go (fills l₁ x₁ f₁ e₁, u) = absurd (omega arith)

    pub together : (k : ℕ) → k ≤ (at₁ n).steps → Meets k → Together R k
    together zero h c = record {
      reached = omega arith;
      related = rw (call_of_none step₁ s₁ n r.accepted₁, call_of_none step₂ s₂ n r.accepted₂) r.begins;
    }
    together (suc k) h c = go (together k (omega arith) (r.fewer k c))
      where
        go : Together R k → Together R (suc k)
        go t =
            let m : BothMake k = both_make k h t (r.full k c t.related) in
            record { reached = m.reached₂; related = rw (m.made₁, m.made₂) (r.keeps k c m t.related) }

    -- Where every step made meets the condition, and the second run does not make a step that a full output stops the
    -- first before.
    pub stop_alike : Meets (at₁ n).steps
        → ((at₁ n).ending ≡ OutputFull → (at₁ n).steps < (at₂ n).steps
        → is_full_by step₁ s₁ (at₁ (at₁ n).steps) ≡ is_full_by step₂ s₂ (at₂ (at₁ n).steps))
        → StopAlike R
    unfolding ended_by
    stop_alike c q = elim (dec_le (suc k) n) [
      | yes b ↦ go (nexts k b (omega arith) t)
      | no b ↦ by Done (omega (arith, t.reached, call_makes_at_most step₂ s₂ n r.accepted₂))
          (all_made step₁ s₁ n r.accepted₁ k (omega arith) (omega arith))
          (all_made step₂ s₂ n r.accepted₂ k (omega arith) t.reached)
    ]
      where
        k : ℕ
        k = (at₁ n).steps

        t : Together R k
        t = together k (omega arith) c

        by : (w : Ending) → (at₂ n).steps ≡ k → at₁ n ≡ ended_by w (at₁ k) → at₂ n ≡ ended_by w (at₂ k) → StopAlike R
        by w l e₁ e₂ = record {
          steps = sym l;
          ending = ap (λ (a : End). a.ending) e₁ ∙ sym (ap (λ (a : End). a.ending) e₂);
          related = subst (λ (a : End). R k a (at₂ n)) (sym e₁)
              (subst (λ (a : End). R k (ended_by w (at₁ k)) a) (sym e₂) (r.ends k w t.related));
        }

        alike : is_halted (at₁ k) ≡ is_halted (at₂ k)
        alike = r.halted k t.related

        go : Nexts k → StopAlike R
        go (goes l₁ x₁ f₁ e₁, u) = absurd (omega arith)
        go (halts l₁ x₁ e₁, goes l₂ x₂ f₂ e₂) = absurd (true≢false (sym x₁ ∙ (alike ∙ x₂)))
        go (halts l₁ x₁ e₁, halts l₂ x₂ e₂) = by Halted l₂ e₁ e₂
        go (halts l₁ x₁ e₁, fills l₂ x₂ f₂ e₂) = absurd (true≢false (sym x₁ ∙ (alike ∙ x₂)))
        go (fills l₁ x₁ f₁ e₁, goes l₂ x₂ f₂ e₂) =
            absurd (true≢false (sym f₁ ∙ (q (ap (λ (a : End). a.ending) e₁) l₂ ∙ f₂)))
        go (fills l₁ x₁ f₁ e₁, halts l₂ x₂ e₂) = absurd (true≢false (sym x₂ ∙ (sym alike ∙ x₁)))
        go (fills l₁ x₁ f₁ e₁, fills l₂ x₂ f₂ e₂) = by OutputFull l₂ e₁ e₂
