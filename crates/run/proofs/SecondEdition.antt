-- A run that meets no exclusion ends as the newer run does, by the law of two related runs: each step that is made, or
-- tried where the output is full, is the same by both editions, so they stand equal; and both calls are turned down
-- alike.
use Rattle.std.specs.Prelude.{Ok, Err}
use Prim.Native.Nat.{ℕ, ◌<◌}
use mathlib.Core.Path.{◌≡◌, refl, ap, ◌∙◌}
use mathlib.Core.List.{[]}
use native.Mathlib.Omega.{arith}
use Rattle.machine.specs.Edition.{second}
use Rattle.machine.specs.Step.{Step, step_by, step_of}
use Rattle.machine.proofs.StepsAlike.{common_steps_agree}
use Rattle.run.specs.Run.{Start, End, arriving, next_step_by, next_step, step_made_by, step_made, is_halted, is_full_by}
use Rattle.run.specs.Run.{is_full}
use Rattle.run.specs.Refusals.{admission_of, Admission, Accepted}
use Rattle.run.specs.Call.{admitted_by, call_by, call_of, second_call_of}
use Rattle.run.specs.SecondEdition.{exclusions_at, MeetsNoExclusion, EndsAsNewerRun}
use Rattle.run.proofs.RelatedRuns.{Related, together, stop_alike}

abbrev second_step : Step
second_step = step_by second

module _ (s : Start) (k : ℕ) (none : exclusions_at s k ≡ []) (same : second_call_of s k ≡ call_of s k) where
  steps_agree : next_step_by second_step s (second_call_of s k) ≡ next_step s (call_of s k)
  unfolding next_step_by exclusions_at
  steps_agree =
      common_steps_agree (arriving s (second_call_of s k)) (second_call_of s k).machine (second_call_of s k).memory none
      ∙ ap (λ (e : End). step_of (arriving s e) e.machine e.memory) same

  full_agree : is_full_by second_step s (second_call_of s k) ≡ is_full s (call_of s k)
  unfolding is_full_by
  full_agree = cc (steps_agree, same)

  made_agree : step_made_by second_step s (second_call_of s k) ≡ step_made s (call_of s k)
  unfolding step_made_by
  made_agree = cc (steps_agree, same)

module _ (s : Start) (n : ℕ) (accepted : admission_of s n ≡ Accepted) (premise : MeetsNoExclusion s n) where
  related : Related second_step step_of s s n (λ k. (j : ℕ) → j < k → exclusions_at s j ≡ []) (λ k e₁ e₂. e₁ ≡ e₂)
  related = record {
    accepted₁ = accepted;
    accepted₂ = accepted;
    begins = refl;
    fewer = λ k c j l. c j (omega arith);
    halted = λ k q. ap is_halted q;
    full = λ k c q. full_agree s k (c k (omega arith)) q;
    keeps = λ k c m q. made_agree s k (c k (omega arith)) q;
    ends = λ k w q. rw q;
  }

  accepted_calls_agree : second_call_of s n ≡ call_of s n
  accepted_calls_agree =
      let k : ℕ = (second_call_of s n).steps in
      let t = together second_step step_of s s n related k (omega arith) premise.made in
      (stop_alike second_step step_of s s n related premise.made
      (λ w l. full_agree s k (premise.stopped_before w) t.related)).related

pub ends_as_newer_run : EndsAsNewerRun
ends_as_newer_run s n premise = go (admission_of s n) refl
  where
    go : (a : Admission) → admission_of s n ≡ a → second_call_of s n ≡ call_of s n
    go (Ok _) e = accepted_calls_agree s n e premise
    go (Err r) e = unfold call_by admitted_by in rw e refl
