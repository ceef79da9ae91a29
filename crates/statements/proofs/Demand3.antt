-- What demand 3 rests on: by the laws of steps and runs, and by induction on the steps where no interrupt is taken.
use Prim.Native.Nat.{ℕ, zero, suc, ◌≤◌}
use mathlib.Core.Path.{◌≡◌, ◌∙◌}
use native.Mathlib.Omega.{arith}
use Rattle.machine.specs.declared.Machine.{Machine}
use Rattle.machine.specs.Step.{step_of}
use Rattle.machine.proofs.MemoryParts.{three_parts_make_memory}
use Rattle.machine.proofs.InterruptRule.{interrupt_is_taken_by_rule_2}
use Rattle.run.specs.Run.{Start, begin, ended_by, arriving, next_step_by, step_made_by}
use Rattle.run.specs.Refusals.{admission_of, Accepted}
use Rattle.run.specs.Call.{call_of}
use Rattle.run.specs.Noninterference.{cause_at, NoneBefore, MeetsNone, NoInterrupt}
use Rattle.run.proofs.Acceptance.{call_with_fewer_makes_all}
use Rattle.run.proofs.RelatedRuns.{call_of_none, each_made, last_step_left}
use Rattle.run.proofs.Noninterference.{none_before_fewer, meets_none_or_a_first}
use Rattle.statements.specs.Demand3.{NoInterruptFor, StaysSo, Demand3Rests}
use Rattle.statements.proofs.Calm.{Calm, calm_step, HighPriority, high_priority_is_calm, CalmDevices}
use Rattle.statements.proofs.Calm.{calm_devices_are_calm}

module _ (C : Machine → Type 0) (K : Calm C) (s : Start) (n : ℕ) (accepted : admission_of s n ≡ Accepted)
    (first : C s.machine) where
  -- It holds after every step before the first trap or exception.
  calm_call_of : (k : ℕ) → k ≤ (call_of s n).steps → NoneBefore s k → C (call_of s k).machine
  unfolding begin cause_at next_step_by step_made_by
  calm_call_of zero h b = rw (call_of_none step_of s n accepted) first
  calm_call_of (suc k) h b =
      rw (each_made step_of s n accepted k h)
      (calm_step C K (arriving s (call_of s k)) (call_of s k).machine (call_of s k).memory
      (calm_call_of k (omega arith) (none_before_fewer s (suc k) k (omega arith) b)) (b.none k (omega arith)))

  calm_is_uninterrupted : NoInterrupt s n
  unfolding cause_at next_step_by
  calm_is_uninterrupted = record {
    never = λ j h b.
        interrupt_is_taken_by_rule_2 (arriving s (call_of s j)) (call_of s j).machine (call_of s j).memory
        ∙ K.none_due (arriving s (call_of s j)) (call_of s j).machine (calm_call_of j (omega arith) b);
  }

  -- So it holds of what a call leaves that meets none.
  calm_call : MeetsNone s n → C (call_of s n).machine
  unfolding ended_by
  calm_call b = rw (last_step_left step_of s n accepted).1 (calm_call_of (call_of s n).steps (omega arith) b)

no_interrupt_for : (s : Start) → NoInterruptFor s
no_interrupt_for s = record {
  none_enabled =
      λ u e n a. calm_is_uninterrupted CalmDevices calm_devices_are_calm s n a (record { user = u; none = e });
  high_priority =
      λ u p n a. calm_is_uninterrupted HighPriority high_priority_is_calm s n a (record { user = u; priority = p });
}

stays_so : (s : Start) → StaysSo s
stays_so s = record {
  none_enabled = λ u e n a b.
      let c = calm_call CalmDevices calm_devices_are_calm s n a (record { user = u; none = e }) b in
      (c.user, c.none);
  high_priority = λ u p n a b.
      let c = calm_call HighPriority high_priority_is_calm s n a (record { user = u; priority = p }) b in
      (c.user, c.priority);
}

pub demand_3_rests : Demand3Rests
demand_3_rests = record {
  interrupt_is_rule_2 = interrupt_is_taken_by_rule_2;
  fewer_steps_are_made = call_with_fewer_makes_all step_of;
  three_parts_are_all = three_parts_make_memory;
  none_or_first = meets_none_or_a_first;
  no_interrupt = no_interrupt_for;
  stays_so = stays_so;
}
