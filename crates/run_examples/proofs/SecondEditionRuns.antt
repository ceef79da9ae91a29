-- The premise can be met, and each exclusion is needed: each run is computed, and a part of what the editions' runs
-- leave differs.
use Prim.Native.Nat.{ℕ, zero, suc, ◌<◌, ◌≤◌}
use mathlib.Core.Path.{◌≡◌, refl, sym, ap, subst, ◌∙◌}
use mathlib.Core.List.{List, [], ◌∷◌}
use native.Mathlib.Omega.{arith}
use lib.ListN.{get_or}
use Rattle.machine.specs.Edition.{second}
use Rattle.machine.specs.Exclusions.{Exclusion, lea, trap, jsrr_r7, privileged_address, psr_address}
use Rattle.machine.specs.Exclusions.{instruction_exclusions, accesses_of, address_exclusions, access_exclusions}
use Rattle.machine.specs.Exclusions.{obeyed_exclusions, taken_exclusions, exclusions_of}
use Rattle.machine.specs.Rows.{R, PC, word, numbers_of}
use Rattle.machine.specs.Step.{Step, step_by, step_of}
use Rattle.machine.proofs.Opened.{opened}
use Rattle.run.specs.declared.Ending.TheVariants.{OutputFull}
use Rattle.run.specs.Run.{Start, End, begin, ended_by, arriving, next_step_by, with_shown, step_made_by, is_halted}
use Rattle.run.specs.Run.{shows_byte, is_full_by, one_more_by, run_by}
use Rattle.run.specs.Refusals.{wrong_size, undefined_timer, undefined_devices, undefined_record, too_many_steps}
use Rattle.run.specs.Refusals.{Accepted}
use Rattle.run.specs.Refusals.{unequal_lists, admission_of, entry_admission, first_refusal, times_admission}
use Rattle.run.specs.Call.{call_by, call_of, second_call_of}
use Rattle.run.specs.SecondEdition.{exclusions_at}
use Rattle.run_examples.specs.SecondEditionRuns.{user, supervisor, common_start, PremiseCanBeMet, Differ}
use Rattle.run_examples.specs.SecondEditionRuns.{ExclusionsAreNeeded}
use Rattle.run.proofs.Acceptance.{accepted_call_is_run, call_is_run}

abbrev second_step : Step
second_step = step_by second

-- To unfold this is to unfold every definition of a run and of what its steps meet.
run_opened : Unit {0}
unfolding opened begin ended_by arriving next_step_by with_shown step_made_by is_halted shows_byte is_full_by
    one_more_by run_by
    instruction_exclusions accesses_of address_exclusions access_exclusions obeyed_exclusions
    taken_exclusions exclusions_of
run_opened = tt

call_opened : Unit {0}
unfolding opened admission_of wrong_size undefined_timer undefined_devices undefined_record too_many_steps unequal_lists
    entry_admission first_refusal times_admission
call_opened = tt

-- What a run of the second edition meets in its next step.
abbrev meets_next : Start → End → List Exclusion
meets_next s e = exclusions_of (arriving s e) e.machine e.memory

exclusions_in_run : (s : Start) (n k : ℕ) → admission_of s n ≡ Accepted → k ≤ n
    → exclusions_at s k ≡ meets_next s (run_by second_step s k)
unfolding exclusions_at
exclusions_in_run s n k accepted l = ap (meets_next s) (call_is_run second_step s n k accepted l)

-- ---- the premise can be met

common_accepted : admission_of common_start 10 ≡ Accepted
unfolding call_opened
common_accepted = refl

common_steps : (run_by second_step common_start 10).steps ≡ 4
unfolding run_opened
common_steps = refl

common_ending : (run_by second_step common_start 10).ending ≡ OutputFull
unfolding run_opened
common_ending = refl

none_met : (k : ℕ) → k < 5 → meets_next common_start (run_by second_step common_start k) ≡ []
unfolding run_opened
none_met zero l = refl
none_met (suc zero) l = refl
none_met (suc (suc zero)) l = refl
none_met (suc (suc (suc zero))) l = refl
none_met (suc (suc (suc (suc zero)))) l = refl
none_met (suc (suc (suc (suc (suc k))))) l = absurd (omega arith)

common_call : second_call_of common_start 10 ≡ run_by second_step common_start 10
common_call = accepted_call_is_run second_step common_start 10 common_accepted

steps_of_call : (second_call_of common_start 10).steps ≡ 4
steps_of_call = rw common_call common_steps

none_met_by_call : (k : ℕ) → k < 5 → exclusions_at common_start k ≡ []
none_met_by_call k l = exclusions_in_run common_start 10 k common_accepted (omega arith) ∙ none_met k l

pub premise_can_be_met : PremiseCanBeMet
premise_can_be_met = record {
  premise = record {
    made = λ k l. none_met_by_call k (omega (arith, steps_of_call));
    stopped_before = λ w. rw steps_of_call (none_met_by_call 4 (omega arith));
  };
  steps = steps_of_call;
  ending = rw common_call common_ending;
}

-- ---- each exclusion is needed

abbrev number_of : ℕ → End → ℕ
number_of i e = get_or (numbers_of e.machine) i 0

-- What is computed of a start: number i of the record is a after the second edition's step, and b after the third's.
record Computed (s : Start) (x : Exclusion) (made i a b : ℕ) : Type 0 where
  accepted : admission_of s 1 ≡ Accepted
  meets : meets_next s (run_by second_step s 0) ≡ x ∷ []
  steps : (run_by second_step s 1).steps ≡ made
  by_second : number_of i (run_by second_step s 1) ≡ a
  by_third : number_of i (run_by step_of s 1) ≡ b

differ : {s : Start} {x : Exclusion} {made i a b : ℕ} → Computed s x made i a b → (a ≡ b → ⊥) → Differ s x made
differ {s} {i} c unequal =
    let e₂ = accepted_call_is_run second_step s 1 c.accepted in
    let e₃ = accepted_call_is_run step_of s 1 c.accepted in
    record {
      meets = exclusions_in_run s 1 0 c.accepted (omega arith) ∙ c.meets;
      steps = ap (λ (e : End). e.steps) e₂ ∙ c.steps;
      differ = λ h.
          unequal (sym c.by_second ∙ ap (number_of i) (sym e₂ ∙ h ∙ e₃) ∙ c.by_third);
    }

lea_computed : Computed (user 0xE1FF []) lea 1 9 0x8501 0x8505
unfolding run_opened call_opened
lea_computed = record { accepted = refl; meets = refl; steps = refl; by_second = refl; by_third = refl }

trap_computed : Computed (user 0xF025 []) trap 1 7 0x3001 0x0789
unfolding run_opened call_opened
trap_computed = record { accepted = refl; meets = refl; steps = refl; by_second = refl; by_third = refl }

jsrr_computed : Computed (user 0x41C0 []) jsrr_r7 1 8 0x3001 0x0789
unfolding run_opened call_opened
jsrr_computed = record { accepted = refl; meets = refl; steps = refl; by_second = refl; by_third = refl }

fetch_computed : Computed (user 0x1021 (PC 0x0000 ∷ [])) privileged_address 1 0 0x0F1F 0x0F1E
unfolding run_opened call_opened
fetch_computed = record { accepted = refl; meets = refl; steps = refl; by_second = refl; by_third = refl }

data_computed : Computed (user 0x6040 (R 1 0x0000 ∷ [])) privileged_address 1 0 0x6040 0x0F1E
unfolding run_opened call_opened
data_computed = record { accepted = refl; meets = refl; steps = refl; by_second = refl; by_third = refl }

pointer_computed : Computed (user 0xA1FE (word 0x2FFF 0x3000 ∷ [])) privileged_address 1 0 0xA1FE 0x0F1E
unfolding run_opened call_opened
pointer_computed = record { accepted = refl; meets = refl; steps = refl; by_second = refl; by_third = refl }

pointed_computed : Computed (user 0xA000 (word 0x3001 0x0000 ∷ [])) privileged_address 1 0 0xA000 0x0F1E
unfolding run_opened call_opened
pointed_computed = record { accepted = refl; meets = refl; steps = refl; by_second = refl; by_third = refl }

psr_load_computed : Computed (supervisor 0x6040 (R 1 0xFFFC ∷ [])) psr_address 1 0 0x6040 0x0505
unfolding run_opened call_opened
psr_load_computed = record { accepted = refl; meets = refl; steps = refl; by_second = refl; by_third = refl }

psr_store_computed : Computed (supervisor 0x7040 (R 1 0xFFFC ∷ [])) psr_address 1 9 0x0505 0x0706
unfolding run_opened call_opened
psr_store_computed = record { accepted = refl; meets = refl; steps = refl; by_second = refl; by_third = refl }

psr_pointer_computed :
    Computed (supervisor 0xA79B (PC 0x0060 ∷ word 0xFFFC 0x0500 ∷ word 0x0500 0x9ABC ∷ [])) psr_address 1
    3 0x9ABC 0xA79B
unfolding run_opened call_opened
psr_pointer_computed = record { accepted = refl; meets = refl; steps = refl; by_second = refl; by_third = refl }

stopped_computed : Computed (user 0x7040 (R 1 0xFE06 ∷ [])) privileged_address 0 8 0x3000 0x7040
unfolding run_opened call_opened
stopped_computed = record { accepted = refl; meets = refl; steps = refl; by_second = refl; by_third = refl }

pub exclusions_are_needed : ExclusionsAreNeeded
exclusions_are_needed = record {
  lea_needed = differ lea_computed (λ h. omega arith);
  trap_needed = differ trap_computed (λ h. omega arith);
  jsrr_r7_needed = differ jsrr_computed (λ h. omega arith);
  fetch_needed = differ fetch_computed (λ h. omega arith);
  data_needed = differ data_computed (λ h. omega arith);
  pointer_needed = differ pointer_computed (λ h. omega arith);
  pointed_needed = differ pointed_computed (λ h. omega arith);
  psr_load_needed = differ psr_load_computed (λ h. omega arith);
  psr_store_needed = differ psr_store_computed (λ h. omega arith);
  psr_pointer_needed = differ psr_pointer_computed (λ h. omega arith);
  stopped_step_needed = differ stopped_computed (λ h. omega arith);
}
