-- Each access check is needed: with any one of them left out, the claim about two steps is false. By computing one
-- access on two memories that look the same to User mode: x0000 holds 0 in the first, and another word in the second.
use Prim.Native.Nat.{ℕ}
use mathlib.Core.Path.{◌≡◌, refl, sym, ap, ◌∙◌}
use mathlib.Core.Bool.{true, true≢false, false≢true}
use mathlib.Core.List.{List, [], ◌∷◌}
use native.Mathlib.Omega.{arith}
use lib.ListN.{get_or, set, replicate}
use Rattle.word.specs.Reading.{read_of}
use Rattle.machine.specs.declared.Machine.{Machine}
use Rattle.machine.specs.Record.{fresh_devices}
use Rattle.machine.specs.Words.{next, with_register}
use Rattle.machine.specs.Psr.{in_user_mode, kept, set_from}
use Rattle.machine.specs.Outcome.{instruction, Outcome, with_reads, after_instruction}
use Rattle.machine.specs.Devices.{lent_word, loaded_value, after_load, stored}
use Rattle.machine.specs.Access.{load_to, store_at, by_pointer}
use Rattle.machine.specs.Plan.{plan_of}
use Rattle.machine.specs.Step.{perform}
use Rattle.machine.specs.Visible.{words_below, SameVisible, Hidden, hidden_of}
use Rattle.machine.specs.Causes.{meets_trap_or_exception}
use Rattle.machine.specs.TwoSteps.{SameOutcome, both_obey, both_enter, Claim, unchecked_fetch, unchecked_load_to}
use Rattle.machine.specs.TwoSteps.{unchecked_store_at, by_unchecked_pointer, EachCheckIsNeeded}
use Rattle.machine.proofs.MemoryParts.{word_below_is_not_visible}
use Rattle.machine.proofs.Opened.{opened}

-- ---- the two memories

user_at : ℕ → Machine
user_at pc = record {
  regs = 0 ∷ 0 ∷ 0 ∷ 0 ∷ 0 ∷ 0 ∷ 0xFDFF ∷ 0 ∷ [];
  pc = pc;
  psr = 0x8002;
  saved_ssp = 0x3000;
  saved_usp = 0;
  devices = fresh_devices;
  clock = 0;
}

zeros : List ℕ
zeros = replicate 65536 0

at_two_memories : (act : Machine → List ℕ → Outcome) (pc w : ℕ) → Claim act
    → SameOutcome (hidden_of (user_at pc) zeros) (hidden_of (user_at pc) (set zeros 0 w)) (act (user_at pc) zeros)
    (act (user_at pc) (set zeros 0 w))
unfolding opened user_at
at_two_memories act pc w claim =
    claim (user_at pc) (user_at pc) zeros (set zeros 0 w)
    (record {
      regs = refl;
      pc = refl;
      psr = refl;
      mcr = refl;
      words = sym
          (word_below_is_not_visible zeros 0 w (omega arith));
    }) refl

-- ---- what two outcomes that are the same cannot do

module _ {h₁ h₂ : Hidden} {o₁ o₂ : Outcome} where
  same_outcomes_meet_alike : SameOutcome h₁ h₂ o₁ o₂ → meets_trap_or_exception o₁.cause
      ≡ meets_trap_or_exception o₂.cause
  same_outcomes_meet_alike (both_obey g c₁ c₂) = ap meets_trap_or_exception (c₁.obeys ∙ sym c₂.obeys)
  same_outcomes_meet_alike (both_enter r x y t e₁ e₂ z₁ z₂) = ap meets_trap_or_exception (e₁ ∙ sym e₂)

  registers_differ : SameOutcome h₁ h₂ o₁ o₂ → o₁.cause ≡ instruction → get_or o₁.machine.regs 0 0 ≡ 0
      → get_or o₂.machine.regs 0 0 ≡ 1 → ⊥
  registers_differ (both_obey g c₁ c₂) q r₁ r₂ =
      let e : ◌≡◌ {A = ℕ} 0 1 = sym r₁ ∙ (ap (λ (regs : List ℕ). get_or regs 0 0) g.regs ∙ r₂) in
      omega arith
  registers_differ (both_enter r x y t e₁ e₂ z₁ z₂) q r₁ r₂ = false≢true
      (sym (ap meets_trap_or_exception q) ∙ (ap meets_trap_or_exception e₁ ∙ t))

  hidden_word_differs : SameOutcome h₁ h₂ o₁ o₂ → o₁.cause ≡ instruction → get_or h₁.below 0 0 ≡ 0
      → get_or (words_below o₁.memory) 0 0 ≡ 1 → ⊥
  hidden_word_differs (both_obey g c₁ c₂) q r₁ r₂ =
      let e : ◌≡◌ {A = ℕ} 1 0 = sym r₂ ∙ (ap (λ (h : Hidden). get_or h.below 0 0) c₁.hidden_kept ∙ r₁) in
      omega arith
  hidden_word_differs (both_enter r x y t e₁ e₂ z₁ z₂) q r₁ r₂ = false≢true
      (sym (ap meets_trap_or_exception q) ∙ (ap meets_trap_or_exception e₁ ∙ t))

-- ---- each check

pub each_check_is_needed : EachCheckIsNeeded
unfolding opened user_at zeros words_below
each_check_is_needed = record {
  fetch = λ c. false≢true (same_outcomes_meet_alike (at_two_memories unchecked_fetch 0 0xF025 c));
  load = λ c. registers_differ (at_two_memories (unchecked_load_to 0 0) 0x3000 1 c) refl refl refl;
  store = λ c. hidden_word_differs (at_two_memories (unchecked_store_at 1 0) 0x3000 1 c) refl refl refl;
  pointer_of_load = λ c. true≢false
      (same_outcomes_meet_alike (at_two_memories (by_unchecked_pointer 0 (load_to 0)) 0x3000 0x3000 c));
  pointer_of_store = λ c. true≢false
      (same_outcomes_meet_alike (at_two_memories (by_unchecked_pointer 0 (store_at 1)) 0x3000 0x3000 c));
  load_by_pointer = λ c. registers_differ
      (at_two_memories (by_pointer 0x3000 (unchecked_load_to 0)) 0x3000 1 c) refl refl
      refl;
  store_by_pointer = λ c. hidden_word_differs
      (at_two_memories (by_pointer 0x3000 (unchecked_store_at 1)) 0x3000 1 c) refl
      refl refl;
}
