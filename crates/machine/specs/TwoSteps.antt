-- Two steps side by side, in User mode: from records and memories that look the same to User mode, and where neither
-- takes an interrupt, both end alike. Demand 3 rests on it, and it rests on every access check: with any one of them
-- left out it is false.
use Rattle.std.specs.Prelude.{ℕ, ◌≡◌, true, false, List, [], ◌∷◌, get_or}
use Rattle.word.specs.Reading.{read_of}
use Rattle.machine.specs.declared.Machine.{Machine}
use Rattle.machine.specs.Words.{next, with_register}
use Rattle.machine.specs.Psr.{in_user_mode, kept, set_from}
use Rattle.machine.specs.Outcome.{Reason, instruction, entered, Outcome, with_reads, after_instruction}
use Rattle.machine.specs.Devices.{lent_word, loaded_value, after_load, stored}
use Rattle.machine.specs.Access.{load_to, store_at, by_pointer}
use Rattle.machine.specs.Plan.{plan_of}
use Rattle.machine.specs.Step.{perform, step_of}
use Rattle.machine.specs.Visible.{SameVisible, Hidden, hidden_of}
use Rattle.machine.specs.Causes.{is_trap_or_exception, takes_interrupt}

-- An instruction obeyed to its end in User mode: it stays in User mode, shows nothing and alters nothing that is
-- hidden.
pub record Confined (h : Hidden) (o : Outcome) : Type 0 where
  pub user : in_user_mode o.machine.psr ≡ true
  pub hidden_kept : hidden_of o.machine o.memory ≡ h
  pub shows_nothing : o.shown ≡ []
  pub obeys : o.cause ≡ instruction

-- Both obey an instruction to its end and look the same afterwards, or both make the same entry for a trap or
-- exception.
pub data SameOutcome (h₁ h₂ : Hidden) (o₁ o₂ : Outcome) : Type 0 where
  both_obey : SameVisible o₁.machine o₂.machine o₁.memory o₂.memory → Confined h₁ o₁ → Confined h₂ o₂
      → SameOutcome h₁ h₂ o₁ o₂
  both_enter : (reason : Reason) (psr pc : ℕ) → is_trap_or_exception reason ≡ true → o₁.cause ≡ entered reason psr pc
      → o₂.cause ≡ entered reason psr pc → o₁.shown ≡ [] → o₂.shown ≡ [] → SameOutcome h₁ h₂ o₁ o₂

abbrev pub TwoStepsAgree : Type 0
TwoStepsAgree = (m₁ m₂ : Machine) (mem₁ mem₂ keys₁ keys₂ : List ℕ) → SameVisible m₁ m₂ mem₁ mem₂
    → in_user_mode m₁.psr ≡ true
    → takes_interrupt (step_of keys₁ m₁ mem₁).cause ≡ false → takes_interrupt (step_of keys₂ m₂ mem₂).cause ≡ false
    → SameOutcome (hidden_of m₁ mem₁) (hidden_of m₂ mem₂) (step_of keys₁ m₁ mem₁) (step_of keys₂ m₂ mem₂)

-- ---- each check is needed

-- What `TwoStepsAgree` says of a step, said of any access.
abbrev pub Claim : (Machine → List ℕ → Outcome) → Type 0
Claim act = (m₁ m₂ : Machine) (mem₁ mem₂ : List ℕ) → SameVisible m₁ m₂ mem₁ mem₂ → in_user_mode m₁.psr ≡ true
    → SameOutcome (hidden_of m₁ mem₁) (hidden_of m₂ mem₂) (act m₁ mem₁) (act m₂ mem₂)

-- `obeyed` without `checked`: the fetch.
abbrev pub unchecked_fetch : Machine → List ℕ → Outcome
unchecked_fetch m mem = with_reads (m.pc ∷ [])
    (perform (plan_of m.regs m.pc m.psr (read_of (get_or mem m.pc 0))) m mem)

-- `load_to` without `checked`: LD, LDR and the second address of LDI.
abbrev pub unchecked_load_to : ℕ → ℕ → Machine → List ℕ → Outcome
unchecked_load_to r a m mem = record {
  machine = after_instruction (with_register m.regs r (loaded_value a m mem)) (next m.pc)
      (set_from (loaded_value a m mem)) (after_load a m);
  memory = mem;
  shown = [];
  cause = instruction;
  reads = lent_word a;
  writes = [];
}

-- `store_at` without `checked`: ST, STR and the second address of STI.
abbrev pub unchecked_store_at : ℕ → ℕ → Machine → List ℕ → Outcome
unchecked_store_at v a m mem = stored v a (after_instruction m.regs (next m.pc) kept m) mem

-- `by_pointer` without `checked`: the first address of LDI and STI.
abbrev pub by_unchecked_pointer : ℕ → (ℕ → Machine → List ℕ → Outcome) → Machine → List ℕ → Outcome
by_unchecked_pointer a data-access m mem = with_reads (lent_word a)
    (data-access (loaded_value a m mem) (after_load a m) mem)

-- "An access exception is raised by a fetch, by either address of LDI and STI, or by the address of LD, LDR, ST, STR."
pub record EachCheckIsNeeded : Type 0 where
  pub fetch : Claim unchecked_fetch → ⊥
  pub load : Claim (unchecked_load_to 0 0) → ⊥
  pub store : Claim (unchecked_store_at 1 0) → ⊥
  pub pointer_of_load : Claim (by_unchecked_pointer 0 (load_to 0)) → ⊥
  pub pointer_of_store : Claim (by_unchecked_pointer 0 (store_at 1)) → ⊥
  pub load_by_pointer : Claim (by_pointer 0x3000 (unchecked_load_to 0)) → ⊥
  pub store_by_pointer : Claim (by_pointer 0x3000 (unchecked_store_at 1)) → ⊥
