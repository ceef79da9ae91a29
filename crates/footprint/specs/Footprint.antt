-- The lent words that a step touches: what `reads` and `writes` of its outcome mean.
use Rattle.std.specs.Prelude.{ℕ, ◌≤◌, ◌≡◌, List, [], ◌∷◌, length, get_or}
use Rattle.machine.specs.declared.Machine.{Machine}
use Rattle.machine.specs.Edition.{Edition, third}
use Rattle.machine.specs.Outcome.{Outcome}
use Rattle.machine.specs.Step.{step_by}

-- What holds of each address in a list.
abbrev pub Each : (ℕ → Type 0) → List ℕ → Type 0
Each P [] = Unit {0}
Each P (a ∷ addresses) = P a × Each P addresses

-- The address is none of these.
abbrev pub NoneOf : ℕ → List ℕ → Type 0
NoneOf a addresses = Each (λ b. a ≡ b → ⊥) addresses

-- Two memories hold the same word at this address.
abbrev pub SameWordAt : List ℕ → List ℕ → ℕ → Type 0
SameWordAt mem₁ mem₂ a = get_or mem₁ a 0 ≡ get_or mem₂ a 0

-- Memory after a step differs from memory before it at most at the words that the step writes.
pub record LeavesOtherWords (mem : List ℕ) (o : Outcome) : Type 0 where
  pub size : length o.memory ≡ length mem
  pub others : (a : ℕ) → NoneOf a o.writes → SameWordAt o.memory mem a

abbrev pub StepWritesBy : Edition → Type 0
StepWritesBy e = (keys : List ℕ) (m : Machine) (mem : List ℕ) → LeavesOtherWords mem (step_by e keys m mem)

-- Two outcomes are the same, but for words of memory that differed before and are not written.
pub record SameEffect (mem₁ mem₂ : List ℕ) (o₁ o₂ : Outcome) : Type 0 where
  pub machine : o₁.machine ≡ o₂.machine
  pub shown : o₁.shown ≡ o₂.shown
  pub cause : o₁.cause ≡ o₂.cause
  pub reads : o₁.reads ≡ o₂.reads
  pub writes : o₁.writes ≡ o₂.writes
  pub size : length o₁.memory ≡ length o₂.memory
  -- where the memories agreed before, and at each word written, they agree afterwards
  pub kept : (a : ℕ) → SameWordAt mem₁ mem₂ a → SameWordAt o₁.memory o₂.memory a
  pub written : Each (SameWordAt o₁.memory o₂.memory) o₁.writes

-- Two memories of one size that agree at the words that the step from the first of them reads give the same effect.
abbrev pub StepReadsBy : Edition → Type 0
StepReadsBy e = (keys : List ℕ) (m : Machine) (mem₁ mem₂ : List ℕ) → length mem₁ ≡ length mem₂
    → Each (SameWordAt mem₁ mem₂) (step_by e keys m mem₁).reads
    → SameEffect mem₁ mem₂ (step_by e keys m mem₁) (step_by e keys m mem₂)

-- `StepReadsBy` would stay true of a step that claimed to read more. None claims more than the word fetched and two
-- others: a pointer and a datum, a pointer and a vector, or two pops.
abbrev pub StepReadsAtMostThreeBy : Edition → Type 0
StepReadsAtMostThreeBy e = (keys : List ℕ) (m : Machine) (mem : List ℕ) → length (step_by e keys m mem).reads ≤ 3

-- ---- by the third edition

abbrev pub StepWrites : Type 0
StepWrites = StepWritesBy third

abbrev pub StepReads : Type 0
StepReads = StepReadsBy third

abbrev pub StepReadsAtMostThree : Type 0
StepReadsAtMostThree = StepReadsAtMostThreeBy third
