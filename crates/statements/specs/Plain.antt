-- Demand 3 once more, with none of the notions that its statement in crates/run names: registers, addresses and steps
-- as M14 has them. Were a notion there to ask for more or to say less, this would not follow.
use Rattle.std.specs.Prelude.{ℕ, ◌≤◌, ◌<◌, ◌≡◌, true, false, get_or}
use Rattle.machine.specs.Outcome.{Reason, vector_of, entered}
use Rattle.machine.specs.Causes.{is_trap_or_exception, meets_trap_or_exception, takes_interrupt}
use Rattle.run.specs.Run.{Start, next_step}
use Rattle.run.specs.Refusals.{admission_of, Accepted}
use Rattle.run.specs.Call.{call_of}

-- No step before step number k, counted from 0, meets a trap or exception: each is made from what the call with its
-- number in place of n answers and leaves.
abbrev pub NoneUpTo : Start → ℕ → Type 0
NoneUpTo s k = (j : ℕ) → j < k → meets_trap_or_exception (next_step s (call_of s j)).cause ≡ false

-- "Take any two accepted runs of n steps that start in User mode with equal R0 to R7, PC, PSR, MCR and words x3000 to
-- xFDFF, .. and let neither take an interrupt before its first trap or exception."
pub record PlainPremises (s₁ s₂ : Start) (n : ℕ) : Type 0 where
  pub accepted₁ : admission_of s₁ n ≡ Accepted
  pub accepted₂ : admission_of s₂ n ≡ Accepted
  pub user_mode_lem : 0x8000 ≤ s₁.machine.psr
  pub regs : s₁.machine.regs ≡ s₂.machine.regs
  pub pc : s₁.machine.pc ≡ s₂.machine.pc
  pub psr : s₁.machine.psr ≡ s₂.machine.psr
  pub mcr : s₁.machine.devices.mcr ≡ s₂.machine.devices.mcr
  pub words : (a : ℕ) → 0x3000 ≤ a → a ≤ 0xFDFF → get_or s₁.memory a 0 ≡ get_or s₂.memory a 0
  pub no_interrupt₁ : (j : ℕ) → j < (call_of s₁ n).steps → NoneUpTo s₁ j
      → takes_interrupt (next_step s₁ (call_of s₁ j)).cause ≡ false
  pub no_interrupt₂ : (j : ℕ) → j < (call_of s₂ n).steps → NoneUpTo s₂ j
      → takes_interrupt (next_step s₂ (call_of s₂ j)).cause ≡ false

-- "R0 to R7, PC, PSR, MCR and those words are equal in both", after k steps.
pub record EqualInBoth (s₁ s₂ : Start) (k : ℕ) : Type 0 where
  pub regs : (call_of s₁ k).machine.regs ≡ (call_of s₂ k).machine.regs
  pub pc : (call_of s₁ k).machine.pc ≡ (call_of s₂ k).machine.pc
  pub psr : (call_of s₁ k).machine.psr ≡ (call_of s₂ k).machine.psr
  pub mcr : (call_of s₁ k).machine.devices.mcr ≡ (call_of s₂ k).machine.devices.mcr
  pub words : (a : ℕ) → 0x3000 ≤ a → a ≤ 0xFDFF → get_or (call_of s₁ k).memory a 0 ≡ get_or (call_of s₂ k).memory a 0

-- "Nothing is displayed, and in each run the words outside that range, MCR and both saved stack pointers are as at its
-- start", after k steps.
pub record AsAtStart (s : Start) (k : ℕ) : Type 0 where
  pub shown : (call_of s k).shown ≡ 0
  pub output : (call_of s k).output ≡ s.output
  pub below : (a : ℕ) → a ≤ 0x2FFF → get_or (call_of s k).memory a 0 ≡ get_or s.memory a 0
  pub above : (a : ℕ) → 0xFE00 ≤ a → a ≤ 0xFFFF → get_or (call_of s k).memory a 0 ≡ get_or s.memory a 0
  pub mcr : (call_of s k).machine.devices.mcr ≡ s.machine.devices.mcr
  pub saved_ssp_lem : (call_of s k).machine.saved_ssp ≡ s.machine.saved_ssp
  pub saved_usp_lem : (call_of s k).machine.saved_usp ≡ s.machine.saved_usp

-- What follows of the second run where the first has come so far.
pub record Follows (s₁ s₂ : Start) (n : ℕ) : Type 0 where
  -- "after every step before that one, or every step made where there is none"
  pub reached : (k : ℕ) → k ≤ (call_of s₁ n).steps → NoneUpTo s₁ k → (k ≤ (call_of s₂ n).steps) × NoneUpTo s₂ k
  pub equal : (k : ℕ) → k ≤ (call_of s₁ n).steps → NoneUpTo s₁ k → EqualInBoth s₁ s₂ k
  pub as_at_start : (k : ℕ) → k ≤ (call_of s₁ n).steps → NoneUpTo s₁ k → AsAtStart s₁ k
  -- "If one run meets such a first trap or exception, the other meets its first at the same step, by the same vector,
  -- pushing the same PSR and PC"
  pub first : (k : ℕ) (reason : Reason) (psr pc : ℕ) → k < (call_of s₁ n).steps → NoneUpTo s₁ k
      → is_trap_or_exception reason ≡ true → (next_step s₁ (call_of s₁ k)).cause ≡ entered reason psr pc
      → (k < (call_of s₂ n).steps) × NoneUpTo s₂ k
      × ((other : Reason) × (is_trap_or_exception other ≡ true) × (vector_of other ≡ vector_of reason)
      × ((next_step s₂ (call_of s₂ k)).cause ≡ entered other psr pc))

pub record PlainAgreement (s₁ s₂ : Start) (n : ℕ) : Type 0 where
  pub by_second : Follows s₁ s₂ n
  pub by_first : Follows s₂ s₁ n
  -- "if neither meets one, both make equally many steps and answer the same stop"
  pub same_steps : NoneUpTo s₁ (call_of s₁ n).steps → NoneUpTo s₂ (call_of s₂ n).steps
      → (call_of s₁ n).steps ≡ (call_of s₂ n).steps
  pub same_stop : NoneUpTo s₁ (call_of s₁ n).steps → NoneUpTo s₂ (call_of s₂ n).steps
      → (call_of s₁ n).ending ≡ (call_of s₂ n).ending

abbrev pub PlainDemand3 : Type 0
PlainDemand3 = (s₁ s₂ : Start) (n : ℕ) → PlainPremises s₁ s₂ n → PlainAgreement s₁ s₂ n
