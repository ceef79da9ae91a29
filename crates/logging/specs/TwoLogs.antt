-- Two logged runs under the secrecy rule: "Two runs that satisfy the secrecy rule's premises, with logs of equal
-- length, also log alike up to and including their first trap or exception." What the logs held before may differ, so
-- the claim is about the words written.
use Rattle.std.specs.Prelude.{ℕ, suc, ◌*◌, ◌<◌, ◌≡◌, true, false, List, length, take}
use Rattle.machine.specs.Psr.{in_user_mode}
use Rattle.machine.specs.Visible.{SameVisible}
use Rattle.machine.specs.Causes.{takes_interrupt}
use Rattle.run.specs.Run.{Start}
use Rattle.run.specs.Refusals.{admission_of, Accepted}
use Rattle.run.specs.Noninterference.{cause_at, NoneBefore, First, Premises}
use Rattle.logging.specs.LoggedRun.{Logged}
use Rattle.logging.specs.LoggedCall.{logged_call_of}

-- Step k is logged by the call.
abbrev pub Logs : Start → List ℕ → ℕ → ℕ → Type 0
Logs s log n k = k < (logged_call_of s log n).steps

-- The secrecy rule's premises, of the two logged runs: each takes no interrupt before its first trap or exception, in
-- the steps that it makes. Two runs that satisfy `Premises` satisfy these too, whatever their logs.
pub record LoggedPremises (s₁ s₂ : Start) (log₁ log₂ : List ℕ) (n : ℕ) : Type 0 where
  pub accepted₁ : admission_of s₁ n ≡ Accepted
  pub accepted₂ : admission_of s₂ n ≡ Accepted
  pub user_mode_lem : in_user_mode s₁.machine.psr ≡ true
  pub same_visible : SameVisible s₁.machine s₂.machine s₁.memory s₂.memory
  pub no_interrupt₁ : (j : ℕ) → Logs s₁ log₁ n j → NoneBefore s₁ j → takes_interrupt (cause_at s₁ j) ≡ false
  pub no_interrupt₂ : (j : ℕ) → Logs s₂ log₂ n j → NoneBefore s₂ j → takes_interrupt (cause_at s₂ j) ≡ false

-- The first k entries of two logs are equal.
abbrev pub SameEntries : ℕ → Logged → Logged → Type 0
SameEntries k l₁ l₂ = take (3 * k) l₁.log ≡ take (3 * k) l₂.log

-- Step k is up to and including a run's first trap or exception where none is before it.
pub record LogAlike (s₁ s₂ : Start) (log₁ log₂ : List ℕ) (n : ℕ) (l₁ l₂ : Logged) : Type 0 where
  -- such a step that one logs, the other logs
  pub logged_by_second : (k : ℕ) → Logs s₁ log₁ n k → NoneBefore s₁ k → Logs s₂ log₂ n k
  pub logged_by_first : (k : ℕ) → Logs s₂ log₂ n k → NoneBefore s₂ k → Logs s₁ log₁ n k
  -- with the same words, its own and those of the steps before
  pub same_words : (k : ℕ) → Logs s₁ log₁ n k → NoneBefore s₁ k → SameEntries (suc k) l₁ l₂
  -- so up to and including the first, where it is logged
  pub up_to_first : (k vector psr pc : ℕ) → First s₁ n k vector psr pc → Logs s₁ log₁ n k → SameEntries (suc k) l₁ l₂
  -- where no step logged meets one, both log equally many steps with the same words; and logs that were lent alike are
  -- left alike
  pub same_steps : NoneBefore s₁ l₁.steps → l₁.steps ≡ l₂.steps
  pub all_words : NoneBefore s₁ l₁.steps → SameEntries l₁.steps l₁ l₂
  pub same_log : NoneBefore s₁ l₁.steps → log₁ ≡ log₂ → l₁.log ≡ l₂.log

pub record LogsDoNotTell : Type 0 where
  pub premises_carry_over : (s₁ s₂ : Start) (log₁ log₂ : List ℕ) (n : ℕ) → Premises s₁ s₂ n
      → LoggedPremises s₁ s₂ log₁ log₂ n
  pub log_alike : (s₁ s₂ : Start) (log₁ log₂ : List ℕ) (n : ℕ) → LoggedPremises s₁ s₂ log₁ log₂ n
      → length log₁ ≡ length log₂
      → LogAlike s₁ s₂ log₁ log₂ n (logged_call_of s₁ log₁ n) (logged_call_of s₂ log₂ n)
