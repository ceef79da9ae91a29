-- How far one altered word can reach: M28, clause by clause, over the calls.
use Rattle.std.specs.Prelude.{ℕ, suc, ◌≤◌, ◌<◌, ◌≡◌, Bool, true, false, eqb, set}
use Rattle.machine.specs.Edition.{Edition}
use Rattle.machine.specs.Step.{Step, step_by}
use Rattle.footprint.specs.Altered.{is_among}
use Rattle.run.specs.declared.Ending.TheVariants.{OutputFull}
use Rattle.run.specs.Run.{Start}
use Rattle.run.specs.Refusals.{admission_of, Accepted}
use Rattle.run.specs.Call.{call_by}
use Rattle.run.specs.AlteredWords.{reads_at, writes_at, SameEnds}

-- "Equal inputs but one lent word": the same, with v as the word at address w.
unfoldable pub with_word : ℕ → ℕ → Start → Start
with_word w v s = record {
  machine = s.machine;
  memory = set s.memory w v;
  times = s.times;
  bytes = s.bytes;
  output = s.output;
}

-- Just the one address.
unfoldable pub only : ℕ → ℕ → Bool
only w a = eqb a w

-- Step number k "fetches, loads, pops or takes a vector or pointer from it".
unfoldable pub takes : Step → ℕ → Start → ℕ → Bool
takes step w s k = is_among w (reads_at step s k)

-- "A store or push replaces the word" in step number k.
unfoldable pub replaces : Step → ℕ → Start → ℕ → Bool
replaces step w s k = is_among w (writes_at step s k)

-- None of the first k steps takes from it.
pub record NotTaken (step : Step) (w : ℕ) (s : Start) (k : ℕ) : Type 0 where
  pub none : (j : ℕ) → j < k → takes step w s j ≡ false

-- The run of n makes k steps "before the first .. that" does, or in all where none does.
pub record NotTakenUpTo (step : Step) (w : ℕ) (s : Start) (n k : ℕ) : Type 0 where
  pub made : k ≤ (call_by step s n).steps
  pub not_taken : NotTaken step w s k

pub record Reach (step : Step) (w : ℕ) (s₁ s₂ : Start) (n : ℕ) : Type 0 where
  -- the other run is accepted too
  pub accepted : admission_of s₂ n ≡ Accepted
  -- "the first, in either run": as many steps as one run makes before its first, the other makes before its own
  pub reached_by_second : (k : ℕ) → NotTakenUpTo step w s₁ n k → NotTakenUpTo step w s₂ n k
  pub reached_by_first : (k : ℕ) → NotTakenUpTo step w s₂ n k → NotTakenUpTo step w s₁ n k
  -- "records and outputs agree, and memories except at that word, after every step before the first"
  pub same : (k : ℕ) → NotTakenUpTo step w s₁ n k → SameEnds (only w) (call_by step s₁ k) (call_by step s₂ k)
  -- "Where no step does, counts and stop agree too."
  pub same_to_the_end : NotTaken step w s₁ (call_by step s₁ n).steps → NotTaken step w s₂ (call_by step s₂ n).steps
      → SameEnds (only w) (call_by step s₁ n) (call_by step s₂ n)
  -- so too by the first run alone, where the step that a full output stopped it before would not take from it
  pub same_by_first : NotTaken step w s₁ (call_by step s₁ n).steps
      → ((call_by step s₁ n).ending ≡ OutputFull → takes step w s₁ (call_by step s₁ n).steps ≡ false)
      → SameEnds (only w) (call_by step s₁ n) (call_by step s₂ n)
  -- "If a store or push replaces the word in one of those earlier steps, the runs are equal from there to the end."
  pub equal_once_replaced : (k j : ℕ) → NotTakenUpTo step w s₁ n k → j < k → replaces step w s₁ j ≡ true
      → (i : ℕ) → suc j ≤ i → i ≤ n → call_by step s₁ i ≡ call_by step s₂ i

-- It holds of every accepted run, whatever the word and its other value, by both editions' rules.
abbrev pub OneAlteredWord : Type 0
OneAlteredWord = (edition : Edition) (w v : ℕ) (s : Start) (n : ℕ) → admission_of s n ≡ Accepted
    → Reach (step_by edition) w s (with_word w v s) n
