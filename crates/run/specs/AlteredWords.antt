-- How far altered words can reach, for any set of words: two accepted runs with equal inputs but for the words of a set
-- agree in all but those words as long as no step takes one of them. A word that a store or push replaces is altered no
-- longer. The step is an argument: it holds by both editions' rules.
use Rattle.std.specs.Prelude.{ℕ, zero, suc, ◌≤◌, ◌<◌, ◌≡◌, Bool, false, List}
use Rattle.machine.specs.Edition.{Edition}
use Rattle.machine.specs.Step.{Step, step_by}
use Rattle.footprint.specs.Altered.{SameOutside, still_altered, NoneAltered}
use Rattle.run.specs.declared.Ending.TheVariants.{OutputFull}
use Rattle.run.specs.Run.{Start, End, next_step_by}
use Rattle.run.specs.Refusals.{admission_of, Accepted}
use Rattle.run.specs.Call.{call_by}

-- ---- one run

-- The lent words from which step number k takes: fetches, loads, pops, vectors and pointers.
unfoldable pub reads_at : Step → Start → ℕ → List ℕ
reads_at step s k = (next_step_by step s (call_by step s k)).reads

-- Those that it stores or pushes to.
unfoldable pub writes_at : Step → Start → ℕ → List ℕ
writes_at step s k = (next_step_by step s (call_by step s k)).writes

-- The words altered at the start that the first k steps have not replaced.
unfoldable pub altered_after : Step → (ℕ → Bool) → Start → ℕ → (ℕ → Bool)
altered_after step altered s zero = altered
altered_after step altered s (suc k) = still_altered (writes_at step s k) (altered_after step altered s k)

-- None of the first k steps takes from a word that is still altered.
pub record Unread (step : Step) (altered : ℕ → Bool) (s : Start) (k : ℕ) : Type 0 where
  pub unread : (j : ℕ) → j < k → NoneAltered (altered_after step altered s j) (reads_at step s j)

-- The run of n makes k steps before the first that does, or in all where none does.
pub record UnreadUpTo (step : Step) (altered : ℕ → Bool) (s : Start) (n k : ℕ) : Type 0 where
  pub made : k ≤ (call_by step s n).steps
  pub none_takes : Unread step altered s k

-- ---- two runs

-- Equal inputs but for the altered words.
pub record Variants (altered : ℕ → Bool) (s₁ s₂ : Start) : Type 0 where
  pub machine : s₁.machine ≡ s₂.machine
  pub memory : SameOutside altered s₁.memory s₂.memory
  pub times : s₁.times ≡ s₂.times
  pub bytes : s₁.bytes ≡ s₂.bytes
  pub output : s₁.output ≡ s₂.output

-- Equal answers and outputs, and equal memories but for the altered words.
pub record SameEnds (altered : ℕ → Bool) (e₁ e₂ : End) : Type 0 where
  pub machine : e₁.machine ≡ e₂.machine
  pub memory : SameOutside altered e₁.memory e₂.memory
  pub output : e₁.output ≡ e₂.output
  pub steps : e₁.steps ≡ e₂.steps
  pub keys : e₁.keys ≡ e₂.keys
  pub shown : e₁.shown ≡ e₂.shown
  pub ending : e₁.ending ≡ e₂.ending

pub record VariantRuns (altered : ℕ → Bool) (s₁ s₂ : Start) (n : ℕ) : Type 0 where
  pub accepted₁ : admission_of s₁ n ≡ Accepted
  pub accepted₂ : admission_of s₂ n ≡ Accepted
  pub variants : Variants altered s₁ s₂

-- The runs of n steps end alike, but for the words that are altered still.
abbrev pub EndAlike : Step → (ℕ → Bool) → Start → Start → ℕ → Type 0
EndAlike step altered s₁ s₂ n =
    SameEnds (altered_after step altered s₁ (call_by step s₁ n).steps) (call_by step s₁ n) (call_by step s₂ n)

pub record AgreeWhileUnread (step : Step) (altered : ℕ → Bool) (s₁ s₂ : Start) (n : ℕ) : Type 0 where
  -- as many steps as one run makes before the first that takes from an altered word, the other makes
  pub reached_by_second : (k : ℕ) → UnreadUpTo step altered s₁ n k → UnreadUpTo step altered s₂ n k
  pub reached_by_first : (k : ℕ) → UnreadUpTo step altered s₂ n k → UnreadUpTo step altered s₁ n k
  -- after each of these steps all is equal but the altered words
  pub same : (k : ℕ) → UnreadUpTo step altered s₁ n k
      → SameEnds (altered_after step altered s₁ k) (call_by step s₁ k) (call_by step s₂ k)
  -- each of them takes from the same words in both runs, and stores or pushes to the same
  pub same_words : (k : ℕ) → UnreadUpTo step altered s₁ n k → (j : ℕ) → j < k
      → (reads_at step s₁ j ≡ reads_at step s₂ j) × (writes_at step s₁ j ≡ writes_at step s₂ j)
  -- where no step of either run does, counts and stop too
  pub same_to_the_end : Unread step altered s₁ (call_by step s₁ n).steps
      → Unread step altered s₂ (call_by step s₂ n).steps
      → EndAlike step altered s₁ s₂ n
  -- so too by the first run alone, where the step that a full output stopped it before would take from none: a whole
  -- sitting tells nothing of words that nobody reads
  pub same_by_first : Unread step altered s₁ (call_by step s₁ n).steps
      → ((call_by step s₁ n).ending ≡ OutputFull
      → NoneAltered (altered_after step altered s₁ (call_by step s₁ n).steps)
      (reads_at step s₁ (call_by step s₁ n).steps))
      → EndAlike step altered s₁ s₂ n
  -- and once each altered word has been replaced, the runs are equal from there to the end
  pub equal_once_replaced : (k : ℕ) → UnreadUpTo step altered s₁ n k
      → ((a : ℕ) → altered_after step altered s₁ k a ≡ false)
      → (i : ℕ) → k ≤ i → i ≤ n → call_by step s₁ i ≡ call_by step s₂ i

abbrev pub AlteredWords : Type 0
AlteredWords = (edition : Edition) (altered : ℕ → Bool) (s₁ s₂ : Start) (n : ℕ) → VariantRuns altered s₁ s₂ n
    → AgreeWhileUnread (step_by edition) altered s₁ s₂ n
