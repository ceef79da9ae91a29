-- Words that are altered between two memories, and a step that takes none of them.
use Rattle.std.specs.Prelude.{ℕ, ◌≡◌, Bool, false, ◌&&◌, ◌||◌, not, List, [], ◌∷◌, eqb, length}
use Rattle.machine.specs.declared.Machine.{Machine}
use Rattle.machine.specs.Outcome.{Outcome}
use Rattle.machine.specs.Step.{Step}
use Rattle.footprint.specs.Footprint.{Each, SameWordAt}

-- Memories of one size that hold the same words but for those altered.
pub record SameOutside (altered : ℕ → Bool) (mem₁ mem₂ : List ℕ) : Type 0 where
  pub size : length mem₁ ≡ length mem₂
  pub words : (a : ℕ) → altered a ≡ false → SameWordAt mem₁ mem₂ a

unfoldable pub is_among : ℕ → List ℕ → Bool
is_among a [] = false
is_among a (b ∷ addresses) = eqb a b || is_among a addresses

-- The altered words that are left when words are stored at these addresses: a word that is replaced is altered no
-- longer.
unfoldable pub still_altered : List ℕ → (ℕ → Bool) → ℕ → Bool
still_altered addresses altered a = altered a && not (is_among a addresses)

-- None of these words is altered.
abbrev pub NoneAltered : (ℕ → Bool) → List ℕ → Type 0
NoneAltered altered addresses = Each (λ a. altered a ≡ false) addresses

-- Two outcomes are the same but for words that were altered and are not replaced.
pub record SameButAltered (altered : ℕ → Bool) (o₁ o₂ : Outcome) : Type 0 where
  pub machine : o₁.machine ≡ o₂.machine
  pub shown : o₁.shown ≡ o₂.shown
  pub cause : o₁.cause ≡ o₂.cause
  pub reads : o₁.reads ≡ o₂.reads
  pub writes : o₁.writes ≡ o₂.writes
  pub memory : SameOutside (still_altered o₁.writes altered) o₁.memory o₂.memory

-- A step that reads no altered word tells nothing of them.
abbrev pub AlteredWordsUnread : Step → Type 0
AlteredWordsUnread step = (altered : ℕ → Bool) (keys : List ℕ) (m : Machine) (mem₁ mem₂ : List ℕ)
    → SameOutside altered mem₁ mem₂ → NoneAltered altered (step keys m mem₁).reads
    → SameButAltered altered (step keys m mem₁) (step keys m mem₂)
