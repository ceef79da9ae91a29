-- A step that reads no altered word tells nothing of them: from what it reads and writes.
use Prim.Native.Nat.{ℕ, zero, suc}
use mathlib.Core.Path.{◌≡◌, refl, sym, subst}
use mathlib.Core.Bool.{Bool, true, false, ◌&&◌, ◌||◌, not, true≢false, false≢true}
use mathlib.Core.List.{List, [], ◌∷◌}
use native.Mathlib.Omega.{arith}
use lib.Dec.{eqb}
use lib.ListN.{length, get_or}
use borrow.Author.Tests.{eqb-true}
use Rattle.machine.specs.declared.Machine.{Machine}
use Rattle.machine.specs.Edition.{Edition}
use Rattle.machine.specs.Outcome.{Outcome}
use Rattle.machine.specs.Step.{step_by}
use Rattle.footprint.specs.Footprint.{Each, SameWordAt, SameEffect}
use Rattle.footprint.specs.Altered.{SameOutside, is_among, still_altered, NoneAltered, SameButAltered}
use Rattle.footprint.specs.Altered.{AlteredWordsUnread}
use Rattle.footprint.proofs.ReadWords.{step_reads}

-- ---- lists of addresses

each_by : (P Q : ℕ → Type 0) (addresses : List ℕ) → ((a : ℕ) → P a → Q a) → Each P addresses → Each Q addresses
each_by P Q [] f e = tt
each_by P Q (a ∷ addresses) f e = (f a e.0, each_by P Q addresses f e.1)

one_of_each : (P : ℕ → Type 0) (a : ℕ) (addresses : List ℕ) → is_among a addresses ≡ true → Each P addresses → P a
unfolding is_among
one_of_each P a [] h e = absurd (false≢true h)
one_of_each P a (b ∷ addresses) h e = go (eqb a b) refl h (λ i. one_of_each P a addresses i e.1)
  where
    go : (t : Bool) → eqb a b ≡ t → t || is_among a addresses ≡ true → (is_among a addresses ≡ true → P a) → P a
    go true q h rest = subst P (sym (eqb-true a b q)) e.0
    go false q h rest = rest h

-- ---- the step

module _ (altered : ℕ → Bool) (mem₁ mem₂ : List ℕ) (g : SameOutside altered mem₁ mem₂) (o₁ o₂ : Outcome)
    (s : SameEffect mem₁ mem₂ o₁ o₂)
  where
    -- A word that is altered no longer was not altered before, or has been written.
    same_after : (a : ℕ) → still_altered o₁.writes altered a ≡ false → SameWordAt o₁.memory o₂.memory a
    same_after a h = go (altered a) refl (is_among a o₁.writes) refl (unfold still_altered in h)
      where
        go : (p : Bool) → altered a ≡ p → (q : Bool) → is_among a o₁.writes ≡ q → (p && not q) ≡ false
            → SameWordAt o₁.memory o₂.memory a
        go false p q i h = s.kept a (g.words a p)
        go true p true i h = one_of_each _ a o₁.writes i s.written
        go true p false i h = absurd (true≢false h)

    same_but_altered : SameButAltered altered o₁ o₂
    same_but_altered = record {
      machine = s.machine;
      shown = s.shown;
      cause = s.cause;
      reads = s.reads;
      writes = s.writes;
      memory = record { size = s.size; words = same_after };
    }

pub altered_words_unread : (edition : Edition) → AlteredWordsUnread (step_by edition)
altered_words_unread edition altered keys m mem₁ mem₂ g n =
    let o₁ : Outcome = step_by edition keys m mem₁ in
    let o₂ : Outcome = step_by edition keys m mem₂ in
    same_but_altered altered mem₁ mem₂ g o₁ o₂
    (step_reads edition keys m mem₁ mem₂ g.size (each_by _ _ o₁.reads g.words n))

-- ---- memories

-- Where no word is altered, the memories are equal.
pub none_altered_all_same : (altered : ℕ → Bool) (mem₁ mem₂ : List ℕ) → ((a : ℕ) → altered a ≡ false)
    → SameOutside altered mem₁ mem₂ → mem₁ ≡ mem₂
none_altered_all_same altered mem₁ mem₂ n g = go mem₁ mem₂ g.size (λ a. g.words a (n a))
  where
    go : (xs ys : List ℕ) → length xs ≡ length ys → ((a : ℕ) → SameWordAt xs ys a) → xs ≡ ys
    go [] [] l f = refl
    go [] (y ∷ ys) l f = absurd (omega arith)
    go (x ∷ xs) [] l f = absurd (omega arith)
    go (x ∷ xs) (y ∷ ys) l f = cc (f zero, go xs ys (omega arith) (λ a. f (suc a)))
