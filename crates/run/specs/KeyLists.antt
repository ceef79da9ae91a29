-- Key lists that are refused, in plain terms: 15 and 19 name the first entry that offends, and the calls accepted are
-- those that were accepted while 15 stood for both.
use Rattle.std.specs.Prelude.{Ok, Err}
use Rattle.std.specs.Prelude.{ℕ, zero, suc, ◌<◌, ◌≡◌, Bool, true, false, ◌||◌, List, [], ◌∷◌, ltb, length, get_or}
use Rattle.run.specs.declared.Refusal.TheVariants.{MemorySize, UndefinedRecord, TooManySteps, UnequalLists}
use Rattle.run.specs.declared.Refusal.TheVariants.{TimeBelowClock, TimesOutOfOrder}
use Rattle.run.specs.Run.{Start}
use Rattle.run.specs.Refusals.{wrong_size, undefined_record, too_many_steps, unequal_lists, Admission, Accepted}
use Rattle.run.specs.Refusals.{times_admission, admission_of}

abbrev pub below_clock : ℕ → List ℕ → ℕ → Bool
below_clock clock times i = ltb (get_or times i 0) clock

-- Entry i is below the one before it; the first has none before it.
abbrev pub below_previous : List ℕ → ℕ → Bool
below_previous times zero = false
below_previous times (suc i) = ltb (get_or times (suc i) 0) (get_or times i 0)

abbrev pub offends : ℕ → List ℕ → ℕ → Bool
offends clock times i = below_clock clock times i || below_previous times i

-- Entry i is the least that offends.
pub record FirstOffence (clock : ℕ) (times : List ℕ) (i : ℕ) : Type 0 where
  pub listed : i < length times
  pub offending : offends clock times i ≡ true
  pub none_before : (j : ℕ) → j < i → offends clock times j ≡ false

abbrev pub NoOffence : ℕ → List ℕ → Type 0
NoOffence clock times = (i : ℕ) → i < length times → offends clock times i ≡ false

-- What an answer to the times says of them. The other refusals are none of theirs.
abbrev pub Says : ℕ → List ℕ → Admission → Type 0
Says clock times (Ok _) = NoOffence clock times
Says clock times (Err MemorySize) = ⊥
Says clock times (Err UndefinedRecord) = ⊥
Says clock times (Err TooManySteps) = ⊥
Says clock times (Err UnequalLists) = ⊥
Says clock times (Err (TimeBelowClock i)) = FirstOffence clock times i × (below_clock clock times i ≡ true)
Says clock times (Err (TimesOutOfOrder i)) = FirstOffence clock times i × (below_clock clock times i ≡ false)

-- The answer is the one that says what is so, and where that is so it is the answer.
pub record FirstOffenceIsAnswered (clock : ℕ) (times : List ℕ) : Type 0 where
  pub answer : Says clock times (times_admission clock clock 0 times)
  pub at_15 : (i : ℕ) → FirstOffence clock times i → below_clock clock times i ≡ true
      → times_admission clock clock 0 times ≡ Err (TimeBelowClock i)
  pub at_19 : (i : ℕ) → FirstOffence clock times i → below_clock clock times i ≡ false
      → times_admission clock clock 0 times ≡ Err (TimesOutOfOrder i)
  pub accepted : NoOffence clock times → times_admission clock clock 0 times ≡ Accepted

-- What 15 was before M22: "a time is below the clock or below the one before it".
unfoldable pub out_of_order : ℕ → List ℕ → Bool
out_of_order t [] = false
out_of_order t (u ∷ times) = ltb u t || out_of_order u times

-- One of the five refusals that there were before M22 applies.
abbrev pub refused_before : Start → ℕ → Bool
refused_before s n =
    wrong_size s.memory || undefined_record s.machine || too_many_steps s.machine.clock n
    || unequal_lists s.times s.bytes
    || out_of_order s.machine.clock s.times

pub record AcceptedAsBefore (s : Start) (n : ℕ) : Type 0 where
  pub accepted_before : admission_of s n ≡ Accepted → refused_before s n ≡ false
  pub accepted_still : refused_before s n ≡ false → admission_of s n ≡ Accepted

pub record KeyLists : Type 0 where
  pub first_offence_is_answered : (clock : ℕ) (times : List ℕ) → FirstOffenceIsAnswered clock times
  pub accepted_as_before : (s : Start) (n : ℕ) → AcceptedAsBefore s n
