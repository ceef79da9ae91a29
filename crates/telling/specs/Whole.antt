-- Nothing is left out of what is told: the addresses are all those of the step's outcome, in its order; and the rule
-- and the word are those of a log by the same edition.
use Rattle.std.specs.Prelude.{ℕ, ◌≡◌, List, [], ◌∷◌, take}
use Rattle.machine.specs.declared.Machine.{Machine}
use Rattle.machine.specs.Edition.{Edition}
use Rattle.machine.specs.Outcome.{Outcome}
use Rattle.machine.specs.Rules.{rule_number}
use Rattle.machine.specs.Step.{step_by}
use Rattle.run.specs.Run.{Start, begin, next_step_by}
use Rattle.logging.specs.Log.{entry_by}
use Rattle.telling.specs.declared.Addresses.{Addresses}
use Rattle.telling.specs.declared.Told.{Told}
use Rattle.telling.specs.Told.{touched_in, told_of}

-- The list that is told.
abbrev pub words_in : Addresses → List ℕ
words_in l = take l.count (l.first ∷ l.second ∷ l.third ∷ [])

-- What is told of a step, in the terms of `Outcome`.
pub record ToldWhole (o : Outcome) : Type 0 where
  pub reads : words_in (touched_in o).reads ≡ o.reads
  pub writes : words_in (touched_in o).writes ≡ o.writes

abbrev pub StepsToldWhole : Type 0
StepsToldWhole = (e : Edition) (keys : List ℕ) (m : Machine) (mem : List ℕ) → ToldWhole (step_by e keys m mem)

-- The first entry of a log is PC, and the word and the reason told, by either edition.
abbrev pub entry_told : Start → Told → List ℕ
entry_told s t = s.machine.pc ∷ t.word ∷ rule_number t.touched.rule ∷ []

abbrev pub ToldAsLogged : Type 0
ToldAsLogged = (e : Edition) (s : Start)
    → entry_told s (told_of e s.machine s.memory (next_step_by (step_by e) s (begin s))) ≡ entry_by e s (begin s)
