-- The log (M26): "A logged run writes three words a step to a lent log." It is defined by either edition (M27.9): what
-- may be fetched is the edition's to say. The names without `By` are those of the third edition's step.
use Rattle.std.specs.Prelude.{ℕ, zero, suc, ◌+◌, Bool, List, [], ◌∷◌, ◌++◌, ltb, length}
use Rattle.machine.specs.declared.Rule.{Rule}
use Rattle.machine.specs.Edition.{Edition, third}
use Rattle.machine.specs.Step.{step_by}
use Rattle.machine.specs.Rules.{rule_of, rule_number, fetched_word_by}
use Rattle.run.specs.Run.{Start, End, next_step_by, run_by}

-- The rule of the step that the run would make next, from the cause in that step's outcome.
unfoldable pub next_rule_by : Edition → Start → End → Rule
next_rule_by edition s e = rule_of (next_step_by (step_by edition) s e).cause

-- The step's entry: "PC before the step, the word fetched .., and the reason".
unfoldable pub entry_by : Edition → Start → End → List ℕ
entry_by edition s e =
    e.machine.pc ∷ fetched_word_by edition (next_rule_by edition s e) e.machine e.memory
    ∷ rule_number (next_rule_by edition s e) ∷ []

-- "Fewer than three log words are free", where so many are written.
unfoldable pub lacks_room : List ℕ → ℕ → Bool
lacks_room log words = ltb (length log) (words + 3)

-- The entries of the first k steps of a run, one after the other.
unfoldable pub entries_by : Edition → Start → ℕ → List ℕ
entries_by edition s zero = []
entries_by edition s (suc k) = entries_by edition s k ++ entry_by edition s (run_by (step_by edition) s k)

-- ---- by the third edition

abbrev pub next_rule : Start → End → Rule
next_rule = next_rule_by third

abbrev pub entry_of : Start → End → List ℕ
entry_of = entry_by third

abbrev pub entries_of : Start → ℕ → List ℕ
entries_of = entries_by third
