-- What a step does to a whole state.
use Rattle.std.specs.Prelude.{ℕ, List, map}
use Rattle.sitting.specs.Values.{Value, forget}
use Rattle.sitting.specs.Test.{State, stored_in}

-- What is left of a state where R0 changes.
abbrev pub forget_state : State → State
forget_state σ = record { regs = map forget σ.regs; codes = forget σ.codes; words = map forget σ.words }

-- A state after the word at a takes a value.
abbrev pub remember_in : List ℕ → ℕ → Value → State → State
remember_in ws a v σ = record { regs = σ.regs; codes = σ.codes; words = stored_in a v ws σ.words }
