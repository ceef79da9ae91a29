-- TRAP in a routine, for whatever table: the state after its two words are pushed.
use Rattle.std.specs.Prelude.{ℕ, ◌-◌, List}
use Rattle.machine.specs.Words.{next}
use Rattle.sitting.specs.Values.{is, low, taking}
use Rattle.sitting.specs.Test.{State, stored_in}

abbrev pub pushed : List ℕ → ℕ → ℕ → State → State
pushed watched pc sp σ = record {
  regs = taking 6 (is (sp - 2)) σ.regs;
  codes = σ.codes;
  words = stored_in (sp - 2) (is (next pc)) watched (stored_in (sp - 1) low watched σ.words);
}
