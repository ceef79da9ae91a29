-- What an instruction leads to: the address, or none where it may not be obeyed, and the state after it.
use Rattle.std.specs.Prelude.{ℕ, ◌≡◌, Bool, false, List, Option, Some, None}
use Rattle.sitting.specs.Test.{State, Row, Claim, accepts}

-- The table accepts it.
abbrev pub reaches : Claim → Option ℕ → State → Bool
reaches c None σ = false
reaches c (Some a) σ = accepts c a σ

-- Whatever the table is: it accepts what the instruction leads to exactly where the test of the instruction holds.
abbrev pub Leads : (List Row → Claim) → Option ℕ → State → (Claim → Bool) → Type 0
Leads claim to σ test = (rows : List Row) → reaches (claim rows) to σ ≡ test (claim rows)
