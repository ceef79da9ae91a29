-- What an instruction leads to that may also branch, or return to User mode.
use Rattle.std.specs.Prelude.{◌≡◌, Bool, true, false, List, Option, Some, None}
use Rattle.sitting.specs.Test.{State, Row, Claim, accepts, branches}
use Rattle.ways.specs.declared.Way.{Way}
use Rattle.ways.specs.declared.Way.TheVariants.{To, Fork, Out}

-- The table accepts what the instruction leads to.
unfoldable pub way_holds : Claim → Way → State → Bool
way_holds c (To a) σ = accepts c a σ
way_holds c (Fork mask there here) σ = branches c σ.codes mask there here σ
way_holds c Out σ = true

-- And it may be obeyed.
abbrev pub goes : Claim → Option Way → State → Bool
goes c None σ = false
goes c (Some way) σ = way_holds c way σ

-- `Leads` of crates/accesses, of such an instruction.
abbrev pub Goes : (List Row → Claim) → Option Way → State → (Claim → Bool) → Type 0
Goes claim way σ test = (rows : List Row) → goes (claim rows) way σ ≡ test (claim rows)
