-- The code's own claims, states, values and words, as those of the test (crates/sitting/specs/Test.antt).
use Rattle.std.specs.Prelude.{ℕ, List, map}
use Rattle.sitting.specs.Values.{Value, unset, any, is, high, low, sum, allowed}
use Rattle.sitting.specs.Test.{Cell, fixed, own, hidden, State, Row, Claim}
use Rattle.claims.specs.Encoding.{value_of, rows_of, claim_with, claim_of}
use Rattle.claims.specs.declared.Claim.{Claim as Numbers}
use Rattle.claims.specs.declared.values.Known.{Known}
use Rattle.claims.specs.declared.values.Known.TheVariants.{Unset, Any, Is, High, Low, Sum, Allowed}
use Rattle.claims.specs.declared.states.State.{State as Values}
use Rattle.claims.specs.declared.cells.Cell.{Cell as Word}
use Rattle.claims.specs.declared.cells.Cell.TheVariants.{Fixed, Own, Hidden}

abbrev pub known : Known → Value
known Unset = unset
known Any = any
known (Is n) = is n
known High = high
known Low = low
known (Sum n) = sum n
known Allowed = allowed

abbrev pub known_state : Values → State
known_state s = record { regs = map value_of s.regs; codes = value_of s.codes; words = map value_of s.words }

abbrev pub known_cell : Word → Cell
known_cell (Fixed w) = fixed w
known_cell Own = own
known_cell Hidden = hidden

-- The claim with any table; with any stack and any watched words; and with its own.
abbrev pub claim_by : Numbers → List Row → Claim
claim_by c = claim_with c.memory.now c.kinds.now c.lowest c.watched.now

abbrev pub claim_watching : Numbers → ℕ → List ℕ → Claim
claim_watching c lowest watched = claim_of c.memory.now c.kinds.now lowest watched c.ends.now c.table.now

abbrev pub claim_in : Numbers → Claim
claim_in c = claim_by c (rows_of c.table.now 0 c.ends.now)
