-- A claim as numbers: what each word is, and the table in one flat list. Every list of numbers is a claim.
use Rattle.std.specs.Prelude.{ℕ, zero, suc, ◌-◌, ◌*◌, ◌/◌, ◌%◌, min, cond, List, [], ◌∷◌, eqb, length}
use Rattle.std.specs.Prelude.{get_or, take, drop}
use Rattle.sitting.specs.Values.{Value, value_by}
use Rattle.sitting.specs.Test.{Cell, fixed, own, hidden, State, Row, Claim}
use Rattle.sitting.specs.Certified.{Loaded}

-- What a word is: 1 one that never changes, with what stands there; 2 the monitor's own; any other number, secret.
unfoldable pub cell_of : ℕ → ℕ → Cell
cell_of kind word = cond (eqb kind 1) (fixed word) (cond (eqb kind 2) own hidden)

unfoldable pub cells_of : List ℕ → List ℕ → List Cell
cells_of [] memory = []
cells_of (kind ∷ kinds) [] = []
cells_of (kind ∷ kinds) (word ∷ memory) = cell_of kind word ∷ cells_of kinds memory

-- A value is one number: its kind times 65,536, and its number.
unfoldable pub value_of : ℕ → Value
value_of n = value_by (n / 65536) (n % 65536)

unfoldable pub values_of : List ℕ → List Value
values_of [] = []
values_of (n ∷ ns) = value_of n ∷ values_of ns

-- A state is 17 numbers: R0 to R7, the codes, and eight watched words.
unfoldable pub state_of : List ℕ → State
state_of ns = record {
  regs = values_of (take 8 ns);
  codes = value_of (get_or ns 8 0);
  words = values_of (drop 9 ns);
}

-- So many states.
unfoldable pub states_of : ℕ → List ℕ → Row
states_of zero ns = []
states_of (suc n) ns = state_of (take 17 ns) ∷ states_of n (drop 17 ns)

-- The states from `start` up to `end`, which are numbers of states. A row that ends past the table ends with it.
abbrev pub row_of : List ℕ → ℕ → ℕ → Row
row_of table start end = states_of (min end (length table / 17) - start) (drop (start * 17) table)

-- A row begins where the one before it ends.
unfoldable pub rows_of : List ℕ → ℕ → List ℕ → List Row
rows_of table start [] = []
rows_of table start (end ∷ ends) = row_of table start end ∷ rows_of table end ends

-- A claim with any table, and with the one of these numbers.
abbrev pub claim_with : List ℕ → List ℕ → ℕ → List ℕ → List Row → Claim
claim_with memory kinds lowest watched rows = record {
  cells = cells_of kinds memory;
  lowest = lowest;
  watched = watched;
  table = rows;
}

abbrev pub claim_of : List ℕ → List ℕ → ℕ → List ℕ → List ℕ → List ℕ → Claim
claim_of memory kinds lowest watched ends table = claim_with memory kinds lowest watched (rows_of table 0 ends)

-- Where row k begins.
unfoldable pub start_of : ℕ → List ℕ → ℕ → ℕ
start_of start ends zero = start
start_of start [] (suc k) = start
start_of start (end ∷ ends) (suc k) = start_of end ends k

-- The memory that the words were taken from has the monitor in it.
abbrev pub TestedIsLoaded : Type 0
TestedIsLoaded = (memory kinds : List ℕ) → Loaded (cells_of kinds memory) memory
