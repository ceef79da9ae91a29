-- What `lc3_certify` is handed as numbers, and what they say: the words of a claim, its values, states and rows. What
-- it answers of them is in crates/certify_examples.
use Rattle.std.specs.Prelude.{ℕ, zero, suc, ◌+◌, ◌≡◌, List, [], ◌∷◌}
use Rattle.sitting.specs.Values.{Value, unset, any, is, high, low, sum, allowed}
use Rattle.sitting.specs.Test.{Cell, fixed, own, hidden, State, Row, Claim}
use Rattle.claims.specs.Encoding.{cells_of, values_of, state_of, rows_of, claim_of}

-- So many numbers from n on, and so many known values.
abbrev pub up_from : ℕ → ℕ → List ℕ
up_from zero n = []
up_from (suc k) n = n ∷ up_from k (suc n)

abbrev pub known : ℕ → ℕ → List Value
known zero n = []
known (suc k) n = is n ∷ known k (suc n)

-- The state of 17 values from n on, and three of them as numbers, with 16 numbers more that are no state.
abbrev pub state_from : ℕ → State
state_from n = record { regs = known 8 n; codes = is (n + 8); words = known 8 (n + 9) }

abbrev pub three_states : List ℕ
three_states = up_from 67 0x20001

pub record ClaimsHold : Type 0 where
  -- 1 a word that never changes, 2 the monitor's own, any other number secret; as far as both lists go
  pub cells : cells_of (0 ∷ 1 ∷ 2 ∷ 3 ∷ 1 ∷ []) (10 ∷ 11 ∷ 12 ∷ 13 ∷ []) ≡ hidden ∷ fixed 11 ∷ own ∷ hidden ∷ []
  pub more_words : cells_of (1 ∷ []) (0xFFFF ∷ 8 ∷ []) ≡ fixed 0xFFFF ∷ []
  -- the kind of a value times 65,536, and its number
  pub values : values_of (0x0FFFF ∷ 0x10000 ∷ 0x2ABCD ∷ 0x30000 ∷ 0x4FFFF ∷ 0x5FFFF ∷ 0x60000 ∷ 0x70000 ∷ [])
      ≡ unset ∷ any ∷ is 0xABCD ∷ high ∷ low ∷ sum 0xFFFF ∷ allowed ∷ allowed ∷ []
  -- R0 to R7, the codes, and the watched words
  pub state : state_of (up_from 17 0x20001) ≡ state_from 1
  pub no_number : state_of [] ≡ record { regs = []; codes = unset; words = [] }
  -- a row begins where the one before it ends, and ends with the table
  pub rows : rows_of three_states 0 (1 ∷ 3 ∷ 3 ∷ 2 ∷ 9 ∷ [])
      ≡ (state_from 1 ∷ []) ∷ (state_from 18 ∷ state_from 35 ∷ []) ∷ [] ∷ [] ∷ (state_from 35 ∷ []) ∷ []
  pub claim : claim_of (0x1111 ∷ 0x2222 ∷ []) (1 ∷ 2 ∷ []) 5 (6 ∷ 7 ∷ []) (1 ∷ []) (up_from 17 0x20001)
      ≡ record {
        cells = fixed 0x1111 ∷ own ∷ [];
        lowest = 5;
        watched = 6 ∷ 7 ∷ [];
        table = (state_from 1 ∷ []) ∷ [];
      }
