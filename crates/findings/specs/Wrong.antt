-- Whatever `certify` finds wrong is wrong: what a finding says of the claim is true, at the word and in the state that
-- are named.
use Rattle.std.specs.Prelude.{ℕ, ◌+◌, ◌*◌, ◌/◌, ◌≤◌, ◌<◌, min, ◌≡◌, Bool, true, false, List, eqb, length, get_or, take}
use Rattle.std.specs.Prelude.{drop}
use Rattle.word.specs.Reading.{read_of}
use Rattle.sitting.specs.Test.{Cell, fixed, own, hidden, cell_at, State, Claim, value_in, sound, harmless, leads_in}
use Rattle.sitting.specs.Test.{leads_back, room_holds}
use Rattle.claims.specs.Encoding.{state_of, start_of, claim_of}
use Rattle.findings.specs.declared.Certified.{Certified}
use Rattle.findings.specs.Finding.{nothing_wrong, wrong, certify_of}

-- State k of the table.
abbrev pub state_in : List ℕ → ℕ → State
state_in table k = state_of (take 17 (drop (k * 17) table))

-- It is one of row j, which is of the word x0200 + j.
pub record InRow (ends table : List ℕ) (j k : ℕ) : Type 0 where
  pub row : j < length ends
  pub from : start_of 0 ends j ≤ k
  pub below : k < min (get_or ends j 0) (length table / 17)

unfoldable pub is_fixed : Cell → Bool
is_fixed (fixed w) = true
is_fixed own = false
is_fixed hidden = false

-- What each finding says. (`leads_in`, `leads_back`, `room_holds`, `sound` and `harmless` are the parts of the test,
-- crates/sitting/specs/Test.antt.)
pub data IsTrue (c : Claim) (ends table : List ℕ) (r : Certified) : Type 0 where
  nothing : r ≡ nothing_wrong → IsTrue c ends table r
  not_eight_watched : r ≡ wrong 1 0 0 → eqb (length c.watched) 8 ≡ false → IsTrue c ends table r
  no_room : r ≡ wrong 2 0 0 → room_holds c ≡ false → IsTrue c ends table r
  no_entry : (a : ℕ) → r ≡ wrong 3 a 0 → leads_in c (cell_at c.cells a) ≡ false → IsTrue c ends table r
  no_return : (a : ℕ) → r ≡ wrong 4 a 0 → leads_back c (cell_at c.cells a) ≡ false → IsTrue c ends table r
  not_fixed : (j k : ℕ) → r ≡ wrong 5 (0x0200 + j) k → InRow ends table j k
      → is_fixed (cell_at c.cells (0x0200 + j)) ≡ false → IsTrue c ends table r
  not_sound : (j k : ℕ) → r ≡ wrong 6 (0x0200 + j) k → InRow ends table j k
      → sound c (value_in (state_in table k).regs 6) (state_in table k).words ≡ false → IsTrue c ends table r
  not_harmless : (j k w : ℕ) → r ≡ wrong 7 (0x0200 + j) k → InRow ends table j k
      → cell_at c.cells (0x0200 + j) ≡ fixed w → harmless c (0x0200 + j) (read_of w) (state_in table k) ≡ false
      → IsTrue c ends table r

abbrev pub FindingsAreTrue : Type 0
FindingsAreTrue =
    (memory kinds : List ℕ) (lowest : ℕ) (watched ends table : List ℕ)
    → IsTrue (claim_of memory kinds lowest watched ends table) ends table
    (certify_of memory kinds lowest watched ends table)
