-- A statement of text: a mnemonic with its operands; data, TRAP and BR, whose mnemonic has letters added.
use Rattle.std.specs.Prelude.{ℕ, ◌/◌, ◌%◌, cond, List, [], ◌∷◌, ◌++◌, eqb, ℤ}
use Rattle.text.specs.Characters.{line_feed, space, comma, dot, A, B, F, I, L, P, R, T, lower_n, lower_z, lower_p}
use Rattle.text.specs.Operands.{signed_number, hex2, hex4}

-- a mnemonic, a space, and the operands parted by a comma and a space; neither space nor operands where there are none.
-- A line ends in a line feed
abbrev pub others : List (List ℕ) → List ℕ
others [] = line_feed ∷ []
others (operand ∷ more) = comma ∷ space ∷ operand ++ others more

abbrev pub statement : List ℕ → List (List ℕ) → List ℕ
statement mnemonic [] = mnemonic ++ line_feed ∷ []
statement mnemonic (operand ∷ more) = mnemonic ++ (space ∷ operand ++ others more)

-- those of n, z, p that a BR tests, in that order
abbrev pub code : ℕ → ℕ → List ℕ
code bit letter = cond (eqb bit 1) (letter ∷ []) []

abbrev pub codes : ℕ → List ℕ
codes mask = code (mask / 4 % 2) lower_n ++ code (mask / 2 % 2) lower_z ++ code (mask % 2) lower_p

-- the word as data, in four digits
abbrev pub fill_line : ℕ → List ℕ
fill_line w = statement (dot ∷ F ∷ I ∷ L ∷ L ∷ []) (hex4 w ∷ [])

abbrev pub trap_line : ℕ → List ℕ
trap_line v = statement (T ∷ R ∷ A ∷ P ∷ []) (hex2 v ∷ [])

abbrev pub branch_line : ℕ → ℤ → List ℕ
branch_line mask n = statement (B ∷ R ∷ codes mask) (signed_number n ∷ [])
