-- What is proved of lines. Each statement is a type; its proof, of the same name in small letters, is in proofs/.
use Rattle.std.specs.Prelude.{ℕ, ◌<◌, ◌≤◌, ◌≡◌, length}
use Rattle.text.specs.Characters.{codes_in}
use Rattle.text.specs.Operands.{decimal}
use Rattle.line.specs.Line.{line_of}

-- The digits determine the number.
abbrev pub DecimalDetermines : Type 0
DecimalDetermines = (m n : ℕ) → decimal m ≡ decimal n → m ≡ n

-- Distinct words give distinct lines.
abbrev pub DistinctWordsGiveDistinctLines : Type 0
DistinctWordsGiveDistinctLines = (v w : ℕ) → v < 65536 → w < 65536 → line_of v ≡ line_of w → v ≡ w

-- x14E7 gives ADD R2, R3, #7.
abbrev pub ExampleLine : Type 0
ExampleLine = line_of 0x14E7 ≡ codes_in "ADD R2, R3, #7\n"

-- No line is longer than 17 bytes, its line feed included.
abbrev pub LongestLine : Type 0
LongestLine = (w : ℕ) → w < 65536 → length (line_of w) ≤ 17
