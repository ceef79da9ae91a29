-- The lines of the table, by computation.
use mathlib.Core.Path.{refl}
use Rattle.word.specs.Reading.{read_of}
use Rattle.word.specs.FixedBits.{fixed_of}
use Rattle.text.specs.Operands.{digits, decimal}
use Rattle.line.specs.Line.{line_of}
use Rattle.line.specs.Examples.{LinesHold}

pub lines_hold : LinesHold
unfolding line_of read_of fixed_of decimal digits
lines_hold = refl
