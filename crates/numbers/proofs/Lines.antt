-- Each line, by computation.
use mathlib.Core.Path.{refl}
use Rattle.word.specs.Reading.{read_of}
use Rattle.word.specs.FixedBits.{fixed_of}
use Rattle.text.specs.Operands.{digits, decimal}
use Rattle.line.specs.Line.{line_of}
use Rattle.lines.specs.Page.{lines_of}
use Rattle.numbers.specs.Lines.{LinesApart}

pub lines_apart : LinesApart
unfolding read_of fixed_of digits decimal line_of lines_of
lines_apart = record { in_order = refl; jmp_r6 = refl; jsrr_r7 = refl }
