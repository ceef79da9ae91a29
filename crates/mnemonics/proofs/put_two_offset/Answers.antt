-- `mnemonics::put_two_offset` meets its contract: the parts of the line, one after the other.
use Rattle.std.proofs.Common.{to_z-of_z}
use Rattle.text.proofs.Placing.{wrote_then}
use Rattle.mnemonics.proofs.put_two_offset.Goals as goal

pub returns : goal.returns
returns c =
    wrote_then c.put_text.ensures (wrote_then c.put_operand.ensures
    (wrote_then c.put_operand-2.ensures (rw (to_z-of_z c.ranges.n) at c.put_last_number.ensures)))
