-- `mnemonics::put_one` meets its contract: the parts of the line, one after the other.
use Rattle.text.proofs.Placing.{wrote_then}
use Rattle.mnemonics.proofs.put_one.Goals as goal

pub returns : goal.returns
returns c =
    wrote_then c.put_text.ensures (wrote_then c.put_operand.ensures c.put.ensures)
