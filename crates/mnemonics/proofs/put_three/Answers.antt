-- `mnemonics::put_three` meets its contract: the parts of the line, one after the other.
use Rattle.text.proofs.Placing.{wrote_then}
use Rattle.mnemonics.proofs.put_three.Goals as goal

pub returns : goal.returns
returns c =
    wrote_then c.put_text.ensures (wrote_then c.put_operand.ensures (wrote_then c.put_operand-2.ensures
    (wrote_then c.put_operand-3.ensures c.put.ensures)))
