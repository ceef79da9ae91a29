-- `mnemonics::put_branch` meets its contract: the parts of the line, one after the other.
use Rattle.std.proofs.Common.{to_z-of_z}
use Rattle.text.proofs.Placing.{wrote_then}
use Rattle.mnemonics.proofs.put_branch.Goals as goal

pub returns : goal.returns
returns c =
    wrote_then c.put_text.ensures (wrote_then (wrote_then (wrote_then c.put_code.ensures c.put_code-2.ensures)
    c.put_code-3.ensures) (rw (to_z-of_z c.ranges.n) at c.put_last_number.ensures))
