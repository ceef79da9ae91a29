-- `installer::vectors` meets its contract: the words of `table_for` are copied to the start, or it refuses.
use Rattle.std.proofs.Common.{arith, length-take}
use Rattle.monitor.proofs.InstallLaws.{vectors_written, vectors_refused}
use Rattle.monitor.proofs.VectorLaws.{table_length}
use Rattle.installer.proofs.vectors.Goals as goal

pub returns-then-lent-lt512 : goal.returns-then-lent-lt512
returns-then-lent-lt512 c = vectors_refused c.args.r c.args.lent.now c.if-lent-lt512.true

pub copy_from_slice-requires : goal.copy_from_slice-requires
copy_from_slice-requires c = rw (c.table_for.ensures, table_length, length-take) (omega arith)

pub returns : goal.returns
returns c =
    rw (c.copy_from_slice.ensures.after, c.table_for.ensures)
    (vectors_written c.args.r c.args.lent.now c.if-lent-lt512.false)
