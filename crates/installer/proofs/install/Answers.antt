-- `installer::install` meets its contract: table and routines are copied one after the other, or it refuses.
use Rattle.std.proofs.Common.{arith, length-take}
use Rattle.monitor.proofs.InstallLaws.{installed, install_refused}
use Rattle.monitor.proofs.VectorLaws.{table_length}
use Rattle.installer.proofs.install.Goals as goal

pub returns-then-memory-ne65536 : goal.returns-then-memory-ne65536
returns-then-memory-ne65536 c = install_refused c.args.memory.now c.if-memory-ne65536.true

pub slice_bounds-copy_from_slice-end-2 : goal.slice_bounds-copy_from_slice-end-2
slice_bounds-copy_from_slice-end-2 c = rw length-take (omega arith)

pub copy_from_slice-requires : goal.copy_from_slice-requires
copy_from_slice-requires c = rw (c.our_table.ensures, table_length, length-take) (omega arith)

pub returns : goal.returns
returns c =
    rw (
      c.copy_from_slice-2.ensures.after,
      c.our_routines-routines.ensures,
      c.copy_from_slice.ensures.after,
      c.our_table.ensures,
    )
    (installed c.args.memory.now c.if-memory-ne65536.false)
