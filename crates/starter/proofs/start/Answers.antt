-- `starter::start` meets its contract: loading and the record are callees'.
use Rattle.std.proofs.Common.{arith}
use Rattle.start.specs.Start.{record_by, started_from, started_of}
use Rattle.start.proofs.UserLaws.{start_refused}
use Rattle.starter.proofs.start.Goals as goal

pub returns-in_err-loaded : goal.returns-in_err-loaded
returns-in_err-loaded c =
    let a = c.args in
    grind (arith, start_refused _ a.file.now a.memory.now c.load.new.memory a.user a.stack c.in_err-loaded.ensures)

pub returns : goal.returns
unfolding started_of started_from record_by
returns c = rw (c.fresh.ensures, ← c.in_ok-loaded.ensures)
