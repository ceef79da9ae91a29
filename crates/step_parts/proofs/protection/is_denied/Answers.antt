-- `step_parts::protection::is_denied` meets its contract: by the edition.
use Rattle.std.proofs.Common.{rules}
use Rattle.machine.specs.Protection.{denied_by}
use Rattle.step_parts.proofs.protection.is_denied.Goals as goal

pub returns-then-second : goal.returns-then-second
unfolding denied_by
returns-then-second c = rw c.if-second.true

pub returns : goal.returns
unfolding denied_by
returns c = rw c.if-second.false c.is_out_of_reach.ensures
