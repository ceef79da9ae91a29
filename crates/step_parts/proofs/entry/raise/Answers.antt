-- `step_parts::entry::raise` meets its contract: an entry with the PSR's bit 15 cleared.
use Rattle.std.proofs.Common.{rules}
use Rattle.machine.specs.Entry.{raised}
use Rattle.step_parts.proofs.entry.raise.Goals as goal

pub returns : goal.returns
unfolding raised
returns c =
    λ clock reason h. c.enter.ensures clock reason h
