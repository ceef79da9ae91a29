-- `step_parts::psr::is_taken` meets its contract: the tested codes are those of `bit_and`.
use Rattle.std.proofs.Common.{rules}
use Rattle.machine.specs.Psr.{is_taken}
use Rattle.step_parts.proofs.psr.is_taken.Goals as goal

pub returns : goal.returns
unfolding is_taken
returns c =
    rw c.bit_and-met.ensures
