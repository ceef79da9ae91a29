-- `step_parts::psr::defined_psr` meets its contract: by computation.
use Rattle.std.proofs.Common.{refl, rules}
use Rattle.machine.specs.Psr.{defined_psr}
use Rattle.step_parts.proofs.psr.defined_psr.Goals as goal

pub returns : goal.returns
unfolding defined_psr
returns c =
    refl
