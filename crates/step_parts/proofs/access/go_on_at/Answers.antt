-- `step_parts::access::go_on_at` meets its contract: an instruction that keeps the codes.
use Rattle.std.proofs.Common.{refl, rules}
use Rattle.machine.specs.Psr.{kept, recoded}
use Rattle.step_parts.proofs.access.go_on_at.Goals as goal

pub returns : goal.returns
unfolding recoded
returns c =
    λ regs clock. c.after_instruction.ensures regs clock kept refl
