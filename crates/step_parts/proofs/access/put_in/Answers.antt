-- `step_parts::access::put_in` meets its contract: the register is that of its callee, and the rest is
-- `after_instruction`.
use Rattle.std.proofs.Common.{refl, rules}
use Rattle.machine.specs.Psr.{kept, recoded}
use Rattle.machine.specs.Outcome.{after_instruction}
use Rattle.step_parts.proofs.access.put_in.Goals as goal

pub returns : goal.returns
unfolding after_instruction recoded
returns c =
    λ clock.
    rw (← c.set_register.ensures)
    (c.after_instruction.ensures c.set_register.new.regs clock kept refl)
