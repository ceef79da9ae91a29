-- `step_parts::access::move_to` meets its contract: the register and the codes are those of its callees, and the rest
-- is `after_instruction`.
use Rattle.machine.specs.Psr.{set_from}
use Rattle.machine.specs.Outcome.{after_instruction}
use Rattle.std.proofs.Common.{rules}
use Rattle.step_parts.proofs.access.move_to.Goals as goal

pub returns : goal.returns
unfolding after_instruction
returns c =
    λ clock.
    rw (← c.set_register.ensures)
    (c.after_instruction.ensures c.set_register.new.regs clock
    (set_from c.args.v) c.with_codes.ensures)
