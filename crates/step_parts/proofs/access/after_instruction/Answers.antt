-- `step_parts::access::after_instruction` meets its contract: the PSR that it is handed is the one that the codes give.
use Rattle.machine.specs.Outcome.{after_instruction}
use Rattle.step_parts.proofs.access.after_instruction.Goals as goal

pub returns : goal.returns
unfolding after_instruction
returns c =
    λ regs clock codes h. rw h
