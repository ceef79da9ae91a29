-- `step_parts::edition::link` meets its contract: the register and the PC are those of its callees.
use Rattle.std.proofs.Common.{ap, ◌∙◌, rules}
use Rattle.machine.specs.declared.Machine.{Machine}
use Rattle.machine.specs.Edition.{linked}
use Rattle.step_parts.specs.Delivery.{no_output}
use Rattle.step_parts.proofs.edition.link.Goals as goal

pub returns : goal.returns
unfolding linked
returns c =
    λ clock.
    let memory = c.args.memory.now in
    ap (λ (m : Machine). no_output m memory) (c.put_in.ensures clock)
    ∙ rw (c.next.ensures, c.word_at-target.ensures)
