-- `step_parts::entry::interrupt` meets its contract: an entry with the interrupt's vector as its reason.
use Rattle.std.proofs.Common.{refl, rules}
use Rattle.machine.specs.Outcome.{interrupt}
use Rattle.machine.specs.Entry.{interrupted}
use Rattle.step_parts.proofs.entry.interrupt.Goals as goal

pub returns : goal.returns
unfolding interrupted
returns c = λ clock.
    c.enter.ensures clock
    (interrupt c.args.i.vector) refl
