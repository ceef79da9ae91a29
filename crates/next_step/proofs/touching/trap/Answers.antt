-- `next_step::touching::trap` meets its contract: by the edition.
use mathlib.Core.Path.{refl}
use Rattle.machine.specs.Edition.{linked}
use Rattle.machine.specs.Outcome.{trap}
use Rattle.machine.specs.Entry.{raised}
use borrow.Author.Rules.{rules}
use Rattle.next_step.proofs.touching.trap.Goals as goal

pub returns-then-second : goal.returns-then-second
unfolding linked
returns-then-second c =
    λ clock memory.
    rw (
      c.if-second.true,
      c.none-writes.ensures,
      c.prepend-reads.ensures,
      c.none.ensures,
    )

pub returns : goal.returns
unfolding raised
returns c =
    λ clock memory.
    let vector = c.args.vector in
    rw c.if-second.false (c.enter.ensures clock _ _ memory (trap vector) refl refl)
