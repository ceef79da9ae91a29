-- `next_step::touching::enter` meets its contract: the vector word, and the two words that are pushed.
use Rattle.machine.specs.Entry.{entry}
use borrow.Author.Rules.{rules}
use Rattle.next_step.proofs.touching.enter.Goals as goal

pub returns : goal.returns
unfolding entry
returns c =
    λ clock pc psr memory reason h k.
    rw (
      h,
      k,
      c.below-writes.ensures,
      c.stack_pointer_on_entry.ensures clock,
      c.prepend-reads.ensures,
      c.none.ensures,
    )
