-- `step_parts::entry::push_two` meets its contract: the two stores, one after the other.
use Rattle.std.proofs.Common.{rules}
use Rattle.machine.specs.Entry.{pushed}
use Rattle.step_parts.proofs.entry.push_two.Goals as goal

pub returns : goal.returns
unfolding pushed
returns c =
    rw (
      c.set_word-2.ensures,
      c.before-second.ensures,
      c.set_word.ensures,
      c.before-first.ensures,
    )
