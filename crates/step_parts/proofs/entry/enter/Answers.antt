-- `step_parts::entry::enter` meets its contract: each part of record and memory is what a callee answers, in the order
-- of the pushes and the vector word.
use Rattle.machine.specs.Entry.{stack_pointer_on_entry, user_stack_on_entry, after_entry, entry}
use Rattle.std.proofs.Common.{rules}
use Rattle.step_parts.proofs.entry.enter.Goals as goal

pub returns : goal.returns
unfolding entry after_entry stack_pointer_on_entry user_stack_on_entry
returns c = λ clock reason h.
    rw (
      h,
      c.word_at-target.ensures,
      c.by_mode-saved_usp.ensures,
      c.set_register.ensures,
      c.before-3.ensures,
      c.before-2.ensures,
      c.push_two.ensures,
      c.by_mode-sp.ensures,
      c.register-r6.ensures,
    )
