-- `next_step::touching::return_from_interrupt` meets its contract: by the mode.
use mathlib.Core.Path.{refl}
use borrow.Author.Tests.{le-leb, lt-leb}
use Rattle.machine.specs.Psr.{in_user_mode}
use Rattle.machine.specs.Outcome.{privilege}
use Rattle.machine.specs.Entry.{raised}
use Rattle.machine.specs.Return.{popped, return}
use borrow.Author.Rules.{rules}
use Rattle.next_step.proofs.touching.return_from_interrupt.Goals as goal

pub returns-then-c-lt32768 : goal.returns-then-c-lt32768
unfolding return popped in_user_mode
returns-then-c-lt32768 c =
    λ clock memory.
    rw (
      lt-leb _ _ c.if-c-lt32768.true,
      c.none-writes.ensures,
      c.prepend-reads.ensures,
      c.prepend.ensures,
      c.none.ensures,
      c.next.ensures,
      c.register-sp.ensures,
    )

pub returns : goal.returns
unfolding return raised in_user_mode
returns c =
    λ clock memory.
    rw (le-leb _ _ c.if-c-lt32768.false) (c.enter.ensures clock _ _ memory privilege refl refl)
