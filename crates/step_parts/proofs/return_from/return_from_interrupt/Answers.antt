-- `step_parts::return_from::return_from_interrupt` meets its contract: the two words popped are those of the lent
-- memory, or the exception is raised.
use Rattle.std.proofs.Common.{refl, ap, ◌∙◌, rules, le-leb}
use borrow.Author.Tests.{lt-leb}
use Rattle.machine.specs.declared.Machine.{Machine}
use Rattle.machine.specs.Psr.{in_user_mode}
use Rattle.machine.specs.Outcome.{privilege, plain_outcome}
use Rattle.machine.specs.Return.{popped, return}
use Rattle.step_parts.specs.Delivery.{delivered}
use Rattle.step_parts.proofs.DeliveryLaws.{raise_delivered}
use Rattle.step_parts.proofs.return_from.return_from_interrupt.Goals as goal

pub returns-then-c-lt32768 : goal.returns-then-c-lt32768
unfolding return popped in_user_mode
returns-then-c-lt32768 c = λ clock output.
    let a = c.args in
    rw (
      lt-leb _ _ c.if-c-lt32768.true,
      c.unshown.ensures,
    )
    (ap (λ (m : Machine). delivered a.regs.now a.memory.now output (plain_outcome m a.memory.now))
    (c.after_return.ensures clock)
    ∙ rw (
      c.next.ensures,
      c.defined_psr-psr.ensures,
      c.word_at.ensures,
      c.next-above.ensures,
      c.word_at-pc.ensures,
      c.register-sp.ensures,
    ))

pub returns : goal.returns
unfolding return in_user_mode
returns c = λ clock output.
    let a = c.args in
    rw (le-leb _ _ c.if-c-lt32768.false, c.unshown-2.ensures)
    (raise_delivered a.regs.now a.memory.now output privilege _ _ _ _
    (c.raise.ensures clock privilege refl))
