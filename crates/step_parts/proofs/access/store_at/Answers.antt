-- `step_parts::access::store_at` meets its contract: the address is denied as the definition denies it, or the rest is
-- `store`.
use Rattle.std.proofs.Common.{refl, ap, ◌∙◌, rules}
use Rattle.machine.specs.Edition.{edition_of}
use Rattle.machine.specs.declared.Machine.{Machine}
use Rattle.machine.specs.Outcome.{access}
use Rattle.machine.specs.Devices.{stored_by}
use Rattle.machine.specs.Access.{store_at_by}
use Rattle.step_parts.specs.Delivery.{delivered}
use Rattle.step_parts.proofs.DeliveryLaws.{raise_delivered}
use Rattle.step_parts.proofs.access.store_at.Goals as goal

pub returns-then-is_denied : goal.returns-then-is_denied
unfolding store_at_by
returns-then-is_denied c = λ clock.
    let a = c.args in
    rw (
      ← c.is_denied.ensures,
      c.if-is_denied.true,
      c.unshown.ensures,
    )
    (raise_delivered a.regs.now a.memory.now a.output.now access _ _ _ _
    (c.raise.ensures clock access refl))

pub returns : goal.returns
unfolding store_at_by
returns c = λ clock.
    let a = c.args in
    rw (
      ← c.is_denied.ensures,
      c.if-is_denied.false,
    )
    (c.store.ensures a.regs.now clock
    ∙ (ap (λ (m : Machine). delivered a.regs.now a.memory.now a.output.now
    (stored_by (edition_of a.second) a.v a.a m a.memory.now))
    (c.go_on_at-n.ensures a.regs.now clock)
    ∙ rw c.next.ensures))
