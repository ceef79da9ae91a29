-- `step_parts::access::load_to` meets its contract: the address is denied as the definition denies it, or the value
-- loaded goes to its register.
use Rattle.std.proofs.Common.{refl, ap, ◌∙◌, rules}
use Rattle.machine.specs.declared.Machine.{Machine}
use Rattle.machine.specs.Outcome.{access, plain_outcome}
use Rattle.machine.specs.Access.{load_to_by}
use Rattle.step_parts.specs.Delivery.{delivered}
use Rattle.step_parts.proofs.DeliveryLaws.{raise_delivered}
use Rattle.step_parts.proofs.access.load_to.Goals as goal

pub returns-then-is_denied : goal.returns-then-is_denied
unfolding load_to_by
returns-then-is_denied c = λ clock output.
    let a = c.args in
    rw (
      ← c.is_denied.ensures,
      c.if-is_denied.true,
      c.unshown.ensures,
    )
    (raise_delivered a.regs.now a.memory.now output access _ _ _ _
    (c.raise.ensures clock access refl))

pub returns : goal.returns
unfolding load_to_by
returns c = λ clock output.
    let a = c.args in
    rw (
      ← c.is_denied.ensures,
      c.if-is_denied.false,
      c.unshown-2.ensures,
    )
    (ap (λ (m : Machine). delivered a.regs.now a.memory.now output (plain_outcome m a.memory.now))
    (c.load_allowed.ensures clock))
