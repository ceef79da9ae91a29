-- `step_parts::access::store_by` meets its contract: the pointer is denied as the definition denies it, or loaded, and
-- the rest is `store_at`.
use Rattle.std.proofs.Common.{refl, ap, ◌∙◌, rules}
use Rattle.machine.specs.Outcome.{access, with_reads}
use Rattle.machine.specs.Access.{by_pointer_by}
use Rattle.step_parts.specs.Delivery.{delivered}
use Rattle.step_parts.proofs.DeliveryLaws.{raise_delivered}
use Rattle.step_parts.proofs.access.store_by.Goals as goal

pub returns-then-is_denied : goal.returns-then-is_denied
unfolding by_pointer_by
returns-then-is_denied c = λ clock.
    let a = c.args in
    rw (
      ← c.is_denied.ensures,
      c.if-is_denied.true,
      c.unshown.ensures,
    )
    (raise_delivered a.regs.now a.memory.now a.output.now access _ _ _ _
    (c.raise.ensures clock access refl))

pub returns : goal.returns
unfolding by_pointer_by with_reads
returns c = λ clock.
    let a = c.args in
    let after_load_lem = c.after_load-n in
    let load = c.load-p in
    rw (
      ← c.is_denied.ensures,
      c.if-is_denied.false,
    )
    (c.store_at.ensures clock
    ∙ rw (after_load_lem.ensures a.regs.now clock, load.ensures a.regs.now clock))
