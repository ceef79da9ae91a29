-- `step_parts::edition::trap` meets its contract: by the edition, each of them its callee.
use Rattle.std.proofs.Common.{refl, ap, rules}
use Rattle.machine.specs.declared.Rule.TheVariants.{Instruction}
use Rattle.machine.specs.Edition.{linked}
use Rattle.machine.specs.Outcome.{trap}
use Rattle.step_parts.specs.Delivery.{Effect, deliver}
use Rattle.step_parts.proofs.DeliveryLaws.{raise_delivered}
use Rattle.step_parts.proofs.edition.trap.Goals as goal

pub returns-then-second : goal.returns-then-second
unfolding linked
returns-then-second c = λ clock output.
    let a = c.args in
    rw (c.if-second.true, c.unshown.ensures)
    (ap (λ (e : Effect). deliver a.regs.now a.memory.now output e.machine e.memory Instruction e.shown)
    (c.link.ensures clock))

pub returns : goal.returns
returns c = λ clock output.
    let a = c.args in
    rw (
      c.if-second.false,
      c.unshown-2.ensures,
      ← c.next.ensures,
    )
    (raise_delivered a.regs.now a.memory.now output (trap a.vector) _ _ _ _
    (c.raise.ensures clock (trap a.vector) refl))
