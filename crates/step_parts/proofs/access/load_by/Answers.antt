-- `step_parts::access::load_by` meets its contract: the pointer is denied as the definition denies it, or loaded, and
-- the data access is denied or made in the same way.
use Rattle.std.proofs.Common.{◌≡◌, refl, ap, ◌∙◌, rules}
use Rattle.machine.specs.Outcome.{access, with_reads}
use Rattle.machine.specs.Outcome.{plain_outcome}
use Rattle.machine.specs.declared.Machine.{Machine}
use Rattle.machine.specs.Edition.{edition_of}
use Rattle.machine.specs.Record.{whole}
use Rattle.machine.specs.Access.{load_to_by, by_pointer_by}
use Rattle.step_parts.specs.Delivery.{after, delivered}
use Rattle.step_parts.proofs.DeliveryLaws.{raise_delivered}
use Rattle.step_parts.proofs.access.load_by.Goals as goal

pub returns-then-is_denied : goal.returns-then-is_denied
unfolding by_pointer_by
returns-then-is_denied c = λ clock output.
    let a = c.args in
    rw (
      ← c.is_denied.ensures,
      c.if-is_denied.true,
      c.unshown.ensures,
    )
    (raise_delivered a.regs.now a.memory.now output access _ _ _ _
    (c.raise.ensures clock access refl))

pub returns-then-is_denied-2 : goal.returns-then-is_denied-2
unfolding by_pointer_by with_reads
returns-then-is_denied-2 c = λ clock output.
    let a = c.args in
    let after_load_lem = c.after_load-n in
    let load = c.load-p in
    let denied-data : after c.unshown-then-is_denied-2.result c.raise-then-is_denied-2.new.regs clock
    c.raise-then-is_denied-2.new.memory output
    ≡ delivered a.regs.now a.memory.now output
    (load_to_by (edition_of a.second) a.r load.result (whole a.regs.now clock after_load_lem.result)
    a.memory.now) =
    unfold load_to_by in
    rw (
      ← c.is_denied-2.ensures,
      c.if-is_denied-2.true,
      c.unshown-then-is_denied-2.ensures,
    )
    (raise_delivered a.regs.now a.memory.now output access _ _ _ _
    (c.raise-then-is_denied-2.ensures clock access refl)) in
    rw (← c.is_denied.ensures, c.if-is_denied.false)
    (denied-data ∙ rw (after_load_lem.ensures a.regs.now clock, load.ensures a.regs.now clock))

pub returns : goal.returns
unfolding by_pointer_by with_reads
returns c = λ clock output.
    let a = c.args in
    let after_load_lem = c.after_load-n in
    let load = c.load-p in
    let loaded : after c.unshown-2.result c.load_allowed.new.regs clock a.memory.now output
    ≡ delivered a.regs.now a.memory.now output
    (load_to_by (edition_of a.second) a.r load.result (whole a.regs.now clock after_load_lem.result)
    a.memory.now) =
    unfold load_to_by in
    rw (← c.is_denied-2.ensures, c.if-is_denied-2.false, c.unshown-2.ensures)
    (ap (λ (m : Machine). delivered a.regs.now a.memory.now output (plain_outcome m a.memory.now))
    (c.load_allowed.ensures clock)) in
    rw (← c.is_denied.ensures, c.if-is_denied.false)
    (loaded ∙ rw (after_load_lem.ensures a.regs.now clock, load.ensures a.regs.now clock))
