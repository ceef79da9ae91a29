-- `next_step::touching::load_by` meets its contract: the pointer is denied as the definition denies it, or taken before
-- the data access.
use mathlib.Core.Path.{◌≡◌, refl, sym, ap, ◌∙◌}
use Rattle.machine.specs.Edition.{edition_of}
use Rattle.machine.specs.Record.{whole}
use Rattle.machine.specs.Outcome.{access}
use Rattle.machine.specs.Devices.{loaded_value_by, after_load}
use Rattle.machine.specs.Entry.{raised}
use Rattle.machine.specs.Access.{load_to_by, by_pointer_by}
use Rattle.telling.specs.Told.{after_pointer, touched_in}
use Rattle.next_step.proofs.TouchLaws.{pointer_touches}
use borrow.Author.Rules.{rules}
use Rattle.next_step.proofs.touching.load_by.Goals as goal

pub returns-then-is_denied : goal.returns-then-is_denied
unfolding by_pointer_by raised
returns-then-is_denied c =
    λ clock r.
    rw (sym c.is_denied.ensures ∙ c.if-is_denied.true)
    (c.enter.ensures clock _ _ _ access refl refl)

pub returns : goal.returns
unfolding by_pointer_by
returns c =
    λ clock r.
    let a = c.args in
    let e = edition_of a.second in
    let m = whole a.regs.now clock a.c in
    let p = loaded_value_by e a.a m a.memory.now in
    let told : c.load_to.result ≡ touched_in (load_to_by e r p (after_load a.a m) a.memory.now) =
    c.load_to.ensures clock r a.memory.now
    ∙ rw (c.after_load.ensures a.regs.now clock, c.load-p.ensures a.regs.now clock) in
    rw (sym c.is_denied.ensures ∙ c.if-is_denied.false)
    (c.after_pointer.ensures ∙ (ap (after_pointer e a.a) told ∙ sym (pointer_touches e a.a _)))
