-- `next_step::touching::obey` meets its contract: the fetch is denied as the definition denies it, or the word at PC is
-- taken before what its plan takes.
use mathlib.Core.Path.{◌≡◌, refl, sym, ap, ◌∙◌}
use lib.ListN.{get_or}
use Rattle.word.specs.Reading.{read_of}
use Rattle.machine.specs.Record.{whole}
use Rattle.machine.specs.Edition.{edition_of}
use Rattle.machine.specs.Outcome.{access, with_reads}
use Rattle.machine.specs.Entry.{raised}
use Rattle.machine.specs.Plan.{plan_by}
use Rattle.machine.specs.Step.{perform_by, obeyed_by}
use Rattle.telling.specs.declared.Touched.{Touched}
use Rattle.telling.specs.Told.{prepended, touched_in}
use borrow.Author.Rules.{rules}
use Rattle.next_step.proofs.touching.obey.Goals as goal

pub returns-then-is_denied : goal.returns-then-is_denied
unfolding obeyed_by raised
returns-then-is_denied c =
    λ clock.
    rw (sym c.is_denied.ensures ∙ c.if-is_denied.true)
    (c.enter.ensures clock _ _ _ access refl refl)

pub returns : goal.returns
unfolding obeyed_by with_reads
returns c =
    λ clock.
    let a = c.args in
    let e = edition_of a.second in
    let pc = a.c.pc in
    let plan = plan_by e a.regs.now pc a.c.psr (read_of (get_or a.memory.now pc 0)) in
    let told : c.perform-t.result
    ≡ touched_in (perform_by e plan (whole a.regs.now clock a.c) a.memory.now) =
    c.perform-t.ensures clock
    ∙ rw (c.plan_for-plan.ensures, c.read.ensures, c.word_at-word.ensures) in
    rw (sym c.is_denied.ensures ∙ c.if-is_denied.false, c.prepend-reads.ensures)
    (ap (λ (t : Touched). record { rule = t.rule; reads = prepended pc t.reads; writes = t.writes }) told)
