-- `next_step::tell_step` meets its contract: arrival, the timer's count and the pending interrupt one after the other,
-- then what the step touches, and the word fetched from the record as it is handed in.
use Rattle.machine.specs.declared.Interrupt.{Interrupt}
use Rattle.std.specs.Prelude.{Option}
use mathlib.Core.Path.{◌≡◌, ap, ◌∙◌}
use Rattle.machine.specs.declared.Machine.{Machine}
use Rattle.machine.specs.Edition.{edition_of}
use Rattle.machine.specs.Record.{whole}
use Rattle.machine.specs.Keys.{keys_due, after_keys}
use Rattle.machine.specs.Timer.{after_timer}
use Rattle.machine.specs.Interrupts.{pending_interrupt}
use Rattle.machine.specs.Rules.{fetched_word_by}
use Rattle.machine.specs.Step.{interrupted_or_obeyed_by, after_start, ended, step_by}
use Rattle.step_parts.specs.Delivery.{Arrival, arrival_of}
use Rattle.run.specs.declared.Ending.TheVariants.{Done}
use Rattle.telling.specs.declared.Touched.{Touched}
use Rattle.telling.specs.Told.{touched_in}
use borrow.Author.Rules.{rules}
use Rattle.next_step.proofs.tell_step.Goals as goal

pub returns : goal.returns
unfolding step_by ended
returns c =
    let a = c.args in
    let e = edition_of a.second in
    let R = a.m.regs in
    let t = a.m.clock in
    let M = a.memory.now in
    let keys = keys_due t a.times.now a.bytes.now in
    let m = after_start keys a.m in
    let n = whole R t c.count_down-c.result in
    let touched = c.interrupt_or_obey-touched in
    let arrived : whole R t c.arrive-a.result.control ≡ after_keys keys a.m =
    ap (λ (x : Arrival). x.machine) (c.arrive-a.ensures R t)
    ∙ ap (λ (x : Machine). (arrival_of t a.times.now a.bytes.now x 0).machine)
    c.from.ensures in
    let begun : n ≡ m = c.count_down-c.ensures R t ∙ ap after_timer arrived in
    let told : touched.result ≡ touched_in (interrupted_or_obeyed_by e (pending_interrupt m) m M) =
    touched.ensures t
    ∙ (ap (λ (x : Option Interrupt). touched_in (interrupted_or_obeyed_by e x n M))
    (c.pending_interrupt-pending.ensures R t)
    ∙ ap (λ (x : Machine). touched_in (interrupted_or_obeyed_by e (pending_interrupt x) x M)) begun) in
    rw c.fetched_word-word.ensures
    (ap (λ (x : Touched). record { ending = Done; word = fetched_word_by e x.rule a.m M; touched = x }) told)
