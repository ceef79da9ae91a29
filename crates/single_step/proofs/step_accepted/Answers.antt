-- `single_step::step_accepted` meets its contract: it stops where a run of one step does, or makes that step.
use Prim.Native.Nat.{◌+◌, ◌≤◌}
use native.Mathlib.Omega.{arith}
use mathlib.Core.Path.{◌≡◌, sym, ap, ◌∙◌}
use Rattle.machine.specs.declared.Machine.{Machine}
use Rattle.machine.specs.Edition.{edition_of}
use Rattle.machine.specs.Record.{whole}
use Rattle.run.specs.Run.{Start, begin, ended_by}
use Rattle.run.specs.Call.{start_of}
use Rattle.loop_parts.specs.Stepping.{Moved, moved_to, moves_of}
use Rattle.single_step.proofs.SingleLaws.{single_halts, single_makes, single_fills}
use borrow.Author.Rules.{rules}
use Rattle.single_step.proofs.step_accepted.Goals as goal

pub returns-then-m-lt32768 : goal.returns-then-m-lt32768
returns-then-m-lt32768 c =
    let handed : Start =
    start_of c.args.m c.args.memory.now c.args.times.now c.args.bytes.now c.args.output.now
    in
    let a = c.args in
    c.stopped.ensures a.memory.now a.times.now a.bytes.now a.output.now
    ∙ single_halts (edition_of a.second) (handed)
    c.if-m-lt32768.true

pub returns-then-is_full : goal.returns-then-is_full
unfolding begin ended_by
returns-then-is_full c =
    let handed : Start =
    start_of c.args.m c.args.memory.now c.args.times.now c.args.bytes.now c.args.output.now
    in
    let clock_on : 0x8000 ≤ c.args.m.devices.mcr =
    c.if-m-lt32768.false
    in
    let moved : moved_to c.advance-s.result c.advance-s.new.regs (c.args.m.clock + 1)
    c.advance-s.new.memory c.advance-s.new.output
    ≡ moves_of (edition_of c.args.second) (handed).times (handed).bytes
    (handed).machine (handed).memory (handed).output 0 0 =
    let s = handed in
    c.advance-s.ensures
    ∙ ap (λ (m : Machine). moves_of (edition_of c.args.second) s.times s.bytes m s.memory
    s.output 0 0) c.from-c.ensures
    in
    let a = c.args in
    let memory' = c.advance-s.new.memory in
    let output' = c.advance-s.new.output in
    c.stopped-then-is_full.ensures memory' a.times.now a.bytes.now output'
    ∙ single_fills (edition_of a.second) (handed) (clock_on) c.advance-s.result
    c.advance-s.new.regs memory' output' (moved)
    (sym c.is_full.ensures ∙ c.if-is_full.true)

pub returns : goal.returns
returns c =
    let handed : Start =
    start_of c.args.m c.args.memory.now c.args.times.now c.args.bytes.now c.args.output.now
    in
    let clock_on : 0x8000 ≤ c.args.m.devices.mcr =
    c.if-m-lt32768.false
    in
    let moved : moved_to c.advance-s.result c.advance-s.new.regs (c.args.m.clock + 1)
    c.advance-s.new.memory c.advance-s.new.output
    ≡ moves_of (edition_of c.args.second) (handed).times (handed).bytes
    (handed).machine (handed).memory (handed).output 0 0 =
    let s = handed in
    c.advance-s.ensures
    ∙ ap (λ (m : Machine). moves_of (edition_of c.args.second) s.times s.bytes m s.memory
    s.output 0 0) c.from-c.ensures
    in
    let a = c.args in
    rw (c.machine-machine.ensures, c.shown_count.ensures)
    (single_makes (edition_of a.second) (handed) (clock_on) c.advance-s.result
    c.advance-s.new.regs c.advance-s.new.memory
    c.advance-s.new.output (moved)
    (sym c.is_full.ensures ∙ c.if-is_full.false))
