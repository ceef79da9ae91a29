-- `line::putting::put_proper` meets its contract: each arm of the match knows its opcode, and so its line.
use Rattle.std.proofs.Common.{ℕ, ◌≡◌, ◌/◌, [], get_or, arith}
use Rattle.word.specs.Reading.{opcode}
use Rattle.word.proofs.Opcodes.{none_below}
use Rattle.text.specs.declared.characters.Writer.{Writer}
use Rattle.text.specs.Writing.{Fits, Wrote}
use Rattle.line.specs.Shapes.{proper_lines, proper_line}
use Rattle.line.proofs.ShapeLaws.{last_opcode, proper_as}
use Rattle.line.proofs.putting.put_proper.Goals as goal

-- the line of a word by its opcode
room : (w k : ℕ) (writer : Writer) → opcode w ≡ k → Fits writer (proper_line w)
    → Fits writer (get_or (proper_lines w) k [])
room w k writer e p = rw (proper_as w k e) at p

arm : (w k : ℕ) {before after : Writer} → opcode w ≡ k → Wrote before (get_or (proper_lines w) k []) after
    → Wrote before (proper_line w) after
arm w k e p = rw (proper_as w k e) p

pub put_br-requires : goal.put_br-requires
put_br-requires c = room c.args.word 0 c.args.writer.now c.in-0.is c.requires

pub returns-in-0 : goal.returns-in-0
returns-in-0 c = arm c.args.word 0 c.in-0.is c.put_br.ensures

pub put_operate-requires : goal.put_operate-requires
put_operate-requires c = room c.args.word 1 c.args.writer.now c.in-1.is c.requires

pub returns-in-1 : goal.returns-in-1
returns-in-1 c = arm c.args.word 1 c.in-1.is c.put_operate.ensures

pub put_relative-requires : goal.put_relative-requires
put_relative-requires c = room c.args.word 2 c.args.writer.now c.in-2.is c.requires

pub returns-in-2 : goal.returns-in-2
returns-in-2 c = arm c.args.word 2 c.in-2.is c.put_relative.ensures

pub put_relative-requires-in-3 : goal.put_relative-requires-in-3
put_relative-requires-in-3 c = room c.args.word 3 c.args.writer.now c.in-3.is c.requires

pub returns-in-3 : goal.returns-in-3
returns-in-3 c = arm c.args.word 3 c.in-3.is c.put_relative-in-3.ensures

pub put_call-requires : goal.put_call-requires
put_call-requires c = room c.args.word 4 c.args.writer.now c.in-4.is c.requires

pub returns-in-4 : goal.returns-in-4
returns-in-4 c = arm c.args.word 4 c.in-4.is c.put_call.ensures

pub put_operate-requires-in-5 : goal.put_operate-requires-in-5
put_operate-requires-in-5 c = room c.args.word 5 c.args.writer.now c.in-5.is c.requires

pub returns-in-5 : goal.returns-in-5
returns-in-5 c = arm c.args.word 5 c.in-5.is c.put_operate-in-5.ensures

pub put_based-requires : goal.put_based-requires
put_based-requires c = room c.args.word 6 c.args.writer.now c.in-6.is c.requires

pub returns-in-6 : goal.returns-in-6
returns-in-6 c = arm c.args.word 6 c.in-6.is c.put_based.ensures

pub put_based-requires-in-7 : goal.put_based-requires-in-7
put_based-requires-in-7 c = room c.args.word 7 c.args.writer.now c.in-7.is c.requires

pub returns-in-7 : goal.returns-in-7
returns-in-7 c = arm c.args.word 7 c.in-7.is c.put_based-in-7.ensures

pub put_text-requires : goal.put_text-requires
put_text-requires c = room c.args.word 8 c.args.writer.now c.in-8.is c.requires

pub returns-in-8 : goal.returns-in-8
returns-in-8 c = arm c.args.word 8 c.in-8.is c.put_text.ensures

pub put_not-requires : goal.put_not-requires
put_not-requires c = room c.args.word 9 c.args.writer.now c.in-9.is c.requires

pub returns-in-9 : goal.returns-in-9
returns-in-9 c = arm c.args.word 9 c.in-9.is c.put_not.ensures

pub put_relative-requires-in-10 : goal.put_relative-requires-in-10
put_relative-requires-in-10 c = room c.args.word 10 c.args.writer.now c.in-10.is c.requires

pub returns-in-10 : goal.returns-in-10
returns-in-10 c = arm c.args.word 10 c.in-10.is c.put_relative-in-10.ensures

pub put_relative-requires-in-11 : goal.put_relative-requires-in-11
put_relative-requires-in-11 c = room c.args.word 11 c.args.writer.now c.in-11.is c.requires

pub returns-in-11 : goal.returns-in-11
returns-in-11 c = arm c.args.word 11 c.in-11.is c.put_relative-in-11.ensures

pub put_jump-requires : goal.put_jump-requires
put_jump-requires c = room c.args.word 12 c.args.writer.now c.in-12.is c.requires

pub returns-in-12 : goal.returns-in-12
returns-in-12 c = arm c.args.word 12 c.in-12.is c.put_jump.ensures

pub put_fill-requires : goal.put_fill-requires
put_fill-requires c = room c.args.word 13 c.args.writer.now c.in-13.is c.requires

pub returns-in-13 : goal.returns-in-13
returns-in-13 c = arm c.args.word 13 c.in-13.is c.put_fill.ensures

pub put_relative-requires-in-14 : goal.put_relative-requires-in-14
put_relative-requires-in-14 c = room c.args.word 14 c.args.writer.now c.in-14.is c.requires

pub returns-in-14 : goal.returns-in-14
returns-in-14 c = arm c.args.word 14 c.in-14.is c.put_relative-in-14.ensures

pub put_trap-requires : goal.put_trap-requires
put_trap-requires c =
    let w = c.args.word in
    let rest = none_below (w / 4096) 15 c.in_default.in_default-own.rest in
    let trap = last_opcode w rest c.ranges.word.fits in
    (omega arith, room w 15 c.args.writer.now trap c.requires)

pub returns-in_default : goal.returns-in_default
returns-in_default c =
    let w = c.args.word in
    let rest = none_below (w / 4096) 15 c.in_default.in_default-own.rest in
    arm w 15 (last_opcode w rest c.ranges.word.fits) c.put_trap.ensures
