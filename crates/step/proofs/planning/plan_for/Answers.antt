-- `step::planning::plan_for` meets its contract: each arm of the match knows its instruction, and its operands are what
-- the callees answer.
use mathlib.Core.Path.{◌≡◌}
use mir.Syntax.{w16}
use mir.Val.{to_z, of_z}
use borrow.Author.Rules.{rules}
use Rattle.machine.specs.Plan.{plan_by}
use Rattle.step.proofs.planning.plan_for.Goals as goal

pub returns-in-Br : goal.returns-in-Br
unfolding plan_by
returns-in-Br c =
    let n = c.in-Br.n in
    let known = c.in-Br.known_told-1-own.given in
    let e : to_z w16 (of_z w16 n) ≡ n = search rules in
    rw (c.in-Br.is, c.branch-mask.ensures, c.next-next.ensures, e)

pub returns-in-AddRegister : goal.returns-in-AddRegister
unfolding plan_by
returns-in-AddRegister c =
    rw (
      c.in-AddRegister.is,
      c.sum.ensures,
      c.register-in-AddRegister.ensures,
      c.register.ensures,
      c.next-next.ensures,
    )

pub returns-in-AddImmediate : goal.returns-in-AddImmediate
unfolding plan_by
returns-in-AddImmediate c =
    let n = c.in-AddImmediate.n in
    let known = c.in-AddImmediate.known_told-in-AddImmediate-1-own.given in
    let e : to_z w16 (of_z w16 n) ≡ n = search rules in
    rw (
      c.in-AddImmediate.is,
      c.offset.ensures,
      c.register-in-AddImmediate.ensures,
      c.next-next.ensures,
      e,
    )

pub returns-in-Ld : goal.returns-in-Ld
unfolding plan_by
returns-in-Ld c =
    let n = c.in-Ld.n in
    let known = c.in-Ld.known_told-in-Ld-1-own.given in
    let e : to_z w16 (of_z w16 n) ≡ n = search rules in
    rw (c.in-Ld.is, c.offset-in-Ld.ensures, c.next-next.ensures, e)

pub returns-in-St : goal.returns-in-St
unfolding plan_by
returns-in-St c =
    let n = c.in-St.n in
    let known = c.in-St.known_told-in-St-1-own.given in
    let e : to_z w16 (of_z w16 n) ≡ n = search rules in
    rw (
      c.in-St.is,
      c.offset-in-St.ensures,
      c.register-in-St.ensures,
      c.next-next.ensures,
      e,
    )

pub returns-in-Jsr : goal.returns-in-Jsr
unfolding plan_by
returns-in-Jsr c =
    let n = c.in-Jsr.n in
    let known = c.in-Jsr.known_told-in-Jsr-1-own.given in
    let e : to_z w16 (of_z w16 n) ≡ n = search rules in
    rw (c.in-Jsr.is, c.offset-in-Jsr.ensures, c.next-next.ensures, e)

pub returns-in-Jsrr : goal.returns-in-Jsrr
unfolding plan_by
returns-in-Jsrr c =
    rw (c.in-Jsrr.is, c.jsrr_target.ensures, c.next-next.ensures)

pub returns-in-AndRegister : goal.returns-in-AndRegister
unfolding plan_by
returns-in-AndRegister c =
    rw (
      c.in-AndRegister.is,
      c.bit_and.ensures,
      c.register-in-AndRegister-2.ensures,
      c.register-in-AndRegister.ensures,
      c.next-next.ensures,
    )

pub returns-in-AndImmediate : goal.returns-in-AndImmediate
unfolding plan_by
returns-in-AndImmediate c =
    let n = c.in-AndImmediate.n in
    let known = c.in-AndImmediate.known_told-in-AndImmediate-1-own.given in
    let e : to_z w16 (of_z w16 n) ≡ n = search rules in
    rw (
      c.in-AndImmediate.is,
      c.bit_and-in-AndImmediate.ensures,
      c.word_of.ensures,
      c.register-in-AndImmediate.ensures,
      c.next-next.ensures,
      e,
    )

pub returns-in-Ldr : goal.returns-in-Ldr
unfolding plan_by
returns-in-Ldr c =
    let n = c.in-Ldr.n in
    let known = c.in-Ldr.known_told-in-Ldr-1-own.given in
    let e : to_z w16 (of_z w16 n) ≡ n = search rules in
    rw (c.in-Ldr.is, c.offset-in-Ldr.ensures, c.register-in-Ldr.ensures, e)

pub returns-in-Str : goal.returns-in-Str
unfolding plan_by
returns-in-Str c =
    let n = c.in-Str.n in
    let known = c.in-Str.known_told-in-Str-1-own.given in
    let e : to_z w16 (of_z w16 n) ≡ n = search rules in
    rw (
      c.in-Str.is,
      c.offset-in-Str.ensures,
      c.register-in-Str-2.ensures,
      c.register-in-Str.ensures,
      e,
    )

pub returns-in-Rti : goal.returns-in-Rti
unfolding plan_by
returns-in-Rti c =
    rw c.in-Rti.is

pub returns-in-Not : goal.returns-in-Not
unfolding plan_by
returns-in-Not c =
    rw (
      c.in-Not.is,
      c.complement.ensures,
      c.register-in-Not.ensures,
      c.next-next.ensures,
    )

pub returns-in-Ldi : goal.returns-in-Ldi
unfolding plan_by
returns-in-Ldi c =
    let n = c.in-Ldi.n in
    let known = c.in-Ldi.known_told-in-Ldi-1-own.given in
    let e : to_z w16 (of_z w16 n) ≡ n = search rules in
    rw (c.in-Ldi.is, c.offset-in-Ldi.ensures, c.next-next.ensures, e)

pub returns-in-Sti : goal.returns-in-Sti
unfolding plan_by
returns-in-Sti c =
    let n = c.in-Sti.n in
    let known = c.in-Sti.known_told-in-Sti-1-own.given in
    let e : to_z w16 (of_z w16 n) ≡ n = search rules in
    rw (
      c.in-Sti.is,
      c.offset-in-Sti.ensures,
      c.register-in-Sti.ensures,
      c.next-next.ensures,
      e,
    )

pub returns-in-Jmp : goal.returns-in-Jmp
unfolding plan_by
returns-in-Jmp c =
    rw (c.in-Jmp.is, c.register-in-Jmp.ensures)

pub returns-in-Reserved : goal.returns-in-Reserved
unfolding plan_by
returns-in-Reserved c =
    rw c.in-Reserved.is

pub returns-in-Lea : goal.returns-in-Lea
unfolding plan_by
returns-in-Lea c =
    let n = c.in-Lea.n in
    let known = c.in-Lea.known_told-in-Lea-1-own.given in
    let e : to_z w16 (of_z w16 n) ≡ n = search rules in
    rw (
      c.in-Lea.is,
      c.lea_plan.ensures,
      c.offset-in-Lea.ensures,
      c.next-next.ensures,
      e,
    )

pub returns-in-Trap : goal.returns-in-Trap
unfolding plan_by
returns-in-Trap c =
    rw c.in-Trap.is
