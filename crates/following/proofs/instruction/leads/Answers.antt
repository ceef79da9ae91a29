-- `following::instruction::leads` meets its contract: what `jmp` promises, it promises at every address.
use Rattle.std.proofs.Common.{refl}
use Rattle.sitting.specs.Test.{harmless}
use Rattle.claims.specs.Decoded.{claim_by}
use Rattle.ways.specs.Ways.{way_holds}
use Rattle.following.proofs.instruction.leads.Goals as goal

pub returns-in_err-jmp-in-Jmp : goal.returns-in_err-jmp-in-Jmp
unfolding harmless
returns-in_err-jmp-in-Jmp c = λ rows.
    let a = c.args in
    rw (c.in-Jmp.is, c.from_residual-in_err-jmp-in-Jmp.ensures)
    (rw (c.in_err-jmp-in-Jmp.was) at (c.jmp.ensures (claim_by a.c.now rows) a.pc))

pub returns-in_ok-jmp-in-Jmp : goal.returns-in_ok-jmp-in-Jmp
unfolding harmless way_holds
returns-in_ok-jmp-in-Jmp c = λ rows.
    let a = c.args in
    rw c.in-Jmp.is (rw (c.in_ok-jmp-in-Jmp.was) at (c.jmp.ensures (claim_by a.c.now rows) a.pc))
