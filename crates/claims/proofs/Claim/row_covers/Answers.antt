-- `claims::Claim::row_covers` meets its contract.
use Rattle.std.proofs.Common.{refl, sym, ◌∙◌, arith}
use Rattle.claims.specs.Decoded.{known_state}
use Rattle.claims.proofs.StateLaws.{row_step, row_end}
use Rattle.claims.proofs.Claim.row_covers.Goals as goal

pub returns-then-covers : goal.returns-then-covers
returns-then-covers c =
    let a = c.args in
    let l = c.loop-k in
    sym (l.invariant ∙ (row_step (known_state a.s.now) a.self.now.table.now l.k a.end (omega arith)
    ∙ rw (← c.state.ensures, ← c.covers.ensures, c.if-covers.true) refl))

pub loop-k-preserved : goal.loop-k-preserved
loop-k-preserved c =
    let a = c.args in
    let l = c.loop-k in
    l.invariant ∙ (row_step (known_state a.s.now) a.self.now.table.now l.k a.end (omega arith)
    ∙ rw (← c.state.ensures, ← c.covers.ensures, c.if-covers.false) refl)

pub returns : goal.returns
returns c =
    let a = c.args in
    let l = c.loop-k in
    sym (l.invariant ∙ row_end (known_state a.s.now) _ _ (omega arith))
