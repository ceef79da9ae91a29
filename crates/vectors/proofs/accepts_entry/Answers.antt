-- `vectors::accepts_entry` meets its contract.
use Rattle.sitting.specs.Test.{accepts}
use Rattle.claims.specs.Decoded.{claim_watching}
use Rattle.vectors.proofs.accepts_entry.Goals as goal

pub returns : goal.returns
unfolding accepts
returns c = λ lowest watched n.
    rw (c.entry.ensures (claim_watching c.args.c.now lowest watched) n) at c.accepts.ensures
