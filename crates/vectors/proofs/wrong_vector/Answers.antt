-- `vectors::wrong_vector` meets its contract.
use Rattle.std.proofs.Common.{refl, sym, ◌∙◌, arith}
use Rattle.claims.specs.Decoded.{claim_watching}
use Rattle.findings.specs.Finding.{wrong_vector}
use Rattle.findings.proofs.FindingLaws.{vectors_more, vectors_first}
use Rattle.vectors.proofs.wrong_vector.Goals as goal

pub loop-a-init : goal.loop-a-init
unfolding wrong_vector
loop-a-init c = λ lowest watched n. refl

pub returns-then-not-leads_in : goal.returns-then-not-leads_in
returns-then-not-leads_in c = λ lowest watched n.
    vectors_first (claim_watching c.args.c.now lowest watched) c.loop-a.a 0x0103 (omega arith)
    (c.loop-a.invariant lowest watched n) (sym (c.leads_in.ensures lowest watched n) ∙ c.if-not-leads_in.true)

pub loop-a-preserved : goal.loop-a-preserved
loop-a-preserved c = λ lowest watched n.
    vectors_more (claim_watching c.args.c.now lowest watched) c.loop-a.a (c.loop-a.invariant lowest watched n)
    (sym (c.leads_in.ensures lowest watched n) ∙ c.if-not-leads_in.false)
