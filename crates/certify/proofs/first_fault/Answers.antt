-- `certify::first_fault` meets its contract.
use Rattle.std.proofs.Common.{sym, ◌∙◌, arith}
use Rattle.std.proofs.lemmas.Grind.{common_steps}
use Rattle.claims.specs.Decoded.{claim_in}
use Rattle.findings.specs.Finding.{wrong_with, unless}
use Rattle.findings.proofs.FindingLaws.{wrong_room, found}
use Rattle.certify.proofs.first_fault.Goals as goal

pub returns-then-not-has_room : goal.returns-then-not-has_room
returns-then-not-has_room c =
    let a = c.args.c.now in
    wrong_room (claim_in a) a.ends.now a.table.now
    (sym (c.has_room.ensures.by_index a.watched.now (claim_in a).table) ∙ c.if-not-has_room.true)

pub returns-in_err-wrong_vectors : goal.returns-in_err-wrong_vectors
unfolding wrong_with unless
returns-in_err-wrong_vectors c = grind (arith, common_steps, found)

pub returns : goal.returns
unfolding wrong_with unless
returns c = grind (arith, common_steps, found)
