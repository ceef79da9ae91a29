-- `claims::states::forgotten` meets its contract.
use borrow.Author.Rules.{rules}
use Rattle.std.proofs.Common.{arith}
use Rattle.claims.proofs.StateLaws.{values_forgotten}
use Rattle.claims.proofs.states.forgotten.Goals as goal

pub returns : goal.returns
returns c =
    let a = c.args in
    let m = c.map.ensures.items in
    values_forgotten a.values c.map.result (omega (arith, m.long))
    (λ i l. let z = m.at i 0 0 (omega arith) in let k = z.2 in search rules)
