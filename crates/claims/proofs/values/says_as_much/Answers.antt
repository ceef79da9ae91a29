-- `claims::values::says_as_much` meets its contract.
use Rattle.std.proofs.Common.{refl, arith}
use Rattle.std.proofs.lemmas.Grind.{common_steps}
use borrow.Author.Tests.{eq-eqb}
use Rattle.sitting.specs.Values.{implies, same, kind_of, number_of, value_by}
use Rattle.claims.specs.Encoding.{value_of}
use Rattle.claims.proofs.StateLaws.{says_itself}
use Rattle.claims.proofs.values.says_as_much.Goals as goal

pub returns-then-v-w : goal.returns-then-v-w
returns-then-v-w c =
    let w = c.args.w in rw (c.if-v-w.true, says_itself (value_of w)) (eq-eqb w w refl)

pub returns-in-Is : goal.returns-in-Is
unfolding value_of value_by implies same kind_of number_of
returns-in-Is c = grind (arith, common_steps)
