-- `claims::values::Known::says_all` meets its contract.
use Rattle.std.proofs.Common.{arith}
use Rattle.std.proofs.lemmas.Grind.{common_steps}
use Rattle.sitting.specs.Values.{implies, same, kind_of, number_of}
use Rattle.claims.proofs.values.Known.says_all.Goals as goal

pub returns-in-Unset : goal.returns-in-Unset
unfolding implies kind_of
returns-in-Unset c = grind (arith, common_steps)

pub returns-in-Any : goal.returns-in-Any
unfolding implies kind_of
returns-in-Any c = grind (arith, common_steps)

pub returns-in_default : goal.returns-in_default
unfolding implies same kind_of number_of
returns-in_default c = grind (arith, common_steps)
