-- `ways::jump::returns_to` meets its contract.
use Rattle.std.proofs.Common.{arith}
use Rattle.std.proofs.lemmas.Grind.{common_steps}
use Rattle.sitting.specs.Values.{same, kind_of, number_of}
use Rattle.sitting.specs.Test.{returns_by, returning}
use Rattle.claims.proofs.StateLaws.{put_six}
use Rattle.ways.specs.Ways.{way_holds}
use Rattle.ways.proofs.jump.returns_to.Goals as goal

pub returns-in_default : goal.returns-in_default
unfolding returns_by
returns-in_default c = grind (arith, common_steps)

pub returns-then-sp-eq12286 : goal.returns-then-sp-eq12286
unfolding returns_by way_holds
returns-then-sp-eq12286 c = grind (arith, common_steps)

pub returns-in_default-watched_at : goal.returns-in_default-watched_at
unfolding returns_by same kind_of
returns-in_default-watched_at c = grind (arith, common_steps)

pub returns-in_err-to : goal.returns-in_err-to
unfolding returns_by same kind_of number_of
returns-in_err-to c = grind (arith, common_steps)

pub overflow_add-sp : goal.overflow_add-sp
unfolding number_of
overflow_add-sp c = grind (arith, common_steps)

pub returns : goal.returns
unfolding returns_by returning same kind_of number_of way_holds
returns c = grind (arith, common_steps, put_six)
