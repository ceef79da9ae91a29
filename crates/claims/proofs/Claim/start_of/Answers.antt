-- `claims::Claim::start_of` meets its contract.
use Prim.Native.Nat.{suc, ◌-◌}
use native.Mathlib.Omega.{arith}
use mathlib.Core.Path.{◌≡◌, refl, ◌∙◌}
use Rattle.claims.specs.Encoding.{start_of}
use Rattle.claims.proofs.StateLaws.{start_is}
use Rattle.claims.proofs.Claim.start_of.Goals as goal

pub returns-then-j-eq0 : goal.returns-then-j-eq0
unfolding start_of
returns-then-j-eq0 c =
    let e : c.args.j ≡ 0 = omega arith in
    rw e refl

pub returns-else-j-eq0 : goal.returns-else-j-eq0
returns-else-j-eq0 c =
    let a = c.args in
    let e : suc (a.j - 1) ≡ a.j = omega arith in
    start_is a.self.now.ends.now 0 (a.j - 1) (omega arith) ∙ rw e refl
