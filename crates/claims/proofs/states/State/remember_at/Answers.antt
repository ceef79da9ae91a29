-- `claims::states::State::remember_at` meets its contract.
use Rattle.std.proofs.Common.{◌≡◌, refl, arith, length}
use Rattle.claims.proofs.StateLaws.{one_remembered, same_remembered, all_remembered}
use Rattle.claims.proofs.states.State.remember_at.Goals.{then-w-a, else-w-a}
use Rattle.claims.proofs.states.State.remember_at.Goals as goal

pub loop-j-preserved : goal.loop-j-preserved
loop-j-preserved c =
    let a = c.args in
    let i = c.loop-j.invariant in
    elim c.if-w-a.branch [
      | then-w-a w ↦
          rw w.self-is (
            i.0,
            i.1,
            one_remembered a.watched.now a.a c.from-n.result a.self.now.words c.loop-j.self.words c.loop-j.j
                i.2 (omega arith) (omega arith),
          )
      | else-w-a w ↦
          rw w.self-is (
            i.0,
            i.1,
            same_remembered a.watched.now a.a c.from-n.result a.self.now.words c.loop-j.self.words c.loop-j.j
                i.2 (λ e. omega arith),
          )
    ]

pub returns : goal.returns
returns c =
    let a = c.args in
    let i = c.loop-j.invariant in
    let e : c.loop-j.j ≡ length a.watched.now = omega arith in
    rw (
      i.0,
      i.1,
      all_remembered a.watched.now a.a c.from-n.result a.self.now.words c.loop-j.self.words (omega arith)
          (rw e at i.2),
      c.from-n.ensures,
    ) refl
