-- `claims::states::State::watched_at` meets its contract.
use Rattle.std.proofs.Common.{sym, ◌∙◌, arith}
use Rattle.claims.proofs.StateLaws.{held_there, held_nowhere}
use Rattle.claims.proofs.states.State.watched_at.Goals as goal

pub returns-in-Some : goal.returns-in-Some
returns-in-Some c =
    let a = c.args in
    c.from.ensures
    ∙ held_there a.a a.watched.now a.self.now.words c.in-Some.j (omega arith) (sym c.place.ensures ∙ c.in-Some.is)

pub returns-in-None : goal.returns-in-None
returns-in-None c =
    let a = c.args in
    held_nowhere a.a a.watched.now a.self.now.words (sym c.place.ensures ∙ c.in-None.is)
