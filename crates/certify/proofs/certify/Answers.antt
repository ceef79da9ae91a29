-- `certify::certify` meets its contract.
use borrow.Author.Rules.{rules}
use Rattle.std.proofs.Common.{◌≡◌, ◌∙◌, length}
use mathlib.Core.Bool.{false≢true}
use Rattle.findings.proofs.FindingLaws.{wrong_watched, eight_watched}
use Rattle.certify.proofs.certify.Goals as goal

pub returns-in_default : goal.returns-in_default
returns-in_default c =
    let a = c.args in
    c.from.ensures
    ∙ wrong_watched a.memory.now a.kinds.now a.lowest a.watched.now a.ends.now a.table.now
    (λ e. false≢true (c.in_default.ensures.0 e))

pub returns : goal.returns
returns c =
    let a = c.args in
    let w : c.in-Ok.watched.now ≡ a.watched.now = search rules in
    let n : length a.watched.now ≡ 8 = search rules in
    c.from-2.ensures ∙ rw w at c.first_fault.ensures
    ∙ eight_watched a.memory.now a.kinds.now a.lowest a.watched.now a.ends.now a.table.now n
