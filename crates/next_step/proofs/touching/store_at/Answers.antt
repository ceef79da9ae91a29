-- `next_step::touching::store_at` meets its contract: the address is denied as the definition denies it, or its lent
-- word is replaced.
use mathlib.Core.Path.{refl, sym, ◌∙◌}
use Rattle.machine.specs.Edition.{edition_of}
use Rattle.machine.specs.Outcome.{access}
use Rattle.machine.specs.Entry.{raised}
use Rattle.machine.specs.Access.{store_at_by}
use Rattle.next_step.proofs.TouchLaws.{stored_touches}
use borrow.Author.Rules.{rules}
use Rattle.next_step.proofs.touching.store_at.Goals as goal

pub returns-then-is_denied : goal.returns-then-is_denied
unfolding store_at_by raised
returns-then-is_denied c =
    λ clock v memory.
    rw (sym c.is_denied.ensures ∙ c.if-is_denied.true)
    (c.enter.ensures clock _ _ memory access refl refl)

pub returns : goal.returns
unfolding store_at_by
returns c =
    λ clock v memory.
    let a = c.args in
    rw (
      sym c.is_denied.ensures ∙ c.if-is_denied.false,
      c.prepend_lent-writes.ensures,
      c.none.ensures,
      c.none-reads.ensures,
    )
    (sym (stored_touches (edition_of a.second) v a.a _ memory))
