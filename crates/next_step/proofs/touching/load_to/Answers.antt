-- `next_step::touching::load_to` meets its contract: the address is denied as the definition denies it, or its lent
-- word is taken.
use mathlib.Core.Path.{refl, sym, ◌∙◌}
use Rattle.machine.specs.Edition.{edition_of}
use Rattle.machine.specs.Outcome.{access}
use Rattle.machine.specs.Entry.{raised}
use Rattle.machine.specs.Access.{load_to_by}
use Rattle.next_step.proofs.TouchLaws.{lent_alone}
use borrow.Author.Rules.{rules}
use Rattle.next_step.proofs.touching.load_to.Goals as goal

pub returns-then-is_denied : goal.returns-then-is_denied
unfolding load_to_by raised
returns-then-is_denied c =
    λ clock r memory.
    rw (sym c.is_denied.ensures ∙ c.if-is_denied.true)
    (c.enter.ensures clock _ _ memory access refl refl)

pub returns : goal.returns
unfolding load_to_by
returns c =
    λ clock r memory.
    let a = c.args in
    rw (
      sym c.is_denied.ensures ∙ c.if-is_denied.false,
      c.none-writes.ensures,
      c.prepend_lent-reads.ensures,
      c.none.ensures,
      lent_alone (edition_of a.second) a.a,
    )
