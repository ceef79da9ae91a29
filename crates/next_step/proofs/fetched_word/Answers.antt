-- `next_step::fetched_word` meets its contract: by the tests of the definition.
use mathlib.Core.Path.{sym, ◌∙◌}
use Rattle.machine.specs.Rules.{fetched_word_by}
use borrow.Author.Rules.{rules}
use Rattle.next_step.proofs.fetched_word.Goals as goal

pub returns-then-is_interrupt : goal.returns-then-is_interrupt
unfolding fetched_word_by
returns-then-is_interrupt c = rw (sym c.is_interrupt.ensures ∙ c.if-is_interrupt.true)

pub returns-then-is_denied : goal.returns-then-is_denied
unfolding fetched_word_by
returns-then-is_denied c =
    rw (
      sym c.is_interrupt.ensures ∙ c.if-is_interrupt.false,
      sym c.is_denied.ensures ∙ c.if-is_denied.true,
    )

pub returns : goal.returns
unfolding fetched_word_by
returns c =
    rw (
      sym c.is_interrupt.ensures ∙ c.if-is_interrupt.false,
      sym c.is_denied.ensures ∙ c.if-is_denied.false,
    )
    c.word_at.ensures
