-- `refusals::undefined_timer` meets its contract: each test is the definition's.
use borrow.Author.Tests.{eq-eqb, ne_eqb, lt-ltb, le-ltb}
use Rattle.run.specs.Refusals.{undefined_timer}
use borrow.Author.Rules.{rules}
use Rattle.refusals.proofs.undefined_timer.Goals as goal

pub returns-then-status-ne0 : goal.returns-then-status-ne0
unfolding undefined_timer
returns-then-status-ne0 c =
    rw (ne_eqb _ _ c.if-status-ne0.true)

pub returns-then-interval-count : goal.returns-then-interval-count
unfolding undefined_timer
returns-then-interval-count c =
    rw (eq-eqb _ _ c.if-status-ne0.false, lt-ltb _ _ c.if-interval-count.true)

pub returns-then-count-ne0 : goal.returns-then-count-ne0
unfolding undefined_timer
returns-then-count-ne0 c =
    rw (eq-eqb _ _ c.if-status-ne0.false, le-ltb _ _ c.if-interval-count.false, ne_eqb _ _ c.if-count-ne0.true)

pub returns : goal.returns
unfolding undefined_timer
returns c =
    rw (eq-eqb _ _ c.if-status-ne0.false, le-ltb _ _ c.if-interval-count.false, eq-eqb _ _ c.if-count-ne0.false)
