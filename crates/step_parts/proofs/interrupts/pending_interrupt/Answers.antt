-- `step_parts::interrupts::pending_interrupt` meets its contract: by the cases of its tests.
use Rattle.std.proofs.Common.{sym, ◌∙◌, rules, le-ltb, lt-ltb, le-leb}
use borrow.Author.Tests.{lt-leb}
use Rattle.machine.specs.Interrupts.{pending_interrupt}
use Rattle.step_parts.proofs.interrupts.pending_interrupt.Goals as goal

pub returns-then-may_interrupt : goal.returns-then-may_interrupt
unfolding pending_interrupt
returns-then-may_interrupt c =
    λ regs clock. rw (sym c.may_interrupt.ensures ∙ c.if-may_interrupt.true)

pub returns-then-c-lt49152 : goal.returns-then-c-lt49152
unfolding pending_interrupt
returns-then-c-lt49152 c =
    λ regs clock. rw (
      sym c.may_interrupt.ensures ∙ c.if-may_interrupt.false,
      lt-leb _ _
          c.if-c-lt49152.true,
    )

pub returns-then-c-lt4 : goal.returns-then-c-lt4
unfolding pending_interrupt
returns-then-c-lt4 c =
    λ regs clock. rw (
      sym c.may_interrupt.ensures ∙
          c.if-may_interrupt.false,
      le-leb _ _ c.if-c-lt49152.false,
      lt-ltb _ _ c.if-c-lt4.true,
    )

pub returns : goal.returns
unfolding pending_interrupt
returns c =
    λ regs clock. rw (
      sym c.may_interrupt.ensures ∙
          c.if-may_interrupt.false,
      le-leb _ _ c.if-c-lt49152.false,
      le-ltb _ _ c.if-c-lt4.false,
    )
