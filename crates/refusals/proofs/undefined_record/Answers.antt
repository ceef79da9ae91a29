-- `refusals::undefined_record` meets its contract: each test is the definition's.
use mathlib.Core.Path.{sym, ◌∙◌}
use borrow.Author.Tests.{eq-eqb, ne_eqb}
use Rattle.run.specs.Refusals.{undefined_record}
use borrow.Author.Rules.{rules}
use Rattle.refusals.proofs.undefined_record.Goals as goal

pub returns-then-psr-m : goal.returns-then-psr-m
unfolding undefined_record
returns-then-psr-m c =
    rw (ne_eqb _ _ (rw c.defined_psr-psr.ensures at c.if-psr-m.true))

pub returns-then-undefined_devices : goal.returns-then-undefined_devices
unfolding undefined_record
returns-then-undefined_devices c =
    rw (
      eq-eqb _ _ (rw c.defined_psr-psr.ensures at
          c.if-psr-m.false),
      sym c.undefined_devices.ensures ∙ c.if-undefined_devices.true,
    )

pub returns : goal.returns
unfolding undefined_record
returns c =
    rw (
      eq-eqb _ _ (rw c.defined_psr-psr.ensures at c.if-psr-m.false),
      sym c.undefined_devices.ensures ∙ c.if-undefined_devices.false,
    )
