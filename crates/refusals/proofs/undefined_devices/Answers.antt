-- `refusals::undefined_devices` meets its contract: each test is the definition's.
use borrow.Author.Tests.{eq-eqb, ne_eqb, le-leb, lt-leb, lt-ltb, le-ltb}
use Rattle.run.specs.Refusals.{undefined_devices}
use borrow.Author.Rules.{rules}
use Rattle.refusals.proofs.undefined_devices.Goals as goal

pub returns-then-d-ne0 : goal.returns-then-d-ne0
unfolding undefined_devices
returns-then-d-ne0 c =
    rw (ne_eqb _ _ c.if-d-ne0.true)

pub returns-then-d-ge256 : goal.returns-then-d-ge256
unfolding undefined_devices
returns-then-d-ge256 c =
    rw (eq-eqb _ _ c.if-d-ne0.false, le-leb _ _ c.if-d-ge256.true)

pub returns-then-d-ne0-2 : goal.returns-then-d-ne0-2
unfolding undefined_devices
returns-then-d-ne0-2 c =
    rw (
      eq-eqb _ _ c.if-d-ne0.false,
      lt-leb _ _ c.if-d-ge256.false,
      ne_eqb _ _ c.if-d-ne0-2.true,
    )

pub returns-then-d-gt8 : goal.returns-then-d-gt8
unfolding undefined_devices
returns-then-d-gt8 c =
    rw (
      eq-eqb _ _ c.if-d-ne0.false,
      lt-leb _ _ c.if-d-ge256.false,
      eq-eqb _ _ c.if-d-ne0-2.false,
      lt-ltb _ _ c.if-d-gt8.true,
    )

pub returns : goal.returns
unfolding undefined_devices
returns c =
    rw (
      eq-eqb _ _ c.if-d-ne0.false,
      lt-leb _ _ c.if-d-ge256.false,
      eq-eqb _ _ c.if-d-ne0-2.false,
      le-ltb _ _ c.if-d-gt8.false,
      c.undefined_timer.ensures,
    )
