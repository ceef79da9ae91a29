-- `step_parts::devices::show` meets its contract: a busy display is left alone; otherwise by the two cases of the
-- output's length.
use Rattle.std.proofs.Common.{length, arith, rules, lt-ltb, eq-eqb, ne_eqb}
use Rattle.machine.specs.Devices.{display_is_ready, ddr_store}
use Rattle.step_parts.proofs.devices.show.Goals as goal

pub returns-then-busy-ne0 : goal.returns-then-busy-ne0
unfolding ddr_store display_is_ready
returns-then-busy-ne0 c =
    λ r regs memory clock busy. rw (busy, ne_eqb _ _ c.if-busy-ne0.true)

pub returns-then-output-eq0 : goal.returns-then-output-eq0
unfolding ddr_store display_is_ready
returns-then-output-eq0 c =
    λ r regs memory clock busy. rw (busy, eq-eqb _ _ c.if-busy-ne0.false, c.if-output-eq0.true)

pub returns : goal.returns
unfolding ddr_store display_is_ready
returns c =
    λ r regs memory clock busy.
    let output = c.args.output in
    rw (busy, eq-eqb _ _ c.if-busy-ne0.false, lt-ltb 0 (length output.now) (omega arith))
