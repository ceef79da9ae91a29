-- `step_parts::psr::with_codes` meets its contract: by the three cases of the value.
use Rattle.std.proofs.Common.{arith, rules, le-ltb, lt-ltb, eq-eqb, ne_eqb}
use Rattle.machine.specs.Psr.{codes_of, recoded}
use Rattle.step_parts.proofs.psr.with_codes.Goals as goal

pub returns-then-v-ge32768 : goal.returns-then-v-ge32768
unfolding recoded codes_of
returns-then-v-ge32768 c =
    let v = c.args.v in
    let negative = c.if-v-ge32768.true in
    rw (ne_eqb v 0 (λ e. absurd (omega (arith, e, negative))), le-ltb v 0x8000 negative)

pub returns-then-v-eq0 : goal.returns-then-v-eq0
unfolding recoded codes_of
returns-then-v-eq0 c = rw (eq-eqb _ _ c.if-v-eq0.true)

pub returns-else-v-eq0 : goal.returns-else-v-eq0
unfolding recoded codes_of
returns-else-v-eq0 c = rw (ne_eqb _ _ c.if-v-eq0.false, lt-ltb _ _ c.if-v-ge32768.false)
