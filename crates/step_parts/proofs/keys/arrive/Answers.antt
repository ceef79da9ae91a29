-- `step_parts::keys::arrive` meets its contract: between two turns of the loop, the keys still to come make the whole
-- arrival.
use Rattle.std.proofs.Common.{◌≡◌, ℕ, ◌-◌, List, length, drop, sym, refl, ◌∙◌, rules}
use Rattle.machine.specs.Record.{whole}
use Rattle.step_parts.proofs.KeyLaws.{one_key_arrives, no_key_arrives, keys_run_out}
use Rattle.step_parts.specs.Delivery.{arrival_of}
use Rattle.step_parts.proofs.keys.arrive.Goals as goal

pub loop-k-preserved : goal.loop-k-preserved
loop-k-preserved c = λ regs clock.
    let a = c.args in
    let l = c.loop-k in
    rw (c.press-n.ensures regs clock)
    (sym (one_key_arrives a.t a.times.now a.bytes.now (whole regs clock l.n) l.k (search rules)
    (search rules) c.if-times-k.false)
    ∙ l.invariant regs clock)

pub returns-after-loop-k : goal.returns-after-loop-k
returns-after-loop-k c =
    λ regs clock.
    let a = c.args in
    let l = c.loop-k in
    keys_run_out a.t a.times.now a.bytes.now (whole regs clock l.n) l.k (search rules)
    ∙ l.invariant regs clock

pub returns-then-times-k : goal.returns-then-times-k
returns-then-times-k c = λ regs clock.
    let a = c.args in
    let l = c.loop-k in
    no_key_arrives a.t a.times.now a.bytes.now (whole regs clock l.n) l.k (search rules) (search rules)
    c.if-times-k.true
    ∙ l.invariant regs clock
