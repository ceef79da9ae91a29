-- `step_parts::keys::arrive` meets its contract: between two turns of the loop, the keys still to come make the whole
-- arrival.
use Rattle.std.proofs.Common.{◌≡◌, ℕ, ◌-◌, List, length, drop, sym, refl, ◌∙◌, rules}
use Rattle.machine.specs.Record.{whole}
use Rattle.step_parts.proofs.KeyLaws.{one_key_arrives, no_key_arrives, keys_run_out}
use Rattle.step_parts.specs.Delivery.{arrival_of}
use Rattle.step_parts.proofs.keys.arrive.Given as goal

abbrev pub invariant-loop-k : goal.invariant-loop-k
invariant-loop-k l =
    (regs : List ℕ) (clock : ℕ)
    → arrival_of l.t (drop l.k l.times) (drop l.k l.bytes) (whole regs clock l.n) l.k
    ≡ arrival_of l.t (drop l.initial.k l.times) (drop l.initial.k l.bytes) (whole regs clock l.initial.n) l.initial.k

abbrev pub decreases-loop-k : goal.decreases-loop-k
decreases-loop-k l = length l.times - l.k
