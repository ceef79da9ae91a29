-- `refusals::times_admission` meets its contract: between two turns of the loop the answer to the times still
-- to come is the answer to all, and the last time is not below the clock.
use Prim.Native.Nat.{◌-◌, ◌≤◌}
use native.Mathlib.Omega.{arith}
use mathlib.Core.Path.{◌≡◌, refl, ◌∙◌}
use lib.ListN.{length, drop}
use Rattle.run.specs.Refusals.{times_admission}
use Rattle.run.proofs.RefusalLaws.{time_passes, time_below_clock, time_below_last, times_run_out}
use borrow.Author.Rules.{rules}
use Rattle.refusals.proofs.times_admission.Given as goal

abbrev pub invariant-loop-k : goal.invariant-loop-k
invariant-loop-k l =
    (times_admission l.clock l.last l.k (drop l.k l.times) ≡ times_admission l.clock l.clock 0 l.times)
    × (l.clock ≤ l.last)
