-- `refusals::times_admission` meets its contract: between two turns of the loop the answer to the times still
-- to come is the answer to all, and the last time is not below the clock.
use Prim.Native.Nat.{◌-◌, ◌≤◌}
use native.Mathlib.Omega.{arith}
use mathlib.Core.Path.{◌≡◌, refl, ◌∙◌}
use lib.ListN.{length, drop}
use Rattle.run.specs.Refusals.{times_admission}
use Rattle.run.proofs.RefusalLaws.{time_passes, time_below_clock, time_below_last, times_run_out}
use borrow.Author.Rules.{rules}
use Rattle.refusals.proofs.times_admission.Goals as goal

pub returns-then-t-clock : goal.returns-then-t-clock
returns-then-t-clock c =
    let a = c.args in
    let l = c.loop-k in
    time_below_clock a.clock l.last a.times.now l.k (search rules) (search rules) ∙ l.invariant.0

pub returns-then-t-last : goal.returns-then-t-last
returns-then-t-last c =
    let a = c.args in
    let l = c.loop-k in
    time_below_last a.clock l.last a.times.now l.k (search rules) (search rules) (search rules) ∙ l.invariant.0

pub loop-k-preserved : goal.loop-k-preserved
loop-k-preserved c =
    let a = c.args in
    let l = c.loop-k in (
      time_passes a.clock l.last a.times.now l.k (search rules) (search rules) (search rules) ∙ l.invariant.0,
      search rules,
    )

pub returns : goal.returns
returns c =
    let a = c.args in
    let l = c.loop-k in
    times_run_out a.clock l.last a.times.now l.k (search rules) ∙ l.invariant.0
