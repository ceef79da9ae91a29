-- The steps with the same answers are at most the steps made.
use Rattle.std.proofs.Common.{◌≤◌}
use Rattle.demo.proofs.beside.sit_beside.Given as goal

abbrev pub invariant-loop-steps : goal.invariant-loop-steps
invariant-loop-steps g l = l.same ≤ l.steps-counter
