-- The fourteen examples hold, by computation.
use mathlib.Core.Path.{refl}
use Rattle.run.proofs.Opened.{opened}
use Rattle.run_examples.specs.Examples.{ExamplesHold}

pub examples_hold : ExamplesHold
unfolding opened
examples_hold = refl
