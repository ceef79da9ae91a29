-- The tables of starts, by computation.
use mathlib.Core.Path.{refl}
use Rattle.start.proofs.Opened.{opened}
use Rattle.file_examples.specs.StartExamples.{ExamplesHold, UserExamplesHold}

pub examples_hold : ExamplesHold
unfolding opened
examples_hold = refl

pub user_examples_hold : UserExamplesHold
unfolding opened
user_examples_hold = refl
