-- What a writer has room for, and what it has written, for the contracts of the functions that write by one.
use Rattle.std.specs.Prelude.{ℕ, ◌≡◌, ◌≤◌, List, length}
use Rattle.text.specs.declared.characters.Writer.{Writer}
use Rattle.text.specs.Placing.{Room, Put}

-- the text fits into the output from the writer's place on
abbrev pub Fits : Writer → List ℕ → Type 0
Fits writer text = Room writer.at text writer.output.now

-- the text was put at the writer's place, which is after it now and within the output: the same one, and as long
pub record Wrote (before : Writer) (text : List ℕ) (after : Writer) : Type 0 where
  pub put : Put before.at text before.output.now after.at after.output.now
  pub same : after.output.ghost_name ≡ before.output.ghost_name
  pub as_long : length after.output.now ≡ length before.output.now
  pub inside : after.at ≤ length after.output.now
