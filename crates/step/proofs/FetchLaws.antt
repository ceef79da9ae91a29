-- What a fetch leaves is what the instruction leaves, and the word.
use Prim.Native.Nat.{ℕ}
use mathlib.Core.Path.{◌≡◌, refl}
use Rattle.step_parts.specs.Delivery.{After}
use Rattle.step.specs.Taken.{with_word}

pub same_with_word : {a b : After} {v w : ℕ} → a ≡ b → v ≡ w → with_word a v ≡ with_word b w
same_with_word p q = rw (p, q) refl
