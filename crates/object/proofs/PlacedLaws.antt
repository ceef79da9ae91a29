-- Memory with words in place of a range: the range, what stands before and after it, and the length.
use Prim.Native.Nat.{ℕ, ◌+◌, ◌≤◌}
use native.Mathlib.Omega.{arith}
use mathlib.Core.Path.{◌≡◌, refl, sym, ap, ◌∙◌}
use mathlib.Core.List.{List, ◌++◌}
use lib.ListN.{length, take, drop, length-append, length-drop}
use lib.Seq.{length-take-le, take_at, drop_at, drop-drop}
use Rattle.object.specs.File.{range, placed}

module _ (origin : ℕ) (words memory : List ℕ) (h : origin + length words ≤ length memory) where
  length_before : length (take origin memory) ≡ origin
  length_before = length-take-le origin memory (omega arith)

  from_origin : drop origin (placed origin words memory) ≡ words ++ drop (origin + length words) memory
  from_origin = drop_at (take origin memory) (words ++ drop (origin + length words) memory) origin length_before

  pub placed_before : take origin (placed origin words memory) ≡ take origin memory
  placed_before = take_at (take origin memory) (words ++ drop (origin + length words) memory) origin length_before

  pub placed_range : range origin (length words) (placed origin words memory) ≡ words
  placed_range = ap (take (length words)) from_origin
      ∙ take_at words (drop (origin + length words) memory) (length words) refl

  pub placed_after : drop (origin + length words) (placed origin words memory) ≡ drop (origin + length words) memory
  placed_after =
      sym (drop-drop (length words) origin (placed origin words memory))
      ∙ (ap (drop (length words)) from_origin ∙ drop_at words (drop (origin + length words) memory) (length words) refl)

  pub placed_length : length (placed origin words memory) ≡ length memory
  placed_length = simp (length-append, length-drop) (omega (arith, length_before))
