-- Laws of the test: watched words, states, rows, vectors, room.
use Prim.Native.Nat.{ℕ, zero, suc, ◌≤◌, min}
use native.Mathlib.Omega.{arith}
use mathlib.Core.Path.{◌≡◌, refl}
use mathlib.Core.List.{List, [], ◌∷◌, map}
use borrow.Author.Tests.{le-leb}
use lib.ListN.{length}
use Rattle.sitting.specs.Values.{Value, is}
use Rattle.sitting.specs.Test.{Claim, Cell, cell_at, is_kept, all_kept}
use Rattle.sitting.specs.Test.{sound}
use Rattle.claims.specs.Encoding.{value_of, cell_of, cells_of}
use Rattle.std.specs.List.{list_all, zip}

-- ---- watched words

pub kept_by : (c : Claim) (sp : ℕ) (ws vs : List ℕ) → length ws ≡ length vs
    → list_all (λ (p : ℕ × ℕ). is_kept c sp p.0 (value_of p.1)) (zip ws vs) ≡ all_kept c sp ws (map value_of vs)
unfolding all_kept
kept_by c sp [] [] e = refl
kept_by c sp [] (v ∷ vs) e = absurd (omega arith)
kept_by c sp (w ∷ ws) [] e = absurd (omega arith)
kept_by c sp (w ∷ ws) (v ∷ vs) e = rw (kept_by c sp ws vs (omega arith)) refl

-- ---- the stack

pub sound_of : (c : Claim) (sp : ℕ) (vs : List Value) → c.lowest ≤ sp → sp ≤ 0x2FFE
    → all_kept c sp c.watched vs ≡ sound c (is sp) vs
unfolding sound
sound_of c sp vs l h = rw (le-leb c.lowest sp l, le-leb sp 0x2FFE h) refl

-- ---- cells

pub length_cells : (kinds memory : List ℕ) → length (cells_of kinds memory) ≡ min (length kinds) (length memory)
unfolding cells_of
length_cells [] memory = omega arith
length_cells (k ∷ kinds) [] = omega arith
length_cells (k ∷ kinds) (w ∷ memory) = omega (arith, length_cells kinds memory)

pub cell_past : (cells : List Cell) (a w : ℕ) → length cells ≤ a → cell_at cells a ≡ cell_of 0 w
unfolding cell_of
cell_past [] a w l = refl
cell_past (x ∷ cells) zero w l = absurd (omega arith)
cell_past (x ∷ cells) (suc a) w l = cell_past cells a w (omega arith)
