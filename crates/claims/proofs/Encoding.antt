-- The memory that was tested has the monitor in it.
use Prim.Native.Nat.{ℕ, zero, suc}
use mathlib.Core.Path.{◌≡◌, ap}
use mathlib.Core.Bool.{Bool, true, false, cond, true≢false}
use mathlib.Core.List.{List, [], ◌∷◌}
use lib.Dec.{eqb}
use lib.ListN.{get_or}
use Rattle.sitting.specs.Test.{Cell, fixed, own, hidden, cell_at, is_hidden, is_own}
use Rattle.claims.specs.Encoding.{cell_of, cells_of, TestedIsLoaded}

word_in : Cell → ℕ
word_in (fixed w) = w
word_in own = 0
word_in hidden = 0

hidden_is_not_fixed : (w : ℕ) → hidden ≡ fixed w → ⊥
hidden_is_not_fixed w e = true≢false (unfold is_hidden in ap is_hidden e)

own_is_not_fixed : (w : ℕ) → own ≡ fixed w → ⊥
own_is_not_fixed w e = true≢false (unfold is_own in ap is_own e)

one_word : (kind word w : ℕ) → cell_of kind word ≡ fixed w → word ≡ w
one_word kind word w h = go (eqb kind 1) (eqb kind 2) (unfold cell_of in h)
  where
    go : (p q : Bool) → cond p (fixed word) (cond q own hidden) ≡ fixed w → word ≡ w
    go true q h = unfold word_in in ap word_in h
    go false true h = absurd (own_is_not_fixed w h)
    go false false h = absurd (hidden_is_not_fixed w h)

loaded : (kinds memory : List ℕ) (a w : ℕ) → cell_at (cells_of kinds memory) a ≡ fixed w → get_or memory a 0 ≡ w
unfolding cells_of
loaded [] memory a w h = absurd (hidden_is_not_fixed w h)
loaded (kind ∷ kinds) [] a w h = absurd (hidden_is_not_fixed w h)
loaded (kind ∷ kinds) (word ∷ memory) zero w h = one_word kind word w h
loaded (kind ∷ kinds) (word ∷ memory) (suc a) w h = loaded kinds memory a w h

pub tested_is_loaded : TestedIsLoaded
tested_is_loaded memory kinds a w h = loaded kinds memory a w h
