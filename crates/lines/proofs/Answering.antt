-- The two answers of a call that writes text at the output's start.
use Prim.Native.Nat.{ℕ, ◌≤◌, ◌<◌}
use native.Mathlib.Nat.{zero-add}
use mathlib.Core.Path.{◌≡◌, ap, ◌∙◌}
use mathlib.Core.List.{List, ◌++◌}
use lib.ListN.{length, drop}
use borrow.Author.Tests.{lt-ltb, le-ltb}
use Rattle.lent.specs.Lent.{too_short, written_whole}
use Rattle.text.specs.Placing.{Put}

pub too_long : (text output : List ℕ) → length output < length text
    → written_whole text output ≡ record { count = 0; refusal = 16; output = output }
unfolding too_short
too_long text output p = rw (lt-ltb (length output) (length text) p)

pub written : (text output after : List ℕ) (n : ℕ) → length text ≤ length output → Put 0 text output n after
    → record { count = n; refusal = 0; output = after } ≡ written_whole text output
unfolding too_short
written text output after n p q =
    let e : n ≡ length text = q.place ∙ zero-add (length text) in
    let b : after ≡ text ++ drop (length text) output =
    q.bytes ∙ ap (λ (k : ℕ). text ++ drop k output) (zero-add (length text)) in
    rw (le-ltb (length output) (length text) p) cc
