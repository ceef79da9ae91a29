-- Text put into the output at a place: one character, nothing, and two texts in a row, which are put as one.
use Prim.Native.Nat.{ℕ, ◌+◌, ◌≤◌}
use native.Mathlib.Omega.{arith}
use native.Mathlib.Nat.{add-zero}
use mathlib.Core.Path.{◌≡◌, refl, sym, ap, ◌∙◌}
use mathlib.Core.List.{List, [], ◌∷◌, ◌++◌, append_assoc}
use lib.ListN.{length, take, drop, set, length-append}
use lib.Seq.{sets-eq, paste-zero, take_at, drop_at, drop-drop, length-take-le}
use Rattle.text.specs.declared.characters.Writer.{Writer}
use Rattle.text.specs.Placing.{Put}
use Rattle.text.specs.Writing.{Wrote}

pub put_one : (at a : ℕ) (out : List ℕ) → at + 1 ≤ length out → Put at (a ∷ []) out (at + 1) (set out at a)
put_one at a out fits = record { place = refl; bytes = sets-eq (a ∷ []) out at fits }

pub put_nothing : (at : ℕ) (out : List ℕ) → Put at [] out at out
put_nothing at out = record { place = sym (add-zero at); bytes = paste-zero out at [] }

-- two texts in a row
pub then : {at n m : ℕ} {s t out mid end : List ℕ} → Put at s out n mid → Put n t mid m end → at ≤ length out
    → Put at (s ++ t) out m end
then {at} {n} {m} {s} {t} {out} {mid} {end} p q inside =
    record { place = omega (arith, p.place, q.place, length-append s t); bytes = bytes }
  where
    seam : length (take at out ++ s) ≡ n
    seam = omega (arith, p.place, length-append (take at out) s, length-take-le at out inside)

    head : take n mid ≡ take at out ++ s
    head = ap (take n) p.bytes ∙ take_at (take at out ++ s) (drop (at + length s) out) n seam

    rest : drop n mid ≡ drop (at + length s) out
    rest = ap (drop n) p.bytes ∙ drop_at (take at out ++ s) (drop (at + length s) out) n seam

    tail : drop (n + length t) mid ≡ drop (at + length (s ++ t)) out
    tail =
        let e : at + length s + length t ≡ at + length (s ++ t) = omega (arith, length-append s t) in
        sym (drop-drop (length t) n mid)
        ∙ (ap (drop (length t)) rest ∙ (drop-drop (length t) (at + length s) out ∙ ap (λ (k : ℕ). drop k out) e))

    bytes : end ≡ take at out ++ (s ++ t) ++ drop (at + length (s ++ t)) out
    bytes =
        q.bytes
        ∙ (ap (λ (h : List ℕ). h ++ t ++ drop (n + length t) mid) head
        ∙ (ap (λ (r : List ℕ). take at out ++ s ++ t ++ r) tail
        ∙ ap (λ (h : List ℕ). h ++ drop (at + length (s ++ t)) out) (append_assoc (take at out) s t)))

-- the same by a writer
pub wrote_then : {s t : List ℕ} {before between after : Writer} → Wrote before s between → Wrote between t after
    → Wrote before (s ++ t) after
wrote_then p q = record {
  put = then p.put q.put (omega (arith, p.put.place, p.as_long, p.inside));
  same = q.same ∙ p.same;
  as_long = q.as_long ∙ p.as_long;
  inside = q.inside;
}
