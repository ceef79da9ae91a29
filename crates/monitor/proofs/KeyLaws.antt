-- The keys that arrive: a step takes the next ones of the list, and the clock tells how many have arrived.
use Prim.Native.Nat.{ℕ, suc, ◌+◌, ◌-◌, ◌%◌, ◌≤◌}
use native.Mathlib.Nat.{suc-add, zero-add}
use native.Mathlib.Omega.{arith}
use native.Mathlib.Decide.{dec_le}
use mathlib.Core.Path.{◌≡◌, refl, sym, ap, ◌∙◌}
use mathlib.Core.Bool.{Bool, true, false, cond}
use mathlib.Core.List.{List, [], ◌∷◌, ◌++◌}
use borrow.Author.Tests.{lt-ltb, le-ltb, eq-eqb, ne_eqb}
use lib.Dec.{ltb, eqb}
use lib.ListN.{length, take, drop}
use lib.Seq.{take-add, drop-drop}
use Rattle.machine.specs.Keys.{keys_due, ready_after, last_key}
use Rattle.machine.proofs.Tests.{or_is_false}
use Rattle.run.specs.KeyLists.{out_of_order}
use Rattle.run.specs.Run.{Start, End, arriving}
use Rattle.monitor.specs.Keys.{keys_before}

-- The keys due are the first of the list.
due_are_first : (t : ℕ) (times bytes : List ℕ) → take (length (keys_due t times bytes)) bytes ≡ keys_due t times bytes
unfolding keys_due
due_are_first t [] bytes = refl
due_are_first t (u ∷ times) [] = refl
due_are_first t (u ∷ times) (b ∷ bytes) = go (eqb u t) (due_are_first t times bytes)
  where
    go : (same : Bool) → take (length (keys_due t times bytes)) bytes ≡ keys_due t times bytes
        → take (length (cond same (b ∷ keys_due t times bytes) [])) (b ∷ bytes)
        ≡ cond same (b ∷ keys_due t times bytes) []
    go true h = ap (λ (l : List ℕ). b ∷ l) h
    go false h = refl

pub all_arrived : (s : Start) (e : End)
    → take (e.keys + length (arriving s e)) s.bytes ≡ take e.keys s.bytes ++ arriving s e
unfolding arriving
all_arrived s e =
    take-add e.keys (length (arriving s e)) s.bytes
    ∙ ap (λ (l : List ℕ). take e.keys s.bytes ++ l)
    (due_are_first e.machine.clock (drop e.keys s.times) (drop e.keys s.bytes))

-- Those since the first `read` ones, with the ones that arrive in this step.
pub arrived : (s : Start) (e : End) (read : ℕ) → read ≤ e.keys
    → take (e.keys + length (arriving s e) - read) (drop read s.bytes)
    ≡ take (e.keys - read) (drop read s.bytes) ++ arriving s e
unfolding arriving
arrived s e read le =
    let n : ℕ = length (arriving s e) in
    let z : e.keys + n - read ≡ e.keys - read + n = omega arith in
    let w : read + (e.keys - read) ≡ e.keys = omega arith in
    rw z
    (take-add (e.keys - read) n (drop read s.bytes)
    ∙ ap (λ (l : List ℕ). take (e.keys - read) (drop read s.bytes) ++ l)
    (ap (λ (l : List ℕ). take n l) (dropped s.bytes read (e.keys - read) e.keys w)
    ∙ due_are_first e.machine.clock (drop e.keys s.times) (drop e.keys s.bytes)))
  where
    dropped : (l : List ℕ) (a b c : ℕ) → a + b ≡ c → drop b (drop a l) ≡ drop c l
    dropped l a b c p = rw (← p) (drop-drop b a l)

pub ready_after_both : (xs ys : List ℕ) (kbsr : ℕ) → ready_after (xs ++ ys) kbsr ≡ ready_after ys (ready_after xs kbsr)
unfolding ready_after
ready_after_both [] ys kbsr = refl
ready_after_both (x ∷ xs) ys kbsr = ready_after_both xs ys (kbsr % 0x8000 + 0x8000)

pub last_of_both : (xs ys : List ℕ) (kbdr : ℕ) → last_key (xs ++ ys) kbdr ≡ last_key ys (last_key xs kbdr)
unfolding last_key
last_of_both [] ys kbdr = refl
last_of_both (x ∷ xs) ys kbdr = last_of_both xs ys x

-- Keys leave bit 14 and what lies below it alone.
pub ready_leaves_rest : (keys : List ℕ) (kbsr : ℕ) → ready_after keys kbsr % 0x8000 ≡ kbsr % 0x8000
unfolding ready_after
ready_leaves_rest [] kbsr = refl
ready_leaves_rest (b ∷ keys) kbsr =
    let z : (kbsr % 0x8000 + 0x8000) % 0x8000 ≡ kbsr % 0x8000 = omega arith in
    ready_leaves_rest keys (kbsr % 0x8000 + 0x8000) ∙ z

-- ---- how many have arrived

-- Of times that are none before t, none lie before t.
pub none_before : (t : ℕ) (times : List ℕ) → out_of_order t times ≡ false → keys_before t times ≡ 0
unfolding out_of_order keys_before
none_before t [] h = refl
none_before t (u ∷ times) h = rw (or_is_false (ltb u t) (out_of_order u times) h).0

-- The clock moves on by one: those due are added.
pub one_step_more : (from t : ℕ) (times bytes : List ℕ) → out_of_order from times ≡ false → length times ≡ length bytes
    → keys_before t times + length (keys_due t (drop (keys_before t times) times) (drop (keys_before t times) bytes))
    ≡ keys_before (suc t) times
unfolding keys_before keys_due out_of_order
one_step_more from t [] bytes o e = refl
one_step_more from t (u ∷ times) [] o e = absurd (omega arith)
one_step_more from t (u ∷ times) (b ∷ bytes) o e =
    let o' : out_of_order u times ≡ false = (or_is_false (ltb u from) (out_of_order u times) o).1 in
    go o' (one_step_more u t times bytes o' (omega arith))
  where
    go : out_of_order u times ≡ false
        → keys_before t times + length
        (keys_due t (drop (keys_before t times) times) (drop (keys_before t times) bytes))
        ≡ keys_before (suc t) times
        → keys_before t (u ∷ times)
        + length (keys_due t (drop (keys_before t (u ∷ times)) (u ∷ times))
        (drop (keys_before t (u ∷ times)) (b ∷ bytes)))
        ≡ keys_before (suc t) (u ∷ times)
    go o' ih = elim (dec_le (suc u) t) [
      | yes l ↦ rw (lt-ltb u t l, lt-ltb u (suc t) (omega arith)) (suc-add (keys_before t times) _ ∙ ap suc ih)
      | no l ↦ rw (le-ltb u t (omega arith)) (elim (dec_le (suc u) (suc t)) [
        | yes m ↦ (
            let z : u ≡ t = omega arith in
            let n : keys_before t times ≡ 0 = none_before t times (rw z at o') in
            rw (lt-ltb u (suc t) m, eq-eqb u t z) (zero-add _ ∙ ap suc (sym (zero-add _) ∙ rw n at ih))
            )
        | no m ↦ rw (le-ltb u (suc t) (omega arith), ne_eqb u t (λ z. omega arith))
      ])
    ]
