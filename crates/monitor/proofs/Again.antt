-- A device that has interrupted interrupts again: BACK clears neither ready nor enable, and the PSR is as before.
use Prim.Native.Nat.{ℕ, suc, ◌+◌, ◌-◌, ◌%◌, ◌≤◌, ◌<◌}
use native.Mathlib.Omega.{arith}
use native.Mathlib.Decide.{dec_le}
use mathlib.Core.Path.{◌≡◌, refl, subst}
use mathlib.Core.Bool.{Bool, true, false, cond, ◌&&◌, ◌||◌}
use mathlib.Core.List.{List, [], ◌∷◌}
use borrow.Author.Tests.{leb-true, le-leb, lt-ltb, le-ltb}
use lib.Dec.{leb}
use lib.ListN.{take, drop}
use lib.Seq.{take-add}
use Rattle.machine.specs.Record.{Timer}
use Rattle.machine.specs.Keys.{ready_after}
use Rattle.machine.specs.Timer.{is_off, expired, one_less, ticked}
use Rattle.machine.proofs.Tests.{both_true}
use Rattle.monitor.specs.Keys.{keys_before}
use Rattle.monitor.proofs.KeyLaws.{ready_after_both}
use Rattle.monitor.proofs.UseLaws.{either}

-- Ready and enabled, in a word.
pub record Due (status : ℕ) : Type 0 where
  pub least : 0xC000 ≤ status
  pub most : status < 65536

pub keys_keep : (keys : List ℕ) (kbsr : ℕ) → Due kbsr → Due (ready_after keys kbsr)
unfolding ready_after
keys_keep [] kbsr d = d
keys_keep (b ∷ keys) kbsr d =
    keys_keep keys (kbsr % 0x8000 + 0x8000)
    (record { least = omega (arith, d.least, d.most); most = omega (arith, d.least, d.most) })

pub tick_keeps : (t : Timer) → Due t.status → Due (ticked t).status
unfolding ticked
tick_keeps t d = go (is_off t) (leb t.count 1)
  where
    go : (off last : Bool) → Due (cond off t (cond last (expired t) (one_less t))).status
    go true last = d
    go false true = record { least = omega (arith, d.least, d.most); most = omega (arith, d.least, d.most) }
    go false false = d

-- Words stay words.
pub keys_fit : (keys : List ℕ) (kbsr : ℕ) → kbsr < 65536 → ready_after keys kbsr < 65536
unfolding ready_after
keys_fit [] kbsr h = h
keys_fit (b ∷ keys) kbsr h = keys_fit keys (kbsr % 0x8000 + 0x8000) (omega arith)

pub tick_fits : (t : Timer) → t.status < 65536 → (ticked t).status < 65536
unfolding ticked
tick_fits t h = go (is_off t) (leb t.count 1)
  where
    go : (off last : Bool) → (cond off t (cond last (expired t) (one_less t))).status < 65536
    go true last = h
    go false true = omega arith
    go false false = h

-- Later no fewer keys have arrived.
pub no_fewer : (t u : ℕ) (times : List ℕ) → t ≤ u → keys_before t times ≤ keys_before u times
unfolding keys_before
no_fewer t u [] h = omega arith
no_fewer t u (v ∷ times) h = go (no_fewer t u times h)
  where
    go : keys_before t times ≤ keys_before u times → keys_before t (v ∷ times) ≤ keys_before u (v ∷ times)
    go ih = elim (dec_le (suc v) t) [
      | yes l ↦ rw (lt-ltb v t l, lt-ltb v u (omega arith)) (omega arith)
      | no l ↦ rw (le-ltb v t (omega arith)) (omega arith)
    ]

pub more_keys : (i j : ℕ) (bytes : List ℕ) (kbsr : ℕ) → i ≤ j → Due (ready_after (take i bytes) kbsr)
    → Due (ready_after (take j bytes) kbsr)
more_keys i j bytes kbsr h d =
    let z : i + (j - i) ≡ j = omega arith in
    subst (λ (n : ℕ). Due (ready_after (take n bytes) kbsr)) z
    (rw (take-add i (j - i) bytes, ready_after_both (take i bytes) (take (j - i) (drop i bytes)) kbsr)
    (keys_keep (take (j - i) (drop i bytes)) (ready_after (take i bytes) kbsr) d))

-- What is due then is due now, at the same priorities.
pub still_due : (t t' k k' : ℕ) (p q : Bool) → t < 65536 → k < 65536 → (Due t → Due t') → (Due k → Due k')
    → ((leb 0xC000 t && p) || (leb 0xC000 k && q)) ≡ true → ((leb 0xC000 t' && p) || (leb 0xC000 k' && q)) ≡ true
still_due t t' k k' p q t-word k-word timer keyboard e =
    either (leb 0xC000 t && p) (leb 0xC000 k && q) e
    (λ h.
    let both = both_true (leb 0xC000 t) p h in
    let d = timer (record { least = leb-true 0xC000 t both.0; most = t-word }) in
    rw (le-leb 0xC000 t' d.least, both.1))
    (λ h.
    let both = both_true (leb 0xC000 k) q h in
    let d = keyboard (record { least = leb-true 0xC000 k both.0; most = k-word }) in
    rw (le-leb 0xC000 k' d.least, both.1) (or_true (leb 0xC000 t' && p)))
  where
    or_true : (b : Bool) → (b || true) ≡ true
    or_true true = refl
    or_true false = refl
