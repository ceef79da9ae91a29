-- The timer is entered at once, by the first test of `pending_interrupt`; and it is ready at every interval, by
-- induction on the steps of one interval and on the intervals.
use Rattle.std.specs.Prelude.{Some}
use Prim.Native.Nat.{ℕ, zero, suc, ◌+◌, ◌-◌, ◌*◌, ◌%◌, ◌≤◌, ◌<◌}
use native.Mathlib.Nat.{zero-mul, suc-mul}
use native.Mathlib.Decide.{dec_le}
use native.Mathlib.Omega.{arith}
use mathlib.Core.Path.{◌≡◌, refl, sym, ap, ◌∙◌}
use mathlib.Core.Bool.{Bool, true, false, cond, not, ◌&&◌}
use mathlib.Core.List.{List}
use lib.Dec.{leb, ltb, eqb}
use borrow.Author.Tests.{le-leb, lt-leb, lt-ltb, eq-eqb, ne_eqb}
use Rattle.machine.specs.declared.Machine.{Machine}
use Rattle.machine.specs.Record.{Timer, timer_of}
use Rattle.machine.specs.Psr.{priority_of}
use Rattle.machine.specs.Keys.{after_keys}
use Rattle.machine.specs.Timer.{is_off, expires, expired, one_less, ticked, after_timer, ticked_by}
use Rattle.machine.specs.Interrupts.{timer_vector, timer_priority, pending_interrupt, timer_interrupt}
use Rattle.machine.specs.Entry.{interrupted}
use Rattle.machine.specs.Step.{interrupted_or_obeyed_by, ended, after_start, step_by, step_of}
use Rattle.machine.specs.TimerTheorems.{TimerIsEnteredAtOnce, new_interval, ReadyAtEveryInterval, TimerTheorems}

-- ---- entered at once

timer_is_pending : (m : Machine) → 0xC000 ≤ m.devices.timer_status → priority_of m.psr < timer_priority
    → pending_interrupt m ≡ Some timer_interrupt
unfolding pending_interrupt
timer_is_pending m ready below =
    rw (le-leb 0xC000 m.devices.timer_status ready, lt-ltb (priority_of m.psr) timer_priority below)

-- A timer that is ready and enabled stays so while its count falls.
ready_stays : (t : Timer) → 0xC000 ≤ t.status → t.status < 0x10000 → 0xC000 ≤ (ticked t).status
unfolding ticked
ready_stays t l h = go (is_off t) (leb t.count 1)
  where
    go : (off last : Bool) → 0xC000 ≤ (cond off t (cond last (expired t) (one_less t))).status
    go true last = l
    go false true = omega (arith, l, h)
    go false false = l

module _ (keys : List ℕ) (m : Machine) (mem : List ℕ) where
  once_ready : 0xC000 ≤ (after_start keys m).devices.timer_status → priority_of m.psr < timer_priority
      → step_of keys m mem ≡ ended (interrupted timer_vector timer_priority (after_start keys m) mem)
  unfolding step_by interrupted_or_obeyed_by after_keys after_timer
  once_ready ready below = rw (timer_is_pending (after_start keys m) ready below)

  ready_before : 0xC000 ≤ m.devices.timer_status → m.devices.timer_status < 0x10000
      → priority_of m.psr < timer_priority
      → step_of keys m mem ≡ ended (interrupted timer_vector timer_priority (after_start keys m) mem)
  unfolding after_keys after_timer
  ready_before ready word below = once_ready (ready_stays (timer_of m.devices) ready word) below

  entered_at_once : TimerIsEnteredAtOnce keys m mem
  entered_at_once = record { once_ready = once_ready; ready_before = ready_before }

-- ---- ready at every interval

-- A timer that has this much left of its interval.
abbrev counting : ℕ → ℕ → ℕ → Timer
counting status i count = record { status = status; interval = i; count = count }

falls : (status i count : ℕ) → 0 < i → 1 < count → ticked (counting status i count) ≡ counting status i (count - 1)
unfolding ticked
falls status i count l h = rw (ne_eqb i 0 (λ e. absurd (omega (arith, e))), lt-leb count 1 h)

reloads : (status i : ℕ) → 0 < i → ticked (counting status i 1) ≡ new_interval (status % 0x8000 + 0x8000) i
unfolding ticked
reloads status i l = rw (ne_eqb i 0 (λ e. absurd (omega (arith, e))))

module _ (status i : ℕ) (l : 0 < i) where
  not_before : (k : ℕ) → k < i → ticked_by k (new_interval status i) ≡ counting status i (i - k)
  unfolding ticked_by
  not_before zero h = let z : i - 0 ≡ i = omega arith in rw z
  not_before (suc k) h =
      let z : i - k - 1 ≡ i - suc k = omega arith in
      ap ticked (not_before k (omega arith)) ∙ falls status i (i - k) l (omega arith) ∙ ap (counting status i) z

  at_the_interval : ticked_by i (new_interval status i) ≡ new_interval (status % 0x8000 + 0x8000) i
  unfolding ticked_by
  at_the_interval =
      let last : i ≡ suc (i - 1) = omega arith in
      let one : i - (i - 1) ≡ 1 = omega arith in
      ap (λ (k : ℕ). ticked_by k (new_interval status i)) last
      ∙ ap ticked (not_before (i - 1) (omega arith) ∙ ap (counting status i) one)
      ∙ reloads status i l

-- Steps one after the other.
ticked_by_both : (j k : ℕ) (t : Timer) → ticked_by (k + j) t ≡ ticked_by k (ticked_by j t)
unfolding ticked_by
ticked_by_both j zero t = let z : zero + j ≡ j = omega arith in rw z
ticked_by_both j (suc k) t =
    let z : suc k + j ≡ suc (k + j) = omega arith in
    ap (λ (n : ℕ). ticked_by n t) z ∙ ap ticked (ticked_by_both j k t)

module _ (i : ℕ) (l : 0 < i) where
  last_of_interval : (status r : ℕ) → r < i → expires (ticked_by r (new_interval status i)) ≡ eqb (suc r) i
  last_of_interval status r h =
      ap expires (not_before status i l r h)
      ∙ (rw (ne_eqb i 0 (λ e. absurd (omega (arith, e)))) (last (i - r) refl))
    where
      last : (count : ℕ) → i - r ≡ count → leb count 1 ≡ eqb (suc r) i
      last count e = elim (dec_le count 1) [
        | yes c ↦ le-leb count 1 c ∙ sym (eq-eqb (suc r) i (omega (arith, e)))
        | no c ↦ lt-leb count 1 (omega arith) ∙ sym (ne_eqb (suc r) i (λ q. absurd (omega (arith, e, q))))
      ]

  every_interval : (q status r : ℕ) → r < i → expires (ticked_by (q * i + r) (new_interval status i)) ≡ eqb (suc r) i
  every_interval zero status r h =
      let z : zero * i + r ≡ r = rw (zero-mul i) (omega arith) in
      rw z (last_of_interval status r h)
  every_interval (suc q) status r h =
      let z : suc q * i + r ≡ q * i + r + i = whole_intervals q in
      ap (λ (n : ℕ). expires (ticked_by n (new_interval status i))) z
      ∙ ap expires (ticked_by_both i (q * i + r) (new_interval status i)
      ∙ ap (ticked_by (q * i + r)) (at_the_interval status i l))
      ∙ every_interval q (status % 0x8000 + 0x8000) r h
    where
      whole_intervals : (q : ℕ) → suc q * i + r ≡ q * i + r + i
      whole_intervals q = rw (suc-mul q i) (omega arith)

pub timer_theorems : TimerTheorems
timer_theorems = record {
  entered_at_once = entered_at_once;
  ready_at_every_interval = λ status i l. record {
    not_before = not_before status i l;
    at_the_interval = at_the_interval status i l;
    every_interval = λ q r h. every_interval i l q status r h;
  };
}
