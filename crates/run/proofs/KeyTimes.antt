-- The times of a key list, from the first: all before entry k pass, so the answer is that to the entries from k on.
-- Hence the first offence is what is answered; and in order, with none below the clock, is what is accepted.
use Rattle.std.specs.Prelude.{Err}
use Prim.Native.Nat.{ℕ, zero, suc, ◌+◌, ◌<◌, ◌≤◌}
use native.Mathlib.Omega.{arith}
use native.Mathlib.Numerals.{add-one}
use mathlib.Core.Path.{◌≡◌, refl, sym, subst, ◌∙◌}
use mathlib.Core.Bool.{Bool, true, false, cond, ◌||◌}
use mathlib.Core.List.{List, [], ◌∷◌}
use lib.Dec.{ltb}
use lib.ListN.{length, get_or, drop}
use borrow.Author.Count.{below_more}
use borrow.Author.Tests.{ltb-true, ltb-false, lt-ltb, le-ltb}
use Rattle.run.specs.declared.Refusal.{Refusal}
use Rattle.run.specs.declared.Refusal.TheVariants.{TimeBelowClock, TimesOutOfOrder}
use Rattle.run.specs.Refusals.{entry_admission, first_refusal, times_admission, Admission, Accepted}
use Rattle.run.specs.KeyLists.{below_clock, below_previous, offends, out_of_order}
use Rattle.run.specs.KeyLists.{FirstOffence, NoOffence, Says, FirstOffenceIsAnswered}
use Rattle.machine.proofs.Tests.{or_is_false}
use Rattle.run.proofs.RefusalLaws.{time_passes, time_below_clock, time_below_last, times_run_out}

pub rejected_is_not_accepted : (r : Refusal) → Err r ≡ Accepted → ⊥
rejected_is_not_accepted r p = let z : ◌≡◌ {A = ℕ} 0 1 = cc in omega arith

other_holds : (a b : Bool) → (a || b) ≡ true → a ≡ false → b ≡ true
other_holds a b h e = rw e at h

module _ (clock : ℕ) (times : List ℕ) where
  -- The time before entry k, or the clock.
  abbrev before : ℕ → ℕ
  before k = get_or (clock ∷ times) k 0

  abbrev from : ℕ → Admission
  from k = times_admission clock (before k) k (drop k times)

  -- An entry that is not below the clock is below the one before it or the clock exactly if it offends.
  same_test : (k : ℕ) → below_clock clock times k ≡ false → ltb (get_or times k 0) (before k) ≡ below_previous times k
  same_test zero h = h
  same_test (suc k) h = refl

  entry_passes : (k : ℕ) → k < length times → offends clock times k ≡ false → from (suc k) ≡ from k
  entry_passes k l h =
      let parts = or_is_false (below_clock clock times k) (below_previous times k) h in
      rw add-one at
      (time_passes clock (before k) times k l (ltb-false (get_or times k 0) clock parts.0)
      (ltb-false (get_or times k 0) (before k) (same_test k parts.0 ∙ parts.1)))

  all_before_pass : (k : ℕ) → k ≤ length times → ((j : ℕ) → j < k → offends clock times j ≡ false) → from k ≡ from 0
  all_before_pass zero l h = refl
  all_before_pass (suc k) l h =
      entry_passes k (omega arith) (h k (omega arith)) ∙ all_before_pass k (omega arith) (λ j b. h j (omega arith))

  answered_15 : (i : ℕ) → FirstOffence clock times i → below_clock clock times i ≡ true
      → from 0 ≡ Err (TimeBelowClock i)
  answered_15 i f b =
      sym
      (time_below_clock clock (before i) times i f.listed (ltb-true (get_or times i 0) clock b)
      ∙ all_before_pass i (omega (arith, f.listed)) f.none_before)

  answered_19 : (i : ℕ) → FirstOffence clock times i → below_clock clock times i ≡ false
      → from 0 ≡ Err (TimesOutOfOrder i)
  answered_19 i f b =
      sym
      (time_below_last clock (before i) times i f.listed (ltb-false (get_or times i 0) clock b)
      (ltb-true (get_or times i 0) (before i)
      (same_test i b ∙ other_holds (below_clock clock times i) (below_previous times i) f.offending b))
      ∙ all_before_pass i (omega (arith, f.listed)) f.none_before)

  answered_accepted : NoOffence clock times → from 0 ≡ Accepted
  answered_accepted h =
      sym
      (times_run_out clock (before (length times)) times (length times) (omega arith)
      ∙ all_before_pass (length times) (omega arith) h)

  -- The entries are tried one after the other: n are left from k on.
  answer_says : (n k : ℕ) → k + n ≡ length times → ((j : ℕ) → j < k → offends clock times j ≡ false)
      → Says clock times (from 0)
  answer_says zero k l h =
      let none : NoOffence clock times = λ i b. h i (omega arith) in
      subst (Says clock times) (sym (answered_accepted none)) none
  answer_says (suc n) k l h =
      go (below_clock clock times k) refl (below_previous times k) refl (answer_says n (suc k) (omega arith))
    where
      first : offends clock times k ≡ true → FirstOffence clock times k
      first offending = record { listed = omega arith; offending = offending; none_before = h }

      go : (c : Bool) → below_clock clock times k ≡ c → (p : Bool) → below_previous times k ≡ p
          → (((j : ℕ) → j < suc k → offends clock times j ≡ false) → Says clock times (from 0))
          → Says clock times (from 0)
      go true e p e' later =
          let f = first (rw e refl) in
          subst (Says clock times) (sym (answered_15 k f e)) (f, e)
      go false e true e' later =
          let f = first (rw (e, e') refl) in
          subst (Says clock times) (sym (answered_19 k f e)) (f, e)
      go false e false e' later = later (rw add-one at (below_more _ k h (rw (e, e') refl)))

  pub first_offence_is_answered : FirstOffenceIsAnswered clock times
  first_offence_is_answered = record {
    answer = answer_says (length times) 0 (omega arith) (λ j b. absurd (omega arith));
    at_15 = answered_15;
    at_19 = answered_19;
    accepted = answered_accepted;
  }

-- Accepted times are in order, none of them below the clock; and the other way round, where what stands before them is
-- not below the clock.
module _ (clock : ℕ) where
  in_order_after : (last i : ℕ) (times : List ℕ) → times_admission clock last i times ≡ Accepted
      → out_of_order last times ≡ false
  unfolding times_admission entry_admission first_refusal out_of_order
  in_order_after last i [] h = refl
  in_order_after last i (t ∷ times) h = go (ltb t clock) (ltb t last) h (in_order_after t (suc i) times)
    where
      go : (c l : Bool)
          → first_refusal (cond c (Err (TimeBelowClock i)) (cond l (Err (TimesOutOfOrder i)) Accepted))
          (times_admission clock t (suc i) times)
          ≡ Accepted
          → (times_admission clock t (suc i) times ≡ Accepted → out_of_order t times ≡ false)
          → (l || out_of_order t times) ≡ false
      go true l e later = absurd (rejected_is_not_accepted _ e)
      go false true e later = absurd (rejected_is_not_accepted _ e)
      go false false e later = later e

  accepted_after : (last i : ℕ) (times : List ℕ) → clock ≤ last → out_of_order last times ≡ false
      → times_admission clock last i times ≡ Accepted
  unfolding times_admission entry_admission first_refusal out_of_order
  accepted_after last i [] c h = refl
  accepted_after last i (t ∷ times) c h =
      let parts = or_is_false (ltb t last) (out_of_order t times) h in
      let l : last ≤ t = ltb-false t last parts.0 in
      rw (le-ltb t clock (omega arith), parts.0) (accepted_after t (suc i) times (omega arith) parts.1)

  pub accepted_times_in_order : (times : List ℕ) → times_admission clock clock 0 times ≡ Accepted
      → out_of_order clock times ≡ false
  accepted_times_in_order = in_order_after clock 0

  pub times_in_order_accepted : (times : List ℕ) → out_of_order clock times ≡ false
      → times_admission clock clock 0 times ≡ Accepted
  times_in_order_accepted times = accepted_after clock 0 times (omega arith)
