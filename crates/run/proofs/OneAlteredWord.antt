-- One altered word, from the claim for any set of words: the set is that word.
use Prim.Native.Nat.{ℕ, zero, suc, ◌≤◌, ◌<◌}
use mathlib.Core.Path.{◌≡◌, refl, sym, ap, ◌∙◌}
use mathlib.Core.Bool.{Bool, true, false, ◌&&◌, not}
use mathlib.Core.List.{List, [], ◌∷◌}
use native.Mathlib.Omega.{arith}
use lib.Dec.{eqb}
use lib.ListN.{length-set}
use lib.Seq.{get_or-set_other}
use borrow.Author.Tests.{eqb-true, eqb-false, ne_eqb}
use Rattle.machine.specs.Step.{Step, step_by}
use Rattle.machine.proofs.Tests.{or_is_false}
use Rattle.footprint.specs.Altered.{is_among, still_altered, NoneAltered}
use Rattle.run.specs.declared.Ending.TheVariants.{OutputFull}
use Rattle.run.specs.Run.{Start, End}
use Rattle.run.specs.Refusals.{admission_of, Accepted}
use Rattle.run.specs.Call.{call_by}
use Rattle.run.specs.AlteredWords.{reads_at, writes_at, altered_after, Unread, UnreadUpTo, Variants, SameEnds}
use Rattle.run.specs.AlteredWords.{VariantRuns, AgreeWhileUnread}
use Rattle.run.specs.OneAlteredWord.{with_word, only, takes, replaces, NotTaken, NotTakenUpTo}
use Rattle.run.specs.OneAlteredWord.{OneAlteredWord}
use Rattle.run.proofs.Acceptance.{Acceptable, accepted_is_acceptable, acceptable_is_accepted}
use Rattle.run.proofs.AlteredWords.{variants_swapped, wider_ends, altered_words}

-- ---- the two starts

other_accepted : (w v : ℕ) (s : Start) (n : ℕ) → admission_of s n ≡ Accepted
    → admission_of (with_word w v s) n ≡ Accepted
unfolding with_word
other_accepted w v s n e =
    let a : Acceptable s n = accepted_is_acceptable s n e in
    acceptable_is_accepted (with_word w v s) n
    (record {
      size = length-set s.memory w v ∙ a.size;
      defined = a.defined;
      clock = a.clock;
      steps = a.steps;
      equal = a.equal;
      order = a.order;
    })

starts_vary : (w v : ℕ) (s : Start) → Variants (only w) s (with_word w v s)
unfolding with_word only
starts_vary w v s = record {
  machine = refl;
  memory = record {
    size = sym (length-set s.memory w v);
    words = λ a h. sym (get_or-set_other s.memory w a v 0 (eqb-false a w h));
  };
  times = refl;
  bytes = refl;
  output = refl;
}

-- ---- the set of one word

and_not_of_false : (b c : Bool) → b ≡ false → (b && not c) ≡ false
and_not_of_false b c e = rw e refl

and_not_of_true : (b c : Bool) → c ≡ true → (b && not c) ≡ false
and_not_of_true true c e = rw e refl
and_not_of_true false c e = refl

module _ (step : Step) where
  abbrev call : Start → ℕ → End
  call = call_by step

  -- No word becomes altered.
  unaltered_stays : (altered : ℕ → Bool) (s : Start) (k a : ℕ) → altered a ≡ false
      → altered_after step altered s k a ≡ false
  unfolding altered_after still_altered
  unaltered_stays altered s zero a h = h
  unaltered_stays altered s (suc k) a h =
      and_not_of_false (altered_after step altered s k a) (is_among a (writes_at step s k))
      (unaltered_stays altered s k a h)

  -- A word that is replaced is altered no longer.
  replaced_in_last : (altered : ℕ → Bool) (s : Start) (j a : ℕ) → is_among a (writes_at step s j) ≡ true
      → altered_after step altered s (suc j) a ≡ false
  unfolding altered_after still_altered
  replaced_in_last altered s j a h =
      and_not_of_true (altered_after step altered s j a) (is_among a (writes_at step s j)) h

  none_is_the_word : (w : ℕ) (s : Start) (j : ℕ) (addresses : List ℕ) → is_among w addresses ≡ false
      → NoneAltered (altered_after step (only w) s j) addresses
  unfolding is_among only
  none_is_the_word w s j [] h = tt
  none_is_the_word w s j (a ∷ addresses) h =
      let q : (eqb w a ≡ false) × (is_among w addresses ≡ false) = or_is_false (eqb w a) (is_among w addresses) h in (
        unaltered_stays (only w) s j a (ne_eqb a w (λ e. eqb-false w a q.0 (sym e))),
        none_is_the_word w s j addresses q.1,
      )

  not_taken_is_unread : (w : ℕ) (s : Start) (k : ℕ) → NotTaken step w s k → Unread step (only w) s k
  unfolding takes
  not_taken_is_unread w s k c = record { unread = λ j l. none_is_the_word w s j (reads_at step s j) (c.none j l) }

  -- ---- from the general form

  module _ (w : ℕ) (s₁ s₂ : Start) (n : ℕ) (g : AgreeWhileUnread step (only w) s₁ s₂ n) where
    unread_up_to : (k : ℕ) → NotTakenUpTo step w s₁ n k → UnreadUpTo step (only w) s₁ n k
    unread_up_to k c = record { made = c.made; none_takes = not_taken_is_unread w s₁ k c.not_taken }

    reached : (k : ℕ) → NotTakenUpTo step w s₁ n k → NotTakenUpTo step w s₂ n k
    unfolding takes
    reached k c =
        let u : UnreadUpTo step (only w) s₁ n k = unread_up_to k c in
        record {
          made = (g.reached_by_second k u).made;
          not_taken = record { none = λ j l. sym (ap (is_among w) (g.same_words k u j l).0) ∙ c.not_taken.none j l };
        }

    -- Alike but for the words that are altered still: so alike but for the one word.
    but_for_the_word : (k : ℕ) (e₁ e₂ : End) → SameEnds (altered_after step (only w) s₁ k) e₁ e₂
        → SameEnds (only w) e₁ e₂
    but_for_the_word k e₁ e₂ = wider_ends (unaltered_stays (only w) s₁ k)

    same_while_not_taken : (k : ℕ) → NotTakenUpTo step w s₁ n k → SameEnds (only w) (call s₁ k) (call s₂ k)
    same_while_not_taken k c = but_for_the_word k (call s₁ k) (call s₂ k) (g.same k (unread_up_to k c))

    same_where_never_taken : NotTaken step w s₁ (call s₁ n).steps → NotTaken step w s₂ (call s₂ n).steps
        → SameEnds (only w) (call s₁ n) (call s₂ n)
    same_where_never_taken c₁ c₂ =
        but_for_the_word (call s₁ n).steps (call s₁ n) (call s₂ n)
        (g.same_to_the_end (not_taken_is_unread w s₁ (call s₁ n).steps c₁)
        (not_taken_is_unread w s₂ (call s₂ n).steps c₂))

    same_by_first_alone : NotTaken step w s₁ (call s₁ n).steps
        → ((call s₁ n).ending ≡ OutputFull → takes step w s₁ (call s₁ n).steps ≡ false)
        → SameEnds (only w) (call s₁ n) (call s₂ n)
    unfolding takes
    same_by_first_alone c stopped =
        but_for_the_word (call s₁ n).steps (call s₁ n) (call s₂ n)
        (g.same_by_first (not_taken_is_unread w s₁ (call s₁ n).steps c)
        (λ f. none_is_the_word w s₁ (call s₁ n).steps (reads_at step s₁ (call s₁ n).steps) (stopped f)))

    none_left : (j : ℕ) → is_among w (writes_at step s₁ j) ≡ true → (a : ℕ)
        → altered_after step (only w) s₁ (suc j) a ≡ false
    none_left j h a = go (eqb a w) refl
      where
        go : (b : Bool) → eqb a w ≡ b → altered_after step (only w) s₁ (suc j) a ≡ false
        go true e = let z : a ≡ w = eqb-true a w e in rw z (replaced_in_last (only w) s₁ j w h)
        go false e = unaltered_stays (only w) s₁ (suc j) a (unfold only in e)

    equal_from_there : (k j : ℕ) → NotTakenUpTo step w s₁ n k → j < k → replaces step w s₁ j ≡ true
        → (i : ℕ) → suc j ≤ i → i ≤ n → call s₁ i ≡ call s₂ i
    unfolding replaces
    equal_from_there k j c l h i m b =
        let made : k ≤ (call s₁ n).steps = c.made in
        let up_to_it : NotTakenUpTo step w s₁ n (suc j) = record {
          made = omega arith;
          not_taken = record { none = λ x y. c.not_taken.none x (omega arith) };
        } in
        g.equal_once_replaced (suc j) (unread_up_to (suc j) up_to_it) (none_left j h) i m b

pub one_altered_word : OneAlteredWord
one_altered_word edition w v s n e =
    let step : Step = step_by edition in
    let t : Start = with_word w v s in
    let a : admission_of (with_word w v s) n ≡ Accepted = other_accepted w v s n e in
    let p : VariantRuns (only w) s t n = record { accepted₁ = e; accepted₂ = a; variants = starts_vary w v s } in
    let q : VariantRuns (only w) t s n =
    record { accepted₁ = a; accepted₂ = e; variants = variants_swapped (only w) s t (starts_vary w v s) } in
    let g : AgreeWhileUnread (step_by edition) (only w) s t n = altered_words edition (only w) s t n p in
    let h : AgreeWhileUnread (step_by edition) (only w) t s n = altered_words edition (only w) t s n q in
    record {
      accepted = a;
      reached_by_second = reached step w s t n g;
      reached_by_first = reached step w t s n h;
      same = same_while_not_taken step w s t n g;
      same_to_the_end = same_where_never_taken step w s t n g;
      same_by_first = same_by_first_alone step w s t n g;
      equal_once_replaced = equal_from_there step w s t n g;
    }
