-- Two accepted runs with equal inputs but for altered words agree while no step takes from one of them: by the law of
-- two related runs, for any step that tells nothing of words that it does not read. A step that is not made since the
-- output is full may read what it likes: if the other run makes it, that run takes from the word.
use Prim.Native.Nat.{ℕ, suc, ◌+◌, ◌-◌, ◌≤◌, ◌<◌}
use mathlib.Core.Path.{◌≡◌, refl, sym, ap, subst, ◌∙◌}
use mathlib.Core.Bool.{Bool, false}
use mathlib.Core.List.{List}
use native.Mathlib.Omega.{arith}
use Rattle.machine.specs.declared.Machine.{Machine}
use Rattle.machine.specs.Outcome.{Outcome}
use Rattle.machine.specs.Step.{Step, step_by}
use Rattle.machine.specs.Keeping.{Keeping}
use Rattle.machine.proofs.StepLaws.{step_keeps}
use Rattle.footprint.specs.Altered.{still_altered, NoneAltered, SameButAltered, AlteredWordsUnread}
use Rattle.footprint.proofs.AlteredWords.{altered_words_unread, none_altered_all_same}
use Rattle.run.specs.declared.Ending.{Ending}
use Rattle.run.specs.declared.Ending.TheVariants.{Done, OutputFull}
use Rattle.run.specs.Run.{Start, End, begin, ended_by, arriving, next_step_by, step_made_by, is_halted, is_full_by}
use Rattle.run.specs.Run.{run_by}
use Rattle.run.specs.Call.{call_by}
use Rattle.run.specs.Continuing.{remaining, joined}
use Rattle.run.specs.AlteredWords.{reads_at, writes_at, altered_after, Unread, UnreadUpTo, Variants, SameEnds}
use Rattle.run.specs.AlteredWords.{VariantRuns, EndAlike, AlteredWords}
use Rattle.run.proofs.RunLaws.{steps_made_are_done}
use Rattle.run.proofs.Acceptance.{call_is_run, call_steps_are_run_steps}
use Rattle.run.proofs.Continuing.{run_continued}
use Rattle.run.proofs.RelatedRuns.{Related, Together, together, stop_alike}

-- ---- two starts and two ends

ends_swapped : (altered : ℕ → Bool) (e₁ e₂ : End) → SameEnds altered e₁ e₂ → SameEnds altered e₂ e₁
ends_swapped altered e₁ e₂ a = record {
  machine = sym a.machine;
  memory = record { size = sym a.memory.size; words = λ b h. sym (a.memory.words b h) };
  output = sym a.output;
  steps = sym a.steps;
  keys = sym a.keys;
  shown = sym a.shown;
  ending = sym a.ending;
}

pub variants_swapped : (altered : ℕ → Bool) (s₁ s₂ : Start) → Variants altered s₁ s₂ → Variants altered s₂ s₁
variants_swapped altered s₁ s₂ v = record {
  machine = sym v.machine;
  memory = record { size = sym v.memory.size; words = λ b h. sym (v.memory.words b h) };
  times = sym v.times;
  bytes = sym v.bytes;
  output = sym v.output;
}

-- The same two runs, the second first.
swapped : (altered : ℕ → Bool) (s₁ s₂ : Start) (n : ℕ) → VariantRuns altered s₁ s₂ n → VariantRuns altered s₂ s₁ n
swapped altered s₁ s₂ n p = record {
  accepted₁ = p.accepted₂;
  accepted₂ = p.accepted₁;
  variants = variants_swapped altered s₁ s₂ p.variants;
}

-- Equal ends, from equal parts.
same_parts : (altered : ℕ → Bool) (e₁ e₂ : End) → SameEnds altered e₁ e₂ → e₁.memory ≡ e₂.memory → e₁ ≡ e₂
same_parts altered e₁ e₂ a m = parts a.machine m a.output a.steps a.keys a.shown a.ending
  where
    ending : Machine → List ℕ → List ℕ → ℕ → ℕ → ℕ → Ending → End
    ending m mem out i j k w =
        record { machine = m; memory = mem; output = out; steps = i; keys = j; shown = k; ending = w }

    parts : {m₁ m₂ : Machine} {mem₁ mem₂ out₁ out₂ : List ℕ} {i₁ i₂ j₁ j₂ k₁ k₂ : ℕ} {w₁ w₂ : Ending} → m₁ ≡ m₂
        → mem₁ ≡ mem₂ → out₁ ≡ out₂ → i₁ ≡ i₂ → j₁ ≡ j₂ → k₁ ≡ k₂ → w₁ ≡ w₂
        → ending m₁ mem₁ out₁ i₁ j₁ k₁ w₁ ≡ ending m₂ mem₂ out₂ i₂ j₂ k₂ w₂
    parts q₁ q₂ q₃ q₄ q₅ q₆ q₇ = cc

-- A set of altered words may be made larger.
pub wider_ends : {altered wider : ℕ → Bool} {e₁ e₂ : End} → ((a : ℕ) → wider a ≡ false → altered a ≡ false)
    → SameEnds altered e₁ e₂ → SameEnds wider e₁ e₂
wider_ends f a = record {
  machine = a.machine;
  memory = record { size = a.memory.size; words = λ b h. a.memory.words b (f b h) };
  output = a.output;
  steps = a.steps;
  keys = a.keys;
  shown = a.shown;
  ending = a.ending;
}

-- What equal records and equal memories but for the altered words lead to: the tests and stops of a run.
pub halts_alike : {altered : ℕ → Bool} {e₁ e₂ : End} → SameEnds altered e₁ e₂ → is_halted e₁ ≡ is_halted e₂
unfolding is_halted
halts_alike a = cc a.machine

pub ended_alike : {altered : ℕ → Bool} {e₁ e₂ : End} → SameEnds altered e₁ e₂ → (w : Ending)
    → SameEnds altered (ended_by w e₁) (ended_by w e₂)
unfolding ended_by
ended_alike a w = record {
  machine = a.machine;
  memory = a.memory;
  output = a.output;
  steps = a.steps;
  keys = a.keys;
  shown = a.shown;
  ending = refl;
}

pub begin_alike : {altered : ℕ → Bool} {s₁ s₂ : Start} → Variants altered s₁ s₂
    → SameEnds altered (begin s₁) (begin s₂)
unfolding begin
begin_alike v = record {
  machine = v.machine;
  memory = v.memory;
  output = v.output;
  steps = refl;
  keys = refl;
  shown = refl;
  ending = refl;
}

-- ---- the two runs

module _ (step : Step) (law : AlteredWordsUnread step) where
  abbrev call : Start → ℕ → End
  call = call_by step

  abbrev next_of : Start → End → Outcome
  next_of = next_step_by step

  abbrev made_from : Start → End → End
  made_from = step_made_by step

  abbrev full_at : Start → End → Bool
  full_at = is_full_by step

  abbrev left : (ℕ → Bool) → Start → ℕ → (ℕ → Bool)
  left = altered_after step

  -- ---- one step of both

  module _ {start end : ℕ → Bool} {s₁ s₂ : Start} (v : Variants start s₁ s₂) {e₁ e₂ : End} (a : SameEnds end e₁ e₂)
    where
      arriving_alike : arriving s₁ e₁ ≡ arriving s₂ e₂
      unfolding arriving
      arriving_alike = cc (v.times, v.bytes, a.machine, a.keys)

      pub steps_alike : NoneAltered end (next_of s₁ e₁).reads → SameButAltered end (next_of s₁ e₁) (next_of s₂ e₂)
      unfolding next_step_by
      steps_alike n =
          rw (← arriving_alike, ← a.machine)
          (law end (arriving s₁ e₁) e₁.machine e₁.memory e₂.memory a.memory n)

      pub full_alike : SameButAltered end (next_of s₁ e₁) (next_of s₂ e₂) → full_at s₁ e₁ ≡ full_at s₂ e₂
      unfolding is_full_by
      full_alike o = cc (o.shown, a.output, a.shown)

      pub made_alike : SameButAltered end (next_of s₁ e₁) (next_of s₂ e₂)
          → SameEnds (still_altered (next_of s₁ e₁).writes end) (made_from s₁ e₁) (made_from s₂ e₂)
      unfolding step_made_by
      made_alike o = record {
        machine = o.machine;
        memory = o.memory;
        output = cc (o.shown, a.output, a.shown);
        steps = ap suc a.steps;
        keys = cc (a.keys, arriving_alike);
        shown = cc (o.shown, a.shown);
        ending = refl;
      }

  -- ---- from the first run to the second

  -- How two runs stand where none of k steps took from an altered word.
  record Both (altered : ℕ → Bool) (s₁ s₂ : Start) (k : ℕ) (e₁ e₂ : End) : Type 0 where
    same : SameEnds (left altered s₁ k) e₁ e₂
    sets : left altered s₁ k ≡ left altered s₂ k

  both_swapped : (altered : ℕ → Bool) (s₁ s₂ : Start) (k : ℕ) (e₁ e₂ : End) → Both altered s₁ s₂ k e₁ e₂
      → Both altered s₂ s₁ k e₂ e₁
  both_swapped altered s₁ s₂ k e₁ e₂ b = record {
    same = subst (λ (f : ℕ → Bool). SameEnds f e₂ e₁) b.sets (ends_swapped (left altered s₁ k) e₁ e₂ b.same);
    sets = sym b.sets;
  }

  module _ (altered : ℕ → Bool) (s₁ s₂ : Start) (n : ℕ) (p : VariantRuns altered s₁ s₂ n) where
    abbrev BothAt : ℕ → Type 0
    BothAt k = Both altered s₁ s₂ k (call s₁ k) (call s₂ k)

    abbrev Outcomes : ℕ → Type 0
    Outcomes k = SameButAltered (left altered s₁ k) (next_of s₁ (call s₁ k)) (next_of s₂ (call s₂ k))

    outcomes : (k : ℕ) → NoneAltered (left altered s₁ k) (reads_at step s₁ k) → BothAt k → Outcomes k
    unfolding reads_at
    outcomes k r b = steps_alike p.variants b.same r

    full_if_unread : (k : ℕ) → NoneAltered (left altered s₁ k) (reads_at step s₁ k) → BothAt k
        → full_at s₁ (call s₁ k) ≡ full_at s₂ (call s₂ k)
    full_if_unread k r b = full_alike p.variants b.same (outcomes k r b)

    both_one_more : (k : ℕ) → BothAt k → Outcomes k
        → Both altered s₁ s₂ (suc k) (made_from s₁ (call s₁ k)) (made_from s₂ (call s₂ k))
    unfolding altered_after writes_at
    both_one_more k b o =
        record { same = made_alike p.variants b.same o; sets = cc (o.writes, b.sets) }

    related : Related step step s₁ s₂ n (Unread step altered s₁) (Both altered s₁ s₂)
    unfolding altered_after
    related = record {
      accepted₁ = p.accepted₁;
      accepted₂ = p.accepted₂;
      begins = record { same = begin_alike p.variants; sets = refl };
      fewer = λ k c. record { unread = λ j l. c.unread j (omega arith) };
      halted = λ k b. halts_alike b.same;
      full = λ k c b. full_if_unread k (c.unread k (omega arith)) b;
      keeps = λ k c m b. both_one_more k b (outcomes k (c.unread k (omega arith)) b);
      ends = λ k w b. record { same = ended_alike b.same w; sets = b.sets };
    }

    both : (k : ℕ) → UnreadUpTo step altered s₁ n k → Together step step s₁ s₂ n (Both altered s₁ s₂) k
    both k c = together step step s₁ s₂ n related k c.made c.none_takes

    both_before : (k : ℕ) → UnreadUpTo step altered s₁ n k → (j : ℕ) → j < k → BothAt j × Outcomes j
    both_before k c j l =
        let b : BothAt j = (both j (record {
          made = omega (arith, l, c.made);
          none_takes = record { unread = λ i m. c.none_takes.unread i (omega arith) };
        })).related in
        (b, outcomes j (c.none_takes.unread j l) b)

    second_reaches_it : (k : ℕ) → UnreadUpTo step altered s₁ n k → UnreadUpTo step altered s₂ n k
    unfolding reads_at
    second_reaches_it k c = record {
      made = (both k c).reached;
      none_takes = record {
        unread = λ j l.
            let b = both_before k c j l in
            rw (← b.0.sets, ← b.1.reads) (c.none_takes.unread j l);
      };
    }

    same_words : (k : ℕ) → UnreadUpTo step altered s₁ n k → (j : ℕ) → j < k
        → (reads_at step s₁ j ≡ reads_at step s₂ j) × (writes_at step s₁ j ≡ writes_at step s₂ j)
    unfolding reads_at writes_at
    same_words k c j l = let o = (both_before k c j l).1 in (o.reads, o.writes)

    -- To the end, where the test for a full output that stops the first run answers alike in the second.
    end_alike : Unread step altered s₁ (call s₁ n).steps
        → ((call s₁ n).ending ≡ OutputFull → (call s₁ n).steps < (call s₂ n).steps → BothAt (call s₁ n).steps
        → full_at s₁ (call s₁ (call s₁ n).steps) ≡ full_at s₂ (call s₂ (call s₁ n).steps))
        → EndAlike step altered s₁ s₂ n
    end_alike u q =
        let b = (both (call s₁ n).steps (record { made = omega arith; none_takes = u })).related in
        (stop_alike step step s₁ s₂ n related u (λ w l. q w l b)).related.same

    -- Once no word is altered, both stand alike and go on with the same keys.
    equal_once_replaced : Keeping step → (k : ℕ) → UnreadUpTo step altered s₁ n k
        → ((a : ℕ) → left altered s₁ k a ≡ false) → (i : ℕ) → k ≤ i → i ≤ n → call s₁ i ≡ call s₂ i
    equal_once_replaced keeping k c none i h l =
        rw (call_is_run step s₁ n i p.accepted₁ l, call_is_run step s₂ n i p.accepted₂ l, z)
        (run_continued keeping s₁ k (i - k) d
        ∙ (ap (λ (e : End). joined e (run_by step (remaining s₁ e) (i - k))) q
        ∙ (rw (p.variants.times, p.variants.bytes) (sym (run_continued keeping s₂ k (i - k) (rw q at d))))))
      where
        a : SameEnds (left altered s₁ k) (call s₁ k) (call s₂ k)
        a = (both k c).related.same

        m : (call s₁ k).memory ≡ (call s₂ k).memory
        m = none_altered_all_same (left altered s₁ k) _ _ none a.memory

        q : run_by step s₁ k ≡ run_by step s₂ k
        q = sym (call_is_run step s₁ n k p.accepted₁ (omega arith))
            ∙ (same_parts (left altered s₁ k) (call s₁ k) (call s₂ k) a m
            ∙ call_is_run step s₂ n k p.accepted₂ (omega arith))

        z : i ≡ k + (i - k)
        z = omega arith

        d : (run_by step s₁ k).ending ≡ Done
        d = steps_made_are_done step s₁ n k (omega (arith, c.made, call_steps_are_run_steps step s₁ n p.accepted₁))

-- ---- for any set of words

pub altered_words : AlteredWords
altered_words edition altered s₁ s₂ n p =
    let step : Step = step_by edition in
    let law : AlteredWordsUnread (step_by edition) = altered_words_unread edition in
    let q : VariantRuns altered s₂ s₁ n = swapped altered s₁ s₂ n p in
    record {
      reached_by_second = second_reaches_it step law altered s₁ s₂ n p;
      reached_by_first = second_reaches_it step law altered s₂ s₁ n q;
      same = λ k c. (both step law altered s₁ s₂ n p k c).related.same;
      same_words = same_words step law altered s₁ s₂ n p;
      same_to_the_end = λ u₁ u₂.
          end_alike step law altered s₁ s₂ n p u₁
          (λ w l b. sym (full_if_unread step law altered s₂ s₁ n q _ (u₂.unread _ l)
          (both_swapped step law altered s₁ s₂ _ _ _ b)));
      same_by_first = λ u stopped.
          end_alike step law altered s₁ s₂ n p u (λ w l b. full_if_unread step law altered s₁ s₂ n p _ (stopped w) b);
      equal_once_replaced = equal_once_replaced step law altered s₁ s₂ n p (step_keeps edition);
    }
