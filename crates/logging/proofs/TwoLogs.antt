-- Two runs under the premises of noninterference log alike: a logged run makes the steps of the run of as many as its
-- log has room for, and before each step up to the first trap or exception the two runs look the same to User mode, and
-- both obey an instruction or make the same entry, so PC, word and reason are equal.
use Prim.Native.Nat.{ℕ, zero, suc, ◌+◌, ◌/◌, ◌≤◌, ◌<◌, min}
use mathlib.Core.Path.{◌≡◌, refl, sym, ap, ◌∙◌}
use mathlib.Core.List.{List, [], ◌∷◌, ◌++◌}
use native.Mathlib.Omega.{arith}
use lib.ListN.{length, take, drop, take-append-drop}
use Rattle.machine.specs.Edition.{third}
use Rattle.machine.specs.Step.{step_of}
use Rattle.machine.specs.declared.Rule.{Rule}
use Rattle.machine.specs.Rules.{rule_of, rule_number, fetched_word}
use Rattle.machine.proofs.RuleLaws.{same_outcome_same_rule, two_fetches_agree}
use Rattle.run.specs.Run.{Start, next_step, run_of}
use Rattle.run.specs.Refusals.{admission_of, Accepted}
use Rattle.run.specs.Call.{call_of}
use Rattle.run.specs.Noninterference.{NoneBefore, Premises}
use Rattle.run.proofs.RunLaws.{steps_made_at_most, steps_made_are_done, done_steps_are_made}
use Rattle.run.proofs.Acceptance.{accepted_with_fewer, call_is_run, call_makes_at_most, call_steps_are_run_steps}
use Rattle.run.proofs.Noninterference.{none_before_fewer, visible_swapped, both, both_step, both_stop}
use Rattle.logging.specs.Log.{next_rule_by, entry_of, entry_by, entries_of, entries_by}
use Rattle.logging.specs.LoggedRun.{Logged, logged_run_of}
use Rattle.logging.specs.LoggedCall.{logged_call_of}
use Rattle.logging.specs.TwoLogs.{LoggedPremises, SameEntries, LogAlike, LogsDoNotTell}
use Rattle.logging.proofs.LoggedLaws.{Written, written, log_of_fewer}
use Rattle.logging.proofs.BesideTheRun.{accepted_logged_call, MadeWithRoom, logged_were_made, made_are_logged}

-- ---- the steps of a logged run

-- The steps that a call of n may make beside a log of so many words.
abbrev fitting : ℕ → ℕ → ℕ
fitting n words = min n (words / 3)

at_most_by_each : (a b : ℕ) → ((k : ℕ) → k < a → k < b) → a ≤ b
at_most_by_each zero b f = omega arith
at_most_by_each (suc a) b f = f a (omega arith)

-- Those that the call of as many makes.
logged_steps : (s : Start) (log : List ℕ) (n : ℕ) → admission_of s n ≡ Accepted
    → (logged_call_of s log n).steps ≡ (call_of s (fitting n (length log))).steps
logged_steps s log n a =
    rw (accepted_logged_call third s log n a)
    (omega (
      arith,
      at_most_by_each (logged_run_of s log n).steps (run_of s (fitting n (length log))).steps made,
      at_most_by_each (run_of s (fitting n (length log))).steps (logged_run_of s log n).steps logged,
      call_steps_are_run_steps step_of s (fitting n (length log)) (accepted_with_fewer s n _ (omega arith) a),
    ))
  where
    made : (k : ℕ) → k < (logged_run_of s log n).steps → k < (run_of s (fitting n (length log))).steps
    made k h =
        let w : MadeWithRoom third s log n k = logged_were_made third s log n k h in
        done_steps_are_made step_of s _ (suc k) (omega (arith, w.room, w.made, steps_made_at_most step_of s n))
        (steps_made_are_done step_of s n (suc k) w.made)

    logged : (k : ℕ) → k < (run_of s (fitting n (length log))).steps → k < (logged_run_of s log n).steps
    logged k h =
        let l : k < fitting n (length log) = omega (arith, h, steps_made_at_most step_of s (fitting n (length log))) in
        made_are_logged third s log n k (record {
          made = done_steps_are_made step_of s n (suc k) (omega arith) (steps_made_are_done step_of s _ (suc k) h);
          room = omega (arith, l);
        })

-- ---- the entries of two runs

same_entry : (pc₁ pc₂ : ℕ) (r₁ r₂ : Rule) (w₁ w₂ : Rule → ℕ) → pc₁ ≡ pc₂ → r₁ ≡ r₂ → w₁ r₁ ≡ w₂ r₁
    → ◌≡◌ {A = List ℕ} (pc₁ ∷ w₁ r₁ ∷ rule_number r₁ ∷ []) (pc₂ ∷ w₂ r₂ ∷ rule_number r₂ ∷ [])
same_entry pc₁ pc₂ r₁ r₂ w₁ w₂ p q w = rw (p, w, q) refl

-- What two runs under the premises log in step k.
entry_agrees : (s₁ s₂ : Start) (n : ℕ) → Premises s₁ s₂ n → (k : ℕ) → k < (call_of s₁ n).steps → NoneBefore s₁ k
    → entry_of s₁ (run_of s₁ k) ≡ entry_of s₂ (run_of s₂ k)
unfolding entry_by next_rule_by
entry_agrees s₁ s₂ n p k h c =
    let b = (both s₁ s₂ n p k (omega arith) c).related in
    let l : k ≤ n = omega (arith, h, call_makes_at_most step_of s₁ n p.accepted₁) in
    rw (← call_is_run step_of s₁ n k p.accepted₁ l, ← call_is_run step_of s₂ n k p.accepted₂ l)
    (same_entry _ _ (rule_of (next_step s₁ (call_of s₁ k)).cause) (rule_of (next_step s₂ (call_of s₂ k)).cause)
    (λ r. fetched_word r (call_of s₁ k).machine (call_of s₁ k).memory)
    (λ r. fetched_word r (call_of s₂ k).machine (call_of s₂ k).memory)
    b.same.pc
    (same_outcome_same_rule _ _ _ _ (both_step s₁ s₂ n p k h c).1)
    (two_fetches_agree _ _ _ _ b.same b.user _))

-- ---- two logged runs

-- Every premise speaks of both runs alike.
logged_swapped : (s₁ s₂ : Start) (log₁ log₂ : List ℕ) (n : ℕ) → LoggedPremises s₁ s₂ log₁ log₂ n
    → LoggedPremises s₂ s₁ log₂ log₁ n
logged_swapped s₁ s₂ log₁ log₂ n p = record {
  accepted₁ = p.accepted₂;
  accepted₂ = p.accepted₁;
  user_mode_lem = rw p.same_visible.psr at p.user_mode_lem;
  same_visible = visible_swapped p.same_visible;
  no_interrupt₁ = p.no_interrupt₂;
  no_interrupt₂ = p.no_interrupt₁;
}

-- From the first run to the second.
module _ (s₁ s₂ : Start) (log₁ log₂ : List ℕ) (n : ℕ) (p : LoggedPremises s₁ s₂ log₁ log₂ n)
    (e : length log₁ ≡ length log₂)
  where
    abbrev l₁ : Logged
    l₁ = logged_call_of s₁ log₁ n

    abbrev l₂ : Logged
    l₂ = logged_call_of s₂ log₂ n

    abbrev m : ℕ
    m = fitting n (length log₁)

    w₁ : Written third s₁ log₁ l₁
    w₁ = rw (accepted_logged_call third s₁ log₁ n p.accepted₁) (written third s₁ log₁ n)

    w₂ : Written third s₂ log₂ l₂
    w₂ = rw (accepted_logged_call third s₂ log₂ n p.accepted₂) (written third s₂ log₂ n)

    steps₁ : l₁.steps ≡ (call_of s₁ m).steps
    steps₁ = logged_steps s₁ log₁ n p.accepted₁

    steps₂ : l₂.steps ≡ (call_of s₂ m).steps
    steps₂ = rw e (logged_steps s₂ log₂ n p.accepted₂)

    -- The premises of noninterference, for the steps that fit.
    premises : Premises s₁ s₂ m
    premises = record {
      accepted₁ = accepted_with_fewer s₁ n m (omega arith) p.accepted₁;
      accepted₂ = accepted_with_fewer s₂ n m (omega arith) p.accepted₂;
      user_mode_lem = p.user_mode_lem;
      same_visible = p.same_visible;
      no_interrupt₁ = record { never = λ j l c. p.no_interrupt₁ j (omega (arith, l, steps₁)) c };
      no_interrupt₂ = record { never = λ j l c. p.no_interrupt₂ j (omega (arith, l, steps₂)) c };
    }

    logged_too : (k : ℕ) → k < l₁.steps → NoneBefore s₁ k → k < l₂.steps
    logged_too k h c = omega (arith, steps₂, (both_step s₁ s₂ m premises k (omega (arith, steps₁)) c).0)

    entries_agree : (k : ℕ) → k ≤ l₁.steps → ((j : ℕ) → j < k → NoneBefore s₁ j) → entries_of s₁ k ≡ entries_of s₂ k
    unfolding entries_by
    entries_agree zero h c = refl
    entries_agree (suc k) h c =
        cc (
          entries_agree k (omega arith) (λ j l. c j (omega arith)),
          entry_agrees s₁ s₂ m premises k (omega (arith, steps₁)) (c k (omega arith)),
        )

    same_entries : (k : ℕ) → k ≤ l₁.steps → ((j : ℕ) → j < k → NoneBefore s₁ j) → SameEntries k l₁ l₂
    same_entries k h c =
        log_of_fewer third s₁ log₁ l₁ k w₁ h
        ∙ (entries_agree k h c
        ∙ sym (log_of_fewer third s₂ log₂ l₂ k w₂
        (at_most_by_each k l₂.steps (λ j l. logged_too j (omega arith) (c j l)))))

    -- Up to and including step k.
    same_words : (k : ℕ) → k < l₁.steps → NoneBefore s₁ k → SameEntries (suc k) l₁ l₂
    same_words k h c = same_entries (suc k) h (λ j l. none_before_fewer s₁ k j (omega arith) c)

    -- Where the first meets none, both log equally many, all of them alike.
    same_steps : NoneBefore s₁ l₁.steps → l₁.steps ≡ l₂.steps
    same_steps c = steps₁ ∙ ((both_stop s₁ s₂ m premises (rw steps₁ at c)).steps ∙ sym steps₂)

    all_words : NoneBefore s₁ l₁.steps → SameEntries l₁.steps l₁ l₂
    all_words c = same_entries l₁.steps (omega arith) (λ j l. none_before_fewer s₁ l₁.steps j (omega arith) c)

    same_log : NoneBefore s₁ l₁.steps → log₁ ≡ log₂ → l₁.log ≡ l₂.log
    same_log c q =
        let i : l₁.words ≡ l₂.words = omega (arith, w₁.three_a_step, w₂.three_a_step, same_steps c) in
        let y : take l₁.words l₁.log ≡ take l₁.words l₂.log = rw w₁.three_a_step (all_words c) in
        let z : drop l₁.words l₁.log ≡ drop l₁.words l₂.log =
        w₁.rest ∙ (ap (drop l₁.words) q ∙ rw i (sym w₂.rest)) in
        sym (take-append-drop l₁.words l₁.log)
        ∙ (ap (λ (a : List ℕ). a ++ drop l₁.words l₁.log) y
        ∙ (ap (λ (b : List ℕ). take l₁.words l₂.log ++ b) z
        ∙ take-append-drop l₁.words l₂.log))

calls_log_alike : (s₁ s₂ : Start) (log₁ log₂ : List ℕ) (n : ℕ) → LoggedPremises s₁ s₂ log₁ log₂ n
    → length log₁ ≡ length log₂
    → LogAlike s₁ s₂ log₁ log₂ n (logged_call_of s₁ log₁ n) (logged_call_of s₂ log₂ n)
calls_log_alike s₁ s₂ log₁ log₂ n p e =
    let q = logged_swapped s₁ s₂ log₁ log₂ n p in
    record {
      logged_by_second = logged_too s₁ s₂ log₁ log₂ n p e;
      logged_by_first = logged_too s₂ s₁ log₂ log₁ n q (sym e);
      same_words = same_words s₁ s₂ log₁ log₂ n p e;
      up_to_first = λ k vector psr pc f h. same_words s₁ s₂ log₁ log₂ n p e k h f.none_before;
      same_steps = same_steps s₁ s₂ log₁ log₂ n p e;
      all_words = all_words s₁ s₂ log₁ log₂ n p e;
      same_log = same_log s₁ s₂ log₁ log₂ n p e;
    }

-- ---- the premises

-- A step that is logged is a step of the ordinary call.
logged_is_called : (s : Start) (log : List ℕ) (n j : ℕ) → admission_of s n ≡ Accepted
    → j < (logged_call_of s log n).steps → j < (call_of s n).steps
logged_is_called s log n j a h =
    let l : j < (logged_run_of s log n).steps = rw (accepted_logged_call third s log n a) at h in
    omega (arith, (logged_were_made third s log n j l).made, call_steps_are_run_steps step_of s n a)

carried_over : (s₁ s₂ : Start) (log₁ log₂ : List ℕ) (n : ℕ) → Premises s₁ s₂ n → LoggedPremises s₁ s₂ log₁ log₂ n
carried_over s₁ s₂ log₁ log₂ n p = record {
  accepted₁ = p.accepted₁;
  accepted₂ = p.accepted₂;
  user_mode_lem = p.user_mode_lem;
  same_visible = p.same_visible;
  no_interrupt₁ = λ j h c. p.no_interrupt₁.never j (logged_is_called s₁ log₁ n j p.accepted₁ h) c;
  no_interrupt₂ = λ j h c. p.no_interrupt₂.never j (logged_is_called s₂ log₂ n j p.accepted₂ h) c;
}

pub logs_do_not_tell : LogsDoNotTell
logs_do_not_tell = record { premises_carry_over = carried_over; log_alike = calls_log_alike }
