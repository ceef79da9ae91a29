-- A logged run that is continued is one logged run: the joined state of the two calls goes on exactly as that of the
-- second alone does, by the laws of continued runs and of lists written behind others.
use Prim.Native.Nat.{ℕ, zero, suc, ◌+◌, ◌*◌, ◌≤◌, ◌<◌}
use mathlib.Core.Path.{◌≡◌, refl, sym, ap, subst, ◌∙◌}
use mathlib.Core.Bool.{Bool, true, false, cond}
use mathlib.Core.List.{List, [], ◌∷◌, ◌++◌}
use native.Mathlib.Nat.{zero-add, suc-add, add-zero, add-suc, add_assoc}
use native.Mathlib.Omega.{arith}
use native.Mathlib.Decide.{dec_le}
use borrow.Author.Tests.{lt-ltb, le-ltb}
use lib.Dec.{ltb}
use lib.ListN.{length, take, drop, length-append, set, take-append-drop}
use lib.Pow.{are_bytes}
use lib.Seq.{sets, length-take-le}
use Rattle.machine.specs.Edition.{Edition}
use Rattle.machine.proofs.StepLaws.{step_keeps}
use Rattle.machine.specs.Step.{step_by}
use Rattle.run.specs.declared.Ending.TheVariants.{Done, Halted, OutputFull, Refused}
use Rattle.run.specs.Run.{Start, End, is_halted, is_full_by}
use Rattle.run.specs.Refusals.{admission_of, Accepted}
use Rattle.run.specs.Continuing.{remaining, joined}
use Rattle.run.proofs.Continuing.{next_alike, full_alike, made_alike, begin_alike, shown_within, remaining_accepted}
use Rattle.run.proofs.Acceptance.{accepted_with_fewer}
use Rattle.logging.specs.Log.{next_rule_by, entry_by, lacks_room}
use Rattle.logging.specs.declared.LoggedEnding.{LoggedEnding}
use Rattle.logging.specs.declared.LoggedEnding.TheVariants.{Run, LogFull}
use Rattle.logging.specs.LoggedRun.{Logged, with_log, run_ending, run_in, begin_logged, stopped_by, step_logged_by}
use Rattle.logging.specs.LoggedRun.{one_more_logged_by, logged_run_by}
use Rattle.logging.specs.LoggedCall.{logged_call_by}
use Rattle.logging.specs.LogSplits.{joined_logged, Splits, LogSplits}
use Rattle.logging.proofs.LoggedLaws.{Tracks, goes_with, was_full, tracks, Written, written, logged_stays}
use Rattle.logging.proofs.BesideTheRun.{accepted_logged_call}

-- ---- lists

set_behind : (xs ys : List ℕ) (k b : ℕ) → set (xs ++ ys) (length xs + k) b ≡ xs ++ set ys k b
set_behind [] ys k b = rw (zero-add k)
set_behind (x ∷ xs) ys k b = rw (suc-add (length xs) k) (ap (λ (l : List ℕ). x ∷ l) (set_behind xs ys k b))

sets_behind : (vs xs ys : List ℕ) (k : ℕ) → sets (xs ++ ys) (length xs + k) vs ≡ xs ++ sets ys k vs
sets_behind [] xs ys k = refl
sets_behind (v ∷ vs) xs ys k =
    rw (set_behind xs ys k v) (rw (← add-suc (length xs) k) (sets_behind vs xs (set ys k v) (suc k)))

lacks_room_behind : (xs ys : List ℕ) (k : ℕ) → lacks_room (xs ++ ys) (length xs + k) ≡ lacks_room ys k
unfolding lacks_room
lacks_room_behind xs ys k =
    rw (length-append xs ys)
    (elim (dec_le (k + 3) (length ys)) [
      | yes h ↦ (
          le-ltb (length xs + length ys) (length xs + k + 3) (omega arith) ∙ sym (le-ltb (length ys) (k + 3) h)
          )
      | no h ↦ (
          lt-ltb (length xs + length ys) (length xs + k + 3) (omega arith)
          ∙ sym (lt-ltb (length ys) (k + 3) (omega arith))
          )
    ])

-- ---- the two states go on alike

-- The bytes shown are within the output.
abbrev ShownFits : End → Type 0
ShownFits e = length (take e.shown e.output) ≡ e.shown

module _ (edition : Edition) (s : Start) (l : Logged) (shown : ShownFits (run_in l))
    (wrote : length (take l.words l.log) ≡ l.words)
  where
    abbrev rest : Start
    rest = remaining s (run_in l)

    entry_alike : (m : Logged) → entry_by edition s (joined (run_in l) (run_in m)) ≡ entry_by edition rest (run_in m)
    unfolding entry_by next_rule_by
    entry_alike m = rw (next_alike (step_by edition) s (run_in l) shown (run_in m)) refl

    room_alike : (m : Logged)
        → lacks_room (take l.words l.log ++ m.log) (l.words + m.words) ≡ lacks_room m.log m.words
    room_alike m =
        ap (λ (k : ℕ). lacks_room (take l.words l.log ++ m.log) (k + m.words)) (sym wrote)
        ∙ lacks_room_behind (take l.words l.log) m.log m.words

    log_alike : (m : Logged) (vs : List ℕ)
        → sets (take l.words l.log ++ m.log) (l.words + m.words) vs
        ≡ take l.words l.log ++ sets m.log m.words vs
    log_alike m vs =
        ap (λ (k : ℕ). sets (take l.words l.log ++ m.log) (k + m.words) vs) (sym wrote)
        ∙ sets_behind vs (take l.words l.log) m.log m.words

    step_alike : (m : Logged) → step_logged_by edition s (joined_logged l m)
        ≡ joined_logged l (step_logged_by edition rest m)
    unfolding step_logged_by
    step_alike m =
        rw (
          made_alike (step_by edition) s (run_in l) shown (run_in m),
          entry_alike m,
          log_alike m (entry_by edition rest (run_in m)),
          add_assoc l.words m.words 3,
        ) refl

    one_more_alike : (w : LoggedEnding) (m : Logged)
        → one_more_logged_by edition w s (joined_logged l m) ≡ joined_logged l (one_more_logged_by edition w rest m)
    unfolding one_more_logged_by is_halted
    one_more_alike (Run Done) m =
        rw (room_alike m, full_alike (step_by edition) s (run_in l) shown (run_in m), step_alike m)
        (tested (is_halted (run_in m)) (lacks_room m.log m.words) (is_full_by (step_by edition) rest (run_in m)))
      where
        tested : (halted short full : Bool)
            → cond halted (stopped_by (Run Halted) (joined_logged l m))
            (cond short (stopped_by LogFull (joined_logged l m))
            (cond full (stopped_by (Run OutputFull) (joined_logged l m))
            (joined_logged l (step_logged_by edition rest m))))
            ≡ joined_logged l
            (cond halted (stopped_by (Run Halted) m)
            (cond short (stopped_by LogFull m)
            (cond full (stopped_by (Run OutputFull) m) (step_logged_by edition rest m))))
        tested true short full = unfold stopped_by in refl
        tested false true full = unfold stopped_by in refl
        tested false false true = unfold stopped_by in refl
        tested false false false = refl
    one_more_alike (Run Halted) m = refl
    one_more_alike (Run OutputFull) m = refl
    one_more_alike (Run (Refused r)) m = refl
    one_more_alike LogFull m = refl

    begin_logged_alike : l.ending ≡ Run Done → l ≡ joined_logged l (begin_logged rest (drop l.words l.log))
    unfolding begin_logged
    begin_logged_alike d =
        rw (take-append-drop l.words l.log, add-zero l.words)
        (ap (λ (w : LoggedEnding). with_log w (run_in l) l.log l.words) d
        ∙ ap (λ (e : End). with_log (Run Done) e l.log l.words)
        (begin_alike (step_by edition) s (run_in l) shown (ap run_ending d)))

-- ---- runs

words_within : (edition : Edition) (s : Start) (log : List ℕ) (k : ℕ)
    → length (take (logged_run_by edition s log k).words (logged_run_by edition s log k).log)
    ≡ (logged_run_by edition s log k).words
words_within edition s log k =
    let w : Written edition s log (logged_run_by edition s log k) = written edition s log k in
    length-take-le (logged_run_by edition s log k).words (logged_run_by edition s log k).log
    (omega (arith, w.room, w.size))

logged_begins : (edition : Edition) (s : Start) (log : List ℕ) → logged_run_by edition s log 0 ≡ begin_logged s log
unfolding logged_run_by
logged_begins edition s log = refl

logged_goes_on : (edition : Edition) (s : Start) (log : List ℕ) (n : ℕ) (l : Logged) → logged_run_by edition s log n ≡ l
    → logged_run_by edition s log (suc n) ≡ one_more_logged_by edition l.ending s l
unfolding logged_run_by
logged_goes_on edition s log n l h = ap (λ (x : Logged). one_more_logged_by edition x.ending s x) h

module _ (edition : Edition) (s : Start) (log : List ℕ) (k : ℕ) (d : (logged_run_by edition s log k).ending ≡ Run Done)
  where
    abbrev first : Logged
    first = logged_run_by edition s log k

    abbrev second : ℕ → Logged
    second j = logged_run_by edition (remaining s (run_in first)) (drop first.words first.log) j

    shown_fits : ShownFits (run_in first)
    shown_fits = go (tracks edition s log k)
      where
        go : Tracks edition s k first → ShownFits (run_in first)
        go (goes_with w x h) = subst ShownFits (sym h) (shown_within (step_keeps edition) s k)
        go (was_full x h i z r) = subst ShownFits (sym h) (shown_within (step_keeps edition) s first.steps)

    logged_continued : (j : ℕ) → logged_run_by edition s log (k + j) ≡ joined_logged first (second j)
    logged_continued zero =
        ap (logged_run_by edition s log) (add-zero k)
        ∙ begin_logged_alike edition s first shown_fits (words_within edition s log k) d
        ∙ ap (joined_logged first)
        (sym (logged_begins edition (remaining s (run_in first)) (drop first.words first.log)))
    logged_continued (suc j) =
        ap (logged_run_by edition s log) (add-suc k j)
        ∙ logged_goes_on edition s log (k + j) (joined_logged first (second j)) (logged_continued j)
        ∙ one_more_alike edition s first shown_fits (words_within edition s log k) (second j).ending (second j)
        ∙ ap (joined_logged first)
        (sym (logged_goes_on edition (remaining s (run_in first)) (drop first.words first.log) j (second j) refl))

-- ---- calls

stopped_stays : (edition : Edition) (w : LoggedEnding) (s : Start) (l : Logged) → (w ≡ Run Done → ⊥)
    → one_more_logged_by edition w s l ≡ l
unfolding one_more_logged_by
stopped_stays edition (Run Done) s l n = absurd (n refl)
stopped_stays edition (Run Halted) s l n = refl
stopped_stays edition (Run OutputFull) s l n = refl
stopped_stays edition (Run (Refused r)) s l n = refl
stopped_stays edition LogFull s l n = refl

-- The call of j steps that comes after it is accepted.
abbrev AcceptedAfter : Start → ℕ → End → Type 0
AcceptedAfter s j e = admission_of (remaining s e) j ≡ Accepted

first_accepted : (edition : Edition) (s : Start) (log : List ℕ) (k j : ℕ) → are_bytes s.bytes ≡ true
    → admission_of s (k + j) ≡ Accepted → AcceptedAfter s j (run_in (logged_run_by edition s log k))
first_accepted edition s log k j bytes h = go (tracks edition s log k)
  where
    go : Tracks edition s k (logged_run_by edition s log k) → AcceptedAfter s j (run_in (logged_run_by edition s log k))
    go (goes_with w f e) = subst (AcceptedAfter s j) (sym e) (remaining_accepted (step_keeps edition) s k j bytes h)
    go (was_full f e i x r) =
        let m : ℕ = (logged_run_by edition s log k).steps in
        subst (AcceptedAfter s j) (sym e) (remaining_accepted (step_keeps edition) s m j bytes
        (accepted_with_fewer s (k + j) ((logged_run_by edition s log k).steps + j) (omega (arith, i)) h))

pub log_splits : LogSplits
log_splits edition s k j log bytes h =
    let a : admission_of s k ≡ Accepted = accepted_with_fewer s (k + j) k (omega arith) h in
    go (logged_call_by edition s log k) (accepted_logged_call edition s log k a)
  where
    whole : logged_call_by edition s log (k + j) ≡ logged_run_by edition s log (k + j)
    whole = accepted_logged_call edition s log (k + j) h

    go : (first : Logged) → first ≡ logged_run_by edition s log k → Splits edition s k j log first
    go first e =
        let second = first_accepted edition s log k j bytes h in
        record {
          second_accepted = rw e second;
          continued = λ d.
              whole
              ∙ rw e
              (logged_continued edition s log k (rw e at d) j
              ∙ ap (joined_logged (logged_run_by edition s log k))
              (sym (accepted_logged_call edition (remaining s (run_in (logged_run_by edition s log k)))
              (drop (logged_run_by edition s log k).words (logged_run_by edition s log k).log) j second)));
          stopped = λ n.
              whole
              ∙ logged_stays edition s log (k + j) k first (omega arith) (sym e)
              (stopped_stays edition first.ending s first n);
        }
