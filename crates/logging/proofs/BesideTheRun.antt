-- A logged call is the run but for its log, or the run of the steps made where the log is full: by what the laws of one
-- logged run say of each accepted call; a refused one is the run's refusal.
use Rattle.std.specs.Prelude.{Ok, Err}
use Prim.Native.Nat.{ℕ, zero, suc, ◌+◌, ◌*◌, ◌≤◌, ◌<◌}
use mathlib.Core.Path.{◌≡◌, refl, sym, ap, subst, ◌∙◌}
use mathlib.Core.Bool.{true}
use mathlib.Core.List.{List}
use native.Mathlib.Omega.{arith}
use borrow.Author.Tests.{ltb-true}
use lib.ListN.{length}
use Rattle.machine.specs.Edition.{Edition}
use Rattle.machine.specs.Step.{step_by}
use Rattle.run.specs.declared.Ending.TheVariants.{Done}
use Rattle.run.specs.Run.{Start, End, begin, ended_by, run_by}
use Rattle.run.specs.Refusals.{admission_of, Admission, Accepted}
use Rattle.run.specs.Call.{call_by, admitted_by}
use Rattle.run.proofs.RunLaws.{steps_made_at_most, done_steps_are_made}
use Rattle.run.proofs.Acceptance.{call_is_run}
use Rattle.logging.specs.Log.{lacks_room, entries_by}
use Rattle.logging.specs.LoggedRun.{Logged, run_ending, logged_run_by}
use Rattle.logging.specs.LoggedCall.{logged_admitted_by, logged_call_by}
use Rattle.logging.specs.BesideTheRun.{AsTheRun, LoggedRunIsTheRun}
use Rattle.logging.proofs.LoggedLaws.{Tracks, goes_with, was_full, run_is_not_log_full, tracks, Written}
use Rattle.logging.proofs.LoggedLaws.{written}

pub no_room : (log : List ℕ) (words : ℕ) → lacks_room log words ≡ true → length log < words + 3
unfolding lacks_room
no_room log words h = ltb-true (length log) (words + 3) h

accepted_is_the_run : (edition : Edition) (s : Start) (log : List ℕ) (n : ℕ) → admission_of s n ≡ Accepted
    → (l : Logged) → Tracks edition s n l → Written edition s log l → AsTheRun edition s log n l
accepted_is_the_run edition s log n a l (goes_with v f h) w = record {
  unless_full = λ x. h ∙ sym (call_is_run (step_by edition) s n n a (omega arith));
  where_full = λ x. absurd (run_is_not_log_full v (sym f ∙ x));
  full_before_done = λ x. absurd (run_is_not_log_full v (sym f ∙ x));
  full_not_halted = λ x. absurd (run_is_not_log_full v (sym f ∙ x));
  full_without_room = λ x. absurd (run_is_not_log_full v (sym f ∙ x));
  entries = w.entries;
  rest = w.rest;
  size = w.size;
  three_a_step = w.three_a_step;
}
accepted_is_the_run edition s log n a l (was_full f h i x r) w = record {
  unless_full = λ y. absurd (y f);
  where_full = λ y. h ∙ sym (call_is_run (step_by edition) s n l.steps a (omega arith));
  full_before_done = λ y. i;
  full_not_halted = λ y. x;
  full_without_room = λ y. omega (arith, no_room l.log l.words r, w.size);
  entries = w.entries;
  rest = w.rest;
  size = w.size;
  three_a_step = w.three_a_step;
}

pub logged_run_is_the_run : LoggedRunIsTheRun
unfolding logged_call_by
logged_run_is_the_run edition s log n = go (admission_of s n) refl
  where
    go : (a : Admission) → admission_of s n ≡ a → AsTheRun edition s log n (logged_admitted_by edition a s log n)
    go (Ok _) e = unfold logged_admitted_by in
        accepted_is_the_run edition s log n e (logged_run_by edition s log n) (tracks edition s log n)
        (written edition s log n)
    go (Err r) e = unfold logged_admitted_by call_by admitted_by ended_by begin entries_by in record {
      unless_full = λ x. rw e refl;
      where_full = λ x. absurd (run_is_not_log_full _ x);
      full_before_done = λ x. absurd (run_is_not_log_full _ x);
      full_not_halted = λ x. absurd (run_is_not_log_full _ x);
      full_without_room = λ x. absurd (run_is_not_log_full _ x);
      entries = refl;
      rest = refl;
      size = refl;
      three_a_step = refl;
    }

-- ---- which steps are logged: those that the run makes and that the log has room for

pub accepted_logged_call : (edition : Edition) (s : Start) (log : List ℕ) (n : ℕ) → admission_of s n ≡ Accepted
    → logged_call_by edition s log n ≡ logged_run_by edition s log n
unfolding logged_call_by logged_admitted_by
accepted_logged_call edition s log n e = rw e refl

pub record MadeWithRoom (edition : Edition) (s : Start) (log : List ℕ) (n k : ℕ) : Type 0 where
  pub made : k < (run_by (step_by edition) s n).steps
  pub room : 3 * k + 3 ≤ length log

pub logged_were_made : (edition : Edition) (s : Start) (log : List ℕ) (n k : ℕ)
    → k < (logged_run_by edition s log n).steps
    → MadeWithRoom edition s log n k
logged_were_made edition s log n k h = go (tracks edition s log n) (written edition s log n)
  where
    go : Tracks edition s n (logged_run_by edition s log n) → Written edition s log (logged_run_by edition s log n)
        → MadeWithRoom edition s log n k
    go (goes_with v f e) w = record {
      made = omega (arith, h, ap (λ (x : End). x.steps) e);
      room = omega (arith, h, w.room, w.three_a_step);
    }
    go (was_full f e i x r) w = record {
      made = omega (
        arith,
        h,
        done_steps_are_made (step_by edition) s n (logged_run_by edition s log n).steps (omega (arith, i))
            (subst (λ (y : End). y.ending ≡ Done) e (ap run_ending f)),
      );
      room = omega (arith, h, w.room, w.three_a_step);
    }

pub made_are_logged : (edition : Edition) (s : Start) (log : List ℕ) (n k : ℕ) → MadeWithRoom edition s log n k
    → k < (logged_run_by edition s log n).steps
made_are_logged edition s log n k m = go (tracks edition s log n) (written edition s log n)
  where
    go : Tracks edition s n (logged_run_by edition s log n) → Written edition s log (logged_run_by edition s log n)
        → k < (logged_run_by edition s log n).steps
    go (goes_with v f e) w = omega (arith, m.made, ap (λ (x : End). x.steps) e)
    go (was_full f e i x r) w =
        omega (
          arith,
          m.room,
          no_room (logged_run_by edition s log n).log (logged_run_by edition s log n).words r,
          w.size,
          w.three_a_step,
        )

pub logged_steps_at_most : (edition : Edition) (s : Start) (log : List ℕ) (n : ℕ)
    → (logged_run_by edition s log n).steps ≤ n
logged_steps_at_most edition s log n = go (tracks edition s log n)
  where
    go : Tracks edition s n (logged_run_by edition s log n) → (logged_run_by edition s log n).steps ≤ n
    go (goes_with v f e) = omega (arith, ap (λ (x : End). x.steps) e, steps_made_at_most (step_by edition) s n)
    go (was_full f e i x r) = omega (arith, i)
