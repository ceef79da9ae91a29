-- The laws of one logged run: it goes with the run until its log is full, its log holds the entries of the steps made,
-- and once stopped it stays as it is. By induction on the number of steps, and by the tests before each step.
use Prim.Native.Nat.{ℕ, zero, suc, ◌+◌, ◌*◌, ◌≤◌, ◌<◌}
use mathlib.Core.Path.{◌≡◌, refl, sym, ap, subst, ◌∙◌}
use mathlib.Core.Bool.{Bool, true, false, cond}
use mathlib.Core.List.{List, [], ◌∷◌, ◌++◌}
use native.Mathlib.Omega.{arith}
use native.Mathlib.Decide.{dec_le}
use borrow.Author.Tests.{ltb-false}
use lib.Dec.{ltb}
use lib.ListN.{length, take, drop, length-append}
use lib.Seq.{sets, length-sets, sets-eq, take_at, drop_at, drop-drop, length-take-le, take-take, take_all}
use lib.Seq.{take-append-le}
use Rattle.machine.specs.Edition.{Edition}
use Rattle.machine.specs.Step.{Step, step_by}
use Rattle.run.specs.declared.Ending.{Ending}
use Rattle.run.specs.declared.Ending.TheVariants.{Done, Halted, OutputFull, Refused}
use Rattle.run.specs.Run.{Start, End, begin, ended_by, step_made_by, is_halted, is_full_by, one_more_by, run_by}
use Rattle.run.proofs.RunLaws.{run_of_none, halted_is_not_done, full_is_not_done, refused_is_not_done}
use Rattle.run.proofs.RunLaws.{stopped_run_stays, done_makes_all_steps}
use Rattle.logging.specs.Log.{entry_by, lacks_room, entries_by}
use Rattle.logging.specs.declared.LoggedEnding.{LoggedEnding}
use Rattle.logging.specs.declared.LoggedEnding.TheVariants.{Run, LogFull}
use Rattle.logging.specs.LoggedRun.{Logged, run_ending, run_in, begin_logged, stopped_by, step_logged_by}
use Rattle.logging.specs.LoggedRun.{one_more_logged_by, logged_run_by}

-- ---- the run

-- The logged run of n steps stands where the run of n does; or it stopped for a full log where the run of fewer does.
pub data Tracks (edition : Edition) (s : Start) (n : ℕ) (l : Logged) : Type 0 where
  goes_with : (w : Ending) → l.ending ≡ Run w → run_in l ≡ run_by (step_by edition) s n → Tracks edition s n l
  was_full : l.ending ≡ LogFull → run_in l ≡ run_by (step_by edition) s l.steps → l.steps < n
      → is_halted (run_in l) ≡ false
      → lacks_room l.log l.words ≡ true
      → Tracks edition s n l

pub run_is_not_log_full : (w : Ending) → Run w ≡ LogFull → ⊥
run_is_not_log_full w p = let z : ◌≡◌ {A = ℕ} 0 1 = cc in omega arith

next_of_run : (step : Step) (s : Start) (n : ℕ) (e : End) → e ≡ run_by step s n
    → run_by step s (suc n) ≡ one_more_by step e.ending s e
unfolding run_by
next_of_run step s n e h = ap (λ (x : End). one_more_by step x.ending s x) (sym h)

one_more_when_done : (step : Step) (w : Ending) (s : Start) (e : End) → w ≡ Done
    → one_more_by step w s e
    ≡ cond (is_halted e) (ended_by Halted e)
    (cond (is_full_by step s e) (ended_by OutputFull e) (step_made_by step s e))
unfolding one_more_by
one_more_when_done step w s e d = rw d refl

pub done_stands_at_its_steps : (step : Step) (s : Start) (n : ℕ) (e : End) → e ≡ run_by step s n → e.ending ≡ Done
    → e.steps ≡ n
done_stands_at_its_steps step s n e h d = ap (λ (x : End). x.steps) h ∙ done_makes_all_steps step s n (rw h at d)

-- Log full is tested where the run is done.
full_is_done : (l : Logged) → l.ending ≡ Run Done → run_in (stopped_by LogFull l) ≡ run_in l
unfolding stopped_by
full_is_done l f = rw f refl

module _ (edition : Edition) (s : Start) (n : ℕ) (l : Logged) (h : run_in l ≡ run_by (step_by edition) s n) where
  abbrev step : Step
  step = step_by edition

  run_stays : ((run_in l).ending ≡ Done → ⊥) → run_in l ≡ run_by (step_by edition) s (suc n)
  run_stays x =
      h ∙ sym (stopped_run_stays step s (suc n) n (omega arith) (λ q. x (ap (λ (e : End). e.ending) h ∙ q)))

  tracks_by_ending : (w : Ending) → l.ending ≡ Run w
      → Tracks edition s (suc n) (one_more_logged_by edition (Run w) s l)
  unfolding one_more_logged_by
  tracks_by_ending Halted f = goes_with Halted f (run_stays (halted_is_not_done _ (ap run_ending f)))
  tracks_by_ending OutputFull f = goes_with OutputFull f (run_stays (full_is_not_done _ (ap run_ending f)))
  tracks_by_ending (Refused r) f = goes_with (Refused r) f (run_stays (refused_is_not_done _ r (ap run_ending f)))
  tracks_by_ending Done f =
      go (is_halted (run_in l)) (lacks_room l.log l.words) (is_full_by step s (run_in l)) refl refl
      (next_of_run step s n (run_in l) h ∙ one_more_when_done step (run_in l).ending s (run_in l) (ap run_ending f))
    where
      at_steps : l.steps ≡ n
      at_steps = done_stands_at_its_steps step s n (run_in l) h (ap run_ending f)

      go : (halted short full : Bool) → is_halted (run_in l) ≡ halted → lacks_room l.log l.words ≡ short
          → run_by step s (suc n)
          ≡ cond halted (ended_by Halted (run_in l))
          (cond full (ended_by OutputFull (run_in l)) (step_made_by step s (run_in l)))
          → Tracks edition s (suc n)
          (cond halted (stopped_by (Run Halted) l)
          (cond short (stopped_by LogFull l) (cond full (stopped_by (Run OutputFull) l) (step_logged_by edition s l))))
      go true short full x y z = unfold stopped_by ended_by in goes_with Halted refl (sym z)
      go false true full x y z = unfold stopped_by in
          was_full refl (full_is_done l f ∙ (h ∙ ap (run_by step s) (sym at_steps))) (omega (arith, at_steps))
          (ap is_halted (full_is_done l f) ∙ x) y
      go false false true x y z = unfold stopped_by ended_by in goes_with OutputFull refl (sym z)
      go false false false x y z = unfold step_logged_by step_made_by in goes_with Done refl (sym z)

pub tracks : (edition : Edition) (s : Start) (log : List ℕ) (n : ℕ) → Tracks edition s n (logged_run_by edition s log n)
unfolding logged_run_by
tracks edition s log zero = unfold begin_logged begin in goes_with Done refl (sym (run_of_none (step_by edition) s))
tracks edition s log (suc n) = go (logged_run_by edition s log n) (tracks edition s log n)
  where
    go : (l : Logged) → Tracks edition s n l → Tracks edition s (suc n) (one_more_logged_by edition l.ending s l)
    go l (goes_with w f h) =
        subst (λ (x : LoggedEnding). Tracks edition s (suc n) (one_more_logged_by edition x s l)) (sym f)
        (tracks_by_ending edition s n l h w f)
    go l (was_full f e i x r) =
        subst (λ (x : LoggedEnding). Tracks edition s (suc n) (one_more_logged_by edition x s l)) (sym f)
        (unfold one_more_logged_by in was_full f e (omega arith) x r)

-- ---- the log

entry_written : (log vs : List ℕ) (at : ℕ) → length vs ≡ 3 → at + 3 ≤ length log
    → take (at + 3) (sets log at vs) ≡ take at log ++ vs
entry_written log vs at three room =
    let size : length (take at log ++ vs) ≡ at + 3 =
    length-append (take at log) vs ∙ omega (arith, length-take-le at log (omega arith), three) in
    rw (sets-eq vs log at (omega arith)) (take_at (take at log ++ vs) _ (at + 3) size)

rest_as_lent : (log vs : List ℕ) (at : ℕ) → length vs ≡ 3 → at + 3 ≤ length log
    → drop (at + 3) (sets log at vs) ≡ drop (at + 3) log
rest_as_lent log vs at three room =
    let size : length (take at log ++ vs) ≡ at + 3 =
    length-append (take at log) vs ∙ omega (arith, length-take-le at log (omega arith), three) in
    rw (sets-eq vs log at (omega arith))
    (drop_at (take at log ++ vs) _ (at + 3) size ∙ ap (λ (i : ℕ). drop (at + i) log) three)

pub record Written (edition : Edition) (s : Start) (log : List ℕ) (l : Logged) : Type 0 where
  pub entries : take l.words l.log ≡ entries_by edition s l.steps
  pub rest : drop l.words l.log ≡ drop l.words log
  pub size : length l.log ≡ length log
  pub room : l.words ≤ length log
  pub three_a_step : l.words ≡ 3 * l.steps

entry_of_three : (edition : Edition) (s : Start) (e : End) → length (entry_by edition s e) ≡ 3
unfolding entry_by
entry_of_three edition s e = refl

written_step : (edition : Edition) (s : Start) (log : List ℕ) (l : Logged)
    → run_in l ≡ run_by (step_by edition) s l.steps
    → lacks_room l.log l.words ≡ false → Written edition s log l → Written edition s log (step_logged_by edition s l)
unfolding step_logged_by step_made_by lacks_room entries_by
written_step edition s log l h r w =
    let room : l.words + 3 ≤ length l.log = ltb-false (length l.log) (l.words + 3) r in
    let three = entry_of_three edition s (run_in l) in
    let at : 3 + l.words ≡ l.words + 3 = omega arith in
    record {
      entries = entry_written l.log (entry_by edition s (run_in l)) l.words three room
          ∙ (ap (λ (xs : List ℕ). xs ++ entry_by edition s (run_in l)) w.entries
          ∙ ap (λ (e : End). entries_by edition s l.steps ++ entry_by edition s e) h);
      rest = rest_as_lent l.log (entry_by edition s (run_in l)) l.words three room
          ∙ (sym (drop-drop 3 l.words l.log) ∙ (ap (drop 3) w.rest ∙ drop-drop 3 l.words log));
      size = length-sets l.log l.words (entry_by edition s (run_in l)) ∙ w.size;
      room = omega (arith, room, w.size);
      three_a_step = omega (arith, w.three_a_step);
    }

module _ (edition : Edition) (s : Start) (log : List ℕ) (n : ℕ) (l : Logged)
    (h : run_in l ≡ run_by (step_by edition) s n) (v : Written edition s log l)
  where
    written_by_ending : (w : Ending) → l.ending ≡ Run w → Written edition s log (one_more_logged_by edition (Run w) s l)
    unfolding one_more_logged_by
    written_by_ending Halted f = v
    written_by_ending OutputFull f = v
    written_by_ending (Refused r) f = v
    written_by_ending Done f =
        go (is_halted (run_in l)) (lacks_room l.log l.words) (is_full_by (step_by edition) s (run_in l)) refl
      where
        at_steps : l.steps ≡ n
        at_steps = done_stands_at_its_steps (step_by edition) s n (run_in l) h (ap run_ending f)

        ended : (w : LoggedEnding) → Written edition s log (stopped_by w l)
        ended w = unfold stopped_by in record {
          entries = v.entries;
          rest = v.rest;
          size = v.size;
          room = v.room;
          three_a_step = v.three_a_step;
        }

        go : (halted short full : Bool) → lacks_room l.log l.words ≡ short
            → Written edition s log
            (cond halted (stopped_by (Run Halted) l)
            (cond short (stopped_by LogFull l)
            (cond full (stopped_by (Run OutputFull) l) (step_logged_by edition s l))))
        go true short full y = ended (Run Halted)
        go false true full y = ended LogFull
        go false false true y = ended (Run OutputFull)
        go false false false y = written_step edition s log l (h ∙ ap (run_by (step_by edition) s) (sym at_steps)) y v

pub written : (edition : Edition) (s : Start) (log : List ℕ) (n : ℕ)
    → Written edition s log (logged_run_by edition s log n)
unfolding logged_run_by
written edition s log zero = unfold begin_logged begin entries_by in record {
  entries = refl;
  rest = refl;
  size = refl;
  room = omega arith;
  three_a_step = refl;
}
written edition s log (suc n) = go (logged_run_by edition s log n) (tracks edition s log n) (written edition s log n)
  where
    go : (l : Logged) → Tracks edition s n l → Written edition s log l
        → Written edition s log (one_more_logged_by edition l.ending s l)
    go l (goes_with w f h) v =
        subst (λ (x : LoggedEnding). Written edition s log (one_more_logged_by edition x s l)) (sym f)
        (written_by_ending edition s log n l h v w f)
    go l (was_full f e i x r) v =
        subst (λ (x : LoggedEnding). Written edition s log (one_more_logged_by edition x s l)) (sym f)
        (unfold one_more_logged_by in v)

-- ---- the entries of fewer steps

pub entries_length : (edition : Edition) (s : Start) (k : ℕ) → length (entries_by edition s k) ≡ 3 * k
unfolding entries_by
entries_length edition s zero = refl
entries_length edition s (suc k) =
    length-append (entries_by edition s k) (entry_by edition s (run_by (step_by edition) s k))
    ∙ omega (arith, entries_length edition s k, entry_of_three edition s (run_by (step_by edition) s k))

entries_of_fewer : (edition : Edition) (s : Start) (m k : ℕ) → k ≤ m
    → take (3 * k) (entries_by edition s m) ≡ entries_by edition s k
unfolding entries_by
entries_of_fewer edition s zero k h = let z : k ≡ 0 = omega arith in rw z
entries_of_fewer edition s (suc m) k h =
    elim (dec_le k m) [
      | yes j ↦ (
          take-append-le (3 * k) (entries_by edition s m) (entry_by edition s (run_by (step_by edition) s m))
          (omega (arith, entries_length edition s m))
          ∙ entries_of_fewer edition s m k j
          )
      | no j ↦ (
          let z : k ≡ suc m = omega arith in
          rw z (take_all (3 * suc m) (entries_by edition s (suc m)) (omega (arith, entries_length edition s (suc m))))
          )
    ]

pub log_of_fewer : (edition : Edition) (s : Start) (log : List ℕ) (l : Logged) (k : ℕ) → Written edition s log l
    → k ≤ l.steps → take (3 * k) l.log ≡ entries_by edition s k
log_of_fewer edition s log l k w h =
    sym (take-take (3 * k) l.words l.log (omega (arith, w.three_a_step)))
    ∙ (ap (take (3 * k)) w.entries ∙ entries_of_fewer edition s l.steps k h)

-- ---- a logged run that has stopped

-- One that makes nothing of one more step stays as it is.
pub logged_stays : (edition : Edition) (s : Start) (log : List ℕ) (n k : ℕ) (l : Logged) → k ≤ n
    → logged_run_by edition s log k ≡ l → one_more_logged_by edition l.ending s l ≡ l
    → logged_run_by edition s log n ≡ l
unfolding logged_run_by
logged_stays edition s log zero k l h e x = let z : k ≡ 0 = omega arith in rw z at e
logged_stays edition s log (suc n) k l h e x =
    elim (dec_le k n) [
      | yes j ↦ (
          ap (λ (y : Logged). one_more_logged_by edition y.ending s y) (logged_stays edition s log n k l j e x) ∙ x
          )
      | no j ↦ (let z : k ≡ suc n = omega arith in rw z at e)
    ]

-- The logged run stands at l after k steps, and may go on.
module _ (edition : Edition) (s : Start) (log : List ℕ) (k : ℕ) (l : Logged)
    (stands : l ≡ logged_run_by edition s log k)
    (live : l.ending ≡ Run Done)
  where
    next_logged : logged_run_by edition s log (suc k) ≡ one_more_logged_by edition (Run Done) s l
    unfolding logged_run_by
    next_logged = ap (λ (x : Logged). one_more_logged_by edition x.ending s x) (sym stands)
        ∙ ap (λ (w : LoggedEnding). one_more_logged_by edition w s l) live

    pub stands_halted : (n : ℕ) → k < n → is_halted (run_in l) ≡ true
        → stopped_by (Run Halted) l ≡ logged_run_by edition s log n
    unfolding one_more_logged_by
    stands_halted n h x =
        sym (logged_stays edition s log n (suc k) (stopped_by (Run Halted) l) h (next_logged ∙ rw x refl)
        (unfold stopped_by in refl))

    pub stands_log_full : (n : ℕ) → k < n → is_halted (run_in l) ≡ false → lacks_room l.log l.words ≡ true
        → stopped_by LogFull l ≡ logged_run_by edition s log n
    unfolding one_more_logged_by
    stands_log_full n h x y =
        sym (logged_stays edition s log n (suc k) (stopped_by LogFull l) h (next_logged ∙ rw (x, y) refl)
        (unfold stopped_by in refl))
