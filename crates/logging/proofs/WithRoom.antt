-- The log as a loop writes it, one entry after the other; and with room for its steps the logged run is the run, with
-- the entries of the steps made.
use Prim.Native.Nat.{ℕ, zero, suc, ◌+◌, ◌*◌, ◌≤◌}
use native.Mathlib.Nat.{add-zero}
use native.Mathlib.Numerals.{add-one}
use native.Mathlib.Omega.{arith}
use mathlib.Core.Path.{◌≡◌, refl, sym, ap, ◌∙◌}
use mathlib.Core.List.{List, [], ◌∷◌, ◌++◌}
use lib.ListN.{length, set, take, drop, take-append-drop}
use lib.Seq.{sets, sets-eq}
use Rattle.machine.specs.Edition.{Edition}
use Rattle.machine.specs.Step.{step_by}
use Rattle.run.specs.Run.{Start, End, run_by}
use Rattle.logging.specs.Log.{entry_by, entries_by}
use Rattle.logging.specs.declared.LoggedEnding.{LoggedEnding}
use Rattle.logging.specs.declared.LoggedEnding.TheVariants.{Run}
use Rattle.logging.specs.LoggedRun.{Logged, with_log, run_in, run_ending, logged_run_by}
use Rattle.logging.proofs.LoggedLaws.{Tracks, goes_with, was_full, tracks, Written, written, entries_length}
use Rattle.logging.proofs.BesideTheRun.{no_room}

-- ---- one more entry

sets_on : (xs ys log : List ℕ) (at : ℕ) → sets (sets log at xs) (at + length xs) ys ≡ sets log at (xs ++ ys)
sets_on [] ys log at = ap (λ (i : ℕ). sets log i ys) (add-zero at)
sets_on (x ∷ xs) ys log at =
    let on : at + length (x ∷ xs) ≡ suc at + length xs = omega arith in
    ap (λ (i : ℕ). sets (sets log at (x ∷ xs)) i ys) on ∙ sets_on xs ys (set log at x) (suc at)

pub entries_go_on : (edition : Edition) (s : Start) (log : List ℕ) (k : ℕ) (e : End) → e ≡ run_by (step_by edition) s k
    → sets (sets log 0 (entries_by edition s k)) (3 * k) (entry_by edition s e)
    ≡ sets log 0 (entries_by edition s (k + 1))
unfolding entries_by
entries_go_on edition s log k e stands =
    let at : 3 * k ≡ 0 + length (entries_by edition s k) = omega (arith, entries_length edition s k) in
    rw (add-one k, stands, at)
    (sets_on (entries_by edition s k) (entry_by edition s (run_by (step_by edition) s k)) log 0)

-- ---- with room

-- A log whose first words are these, and whose rest is as lent.
entries_and_rest : (log log' entries : List ℕ) (words : ℕ) → length entries ≡ words → words ≤ length log
    → take words log' ≡ entries → drop words log' ≡ drop words log → sets log 0 entries ≡ log'
entries_and_rest log log' entries words size room first rest =
    let at : 0 + length entries ≡ words = omega (arith, size) in
    sets-eq entries log 0 (omega (arith, size, room))
    ∙ (rw (at, ← first, ← rest) (take-append-drop words log'))

pub logged_with_room : (edition : Edition) (s : Start) (log : List ℕ) (n : ℕ) (e : End) (log' : List ℕ)
    → e ≡ run_by (step_by edition) s n → log' ≡ sets log 0 (entries_by edition s e.steps) → 3 * n ≤ length log
    → with_log (Run e.ending) e log' (3 * e.steps) ≡ logged_run_by edition s log n
logged_with_room edition s log n e log' stands wrote space =
    go (logged_run_by edition s log n) (tracks edition s log n) (written edition s log n)
  where
    go : (l : Logged) → Tracks edition s n l → Written edition s log l
        → with_log (Run e.ending) e log' (3 * e.steps) ≡ l
    go l (was_full f h i x r) w =
        absurd (omega (arith, no_room l.log l.words r, w.size, w.three_a_step, i, space))
    go l (goes_with v f h) w =
        let same : e ≡ run_in l = stands ∙ sym h in
        let ended : Run (run_in l).ending ≡ l.ending = ap (λ (x : LoggedEnding). Run (run_ending x)) f ∙ sym f in
        let left : sets log 0 (entries_by edition s l.steps) ≡ l.log =
        entries_and_rest log l.log (entries_by edition s l.steps) l.words
        (omega (arith, entries_length edition s l.steps, w.three_a_step)) w.room w.entries w.rest in
        rw (wrote, same, left, ended, ← w.three_a_step) refl
