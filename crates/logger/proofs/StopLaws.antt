-- What comes after the steps for which the log of a logged run has room: told by the tests in their order.
use Prim.Native.Nat.{ℕ, ◌+◌, ◌*◌, ◌≤◌, ◌<◌}
use native.Mathlib.Omega.{arith}
use mathlib.Core.Path.{◌≡◌, refl, sym, ap, ◌∙◌}
use mathlib.Core.Bool.{Bool, true, false}
use mathlib.Core.List.{List}
use borrow.Author.Tests.{lt-ltb, ltb-true, ltb-false}
use lib.Dec.{ltb}
use lib.ListN.{length}
use Rattle.machine.specs.Edition.{Edition}
use Rattle.machine.specs.Step.{step_by}
use Rattle.run.specs.declared.Ending.{Ending}
use Rattle.run.specs.declared.Ending.TheVariants.{Done, Halted, OutputFull, Refused}
use Rattle.run.specs.Run.{Start, End, is_halted}
use Rattle.logging.specs.Log.{lacks_room}
use Rattle.logging.specs.declared.LoggedEnding.{LoggedEnding}
use Rattle.logging.specs.declared.LoggedEnding.TheVariants.{Run}
use Rattle.logging.specs.LoggedRun.{Logged, with_log, run_in, stopped_by, one_more_logged_by, logged_run_by}
use Rattle.logger.specs.Stepping.{logging, stop_at_room}
use Rattle.logging.proofs.LoggedLaws.{Tracks, tracks, written, done_stands_at_its_steps, logged_stays}
use Rattle.logging.proofs.LoggedLaws.{goes_with, was_full as was-log-full, run_is_not_log_full}
use Rattle.logging.proofs.LoggedLaws.{stands_halted, stands_log_full}

-- The logged run of n steps, where that of so many ends in `e`.
module _ (edition : Edition) (s : Start) (log₀ : List ℕ) (n most : ℕ) (e : End) (log : List ℕ)
    (stands : logging e log ≡ logged_run_by edition s log₀ most)
    (bound : most ≤ n) (filled : most < n → length log₀ < 3 * most + 3)
  where
    abbrev ends_by : LoggedEnding → Logged
    ends_by w = with_log w e log (3 * e.steps)

    stays : one_more_logged_by edition (Run e.ending) s (logging e log) ≡ logging e log
        → logging e log ≡ logged_run_by edition s log₀ n
    stays q = sym (logged_stays edition s log₀ n most (logging e log) bound (sym stands) q)

    done_at_most : e.ending ≡ Done → e.steps ≡ most
    done_at_most d = go (tracks edition s log₀ most)
      where
        go : Tracks edition s most (logged_run_by edition s log₀ most) → e.steps ≡ most
        go (goes_with w f h) = done_stands_at_its_steps (step_by edition) s most e (ap run_in stands ∙ h) d
        go (was-log-full f x i z r) =
            absurd (run_is_not_log_full e.ending (ap (λ (l : Logged). l.ending) stands ∙ f))

    lacks_room_lem : e.ending ≡ Done → most < n → lacks_room log (3 * e.steps) ≡ true
    unfolding lacks_room
    lacks_room_lem d l =
        let size : length (logged_run_by edition s log₀ most).log ≡ length log₀ = (written edition s log₀ most).size in
        lt-ltb (length log) (3 * e.steps + 3)
        (omega (arith, ap (λ (l : Logged). length l.log) stands, size, done_at_most d, filled l))

    same_ending : (w : Ending) → e.ending ≡ w → ends_by (Run w) ≡ logging e log
    same_ending w q = ap (λ (v : Ending). ends_by (Run v)) (sym q)

    ends : (w : Ending) (more halted : Bool) → e.ending ≡ w → ltb most n ≡ more → is_halted e ≡ halted
        → (mcr : ℕ) → ltb mcr 0x8000 ≡ halted → ends_by (stop_at_room w more mcr) ≡ logged_run_by edition s log₀ n
    unfolding stop_at_room one_more_logged_by
    ends Halted more halted q x y mcr z = same_ending Halted q ∙ stays (rw q refl)
    ends OutputFull more halted q x y mcr z = same_ending OutputFull q ∙ stays (rw q refl)
    ends (Refused r) more halted q x y mcr z = same_ending (Refused r) q ∙ stays (rw q refl)
    ends Done false halted q x y mcr z =
        let l : n ≡ most = omega (arith, bound, ltb-false most n x) in
        same_ending Done q ∙ (stands ∙ ap (logged_run_by edition s log₀) (sym l))
    ends Done true true q x y mcr z =
        rw z
        (unfold stopped_by in
        stands_halted edition s log₀ most (logging e log) stands (ap (λ (v : Ending). Run v) q) n (ltb-true most n x) y)
    ends Done true false q x y mcr z =
        rw z
        (unfold stopped_by in
        stands_log_full edition s log₀ most (logging e log) stands (ap (λ (v : Ending). Run v) q) n (ltb-true most n x)
        y (lacks_room_lem q (ltb-true most n x)))

    pub run_stops : ends_by (stop_at_room e.ending (ltb most n) e.machine.devices.mcr)
        ≡ logged_run_by edition s log₀ n
    unfolding is_halted
    run_stops = ends e.ending (ltb most n) (is_halted e) refl refl refl e.machine.devices.mcr refl
