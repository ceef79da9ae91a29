-- A step that is made by itself, from where a call begins, is the run of one step: halted, full or made, as one turn of
-- the runs' loop is.
use Prim.Native.Nat.{ℕ, ◌+◌, ◌≤◌, ◌<◌}
use native.Mathlib.Nat.{zero-add}
use native.Mathlib.Omega.{arith}
use mathlib.Core.Path.{◌≡◌, refl, sym, ◌∙◌}
use mathlib.Core.Bool.{true, false, true≢false}
use mathlib.Core.List.{List}
use borrow.Author.Tests.{lt-ltb, le-ltb}
use Rattle.machine.specs.Record.{whole}
use Rattle.machine.specs.Edition.{Edition}
use Rattle.machine.specs.Step.{step_by}
use Rattle.step.specs.declared.Stepped.{Stepped}
use Rattle.run.specs.declared.Ending.TheVariants.{Done, Halted, OutputFull}
use Rattle.run.specs.Run.{Start, End, begin, ended_by, is_halted, run_by}
use Rattle.run.proofs.RunLaws.{one_more_makes_a_step, one_more_halts, one_more_fills}
use Rattle.loop_parts.specs.Stepping.{is_full_display, shown_count, moved_to, moves_of}
use Rattle.run.specs.Standing.{standing}
use Rattle.loop_parts.proofs.LoopLaws.{Turned, was_full, was_made, each_turn_of_loop}

module _ (edition : Edition) (s : Start) where
  pub single_halts : s.machine.devices.mcr < 0x8000 → ended_by Halted (begin s) ≡ run_by (step_by edition) s 1
  unfolding run_by begin is_halted
  single_halts off =
      sym (one_more_halts (step_by edition) Done s (begin s) refl (lt-ltb s.machine.devices.mcr 0x8000 off))

  module _ (on : 0x8000 ≤ s.machine.devices.mcr) (r : Stepped) (regs' memory' output' : List ℕ)
      (h : moved_to r regs' (s.machine.clock + 1) memory' output'
      ≡ moves_of edition s.times s.bytes s.machine s.memory s.output 0 0)
    where
      abbrev Turns : Type 0
      Turns = Turned (step_by edition) s (begin s) (moved_to r regs' (s.machine.clock + 1) memory' output')

      turned : Turns
      unfolding begin
      turned = rw h (each_turn_of_loop edition s (begin s) (omega arith))

      goes : is_halted (begin s) ≡ false
      unfolding begin is_halted
      goes = le-ltb s.machine.devices.mcr 0x8000 on

      pub single_makes : is_full_display r.display ≡ false
          → standing (whole regs' (s.machine.clock + 1) r.control) memory' output' 1 r.keys
          (shown_count r.display) Done
          ≡ run_by (step_by edition) s 1
      unfolding run_by begin
      single_makes made = go turned
        where
          go : Turns → standing (whole regs' (s.machine.clock + 1) r.control) memory' output' 1 r.keys
              (shown_count r.display) Done
              ≡ run_by (step_by edition) s 1
          go (was_full x y u) = absurd (true≢false (sym x ∙ made))
          go (was_made x y l q) =
              (rw (zero-add (shown_count r.display)) at q)
              ∙ sym (one_more_makes_a_step (step_by edition) Done s (begin s) refl goes y)

      pub single_fills : is_full_display r.display ≡ true
          → standing s.machine memory' output' 0 0 0 OutputFull ≡ run_by (step_by edition) s 1
      unfolding run_by begin ended_by
      single_fills full = go turned
        where
          go : Turns → standing s.machine memory' output' 0 0 0 OutputFull ≡ run_by (step_by edition) s 1
          go (was_made x y l q) = absurd (true≢false (sym full ∙ x))
          go (was_full x y u) =
              rw (u.memory, u.output) (sym (one_more_fills (step_by edition) Done s (begin s) refl goes y))
