-- Nothing is left out of what is told: no step reads more than three words (crate `footprint`), and none writes more
-- than two, by the definitions of its parts.
use Rattle.machine.specs.declared.Interrupt.{Interrupt}
use Rattle.std.specs.Prelude.{Option, None, Some}
use Prim.Native.Nat.{ℕ, ◌≤◌}
use native.Mathlib.Omega.{arith}
use mathlib.Core.Path.{◌≡◌, refl}
use mathlib.Core.List.{List, [], ◌∷◌}
use lib.Dec.{eqb}
use lib.ListN.{length}
use Rattle.machine.specs.declared.Machine.{Machine}
use Rattle.machine.specs.declared.Plan.{Plan}
use Rattle.machine.specs.declared.Plan.TheVariants.{Move, Put, Jump, Load, LoadBy, Store, StoreBy, Call, Illegal}
use Rattle.machine.specs.declared.Plan.TheVariants.{Return}
use Rattle.machine.specs.Edition.{Edition, third, second, linked, trapped}
use Rattle.machine.specs.Psr.{in_user_mode}
use Rattle.machine.specs.Outcome.{Reason, trap, privilege, illegal, access, Outcome, with_reads}
use Rattle.machine.specs.Interrupts.{pending_interrupt}
use Rattle.machine.specs.Protection.{denied_by}
use Rattle.machine.specs.Entry.{entry, raised, interrupted}
use Rattle.machine.specs.Devices.{KBSR, KBDR, DSR, DDR, TSR, TIR, PSR, is_device_by, ddr_store, device_store, stored_by}
use Rattle.machine.specs.Access.{checked_by, load_to_by, store_at_by, by_pointer_by}
use Rattle.machine.specs.Return.{popped, return}
use Rattle.machine.specs.Step.{perform_by, obeyed_by, interrupted_or_obeyed_by, after_start, ended, step_by}
use Rattle.machine.proofs.Tests.{either_branch}
use Rattle.footprint.proofs.FootprintLaws.{step_reads_at_most_three}
use Rattle.run.specs.Run.{begin}
use Rattle.logging.specs.Log.{next_rule_by, entry_by}
use Rattle.telling.specs.Told.{addresses_of}
use Rattle.telling.specs.Whole.{words_in, StepsToldWhole, ToldAsLogged}

three_are_told : (l : List ℕ) → length l ≤ 3 → words_in (addresses_of l) ≡ l
three_are_told [] few = refl
three_are_told (a ∷ []) few = refl
three_are_told (a ∷ b ∷ []) few = refl
three_are_told (a ∷ b ∷ c ∷ []) few = refl
three_are_told (a ∷ b ∷ c ∷ d ∷ l) few = absurd (omega (arith, few))

-- All words written are told.
abbrev Few : Outcome → Type 0
Few o = words_in (addresses_of o.writes) ≡ o.writes

module _ (e : Edition) (mem : List ℕ) where
  raised_writes : (reason : Reason) (pc : ℕ) (m : Machine) → Few (raised reason pc m mem)
  unfolding raised entry
  raised_writes reason pc m = refl

  checked_writes : (a : ℕ) (m : Machine) (o : Outcome) → Few o → Few (checked_by e a m mem o)
  checked_writes a m o few = either_branch Few (denied_by e m.psr a) (raised_writes access m.pc m) few

  device_writes : (v a : ℕ) (m : Machine) → Few (device_store v a m mem)
  unfolding device_store ddr_store
  device_writes v a m =
      either_branch Few (eqb a KBSR) refl
      (either_branch Few (eqb a KBDR) refl
      (either_branch Few (eqb a DSR) refl
      (either_branch Few (eqb a DDR) refl
      (either_branch Few (eqb a TSR) refl
      (either_branch Few (eqb a TIR) refl
      (either_branch Few (eqb a PSR) refl refl))))))

  store_writes : (v a : ℕ) (m : Machine) → Few (store_at_by e v a m mem)
  unfolding store_at_by stored_by
  store_writes v a m = checked_writes a m _ (either_branch Few (is_device_by e a) (device_writes v a _) refl)

  load_writes : (r a : ℕ) (m : Machine) → Few (load_to_by e r a m mem)
  unfolding load_to_by
  load_writes r a m = checked_writes a m _ refl

  pointer_writes : (a : ℕ) (data-access : ℕ → Machine → List ℕ → Outcome) (m : Machine)
      → ((b : ℕ) (n : Machine) → Few (data-access b n mem)) → Few (by_pointer_by e a data-access m mem)
  unfolding by_pointer_by with_reads
  pointer_writes a data-access m few = checked_writes a m _ (few _ _)

  return_writes : (m : Machine) → Few (return m mem)
  unfolding return popped
  return_writes m = either_branch Few (in_user_mode m.psr) (raised_writes privilege m.pc m) refl

  trapped_writes : (edition : Edition) (vector : ℕ) (m : Machine) → Few (trapped edition vector m mem)
  unfolding linked
  trapped_writes third vector m = raised_writes (trap vector) _ m
  trapped_writes second vector m = refl

  plan_writes : (p : Plan) (m : Machine) → Few (perform_by e p m mem)
  unfolding perform_by
  plan_writes (Move r v pc) m = refl
  plan_writes (Put r v pc) m = refl
  plan_writes (Jump pc) m = refl
  plan_writes (Load r a) m = load_writes r a m
  plan_writes (LoadBy r a) m = pointer_writes a (load_to_by e r) m (load_writes r)
  plan_writes (Store v a) m = store_writes v a m
  plan_writes (StoreBy v a) m = pointer_writes a (store_at_by e v) m (store_writes v)
  plan_writes (Call vector) m = trapped_writes e vector m
  plan_writes Illegal m = raised_writes illegal m.pc m
  plan_writes Return m = return_writes m

  either_writes : (p : Option Interrupt) (m : Machine) → Few (interrupted_or_obeyed_by e p m mem)
  unfolding interrupted_or_obeyed_by interrupted entry obeyed_by with_reads
  either_writes None m = checked_writes m.pc m _ (plan_writes _ m)
  either_writes (Some q) m = refl

  step_writes : (keys : List ℕ) (m : Machine) → Few (step_by e keys m mem)
  unfolding step_by ended
  step_writes keys m = either_writes (pending_interrupt (after_start keys m)) (after_start keys m)

pub steps_told_whole : StepsToldWhole
steps_told_whole e keys m mem = record {
  reads = three_are_told _ (step_reads_at_most_three e keys m mem);
  writes = step_writes e mem keys m;
}

pub told_as_logged : ToldAsLogged
unfolding entry_by next_rule_by begin
told_as_logged e s = refl
