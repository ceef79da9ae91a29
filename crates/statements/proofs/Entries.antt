-- The cause of a step, by going through the definitions of a step once: only `entry` makes one.
use Rattle.machine.specs.declared.Interrupt.{Interrupt}
use Rattle.std.specs.Prelude.{Option, None, Some}
use Prim.Native.Nat.{ℕ}
use mathlib.Core.Path.{◌≡◌, refl}
use mathlib.Core.Bool.{Bool, true, false, cond}
use mathlib.Core.List.{List, [], ◌∷◌}
use lib.Dec.{eqb}
use lib.ListN.{get_or}
use Rattle.word.specs.Reading.{read_of}
use Rattle.machine.specs.declared.Machine.{Machine}
use Rattle.machine.specs.declared.Plan.{Plan}
use Rattle.machine.specs.declared.Plan.TheVariants.{Move, Put, Jump, Load, LoadBy, Store, StoreBy}
use Rattle.machine.specs.declared.Plan.TheVariants.{Call, Illegal, Return}
use Rattle.machine.specs.Edition.{Edition, third, second, linked, trapped}
use Rattle.machine.specs.Words.{next}
use Rattle.machine.specs.Psr.{in_user_mode, kept}
use Rattle.machine.specs.Outcome.{Reason, trap, privilege, illegal, access, interrupt, Cause, instruction, entered}
use Rattle.machine.specs.Outcome.{Outcome, with_reads, after_instruction}
use Rattle.machine.specs.Keys.{after_keys}
use Rattle.machine.specs.Timer.{after_timer}
use Rattle.machine.specs.Interrupts.{pending_interrupt}
use Rattle.machine.specs.Protection.{denied_by}
use Rattle.machine.specs.Entry.{stack_pointer_on_entry, after_entry, entry, raised, interrupted}
use Rattle.machine.specs.Devices.{KBSR, KBDR, DSR, DDR, TSR, TIR, PSR, is_device_by, lent_word_by, after_load}
use Rattle.machine.specs.Devices.{ddr_store}
use Rattle.machine.specs.Devices.{device_store, stored_by}
use Rattle.machine.specs.Access.{checked_by, load_to_by, store_at_by, by_pointer_by}
use Rattle.machine.specs.Return.{popped, return}
use Rattle.machine.specs.Plan.{plan_by}
use Rattle.machine.specs.Step.{perform_by, obeyed_by, interrupted_or_obeyed_by, after_tick, ended, after_start, step_by}
use Rattle.machine.proofs.Tests.{either_branch}
use Rattle.statements.specs.Entries.{EntryMade, CauseMeans, EntriesByCause}

-- The cause of an outcome means what it says, of an entry from this stack pointer and PSR.
abbrev MeansFrom : ℕ → ℕ → List ℕ → Outcome → Type 0
MeansFrom sp old mem o = CauseMeans sp old mem o o.cause

abbrev Means : Machine → List ℕ → Outcome → Type 0
Means m mem o = MeansFrom (stack_pointer_on_entry m) m.psr mem o

entry_means : (reason : Reason) (pc psr : ℕ) (m : Machine) (mem : List ℕ) → Means m mem (entry reason pc psr m mem)
unfolding CauseMeans entry after_entry
entry_means reason pc psr m mem = record { old_psr = refl; pushes = refl; by_vector = refl }

raised_means : (reason : Reason) (pc : ℕ) (m : Machine) (mem : List ℕ) → Means m mem (raised reason pc m mem)
unfolding raised
raised_means reason pc m mem = entry_means reason pc _ m mem

-- What a step does to an outcome at its end, or to what was read before, leaves its cause as it is.
ended_means : (sp old : ℕ) (mem : List ℕ) (o : Outcome) (c : Cause) → CauseMeans sp old mem o c
    → CauseMeans sp old mem (ended o) c
unfolding CauseMeans ended after_tick
ended_means sp old mem o instruction h = tt
ended_means sp old mem o (entered reason psr pc) h =
    record { old_psr = h.old_psr; pushes = h.pushes; by_vector = h.by_vector }

reads_means : (sp old : ℕ) (mem addresses : List ℕ) (o : Outcome) (c : Cause) → CauseMeans sp old mem o c
    → CauseMeans sp old mem (with_reads addresses o) c
unfolding CauseMeans with_reads
reads_means sp old mem addresses o instruction h = tt
reads_means sp old mem addresses o (entered reason psr pc) h =
    record { old_psr = h.old_psr; pushes = h.pushes; by_vector = h.by_vector }

-- A store, a return and TRAP, by what is tested.
device_store_means : (sp old : ℕ) (v a : ℕ) (m : Machine) (mem : List ℕ)
    → MeansFrom sp old mem (device_store v a m mem)
unfolding CauseMeans device_store ddr_store
device_store_means sp old v a m mem =
    either_branch (MeansFrom sp old mem) (eqb a KBSR) tt
    (either_branch (MeansFrom sp old mem) (eqb a KBDR) tt
    (either_branch (MeansFrom sp old mem) (eqb a DSR) tt
    (either_branch (MeansFrom sp old mem) (eqb a DDR) tt
    (either_branch (MeansFrom sp old mem) (eqb a TSR) tt
    (either_branch (MeansFrom sp old mem) (eqb a TIR) tt
    (either_branch (MeansFrom sp old mem) (eqb a PSR) tt tt))))))

return_means : (m : Machine) (mem : List ℕ) → Means m mem (return m mem)
unfolding CauseMeans return popped
return_means m mem =
    either_branch (Means m mem) (in_user_mode m.psr) (raised_means privilege m.pc m mem) tt

trapped_means : (e : Edition) (vector : ℕ) (m : Machine) (mem : List ℕ) → Means m mem (trapped e vector m mem)
unfolding CauseMeans linked
trapped_means third vector m mem = raised_means (trap vector) (next m.pc) m mem
trapped_means second vector m mem = tt

module _ (e : Edition) where
  checked_means : (a : ℕ) (m : Machine) (mem : List ℕ) (o : Outcome) → Means m mem o
      → Means m mem (checked_by e a m mem o)
  checked_means a m mem o h =
      either_branch (Means m mem) (denied_by e m.psr a) (raised_means access m.pc m mem) h

  stored_means : (sp old v a : ℕ) (m : Machine) (mem : List ℕ)
      → MeansFrom sp old mem (stored_by e v a m mem)
  unfolding CauseMeans stored_by
  stored_means sp old v a m mem =
      either_branch (MeansFrom sp old mem) (is_device_by e a)
      (device_store_means sp old v a m mem) tt

  load_to_means : (r a : ℕ) (m : Machine) (mem : List ℕ) → Means m mem (load_to_by e r a m mem)
  unfolding CauseMeans load_to_by
  load_to_means r a m mem = checked_means a m mem _ tt

  store_at_means : (v a : ℕ) (m : Machine) (mem : List ℕ) → Means m mem (store_at_by e v a m mem)
  unfolding store_at_by
  store_at_means v a m mem =
      checked_means a m mem _ (stored_means _ _ v a (after_instruction m.regs (next m.pc) kept m) mem)

  by_pointer_means : (a : ℕ) (data-access : ℕ → Machine → List ℕ → Outcome) (m : Machine) (mem : List ℕ)
      → ((b : ℕ) (n : Machine) → Means n mem (data-access b n mem))
      → Means m mem (by_pointer_by e a data-access m mem)
  unfolding by_pointer_by with_reads after_load stack_pointer_on_entry
  by_pointer_means a data-access m mem h =
      checked_means a m mem _ (reads_means _ _ mem (lent_word_by e a) _ _ (h _ (after_load a m)))

  plan_means : (p : Plan) (m : Machine) (mem : List ℕ) → Means m mem (perform_by e p m mem)
  unfolding CauseMeans perform_by
  plan_means (Move r v pc) m mem = tt
  plan_means (Put r v pc) m mem = tt
  plan_means (Jump pc) m mem = tt
  plan_means (Load r a) m mem = load_to_means r a m mem
  plan_means (LoadBy r a) m mem = by_pointer_means a (load_to_by e r) m mem (λ b n. load_to_means r b n mem)
  plan_means (Store v a) m mem = store_at_means v a m mem
  plan_means (StoreBy v a) m mem = by_pointer_means a (store_at_by e v) m mem (λ b n. store_at_means v b n mem)
  plan_means (Call vector) m mem = trapped_means e vector m mem
  plan_means Illegal m mem = raised_means illegal m.pc m mem
  plan_means Return m mem = return_means m mem

  obeyed_means : (m : Machine) (mem : List ℕ) → Means m mem (obeyed_by e m mem)
  unfolding obeyed_by with_reads
  obeyed_means m mem =
      checked_means m.pc m mem _
      (reads_means _ _ mem (m.pc ∷ []) _ _
      (plan_means (plan_by e m.regs m.pc m.psr (read_of (get_or mem m.pc 0))) m mem))

  taken_means : (p : Option Interrupt) (m : Machine) (mem : List ℕ) → Means m mem (interrupted_or_obeyed_by e p m mem)
  unfolding interrupted_or_obeyed_by interrupted
  taken_means None m mem = obeyed_means m mem
  taken_means (Some q) m mem = entry_means (interrupt q.vector) m.pc _ m mem

pub entries_by_cause : EntriesByCause
unfolding step_by ended after_keys after_timer stack_pointer_on_entry
entries_by_cause e keys m mem =
    ended_means _ _ mem _ _ (taken_means e (pending_interrupt (after_start keys m)) (after_start keys m) mem)
