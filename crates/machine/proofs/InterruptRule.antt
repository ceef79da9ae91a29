-- A step takes an interrupt exactly when rule 2 applies to it: "ready and enable are both set and the priority is below
-- 4". "Otherwise the word at PC is fetched and obeyed." By the plans: what an instruction does is never the entry for
-- an interrupt, in either mode.
use Rattle.std.specs.Prelude.{None, Some}
use Prim.Native.Nat.{ℕ}
use mathlib.Core.Path.{◌≡◌, refl, ap, ◌∙◌}
use mathlib.Core.Bool.{Bool, true, false, cond, ◌||◌, not}
use mathlib.Core.List.{List}
use lib.Dec.{eqb}
use lib.ListN.{get_or}
use Rattle.word.specs.Reading.{read_of}
use Rattle.machine.specs.declared.Machine.{Machine}
use Rattle.machine.specs.declared.Plan.{Plan}
use Rattle.machine.specs.declared.Plan.TheVariants.{Move, Put, Jump, Load, LoadBy, Store, StoreBy, Call, Illegal}
use Rattle.machine.specs.declared.Plan.TheVariants.{Return}
use Rattle.machine.specs.Edition.{Edition, third, second, linked, trapped}
use Rattle.machine.specs.Words.{next}
use Rattle.machine.specs.Psr.{in_user_mode, kept}
use Rattle.machine.specs.Outcome.{Reason, trap, privilege, illegal, access, Outcome, plain_outcome, with_reads}
use Rattle.machine.specs.Outcome.{after_instruction}
use Rattle.machine.specs.declared.Interrupt.{Interrupt}
use Rattle.machine.specs.Interrupts.{timer_interrupt, keyboard_interrupt}
use Rattle.machine.specs.Interrupts.{timer_may_interrupt, keyboard_may_interrupt, pending_interrupt}
use Rattle.machine.specs.Protection.{denied_by}
use Rattle.machine.specs.Entry.{entry, raised, interrupted}
use Rattle.machine.specs.Devices.{KBSR, KBDR, DSR, DDR, TSR, TIR, PSR, is_device_by, ddr_store, device_store}
use Rattle.machine.specs.Devices.{stored_by}
use Rattle.machine.specs.Access.{checked_by, load_to_by, store_at_by, by_pointer_by}
use Rattle.machine.specs.Return.{popped, return}
use Rattle.machine.specs.Plan.{plan_by}
use Rattle.machine.specs.Step.{perform_by, obeyed_by, obeyed, interrupted_or_obeyed_by, interrupted_or_obeyed}
use Rattle.machine.specs.Step.{ended, after_start, step_by, step_of}
use Rattle.machine.specs.Causes.{is_trap_or_exception, takes_interrupt}
use Rattle.machine.proofs.Tests.{either_branch}
use Rattle.machine.proofs.TwoSteps.{no_interrupt_is_obeyed}

abbrev NoInterruptTaken : Outcome → Type 0
NoInterruptTaken o = takes_interrupt o.cause ≡ false

trap_or_exception_is_no_interrupt : (reason : Reason) (pc : ℕ) (m : Machine) (mem : List ℕ)
    → is_trap_or_exception reason
    ≡ true
    → NoInterruptTaken (raised reason pc m mem)
unfolding raised entry
trap_or_exception_is_no_interrupt reason pc m mem t = ap not t

device_store_is_no_interrupt : (v a : ℕ) (m : Machine) (mem : List ℕ) → NoInterruptTaken (device_store v a m mem)
unfolding device_store ddr_store
device_store_is_no_interrupt v a m mem =
    either_branch NoInterruptTaken (eqb a KBSR) refl
    (either_branch NoInterruptTaken (eqb a KBDR) refl
    (either_branch NoInterruptTaken (eqb a DSR) refl
    (either_branch NoInterruptTaken (eqb a DDR) refl
    (either_branch NoInterruptTaken (eqb a TSR) refl
    (either_branch NoInterruptTaken (eqb a TIR) refl
    (either_branch NoInterruptTaken (eqb a PSR) refl refl))))))

return_is_no_interrupt : (m : Machine) (mem : List ℕ) → NoInterruptTaken (return m mem)
unfolding return popped
return_is_no_interrupt m mem =
    either_branch NoInterruptTaken (in_user_mode m.psr)
    (trap_or_exception_is_no_interrupt privilege m.pc m mem refl) refl

trapped_is_no_interrupt : (e : Edition) (vector : ℕ) (m : Machine) (mem : List ℕ)
    → NoInterruptTaken (trapped e vector m mem)
unfolding linked
trapped_is_no_interrupt third vector m mem =
    trap_or_exception_is_no_interrupt (trap vector) (next m.pc) m mem refl
trapped_is_no_interrupt second vector m mem = refl

-- By either edition.
module _ (e : Edition) where
  checked_is_no_interrupt : (a : ℕ) (m : Machine) (mem : List ℕ) (o : Outcome) → NoInterruptTaken o
      → NoInterruptTaken (checked_by e a m mem o)
  checked_is_no_interrupt a m mem o h =
      either_branch NoInterruptTaken (denied_by e m.psr a)
      (trap_or_exception_is_no_interrupt access m.pc m mem refl) h

  store_is_no_interrupt : (v a : ℕ) (m : Machine) (mem : List ℕ) → NoInterruptTaken (stored_by e v a m mem)
  unfolding stored_by
  store_is_no_interrupt v a m mem =
      either_branch NoInterruptTaken (is_device_by e a) (device_store_is_no_interrupt v a m mem) refl

  load_to_is_no_interrupt : (r a : ℕ) (m : Machine) (mem : List ℕ) → NoInterruptTaken (load_to_by e r a m mem)
  unfolding load_to_by
  load_to_is_no_interrupt r a m mem = checked_is_no_interrupt a m mem _ refl

  store_at_is_no_interrupt : (v a : ℕ) (m : Machine) (mem : List ℕ) → NoInterruptTaken (store_at_by e v a m mem)
  unfolding store_at_by
  store_at_is_no_interrupt v a m mem =
      checked_is_no_interrupt a m mem _
      (store_is_no_interrupt v a (after_instruction m.regs (next m.pc) kept m) mem)

  by_pointer_is_no_interrupt : (a : ℕ) (data-access : ℕ → Machine → List ℕ → Outcome) (m : Machine) (mem : List ℕ)
      → ((b : ℕ) (n : Machine) → NoInterruptTaken (data-access b n mem))
      → NoInterruptTaken (by_pointer_by e a data-access m mem)
  unfolding by_pointer_by with_reads
  by_pointer_is_no_interrupt a data-access m mem h = checked_is_no_interrupt a m mem _ (h _ _)

  plan_is_no_interrupt : (p : Plan) (m : Machine) (mem : List ℕ) → NoInterruptTaken (perform_by e p m mem)
  unfolding perform_by
  plan_is_no_interrupt (Move r v pc) m mem = refl
  plan_is_no_interrupt (Put r v pc) m mem = refl
  plan_is_no_interrupt (Jump pc) m mem = refl
  plan_is_no_interrupt (Load r a) m mem = load_to_is_no_interrupt r a m mem
  plan_is_no_interrupt (LoadBy r a) m mem = by_pointer_is_no_interrupt a (load_to_by e r) m mem
      (λ b n. load_to_is_no_interrupt r b n mem)
  plan_is_no_interrupt (Store v a) m mem = store_at_is_no_interrupt v a m mem
  plan_is_no_interrupt (StoreBy v a) m mem = by_pointer_is_no_interrupt a (store_at_by e v) m mem
      (λ b n. store_at_is_no_interrupt v b n mem)
  plan_is_no_interrupt (Call vector) m mem = trapped_is_no_interrupt e vector m mem
  plan_is_no_interrupt Illegal m mem = trap_or_exception_is_no_interrupt illegal m.pc m mem refl
  plan_is_no_interrupt Return m mem = return_is_no_interrupt m mem

  pub instruction_is_no_interrupt : (m : Machine) (mem : List ℕ) → NoInterruptTaken (obeyed_by e m mem)
  unfolding obeyed_by with_reads
  instruction_is_no_interrupt m mem =
      checked_is_no_interrupt m.pc m mem _
      (plan_is_no_interrupt (plan_by e m.regs m.pc m.psr (read_of (get_or mem m.pc 0))) m mem)

pending_is_taken : (q : Interrupt) (m : Machine) (mem : List ℕ)
    → takes_interrupt (interrupted_or_obeyed (Some q) m mem).cause ≡ true
unfolding interrupted_or_obeyed_by interrupted entry
pending_is_taken q m mem = refl

none_pending_is_none_taken : (m : Machine) (mem : List ℕ) → takes_interrupt (interrupted_or_obeyed None m mem).cause
    ≡ false
unfolding interrupted_or_obeyed_by
none_pending_is_none_taken m mem = instruction_is_no_interrupt third m mem

-- A device may interrupt at the start of the step: the timer, or the keyboard.
abbrev pub interrupt_is_due : List ℕ → Machine → Bool
interrupt_is_due keys m = timer_may_interrupt (after_start keys m) || keyboard_may_interrupt (after_start keys m)

pub interrupt_is_taken_by_rule_2 : (keys : List ℕ) (m : Machine) (mem : List ℕ)
    → takes_interrupt (step_of keys m mem).cause ≡ interrupt_is_due keys m
unfolding step_by ended pending_interrupt
interrupt_is_taken_by_rule_2 keys m mem =
    go (timer_may_interrupt (after_start keys m)) (keyboard_may_interrupt (after_start keys m))
  where
    go : (timer keyboard : Bool)
        → takes_interrupt (interrupted_or_obeyed (cond timer (Some timer_interrupt)
        (cond keyboard (Some keyboard_interrupt) None)) (after_start keys m) mem).cause
        ≡ (timer || keyboard)
    go true keyboard = pending_is_taken timer_interrupt (after_start keys m) mem
    go false true = pending_is_taken keyboard_interrupt (after_start keys m) mem
    go false false = none_pending_is_none_taken (after_start keys m) mem

pub otherwise_the_word_is_obeyed : (keys : List ℕ) (m : Machine) (mem : List ℕ) → interrupt_is_due keys m ≡ false
    → step_of keys m mem ≡ ended (obeyed (after_start keys m) mem)
unfolding step_by ended
otherwise_the_word_is_obeyed keys m mem e =
    let n : Machine = after_start keys m in
    ap ended (no_interrupt_is_obeyed (pending_interrupt n) n mem (interrupt_is_taken_by_rule_2 keys m mem ∙ e))
