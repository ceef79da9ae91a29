-- What a log tells of a step: by the rules, and by the definition of the step.
use Rattle.machine.specs.declared.Interrupt.{Interrupt}
use Rattle.std.specs.Prelude.{Option, None, Some}
use Prim.Native.Nat.{ℕ}
use mathlib.Core.Path.{◌≡◌, refl, sym, ap, ◌∙◌}
use mathlib.Core.Bool.{Bool, true, false, cond, ◌&&◌, true≢false}
use mathlib.Core.List.{List, [], ◌∷◌}
use lib.Dec.{eqb, leb, ltb}
use lib.ListN.{get_or}
use Rattle.word.specs.Reading.{read_of}
use Rattle.machine.specs.declared.Machine.{Machine}
use Rattle.machine.specs.declared.Rule.{Rule}
use Rattle.machine.specs.declared.Rule.TheVariants.{Keyboard, Timer}
use Rattle.machine.specs.Edition.{Edition, third}
use Rattle.machine.specs.Psr.{in_user_mode}
use Rattle.machine.specs.Outcome.{trap, privilege, illegal, access, interrupt, Cause, instruction, entered}
use Rattle.machine.specs.Outcome.{Outcome, with_reads}
use Rattle.machine.specs.Keys.{after_keys}
use Rattle.machine.specs.Timer.{after_timer}
use Rattle.machine.specs.Interrupts.{timer_vector, pending_interrupt}
use Rattle.machine.specs.Protection.{denied_by, denied}
use Rattle.machine.specs.Entry.{entry, raised, interrupted}
use Rattle.machine.specs.Plan.{plan_of}
use Rattle.machine.specs.Step.{perform, obeyed_by, obeyed, interrupted_or_obeyed_by, interrupted_or_obeyed}
use Rattle.machine.specs.Step.{ended, after_start, step_by, step_of}
use Rattle.machine.specs.Visible.{SameVisible, Hidden}
use Rattle.machine.specs.Causes.{takes_interrupt}
use Rattle.machine.specs.TwoSteps.{SameOutcome, both_obey, both_enter}
use Rattle.machine.specs.Rules.{interrupt_rule, rule_of, rule_number, is_interrupt, fetched_word_by}
use Rattle.machine.specs.Rules.{fetched_word, ReasonTells, WordIsFetched, LogTells}
use Rattle.machine.proofs.Tests.{same_test_same_branch}
use Rattle.machine.proofs.TwoAccesses.{allowed_in_user_mode, user_words_agree}
use Rattle.machine.proofs.TwoSteps.{no_interrupt_is_obeyed}
use Rattle.machine.proofs.InterruptRule.{instruction_is_no_interrupt}

-- ---- the reason

-- What holds of both devices' rules holds of an interrupt's.
by_device : (P : Rule → Type 0) (vector : ℕ) → P Timer → P Keyboard → P (interrupt_rule vector)
by_device P vector timer keyboard = go (eqb vector timer_vector)
  where
    go : (t : Bool) → P (cond t Timer Keyboard)
    go true = timer
    go false = keyboard

reason_tells : (c : Cause) → ReasonTells c
reason_tells instruction = record { trap_or_exception = refl; an_interrupt = refl }
reason_tells (entered (trap vector) psr pc) = record { trap_or_exception = refl; an_interrupt = refl }
reason_tells (entered privilege psr pc) = record { trap_or_exception = refl; an_interrupt = refl }
reason_tells (entered illegal psr pc) = record { trap_or_exception = refl; an_interrupt = refl }
reason_tells (entered access psr pc) = record { trap_or_exception = refl; an_interrupt = refl }
reason_tells (entered (interrupt vector) psr pc) = record {
  trap_or_exception =
      by_device (λ (rule : Rule). false ≡ (leb 1 (rule_number rule) && ltb (rule_number rule) 5)) vector refl refl;
  an_interrupt = by_device (λ (rule : Rule). true ≡ leb 5 (rule_number rule)) vector refl refl;
}

-- A step is logged as an interrupt where it takes one.
pub interrupt_by_rule : (c : Cause) → is_interrupt (rule_of c) ≡ takes_interrupt c
interrupt_by_rule instruction = refl
interrupt_by_rule (entered (trap vector) psr pc) = refl
interrupt_by_rule (entered privilege psr pc) = refl
interrupt_by_rule (entered illegal psr pc) = refl
interrupt_by_rule (entered access psr pc) = refl
interrupt_by_rule (entered (interrupt vector) psr pc) =
    by_device (λ (rule : Rule). is_interrupt rule ≡ true) vector refl refl

-- ---- the word

-- An instruction is logged with the word at PC, unless its fetch is denied.
pub word_of_instruction : (e : Edition) (m : Machine) (mem : List ℕ)
    → fetched_word_by e (rule_of (obeyed_by e m mem).cause) m mem
    ≡ cond (denied_by e m.psr m.pc) 0 (get_or mem m.pc 0)
unfolding fetched_word_by
word_of_instruction e m mem =
    rw (interrupt_by_rule (obeyed_by e m mem).cause, instruction_is_no_interrupt e m mem) refl

-- An interrupt is logged with no word.
pub word_of_interrupt : (e : Edition) (vector : ℕ) (m : Machine) (mem : List ℕ)
    → fetched_word_by e (interrupt_rule vector) m mem ≡ 0
unfolding fetched_word_by
word_of_interrupt e vector m mem = by_device (λ (rule : Rule). fetched_word_by e rule m mem ≡ 0) vector refl refl

obeyed_reads : (m : Machine) (mem : List ℕ) → denied m.psr m.pc ≡ false
    → (obeyed m mem).reads
    ≡ m.pc ∷ (perform (plan_of m.regs m.pc m.psr (read_of (get_or mem m.pc 0))) m mem).reads
unfolding obeyed_by with_reads
obeyed_reads m mem d = rw d refl

denied_reads : (m : Machine) (mem : List ℕ) → denied m.psr m.pc ≡ true → (obeyed m mem).reads ≡ 0x0102 ∷ []
unfolding obeyed_by raised entry
denied_reads m mem d = rw d refl

step_obeys : (keys : List ℕ) (m : Machine) (mem : List ℕ) → takes_interrupt (step_of keys m mem).cause ≡ false
    → (step_of keys m mem).reads ≡ (obeyed (after_start keys m) mem).reads
unfolding step_by ended
step_obeys keys m mem i =
    ap (λ (o : Outcome). o.reads)
    (no_interrupt_is_obeyed (pending_interrupt (after_start keys m)) (after_start keys m) mem i)

interrupt_reads : (p : Option Interrupt) (m : Machine) (mem : List ℕ)
    → takes_interrupt (interrupted_or_obeyed p m mem).cause ≡ true
    → (vector : ℕ) × ((interrupted_or_obeyed p m mem).reads ≡ vector ∷ [])
unfolding interrupted_or_obeyed_by interrupted entry
interrupt_reads None m mem i = absurd (true≢false (sym i ∙ instruction_is_no_interrupt third m mem))
interrupt_reads (Some q) m mem i = (q.vector, refl)

word_is_fetched : (keys : List ℕ) (m : Machine) (mem : List ℕ) → WordIsFetched keys m mem
unfolding step_by ended after_keys after_timer
word_is_fetched keys m mem = record {
  fetched = λ i d. (_, step_obeys keys m mem i ∙ obeyed_reads (after_start keys m) mem d);
  none_where_denied = λ i d. step_obeys keys m mem i ∙ denied_reads (after_start keys m) mem d;
  none_at_interrupt = interrupt_reads (pending_interrupt (after_start keys m)) (after_start keys m) mem;
}

pub log_tells : LogTells
log_tells = record { by_reason = reason_tells; by_word = word_is_fetched }

-- ---- two steps side by side, in User mode

pub same_outcome_same_rule : (h₁ h₂ : Hidden) (o₁ o₂ : Outcome) → SameOutcome h₁ h₂ o₁ o₂
    → rule_of o₁.cause ≡ rule_of o₂.cause
same_outcome_same_rule h₁ h₂ o₁ o₂ (both_obey g c₁ c₂) = ap rule_of (c₁.obeys ∙ sym c₂.obeys)
same_outcome_same_rule h₁ h₂ o₁ o₂ (both_enter r x y t e₁ e₂ z₁ z₂) = ap rule_of (e₁ ∙ sym e₂)

pub two_fetches_agree : (m₁ m₂ : Machine) (mem₁ mem₂ : List ℕ) → SameVisible m₁ m₂ mem₁ mem₂
    → in_user_mode m₁.psr ≡ true → (rule : Rule) → fetched_word rule m₁ mem₁ ≡ fetched_word rule m₂ mem₂
unfolding fetched_word_by
two_fetches_agree m₁ m₂ mem₁ mem₂ g u rule =
    same_test_same_branch (◌≡◌ {A = ℕ}) (is_interrupt rule) (is_interrupt rule) refl (λ e. refl)
    (λ e.
    same_test_same_branch (◌≡◌ {A = ℕ}) (denied m₁.psr m₁.pc) (denied m₂.psr m₂.pc) (cc (g.psr, g.pc))
    (λ d. refl)
    (λ d. user_words_agree m₁ m₂ mem₁ mem₂ g u m₁.pc m₂.pc g.pc
    (allowed_in_user_mode m₁.psr m₁.pc u d)))
