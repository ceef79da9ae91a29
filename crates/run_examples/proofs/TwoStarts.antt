-- Two starts meet the premises of noninterference: by computing their steps; that their words x3000 to xFDFF are equal
-- is a law.
use Prim.Native.Nat.{ℕ, ◌+◌, ◌<◌, ◌≤◌}
use mathlib.Core.Path.{◌≡◌, refl, sym, ap, ◌∙◌}
use mathlib.Core.Bool.{false}
use native.Mathlib.Omega.{arith}
use native.Mathlib.Decide.{dec_le}
use mathlib.Core.List.{List}
use lib.ListN.{set, drop}
use lib.Seq.{drop-set-add, take-set-le}
use Rattle.machine.specs.Outcome.{trap, instruction, entered}
use Rattle.machine.specs.Visible.{user_words}
use Rattle.machine.specs.Causes.{takes_interrupt, meets_trap_or_exception}
use Rattle.machine.proofs.MemoryParts.{word_below_is_not_visible}
use Rattle.machine.proofs.Opened.{opened}
use Rattle.machine.specs.Step.{step_of}
use Rattle.run.specs.Run.{Start, begin, ended_by, arriving, next_step_by, next_step, with_shown, step_made_by}
use Rattle.run.specs.Run.{is_halted}
use Rattle.run.specs.Run.{shows_byte, is_full_by, one_more_by, run_by, run_of}
use Rattle.run.specs.Refusals.{wrong_size, undefined_timer, undefined_devices, undefined_record, too_many_steps}
use Rattle.run.specs.Refusals.{Accepted}
use Rattle.run.specs.Refusals.{unequal_lists, admission_of}
use Rattle.run.specs.Refusals.{entry_admission, first_refusal, times_admission}
use Rattle.run.specs.Call.{call_of}
use Rattle.run.specs.Noninterference.{cause_at, NoneBefore, NoInterrupt, Premises}
use Rattle.run_examples.specs.TwoStarts.{program, start₁, start₂, PremisesCanBeMet}
use Rattle.run.proofs.Acceptance.{accepted_with_fewer, call_steps_are_run_steps, call_makes_at_most}
use Rattle.run.proofs.Noninterference.{cause_in_run, none_before_fewer}

-- To unfold this is to unfold every definition of a run.
run_opened : Unit {0}
unfolding opened begin ended_by arriving next_step_by with_shown step_made_by is_halted shows_byte is_full_by
    one_more_by run_by
run_opened = tt

accepted₁ : admission_of start₁ 2 ≡ Accepted
unfolding opened admission_of wrong_size undefined_timer undefined_devices undefined_record too_many_steps unequal_lists
    times_admission
accepted₁ = refl

accepted₂ : admission_of start₂ 2 ≡ Accepted
unfolding opened admission_of wrong_size undefined_timer undefined_devices undefined_record too_many_steps unequal_lists
    entry_admission first_refusal
    times_admission
accepted₂ = refl

-- What is computed of each start: it is accepted with 2, step 0 obeys an instruction, and step 1 takes no interrupt.
record Computed (s : Start) : Type 0 where
  accepted : admission_of s 2 ≡ Accepted
  obeys : (next_step s (run_of s 0)).cause ≡ instruction
  takes_none : takes_interrupt (next_step s (run_of s 1)).cause ≡ false

computed₁ : Computed start₁
unfolding run_opened
computed₁ = record { accepted = accepted₁; obeys = refl; takes_none = refl }

computed₂ : Computed start₂
unfolding run_opened
computed₂ = record { accepted = accepted₂; obeys = refl; takes_none = refl }

step_0_obeys : (s : Start) → Computed s → cause_at s 0 ≡ instruction
step_0_obeys s c = cause_in_run s 2 0 c.accepted (omega arith) ∙ c.obeys

none_before_step_1 : (s : Start) → Computed s → NoneBefore s 1
none_before_step_1 s c = record {
  none = λ j l.
      let z : j ≡ 0 = omega arith in
      rw z (ap meets_trap_or_exception (step_0_obeys s c));
}

no_interrupt_below : (s : Start) → Computed s → (j : ℕ) → j < 2 → takes_interrupt (cause_at s j) ≡ false
no_interrupt_below s c j l = elim (dec_le j 0) [
  | yes h ↦ (let z : j ≡ 0 = omega arith in rw z (ap takes_interrupt (step_0_obeys s c)))
  | no h ↦ (let z : j ≡ 1 = omega arith in rw z
      (ap takes_interrupt (cause_in_run s 2 1 c.accepted (omega arith)) ∙ c.takes_none))
]

no_interrupt : (s : Start) (n : ℕ) → n ≤ 2 → Computed s → NoInterrupt s n
no_interrupt s n h c = record {
  never = λ j l b.
      no_interrupt_below s c j
      (omega (arith, l, call_makes_at_most step_of s n (accepted_with_fewer s 2 n h c.accepted)));
}

-- A word from xFE00 on is none of User mode's.
word_above_is_not_visible : (mem : List ℕ) (i v : ℕ) → user_words (set mem (0xFE00 + i) v) ≡ user_words mem
unfolding user_words
word_above_is_not_visible mem i v =
    let h : 0x3000 + (0xCE00 + i) ≡ 0xFE00 + i = omega arith in
    cc (drop-set-add 0x3000 mem (0xCE00 + i) v, take-set-le 0xCE00 (drop 0x3000 mem) (0xCE00 + i) v (omega arith))

premises : (n : ℕ) → n ≤ 2 → Premises start₁ start₂ n
unfolding opened
premises n h = record {
  accepted₁ = accepted_with_fewer start₁ 2 n h accepted₁;
  accepted₂ = accepted_with_fewer start₂ 2 n h accepted₂;
  user_mode_lem = refl;
  same_visible = record {
    regs = refl;
    pc = refl;
    psr = refl;
    mcr = refl;
    words =
        sym
        (word_above_is_not_visible (set program 0x0025 0x0400) 0x0010 0x1234
        ∙ word_below_is_not_visible program 0x0025 0x0400 (omega arith));
  };
  no_interrupt₁ = no_interrupt start₁ n h computed₁;
  no_interrupt₂ = no_interrupt start₂ n h computed₂;
}

two_steps_are_made : (run_of start₁ 2).steps ≡ 2
unfolding run_opened
two_steps_are_made = refl

step_1_is_the_trap : (next_step start₁ (run_of start₁ 1)).cause ≡ entered (trap 0x0025) 0x8001 0x3002
unfolding run_opened
step_1_is_the_trap = refl

pub premises_can_be_met : PremisesCanBeMet
premises_can_be_met = record {
  premises_for_one = premises 1 (omega arith);
  meets_none = none_before_fewer start₁ 1 (call_of start₁ 1).steps
      (call_makes_at_most step_of start₁ 1 (accepted_with_fewer start₁ 2 1 (omega arith) accepted₁))
      (none_before_step_1 start₁ computed₁);
  premises_for_two = premises 2 (omega arith);
  meets_trap = record {
    reason = trap 0x0025;
    made = omega (arith, two_steps_are_made, call_steps_are_run_steps step_of start₁ 2 accepted₁);
    enters = cause_in_run start₁ 2 1 accepted₁ (omega arith) ∙ step_1_is_the_trap;
    is_trap_or_exception_lem = refl;
    by_vector = refl;
    none_before = none_before_step_1 start₁ computed₁;
  };
}
