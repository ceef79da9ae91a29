-- What demand 3 rests on, beside the theorem itself (`Noninterference` in crates/run).
use Rattle.std.specs.Prelude.{ℕ, ◌≤◌, ◌<◌, ◌%◌, ◌≡◌, true, ◌||◌, ◌⊎◌, List, ◌++◌}
use Rattle.machine.specs.declared.Machine.{Machine}
use Rattle.machine.specs.Psr.{in_user_mode, priority_of}
use Rattle.machine.specs.Interrupts.{timer_may_interrupt, keyboard_may_interrupt}
use Rattle.machine.specs.Step.{after_start, step_of}
use Rattle.machine.specs.Visible.{words_below, user_words, words_above}
use Rattle.machine.specs.Causes.{takes_interrupt}
use Rattle.run.specs.Run.{Start}
use Rattle.run.specs.Refusals.{admission_of, Accepted}
use Rattle.run.specs.Call.{call_of}
use Rattle.run.specs.Noninterference.{First, MeetsNone, NoInterrupt}

-- "A step takes an interrupt when rule 2 of the step applies to it": a device is ready and enabled, and the priority
-- is below its own, once keys have arrived and the count of the timer has fallen.
abbrev pub InterruptIsRule2 : Type 0
InterruptIsRule2 = (keys : List ℕ) (m : Machine) (mem : List ℕ)
    → takes_interrupt (step_of keys m mem).cause
    ≡ (timer_may_interrupt (after_start keys m) || keyboard_may_interrupt (after_start keys m))

-- "For k up to the steps made, the state after k steps is the record that the same call with k in place of n answers
-- and the memory that it leaves": that call makes all its k steps.
abbrev pub FewerStepsAreMade : Type 0
FewerStepsAreMade = (s : Start) (n k : ℕ) → admission_of s n ≡ Accepted → k ≤ (call_of s n).steps
    → (call_of s k).steps ≡ k

-- The words below x3000, those of User mode and those from xFE00 on are all of memory.
abbrev pub ThreePartsAreAll : Type 0
ThreePartsAreAll = (mem : List ℕ) → words_below mem ++ (user_words mem ++ words_above mem) ≡ mem

-- Each run falls under one of the two cases: it meets no trap or exception, or it meets a first.
abbrev pub NoneOrFirst : Type 0
NoneOrFirst = (s : Start) (n : ℕ)
    → MeetsNone s n ⊎ ((k : ℕ) × (vector : ℕ) × (psr : ℕ) × (pc : ℕ) × First s n k vector psr pc)

-- ---- when a run takes no interrupt

-- A status register of 16 bits whose enable, bit 14, is clear.
pub record Disabled (status : ℕ) : Type 0 where
  pub is_word : status < 0x10000
  pub enable_clear : status % 0x8000 < 0x4000

pub record NoneEnabled (m : Machine) : Type 0 where
  pub keyboard : Disabled m.devices.kbsr
  pub timer : Disabled m.devices.timer_status

-- A run that begins in User mode takes no interrupt before its first trap or exception, for every n, whatever keys
-- arrive, if no device is enabled or if the priority is 6 or more. User mode can alter neither.
pub record NoInterruptFor (s : Start) : Type 0 where
  pub none_enabled : in_user_mode s.machine.psr ≡ true → NoneEnabled s.machine → (n : ℕ)
      → admission_of s n ≡ Accepted → NoInterrupt s n
  pub high_priority : in_user_mode s.machine.psr ≡ true → 6 ≤ priority_of s.machine.psr → (n : ℕ)
      → admission_of s n ≡ Accepted → NoInterrupt s n

-- And so it stays: where such a call meets no trap or exception, what it leaves is as its start was in this. So the
-- next call takes no interrupt either (see Continued.antt).
pub record StaysSo (s : Start) : Type 0 where
  pub none_enabled : in_user_mode s.machine.psr ≡ true → NoneEnabled s.machine → (n : ℕ)
      → admission_of s n ≡ Accepted → MeetsNone s n
      → (in_user_mode (call_of s n).machine.psr ≡ true) × NoneEnabled (call_of s n).machine
  pub high_priority : in_user_mode s.machine.psr ≡ true → 6 ≤ priority_of s.machine.psr → (n : ℕ)
      → admission_of s n ≡ Accepted → MeetsNone s n
      → (in_user_mode (call_of s n).machine.psr ≡ true) × (6 ≤ priority_of (call_of s n).machine.psr)

pub record Demand3Rests : Type 0 where
  pub interrupt_is_rule_2 : InterruptIsRule2
  pub fewer_steps_are_made : FewerStepsAreMade
  pub three_parts_are_all : ThreePartsAreAll
  pub none_or_first : NoneOrFirst
  pub no_interrupt : (s : Start) → NoInterruptFor s
  pub stays_so : (s : Start) → StaysSo s
