-- The claim on one altered word is not an empty one: runs that meet the premises of each clause, and for each a value
-- of the word with which a claim of one step more, or without one premise, would be false.
use Rattle.std.specs.Prelude.{ℕ, ◌≡◌, true, false, List, [], ◌∷◌, get_or, set}
use Rattle.machine.specs.Record.{fresh_devices}
use Rattle.machine.specs.Step.{step_of}
use Rattle.run.specs.declared.Ending.TheVariants.{Done, OutputFull}
use Rattle.run.specs.Run.{Start}
use Rattle.run.specs.Refusals.{admission_of, Accepted}
use Rattle.run.specs.Call.{call_of}
use Rattle.run.specs.OneAlteredWord.{with_word, takes, replaces, NotTaken, NotTakenUpTo}
use Rattle.run_examples.specs.TwoStarts.{program, start₁}

-- Supervisor mode, PC x3000, where STI R0, #0 stands: its pointer, at x3001, is the address of DDR. No output is lent.
abbrev pub showing : Start
showing = record {
  machine = record {
    regs = 0 ∷ 0 ∷ 0 ∷ 0 ∷ 0 ∷ 0 ∷ 0x3000 ∷ 0 ∷ [];
    pc = 0x3000;
    psr = 0x0002;
    saved_ssp = 0x3000;
    saved_usp = 0;
    devices = fresh_devices;
    clock = 0;
  };
  memory = set (set program 0x3000 0xB000) 0x3001 0xFE06;
  times = [];
  bytes = [];
  output = [];
}

-- start₁ has ADD R0, R0, #1 at x3000 and TRAP x25 at x3001, in User mode; its stack of Supervisor mode ends at x3000.
pub record EachClauseCanBeMet : Type 0 where
  pub accepted : admission_of start₁ 2 ≡ Accepted
  -- "before the first": TRAP takes its vector from x0025 in step number 1. After it the runs differ.
  pub not_taken_in_step_0 : NotTakenUpTo step_of 0x0025 start₁ 2 1
  pub taken_in_step_1 : takes step_of 0x0025 start₁ 1 ≡ true
  pub vector_0 : (call_of start₁ 2).machine.pc ≡ 0x0000
  pub vector_x0400 : (call_of (with_word 0x0025 0x0400 start₁) 2).machine.pc ≡ 0x0400
  -- "Where no step does": none takes from x4000, nor replaces it, and the memories differ there.
  pub never_taken : NotTaken step_of 0x4000 start₁ (call_of start₁ 2).steps
  pub done : (call_of start₁ 2).ending ≡ Done
  pub word_stays : get_or (call_of start₁ 2).memory 0x4000 0 ≡ 0
  pub other_word_stays : get_or (call_of (with_word 0x4000 7 start₁) 2).memory 0x4000 0 ≡ 7
  -- "If a store or push replaces the word": TRAP pushes the PSR at x2FFF in step number 1. Before it the memories
  -- differ.
  pub not_taken_at_all : NotTakenUpTo step_of 0x2FFF start₁ 2 2
  pub replaced_in_step_1 : replaces step_of 0x2FFF start₁ 1 ≡ true
  pub not_yet_replaced : get_or (call_of (with_word 0x2FFF 7 start₁) 1).memory 0x2FFF 0 ≡ 7
  pub replaced : get_or (call_of (with_word 0x2FFF 7 start₁) 2).memory 0x2FFF 0 ≡ 0x8001
  -- "no step .. in either run": by one run alone the step before which a full output stops it counts too. STI takes its
  -- pointer from x3001; with another pointer there, the step is made.
  pub stopped : (call_of showing 1).ending ≡ OutputFull
  pub would_take : takes step_of 0x3001 showing 0 ≡ true
  pub not_stopped : (call_of (with_word 0x3001 0x4000 showing) 1).ending ≡ Done
