-- BACK at any step of a call: the call is split there, and the rest begins with the interrupt.
use Prim.Native.Nat.{ℕ, ◌+◌, ◌-◌, ◌≤◌, ◌<◌}
use native.Mathlib.Omega.{arith}
use mathlib.Core.Path.{◌≡◌, sym, ap, ap₂, ◌∙◌}
use mathlib.Core.Bool.{true}
use mathlib.Core.List.{List}
use lib.ListN.{take, drop, take-append-drop}
use lib.Seq.{drop-drop}
use Rattle.machine.specs.Edition.{third}
use Rattle.machine.specs.Keys.{keys_due}
use Rattle.machine.specs.Causes.{takes_interrupt}
use Rattle.machine.specs.Step.{step_of}
use Rattle.run.specs.declared.Ending.TheVariants.{Done}
use Rattle.run.specs.Run.{Start, End, arriving, next_step_by, next_step, run_of}
use Rattle.run.specs.Refusals.{admission_of, Accepted}
use Rattle.run.specs.Call.{call_of}
use Rattle.run.specs.Continuing.{remaining, joined, Splits}
use Rattle.run.specs.Noninterference.{cause_at}
use Rattle.run.proofs.RunLaws.{done_steps_are_made}
use Rattle.run.proofs.Acceptance.{accepted_with_fewer, call_is_run}
use Rattle.run.proofs.Continuing.{run_splits}
use Rattle.monitor.specs.Back.{Interrupted, CameBack, BackReturns}
use Rattle.monitor.proofs.Back.{FirstInterrupted, first_returns, first_again}

module _ (s : Start) (n k : ℕ) (c : Interrupted s n k (call_of s k)) where
  abbrev e : End
  e = call_of s k

  abbrev rest : Start
  rest = remaining s e

  splits : (j : ℕ) → k + j ≤ n → Splits step_of s k j e
  splits j le = run_splits third s k j c.bytes (accepted_with_fewer s n (k + j) le c.accepted)

  continued : (j : ℕ) → k + j ≤ n → call_of s (k + j) ≡ joined e (call_of rest j)
  continued j le = (splits j le).continued c.done

  accepted : admission_of rest 2 ≡ Accepted
  accepted = (splits 2 c.steps).second_accepted

  -- The same keys arrive in the rest, so its steps are the call's.
  same_keys : (f : End) → arriving s (joined e f) ≡ arriving rest f
  unfolding arriving
  same_keys f =
      ap₂ (λ (times bytes : List ℕ). keys_due f.machine.clock times bytes)
      (sym (drop-drop f.keys e.keys s.times)) (sym (drop-drop f.keys e.keys s.bytes))

  same_cause : (j : ℕ) → k + j ≤ n → cause_at s (k + j) ≡ cause_at rest j
  unfolding cause_at next_step_by
  same_cause j le =
      let f : End = call_of rest j in
      ap (λ (x : End). (next_step s x).cause) (continued j le)
      ∙ ap (λ (keys : List ℕ). (step_of keys f.machine f.memory).cause) (same_keys f)

  first : FirstInterrupted rest 2
  first = record {
    accepted = accepted;
    steps = omega arith;
    registers = c.registers;
    intact = c.intact;
    mcr = c.mcr;
    above_monitor = c.above_monitor;
    below_devices = c.below_devices;
    interrupt = (
        let z : k + 0 ≡ k = omega arith in
        rw (← (same_cause 0 (omega (arith, c.steps))), z) c.interrupt
        );
    no_other = rw (← (same_cause 1 (omega (arith, c.steps)))) c.no_other;
  }

  between : (i j : ℕ) (l : List ℕ) → take (i + j - i) l ≡ take j l
  between i j l = let z : i + j - i ≡ j = omega arith in rw z

  came_back : CameBack s e (call_of s (k + 2))
  came_back =
      let b = first_returns rest 2 first in
      let q = continued 2 c.steps in
      let keys = between e.keys (call_of rest 2).keys (drop e.keys s.bytes) in
      record {
        ending = rw q b.ending;
        steps = rw q (rw b.steps);
        shown = rw q (rw b.shown (let z : e.shown + 0 ≡ e.shown = omega arith in z));
        output = rw q (rw b.output (take-append-drop e.shown e.output));
        registers = rw q b.registers;
        psr = rw q b.psr;
        pc = rw q b.pc;
        saved_ssp_lem = rw q b.saved_ssp_lem;
        saved_usp_lem = rw q b.saved_usp_lem;
        kbsr = rw q (rw keys b.kbsr);
        kbdr = rw q (rw keys b.kbdr);
        timer = rw q b.timer;
        mcr = rw q b.mcr;
        busy = rw q b.busy;
        clock = rw q b.clock;
        memory = rw q b.memory;
      }

  made : k + 2 ≤ (call_of s n).steps
  made =
      let d : (run_of s (k + 2)).ending ≡ Done =
      rw (call_is_run step_of s n (k + 2) c.accepted c.steps) at came_back.ending in
      rw (call_is_run step_of s n n c.accepted (omega arith))
      (done_steps_are_made step_of s n (k + 2) c.steps d)

  again : e.machine.devices.kbsr < 65536 → e.machine.devices.timer_status < 65536
      → takes_interrupt (cause_at s (k + 2)) ≡ true
  again kbsr_word timer_word = rw (same_cause 2 c.steps) (first_again rest 2 first kbsr_word timer_word)

pub back_returns : BackReturns
back_returns = record { made = made; returns = came_back; again = again }
