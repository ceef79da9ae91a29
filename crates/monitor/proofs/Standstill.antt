-- With BACK alone an interrupt is taken again and again, and the machine stays where it is.
use Prim.Native.Nat.{ℕ, zero, suc, ◌+◌, ◌-◌, ◌*◌, ◌≤◌, ◌<◌}
use native.Mathlib.Omega.{arith}
use mathlib.Core.Path.{◌≡◌, refl, sym, subst, ◌∙◌}
use mathlib.Core.Bool.{true, false}
use lib.ListN.{length, set}
use lib.Pow.{are_bytes}
use lib.Seq.{get_or-set_other}
use Rattle.machine.specs.Record.{Timer, timer_of}
use Rattle.machine.specs.Timer.{ticked, ticked_by}
use Rattle.machine.specs.Causes.{takes_interrupt}
use Rattle.run.specs.declared.Ending.TheVariants.{Done}
use Rattle.run.specs.Run.{Start, End}
use Rattle.run.specs.Refusals.{admission_of, Accepted}
use Rattle.run.specs.Call.{call_of}
use Rattle.run.specs.Noninterference.{cause_at}
use Rattle.monitor.specs.Uses.{HasWords, back_uses}
use Rattle.monitor.specs.Calls.{stack_of}
use Rattle.monitor.specs.Back.{Interrupted, keys_between, CameBack, StaysAt, Standstill}
use Rattle.monitor.proofs.UseLaws.{back_below}
use Rattle.monitor.proofs.Again.{keys_fit, tick_fits}
use Rattle.monitor.proofs.BackAnywhere.{back_returns}

-- After i interrupts: all that the next one asks for, and the same as at first.
record Round (s : Start) (e₀ : End) (k : ℕ) (e : End) : Type 0 where
  done : e.ending ≡ Done
  registers : length e.machine.regs ≡ 8
  intact : HasWords back_uses e.memory
  mcr : e.machine.devices.mcr ≡ 0x8000
  above_monitor : 0x02A7 ≤ stack_of e.machine
  below_devices : stack_of e.machine ≤ 0xFE00
  interrupt : takes_interrupt (cause_at s k) ≡ true
  kbsr_word : e.machine.devices.kbsr < 65536
  timer_word : e.machine.devices.timer_status < 65536
  same : StaysAt e₀ e

module _ (s : Start) (n : ℕ) (accepted : admission_of s n ≡ Accepted) (bytes : are_bytes s.bytes ≡ true)
    (e₀ : End) where
  interrupted : (k : ℕ) → Round s e₀ k (call_of s k) → k + 2 ≤ n → takes_interrupt (cause_at s (k + 1)) ≡ false
      → Interrupted s n k (call_of s k)
  interrupted k r le no_other = record {
    accepted = accepted;
    bytes = bytes;
    steps = le;
    done = r.done;
    registers = r.registers;
    intact = r.intact;
    mcr = r.mcr;
    above_monitor = r.above_monitor;
    below_devices = r.below_devices;
    interrupt = r.interrupt;
    no_other = no_other;
  }

  module _ (k : ℕ) (r : Round s e₀ k (call_of s k)) (le : k + 2 ≤ n)
      (no_other : takes_interrupt (cause_at s (k + 1)) ≡ false) where
    abbrev e : End
    e = call_of s k

    abbrev e' : End
    e' = call_of s (k + 2)

    came : CameBack s e e'
    came = back_returns.returns s n k (interrupted k r le no_other)

    same_stack : stack_of e'.machine ≡ stack_of e.machine
    same_stack = rw (came.psr, came.saved_ssp_lem, came.registers)

    still_intact : HasWords back_uses e'.memory
    still_intact a used =
        let low : a < 0x02A5 = back_below a used in
        let sp : ℕ = stack_of e.machine in
        let above : 0x02A7 ≤ sp = r.above_monitor in
        rw came.memory
        (get_or-set_other (set e.memory (sp - 1) e.machine.psr) (sp - 2) a e.machine.pc 0 (λ q. omega arith)
        ∙ get_or-set_other e.memory (sp - 1) a e.machine.psr 0 (λ q. omega arith)
        ∙ r.intact a used)

    timer_fits : (timer_of e'.machine.devices).status < 65536
    unfolding ticked_by
    timer_fits =
        subst (λ (t : Timer). t.status < 65536) (sym came.timer)
        (tick_fits (ticked (timer_of e.machine.devices))
        (tick_fits (timer_of e.machine.devices) r.timer_word))

    next_round : Round s e₀ (k + 2) e'
    next_round = record {
      done = came.ending;
      registers = rw came.registers r.registers;
      intact = still_intact;
      mcr = came.mcr;
      above_monitor = rw same_stack r.above_monitor;
      below_devices = rw same_stack r.below_devices;
      interrupt = back_returns.again s n k (interrupted k r le no_other) r.kbsr_word r.timer_word;
      kbsr_word = rw came.kbsr (keys_fit (keys_between s e e') e.machine.devices.kbsr r.kbsr_word);
      timer_word = timer_fits;
      same = record {
        registers = came.registers ∙ r.same.registers;
        psr = came.psr ∙ r.same.psr;
        pc = came.pc ∙ r.same.pc;
        shown = came.shown ∙ r.same.shown;
        output = came.output ∙ r.same.output;
      };
    }

  rounds : (k i : ℕ) → Round s e₀ k (call_of s k) → k + 2 * i ≤ n
      → ((j : ℕ) → j < i → takes_interrupt (cause_at s (k + 2 * j + 1)) ≡ false)
      → Round s e₀ (k + 2 * i) (call_of s (k + 2 * i))
  rounds k zero r le quiet = let z : k + 2 * 0 ≡ k = omega arith in rw z r
  rounds k (suc i) r le quiet =
      more (rounds k i r (omega arith) (λ j l. quiet j (omega arith))) (quiet i (omega arith))
    where
      more : Round s e₀ (k + 2 * i) (call_of s (k + 2 * i)) → takes_interrupt (cause_at s (k + 2 * i + 1)) ≡ false
          → Round s e₀ (k + 2 * suc i) (call_of s (k + 2 * suc i))
      more before none =
          let z : k + 2 * i + 2 ≡ k + 2 * suc i = omega arith in
          rw z at (next_round (k + 2 * i) before (omega arith) none)

pub standstill : Standstill
standstill s n k c kbsr_word timer_word i le quiet =
    (rounds s n c.accepted c.bytes (call_of s k) k i
    (record {
      done = c.done;
      registers = c.registers;
      intact = c.intact;
      mcr = c.mcr;
      above_monitor = c.above_monitor;
      below_devices = c.below_devices;
      interrupt = c.interrupt;
      kbsr_word = kbsr_word;
      timer_word = timer_word;
      same = record { registers = refl; psr = refl; pc = refl; shown = refl; output = refl };
    })
    le quiet).same
