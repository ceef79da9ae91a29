-- STOP: two steps from x027C on. The run that goes on makes three.
use Prim.Native.Nat.{ℕ, ◌+◌, ◌-◌, ◌*◌, ◌/◌, ◌%◌, ◌≤◌, ◌<◌}
use native.Mathlib.Omega.{arith}
use mathlib.Core.Path.{◌≡◌, refl, sym, ap, subst, ◌∙◌}
use mathlib.Core.Bool.{Bool, true, false}
use mathlib.Core.List.{List, [], ◌∷◌}
use lib.ListN.{get_or}
use lib.Seq.{get_or-take}
use Rattle.word.specs.Reading.{read_of}
use Rattle.word.specs.declared.Instruction.TheVariants.{Reserved}
use Rattle.machine.specs.Words.{next}
use Rattle.machine.specs.Psr.{codes_of}
use Rattle.machine.specs.Outcome.{Reason, privilege, illegal, access, vector_of}
use Rattle.run.specs.Run.{Start, ended_by}
use Rattle.run.specs.Call.{call_of}
use Rattle.run.proofs.Acceptance.{accepted_is_acceptable}
use Rattle.monitor.specs.Vectors.{ours}
use Rattle.monitor.specs.Uses.{HasWords, with_vector, stop_code}
use Rattle.monitor.specs.Calls.{stack_of, StackApart, Begins, Calls, Raises, NoInterrupt, Halts}
use Rattle.monitor.specs.Stop.{OtherTrap, GoesOn, HaltsAgain, StopHalts}
use Rattle.monitor.proofs.VectorLaws.{other_trap, exception_word}
use Rattle.monitor.proofs.Execution.{Frame, View, from, At, Quiet}
use Rattle.monitor.proofs.Intact.{Intact}
use Rattle.monitor.proofs.UseLaws.{stop_below}
use Rattle.monitor.proofs.Instructions.{Sound, kept, stepped_by, runs, computing}
use Rattle.monitor.proofs.Entries.{called_frame, start_frame, at_start_with}
use Rattle.monitor.proofs.Calls.{begins_sound, quiet_steps, call_halts, Eight, eight, begun, halts}
use Rattle.monitor.proofs.Calls.{routine_begins, reserved_begins, handler_begins, unread}

-- Halted, from the first word of STOP on.
module _ (vector : ℕ) (user : Bool) (s : Start) (n : ℕ) (b : Begins (with_vector vector stop_code) 2 user s n)
    (x : Eight s.machine.regs) (pc : ℕ) (more : 3 < n) (quiet : Quiet s 0 3)
    (a : At s 0 1 (called_frame (with_vector vector stop_code) 2 user s) (begun s x 0x027C pc)) where
  abbrev f : Frame
  f = called_frame (with_vector vector stop_code) 2 user s

  abbrev stopped : View
  stopped = stepped_by 2 f (begun s x 0x027C pc)

  at_stop : At s 0 3 f stopped
  unfolding computing
  at_stop =
      (runs quiet f (begins_sound s n b) 0 (omega arith) 2
      (begun s x 0x027C pc) (kept refl refl refl) refl).on (omega arith) a

  stop_halts : Halts s n 3 [] (s.machine.devices.busy - 3) 2
  unfolding computing
  stop_halts =
      halts at_stop n b refl refl refl refl refl refl (s.machine.devices.busy - 3) (omega arith) more (rw x.are)
      refl refl refl refl refl

quiet_three : {uses : ℕ → Bool} {words : ℕ} {user : Bool} (s : Start) (n : ℕ) → Begins uses words user s n → 3 < n
    → NoInterrupt s 3
    → Quiet s 0 3
quiet_three s n b more none = quiet_steps s n 3 0 b.accepted (omega arith) none

other_trap_halts : (vector : ℕ) → OtherTrap vector → (user : Bool) (s : Start) (n : ℕ)
    → Calls vector stop_code 2 user s n
    → 3 < n → NoInterrupt s 3 → Halts s n 3 [] (s.machine.devices.busy - 3) 2
other_trap_halts vector other user s n c more none =
    let b = c.begins in
    let x = eight s.machine.regs b.registers in
    let quiet = quiet_three s n b more none in
    stop_halts vector user s n b x (next s.machine.pc) more quiet
    (routine_begins stop_code 2 user s n 3 x vector 0x027C c (omega arith) quiet (omega arith) other.below
    (sym (other_trap ours vector other.no_service other.below)))

exception_halts : (reason : Reason) → 0x0100 ≤ vector_of reason → vector_of reason < 0x0103 → (s : Start) (n : ℕ)
    → Raises reason stop_code 2 s n → 3 < n → NoInterrupt s 3 → Halts s n 3 [] (s.machine.devices.busy - 3) 2
exception_halts reason least most s n r more none =
    let b = r.begins in
    let x = eight s.machine.regs b.registers in
    let quiet = quiet_three s n b more none in
    stop_halts (vector_of reason) true s n b x r.pushed_pc more quiet
    (handler_begins stop_code 2 s n 3 x reason 0x027C r (omega arith) quiet (omega arith) (omega arith)
    (sym (exception_word ours (vector_of reason) least most)))

illegal_halts : (s : Start) (n reserved : ℕ) → Begins (with_vector (vector_of illegal) stop_code) 2 false s n
    → read_of (get_or s.memory s.machine.pc 0) ≡ Reserved reserved → 3 < n → NoInterrupt s 3
    → Halts s n 3 [] (s.machine.devices.busy - 3) 2
illegal_halts s n reserved b word more none =
    let x = eight s.machine.regs b.registers in
    let quiet = quiet_three s n b more none in
    stop_halts (vector_of illegal) false s n b x s.machine.pc more quiet
    (reserved_begins stop_code 2 s n 3 x reserved 0x027C b word (omega arith) quiet (omega arith)
    (sym (exception_word ours (vector_of illegal) (omega arith) (omega arith))))

-- ---- the host lets the machine go on

module _ (s : Start) (n k : ℕ) (bytes : List ℕ) (busy used : ℕ) (words : HasWords stop_code s.memory)
    (h : Halts s n k bytes busy used) (apart : StackApart used (stack_of s.machine)) (s' : Start) (n' : ℕ)
    (g : GoesOn s n s' n')
    (more : 3 < n') (none : NoInterrupt s' 3) where
  still_intact : Intact stop_code s'.memory
  still_intact = record {
    words = λ a is.
        let low : ℕ = stack_of s.machine - used in
        let l : a < low = omega (arith, stop_below a is, apart.above_monitor) in
        rw g.memory
        (sym (get_or-take low (call_of s n).memory a 0 l)
        ∙ ap (λ (memory : List ℕ). get_or memory a 0) h.leaves.words_below_lem
        ∙ get_or-take low s.memory a 0 l
        ∙ words a is);
    size = (accepted_is_acceptable s' n' g.accepted).size;
  }

  pc_is : s'.machine.pc ≡ 0x027E
  pc_is = rw g.machine h.pc

  psr_is : s'.machine.psr ≡ s.machine.psr / 8 % 4096 * 8 + 1
  psr_is = rw g.machine h.psr

  abbrev after : Frame
  after = start_frame stop_code 0 0x3000 s'

  sound : Sound after
  sound = record {
    above = omega (arith, psr_is);
    intact = still_intact;
    stack = record { above_monitor = omega arith; below_devices = omega arith };
  }

  module _ (x : Eight s.machine.regs) where
    abbrev waiting : View
    waiting = record {
      regs = x.r₀ ∷ x.r₁ ∷ x.r₂ ∷ x.r₃ ∷ x.r₄ ∷ x.r₅ ∷ 0x2FFE ∷ x.r₇ ∷ [];
      pc = 0x027E;
      codes = from 1;
      cells = [];
      depth = 0;
      bytes = [];
      busy = s'.machine.devices.busy;
      mcr = 0x8000;
      read = 0;
      status = s'.machine.devices.kbsr;
    }

    regs_are : s'.machine.regs ≡ waiting.regs
    regs_are = rw g.machine (h.registers_are ∙ rw x.are)

    at_waiting : At s' 0 0 after waiting
    unfolding codes_of
    at_waiting =
        let one : 1 ≡ s'.machine.psr % 8 = omega (arith, psr_is) in
        let mcr : s'.machine.devices.mcr ≡ 0x8000 = rw g.machine in
        subst (λ (v : View). At s' 0 0 after v)
        (λ i. record {
          regs = regs_are i;
          pc = pc_is i;
          codes = from 1;
          cells = [];
          depth = 0;
          bytes = [];
          busy = s'.machine.devices.busy;
          mcr = mcr i;
          read = 0;
          status = s'.machine.devices.kbsr;
        })
        (at_start_with stop_code 0 0x3000 s' n' g.accepted 0 (from 1) one)

    abbrev stopped_again : View
    stopped_again = stepped_by 3 after waiting

    at_stop_again : At s' 0 3 after stopped_again
    unfolding computing
    at_stop_again =
        (runs (quiet_steps s' n' 3 0 g.accepted (omega arith) none) after sound 0 (omega arith) 3 waiting
        (record { eight = refl; six = λ h. absurd (omega arith); few = omega arith })
        refl).on (omega arith) at_waiting

    halts_again : HaltsAgain s' n'
    unfolding computing ended_by
    halts_again =
        let q = call_halts at_stop_again n' g.accepted more refl in
        record {
          steps = rw q;
          ending = rw q;
          mcr = rw q;
          shown = rw q;
          output = rw q;
          registers = rw q (sym regs_are);
          saved_ssp_lem = rw q;
          saved_usp_lem = rw q;
          pc = rw q (sym pc_is);
          psr = rw q (omega (arith, psr_is));
          memory = rw q;
          keys = rw q at_stop_again.arrived_by_lem;
          kbsr = rw q (unread at_stop_again refl refl);
          kbdr = rw q at_stop_again.kbdr;
          timer = rw q at_stop_again.timer;
          display = rw q (omega arith);
          clock = rw q at_stop_again.ticks;
        }

pub stop_halts_all : StopHalts
stop_halts_all = record {
  other_trap = other_trap_halts;
  privilege_exception = exception_halts privilege (omega arith) (omega arith);
  illegal_exception = exception_halts illegal (omega arith) (omega arith);
  access_exception_lem = exception_halts access (omega arith) (omega arith);
  illegal_in_supervisor_mode = illegal_halts;
  again = λ s n k bytes busy used registers words h apart s' n' g more none.
      halts_again s n k bytes busy used words h apart s' n' g more none (eight s.machine.regs registers);
}
