-- OUT: two steps, the wait, three steps, RTI.
use Prim.Native.Nat.{ℕ, zero, suc, ◌+◌, ◌-◌, ◌%◌, ◌≤◌, ◌<◌}
use native.Mathlib.Omega.{arith}
use mathlib.Core.Path.{◌≡◌, refl, sym, ap, subst, ◌∙◌}
use mathlib.Core.Bool.{Bool, true, false}
use mathlib.Core.List.{List, [], ◌∷◌}
use lib.ListN.{length, get_or, set, take}
use lib.Seq.{take-take}
use Rattle.machine.specs.Words.{next, with_register}
use Rattle.machine.specs.Protection.{denied_by}
use Rattle.run.specs.Run.{Start}
use Rattle.run.specs.Call.{call_of}
use Rattle.run.proofs.Acceptance.{accepted_is_acceptable}
use Rattle.monitor.specs.Vectors.{vector_word}
use Rattle.monitor.specs.Uses.{with_vector, out_code}
use Rattle.monitor.specs.Out.{CallsOut, Uninterrupted, Resumed, wait_steps, out_steps, out_steps_of, OutShows}
use Rattle.monitor.specs.Calls.{stack_of, Calls, NoInterrupt, takes_none, none_enabled, not_read, Resumes}
use Rattle.monitor.specs.OutBothModes.{OutResumes}
use Rattle.monitor.proofs.Execution.{Frame, View, from, At, Quiet}
use Rattle.monitor.proofs.Intact.{monitor_word}
use Rattle.monitor.proofs.UseLaws.{with_vector_below, out_below}
use Rattle.monitor.proofs.Instructions.{kept, stepped_by, one_more_byte, computing}
use Rattle.monitor.proofs.Entries.{called_frame, Polls, within}
use Rattle.monitor.proofs.Calls.{begins_sound, quiet_steps, was_uninterrupted, Eight, eight, begun}
use Rattle.monitor.proofs.Calls.{routine_begins, back_frame, back_view, at_back}
use Rattle.monitor.proofs.Calls.{comes_back, none_read}
use Rattle.monitor.proofs.Paths.{calm, calmly, Ends, Path, attends, then, treads, walks}

abbrev pub uses : ℕ → Bool
uses = with_vector 0x21 out_code

module _ (user : Bool) (s : Start) (x : Eight s.machine.regs) where
  abbrev f : Frame
  f = called_frame uses 3 user s

  abbrev busy : ℕ
  busy = s.machine.devices.busy

  -- at the poll, after it, and at RTI
  polling : View
  polling = stepped_by 2 f (begun s x 0x0204 (next s.machine.pc))

  ready : View
  ready = within polling (with_register polling.regs 1 0x8000) 0x0208 (from 0x8000) 0

  pub returning : View
  returning = stepped_by 3 f ready

  polls : Polls f polling 1 0x0206
  unfolding polling computing
  polls = record {
    pointer = 0x0282;
    loads = λ r c b. refl;
    display = refl;
    branches = λ r c b. refl;
    own = refl;
    other = refl;
  }

  module _ (may : ℕ → Bool) (free : 1 ≤ length s.output) where
    to_poll : Path f may (begun s x 0x0204 (next s.machine.pc)) 2 polling
    unfolding polling computing calm calmly
    to_poll = treads f may 0 (omega arith) 2 (begun s x 0x0204 (next s.machine.pc)) (kept refl refl refl) refl refl

    to_ready : Path f may polling (wait_steps (busy - 1 - 1 - 1)) ready
    unfolding polling ready computing
    to_ready =
        attends polling refl refl 1 0x0206 polls (busy - 1 - 1 - 1) polling.regs polling.codes refl refl refl

    to_return : Path f may ready 3 returning
    unfolding polling ready returning computing calm calmly
    to_return = treads f may 1 free 3 ready (kept refl refl refl) refl refl

    pub routine : Path f may (begun s x 0x0204 (next s.machine.pc)) (2 + (wait_steps (busy - 1 - 1 - 1) + 3))
        returning
    routine = then to_poll (then to_ready to_return)

  pub ends : Ends uses 3 user s 0x020B returning
  unfolding returning ready polling computing
  ends = record {
    there = refl;
    returns = record { plan = refl; six = refl; pc = refl; psr = refl; fine = refl; going = refl };
    own = refl;
    pc_stored = refl;
    psr_stored = refl;
    depth = refl;
  }

  pub restored : set returning.regs 6 (get_or s.machine.regs 6 0) ≡ s.machine.regs
  unfolding returning ready polling computing
  restored = rw x.are

  pub the_byte : returning.bytes ≡ (get_or s.machine.regs 0 0 % 256) ∷ []
  unfolding returning ready polling computing
  the_byte = rw x.are

wait_at_most : (busy : ℕ) → wait_steps busy ≤ busy + 3
unfolding wait_steps
wait_at_most zero = omega arith
wait_at_most (suc zero) = omega arith
wait_at_most (suc (suc busy)) = omega (arith, wait_at_most busy)

few_steps : (busy : ℕ) → busy ≤ 8 → out_steps busy ≤ 32
few_steps busy h = omega (arith, wait_at_most (busy - 1 - 1 - 1))

-- ---- a call from either mode

module _ (user : Bool) (s : Start) (n : ℕ) (c : Calls 0x21 out_code 3 user s n) (free : 0 < length s.output)
    (le : out_steps_of s ≤ n) (none : NoInterrupt s (out_steps_of s)) (x : Eight s.machine.regs) where
  -- the steps before RTI
  abbrev j : ℕ
  j = 1 + (2 + (wait_steps (busy user s x - 1 - 1 - 1) + 3))

  all_steps : j + 1 ≡ out_steps_of s
  all_steps = omega arith

  quiet : Quiet s 0 (j + 1)
  quiet = rw all_steps (quiet_steps s n (out_steps_of s) 0 c.begins.accepted le none)

  enough : j + 1 ≤ n
  enough = rw all_steps le

  at_rti : At s 0 j (f user s x) (returning user s x)
  unfolding vector_word
  at_rti =
      (walks quiet (f user s x) (begins_sound s n c.begins) (routine user s x (λ a. false) free)).on (omega arith)
      (routine_begins out_code 3 user s n (j + 1) x 0x21 0x0204 c (omega arith) quiet (omega arith) (omega arith) refl)

  five : (returning user s x).busy - 1 ≡ 5
  unfolding returning ready polling computing
  five = refl

  untouched : ((returning user s x).read ≡ 0) × ((returning user s x).status ≡ s.machine.devices.kbsr)
  unfolding returning ready polling computing
  untouched = (refl, refl)

  at_end : At s 0 (j + 1) (back_frame uses 3 user s) (back_view uses 3 user s (returning user s x))
  at_end =
      at_back uses 3 user s n j (returning user s x) c.begins (omega arith) quiet at_rti (ends user s x).returns
      enough

  resumed : Resumes s n (j + 1) ((get_or s.machine.regs 0 0 % 256) ∷ []) 5 3 s.machine.regs (not_read s)
  resumed =
      subst (λ (bytes : List ℕ). Resumes s n (j + 1) bytes 5 3 s.machine.regs (not_read s)) (the_byte user s x)
      (comes_back uses 3 user s n j (returning user s x) c.begins (omega arith) quiet at_rti (ends user s x).returns
      enough s.machine.regs (restored user s x) 5 five (not_read s)
      (none_read s (returning user s x) untouched.0 untouched.1))

pub out_resumes : OutResumes
out_resumes user s n c free le none =
    let x = eight s.machine.regs c.begins.registers in
    rw (all_steps user s n c free le none x) at (resumed user s n c free le none x)

-- ---- a call from User mode with all of the monitor's words intact

-- The stack is at x3000.
at_3000 : (s : Start) (n : ℕ) → CallsOut s n → stack_of s.machine ≡ 0x3000
at_3000 s n c = rw c.user_mode_lem c.stack

calls : (s : Start) (n : ℕ) → CallsOut s n → Calls 0x21 out_code 3 true s n
unfolding denied_by
calls s n c = record {
  begins = record {
    accepted = c.accepted;
    registers = c.registers;
    mode = c.user_mode_lem;
    intact = λ a used. monitor_word s.memory c.intact a
        (with_vector_below 0x21 out_code (omega arith) out_below a used);
    stack = record {
      above_monitor = omega (arith, at_3000 s n c);
      below_devices = omega (arith, at_3000 s n c);
    };
    mcr = c.mcr;
  };
  may_fetch = rw c.user_mode_lem c.user_address;
  trap = c.trap;
}

module _ (s : Start) (n : ℕ) (c : CallsOut s n) (none : NoInterrupt s (out_steps_of s)) where
  few : out_steps_of s ≤ n
  few =
      omega (
        arith,
        few_steps s.machine.devices.busy (accepted_is_acceptable s n c.accepted).defined.devices.busy,
        c.steps,
      )

  abbrev x : Eight s.machine.regs
  x = eight s.machine.regs c.registers

  was_quiet : Uninterrupted s (out_steps_of s)
  was_quiet =
      was_uninterrupted n c.accepted few
      (rw (all_steps true s n (calls s n c) c.free_byte few none x) at
      (at_end true s n (calls s n c) c.free_byte few none x))

  shorter : (l₁ l₂ : List ℕ) → take 0x2FFD l₁ ≡ take 0x2FFD l₂ → take 0x2FF8 l₁ ≡ take 0x2FF8 l₂
  shorter l₁ l₂ e =
      sym (take-take 0x2FF8 0x2FFD l₁ (omega arith))
      ∙ ap (λ (l : List ℕ). take 0x2FF8 l) e
      ∙ take-take 0x2FF8 0x2FFD l₂ (omega arith)

  out_resumed : Resumed s n (out_steps_of s) (call_of s (out_steps_of s))
  out_resumed =
      let r = out_resumes true s n (calls s n c) c.free_byte few none in
      let l = r.leaves in
      record {
        made = r.made;
        steps = l.steps;
        ending = r.ending;
        shown = l.shown;
        output = l.output ∙ one_more_byte [] s.output (get_or s.machine.regs 0 0 % 256) c.free_byte;
        pc = r.pc;
        registers = r.registers_are;
        psr = r.psr;
        saved_ssp_lem = l.saved_ssp_lem;
        saved_usp_lem = rw c.user_mode_lem at l.saved_usp_lem;
        kbsr = r.kbsr;
        kbdr = l.kbdr;
        mcr = r.mcr ∙ sym c.mcr;
        busy = l.display;
        timer = l.timer;
        clock = l.clock;
        words_below_lem = shorter (call_of s (out_steps_of s)).memory s.memory
            (rw (at_3000 s n c) at l.words_below_lem);
        words_above_lem = rw (at_3000 s n c) at l.words_above_lem;
      }

pub out_shows : OutShows
out_shows = record {
  within = few_steps;
  resumes = λ s n c u. out_resumed s n c (takes_none u);
  not_enabled = λ s n c off. was_quiet s n c (none_enabled off);
}
