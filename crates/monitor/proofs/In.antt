-- IN: the prompt, the wait for a key, the echo, and RTI.
use Prim.Native.Nat.{ℕ, suc, ◌+◌, ◌-◌, ◌*◌, ◌%◌, ◌≤◌}
use native.Mathlib.Omega.{arith}
use mathlib.Core.Path.{◌≡◌, refl, ap, subst, ◌∙◌}
use mathlib.Core.Bool.{Bool}
use mathlib.Core.List.{List, [], ◌∷◌}
use lib.ListN.{length, get_or, set, take, drop}
use lib.Seq.{set-set}
use Rattle.machine.specs.Words.{next, with_register}
use Rattle.machine.specs.Keys.{ready_after}
use Rattle.run.specs.Run.{Start}
use Rattle.monitor.specs.Vectors.{vector_word}
use Rattle.monitor.specs.Out.{wait_steps}
use Rattle.monitor.specs.Keys.{arrived_by, status_at, key_at}
use Rattle.monitor.specs.Uses.{with_vector, in_code}
use Rattle.monitor.specs.Calls.{stack_of, Begins, Calls, NoInterrupt, read_in, Resumes}
use Rattle.monitor.specs.Getc.{KeyComes}
use Rattle.monitor.specs.In.{prompt, first_poll, key_step, echo_wait, in_steps, shown_by_in, InReads}
use Rattle.monitor.proofs.KeyLaws.{ready_leaves_rest}
use Rattle.monitor.proofs.Execution.{Frame, Known, View, from, cell, At, Quiet, Leads, then, status_in}
use Rattle.monitor.proofs.Instructions.{Sound, kept, stepped_by, runs, computing}
use Rattle.monitor.proofs.Entries.{called_frame, within, Polls, waits}
use Rattle.monitor.proofs.Calls.{begins_sound, quiet_steps, Eight, eight, begun, routine_begins, AtReturn}
use Rattle.monitor.proofs.Calls.{comes_back}
use Rattle.monitor.proofs.Keyboard.{key_read, Keys, Turned, turns, takes_key}

abbrev uses : ℕ → Bool
uses = with_vector 0x23 in_code

module _ (user : Bool) (s : Start) (x : Eight s.machine.regs) where
  abbrev f : Frame
  f = called_frame uses 4 user s

  -- R0, R1, R2, PC, codes, bytes, busy count and what is known of the keyboard are all that changes.
  abbrev pub W : ℕ → ℕ → ℕ → ℕ → Known → List ℕ → ℕ → ℕ → ℕ → View
  W r₀ r₁ r₂ pc c bytes busy read status = record {
    regs = r₀ ∷ r₁ ∷ r₂ ∷ x.r₃ ∷ x.r₄ ∷ x.r₅ ∷ (stack_of s.machine - 4) ∷ x.r₇ ∷ [];
    pc = pc;
    codes = c;
    cells = cell 3 x.r₂
        ∷ cell 4 x.r₁
        ∷ cell 2 (next s.machine.pc)
        ∷ cell 1 s.machine.psr
        ∷ [];
    depth = 4;
    bytes = bytes;
    busy = busy;
    mcr = 0x8000;
    read = read;
    status = status;
  }

  abbrev kbsr : ℕ
  kbsr = s.machine.devices.kbsr

  -- the first poll of DSR, and the first of KBSR
  abbrev pub polling : ℕ → View
  polling busy = W 0x0289 0x0049 x.r₂ 0x022E (from 0x0049) [] busy 0 kbsr

  abbrev pub waiting : View
  waiting = W 0x029C 0 0x8000 0x0233 (from 0) prompt 4 0 kbsr

  abbrev pub left : ℕ
  left = s.machine.devices.busy - 1 - 1 - 1 - 1 - 1 - 1 - 1

  polls : Polls f (polling left) 2 0x022E
  unfolding computing
  polls = record {
    pointer = 0x0282;
    loads = λ r c b. refl;
    display = refl;
    branches = λ r c b. refl;
    own = refl;
    other = refl;
  }

  keys : Keys f waiting 0 0x0233
  unfolding computing
  keys = record {
    pointer = 0x0280;
    pointer_plain = omega arith;
    loads = λ r c b. refl;
    keyboard = refl;
    branches = λ r c b. refl;
    data_pointer = 0x0281;
    data_plain = omega arith;
    reads = λ r c b. refl;
    data_register = refl;
  }

  module _ (bound : ℕ) (quiet : Quiet s 0 bound) (sound : Sound f) (room : 20 ≤ length s.output) where
    to_poll : Leads s 0 bound f (begun s x 0x0228 (next s.machine.pc)) 6 f (polling left)
    unfolding computing
    to_poll = runs quiet f sound 0 (omega arith) 6 (begun s x 0x0228 (next s.machine.pc)) (kept refl refl refl) refl

    to_ready : Leads s 0 bound f (polling left) (wait_steps left) f
        (W 0x0289 0x0049 0x8000 0x0230 (from 0x8000) [] 0 0 kbsr)
    to_ready =
        waits quiet f sound (polling left) refl refl 2 0x022E polls left (polling left).regs (polling left).codes

    to_key : Leads s 0 bound f (W 0x0289 0x0049 0x8000 0x0230 (from 0x8000) [] 0 0 kbsr) 203 f waiting
    unfolding computing
    to_key = runs quiet f sound 20 room 203 (W 0x0289 0x0049 0x8000 0x0230 (from 0x8000) [] 0 0 kbsr)
        (kept refl refl refl) refl

    -- the echo, from the poll of DSR on
    module _ (key read status : ℕ) (c : Known) (busy : ℕ) where
      echoes : Polls f (W key 0 0x8000 0x0236 c prompt busy read status) 1 0x0236
      unfolding computing
      echoes = record {
        pointer = 0x0282;
        loads = λ r c b. refl;
        display = refl;
        branches = λ r c b. refl;
        own = refl;
        other = refl;
      }

      to_echo : Leads s 0 bound f (W key 0 0x8000 0x0236 c prompt busy read status) (wait_steps busy) f
          (W key 0x8000 0x8000 0x0238 (from 0x8000) prompt 0 read status)
      to_echo =
          waits quiet f sound (W key 0 0x8000 0x0236 c prompt busy read status) refl refl 1 0x0236 echoes busy
          (W key 0 0x8000 0x0236 c prompt busy read status).regs c

      to_return : Leads s 0 bound f (W key 0x8000 0x8000 0x0238 (from 0x8000) prompt 0 read status) 4 f
          (stepped_by 4 f (W key 0x8000 0x8000 0x0238 (from 0x8000) prompt 0 read status))
      unfolding computing
      to_return =
          runs quiet f sound 20 room 4 (W key 0x8000 0x8000 0x0238 (from 0x8000) prompt 0 read status)
          (kept refl refl refl) refl

pub seven_less : (b : ℕ) → b - 1 - 1 - 1 - 1 - 1 - 1 - 1 ≡ b - 7
seven_less b = ap (λ (n : ℕ). n - 1 - 1 - 1 - 1) (three b) ∙ four b
  where
    three : (b : ℕ) → b - 1 - 1 - 1 ≡ b - 3
    three b = omega arith

    four : (b : ℕ) → b - 3 - 1 - 1 - 1 - 1 ≡ b - 7
    four b = omega arith

module _ (user : Bool) (s : Start) (n t : ℕ) (c : Calls 0x23 in_code 4 user s n) (key : KeyComes s (first_poll s) t)
    (room : length (shown_by_in s t) ≤ length s.output) (le : in_steps s t ≤ n) (none : NoInterrupt s (in_steps s t))
    (x : Eight s.machine.regs) where
  abbrev b : Begins uses 4 user s n
  b = c.begins

  quiet : Quiet s 0 (in_steps s t)
  quiet = quiet_steps s n (in_steps s t) 0 b.accepted le none

  sound : Sound (f user s x)
  sound = begins_sound s n b

  at_waiting : At s 0 (first_poll s) (f user s x) (waiting user s x)
  unfolding vector_word
  at_waiting =
      let z : 1 + (6 + (wait_steps (s.machine.devices.busy - 7) + 203)) ≡ first_poll s = omega arith in
      let l = rw (seven_less s.machine.devices.busy) at (then (to_poll user s x (in_steps s t) quiet sound room)
      (then (to_ready user s x (in_steps s t) quiet sound room) (to_key user s x (in_steps s t) quiet sound room))) in
      rw z at (l.on (omega arith)
      (routine_begins in_code 4 user s n (in_steps s t) x 0x23 0x0228 c (omega arith) quiet (omega arith) (omega arith)
      refl))

  waited : Turned s (first_poll s + 2 * t) (f user s x) (waiting user s x) (waiting user s x).regs 0 0x0233 t 4
  waited =
      turns quiet (f user s x) sound (waiting user s x) refl refl refl refl 0 0x0233 (keys user s x) (first_poll s)
      (waiting user s x).regs (from 0) 4 at_waiting t (omega arith) key.none

  abbrev polled : View
  polled = within (waiting user s x) (with_register waited.regs_now 0 (status_at s (first_poll s + 2 * t))) 0x0235
      (from (status_at s (first_poll s + 2 * t))) (waited.busy_now - 1 - 1)

  abbrev read : ℕ
  read = arrived_by s (suc (key_step s t))

  abbrev status : ℕ
  status = status_in s (key_step s t) polled % 0x8000

  abbrev byte : ℕ
  byte = key_at s (key_step s t)

  at_echo : At s 0 (key_step s t + 1) (f user s x)
      (W user s x byte 0 0x8000 0x0236 (from byte) prompt (4 - 2 * t - 1 - 1 - 1) read status)
  at_echo =
      let z : first_poll s + 2 * t + 3 ≡ key_step s t + 1 = omega arith in
      let regs : with_register polled.regs 0 byte ≡ with_register (waiting user s x).regs 0 byte =
      set-set waited.regs_now 0 (status_at s (first_poll s + 2 * t)) byte ∙ waited.same byte in
      let a : At s 0 (key_step s t + 1) (f user s x) (key_read s (key_step s t) polled 0) =
      rw z at (takes_key quiet (f user s x) sound (waiting user s x) refl refl refl refl 0 0x0233 (keys user s x)
      (first_poll s + 2 * t) (omega arith) waited.regs_now waited.codes waited.busy_now waited.at
      key.comes) in
      subst (λ (v : View). At s 0 (key_step s t + 1) (f user s x) v)
      (λ i. record {
        regs = regs i;
        pc = 0x0236;
        codes = from byte;
        cells = (waiting user s x).cells;
        depth = 4;
        bytes = prompt;
        busy = waited.count i - 1 - 1 - 1;
        mcr = 0x8000;
        read = read;
        status = status;
      })
      a

  returning : View
  returning = stepped_by 4 (f user s x) (W user s x byte 0x8000 0x8000 0x0238 (from 0x8000) prompt 0 read status)

  abbrev j : ℕ
  j = key_step s t + 1 + (echo_wait t + 4)

  at_rti : At s 0 j (f user s x) returning
  unfolding returning
  at_rti =
      (then
      (to_echo user s x (in_steps s t) quiet sound room byte read status (from byte) (4 - 2 * t - 1 - 1 - 1))
      (to_return user s x (in_steps s t) quiet sound room byte read status (from byte) (4 - 2 * t - 1 - 1 - 1))
      ).on (omega arith) at_echo

  at_return : AtReturn uses 4 user s returning
  unfolding returning computing
  at_return = record { plan = refl; six = refl; pc = refl; psr = refl; fine = refl; going = refl }

  same_registers : set returning.regs 6 (get_or s.machine.regs 6 0) ≡ set s.machine.regs 0 byte
  unfolding returning computing
  same_registers = rw x.are

  -- Ready was cleared.
  cleared : (keys : ℕ) → ready_after (take (keys - read) (drop read s.bytes)) status ≡ read_in (key_step s t) s keys
  cleared keys = let z : status ≡ kbsr user s x % 0x8000 = ready_leaves_rest _ (kbsr user s x) in rw z

  in_resumes : Resumes s n (in_steps s t) (shown_by_in s t) 4 4 (set s.machine.regs 0 byte)
      (read_in (key_step s t) s)
  unfolding returning computing
  in_resumes =
      comes_back uses 4 user s n j returning b (omega arith) quiet at_rti at_return le (set s.machine.regs 0 byte)
      same_registers 4 refl (read_in (key_step s t) s) cleared

pub in_reads : InReads
in_reads user s n t c key room le none =
    in_resumes user s n t c key room le none (eight s.machine.regs c.begins.registers)
