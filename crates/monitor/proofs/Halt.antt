-- HALT: seven steps after the trap, at which the display is ready whatever its count was; a byte and the wait for the
-- next, six times; the last byte; and the way to STOP.
use Prim.Native.Nat.{ℕ, ◌+◌, ◌-◌, ◌*◌, ◌/◌, ◌%◌, ◌≤◌, ◌<◌}
use native.Mathlib.Omega.{arith}
use mathlib.Core.Path.{◌≡◌, refl, subst}
use mathlib.Core.Bool.{Bool, true, false}
use mathlib.Core.List.{List, [], ◌∷◌}
use lib.ListN.{length, set}
use Rattle.machine.specs.Words.{next}
use Rattle.run.specs.Run.{Start}
use Rattle.run.proofs.Acceptance.{accepted_is_acceptable}
use Rattle.monitor.specs.Vectors.{vector_word}
use Rattle.monitor.specs.Uses.{with_vector, halt_code}
use Rattle.monitor.specs.Out.{wait_steps}
use Rattle.monitor.specs.Calls.{stack_of, Calls, NoInterrupt, Halts}
use Rattle.monitor.specs.Halt.{message, halt_steps, HaltShows}
use Rattle.monitor.proofs.Execution.{Frame, Known, from, cell, View, psr_at, At, Quiet}
use Rattle.monitor.proofs.Intact.{cells_fine}
use Rattle.monitor.proofs.Instructions.{kept, stepped_by, computing}
use Rattle.monitor.proofs.Entries.{called_frame, Polls}
use Rattle.monitor.proofs.Calls.{begins_sound, quiet_steps, Eight, eight, begun, routine_begins, halts}
use Rattle.monitor.proofs.Paths.{calm, calmly, Path, attends, then, treads, turned_by, may_turns, turns, walks}

-- The display is ready after eight steps.
pub eight_later : (busy : ℕ) → busy ≤ 8 → busy - 1 - 1 - 1 - 1 - 1 - 1 - 1 - 1 ≡ 0
eight_later busy h = none_left _ (four_less _ 0 (four_less busy 4 h))
  where
    four_less : (b k : ℕ) → b ≤ k + 4 → b - 1 - 1 - 1 - 1 ≤ k
    four_less b k h = omega arith

    none_left : (b : ℕ) → b ≤ 0 → b ≡ 0
    none_left b h = omega arith

abbrev pub uses : ℕ → Bool
uses = with_vector 0x25 halt_code

module _ (user : Bool) (s : Start) (x : Eight s.machine.regs) (few : s.machine.devices.busy ≤ 8)
    (room : 7 ≤ length s.output) (may : ℕ → Bool) where
  abbrev f : Frame
  f = called_frame uses 5 user s

  -- R0, R1, R2, PC, codes, bytes shown and busy count are all that changes.
  abbrev W : ℕ → ℕ → ℕ → ℕ → Known → List ℕ → ℕ → View
  W a r₁ r₂ pc c bytes busy = record {
    regs = a ∷ r₁ ∷ r₂ ∷ x.r₃ ∷ x.r₄ ∷ x.r₅ ∷ (stack_of s.machine - 5) ∷ x.r₇ ∷ [];
    pc = pc;
    codes = c;
    cells = cell 3 x.r₂
        ∷ cell 4 x.r₁
        ∷ cell 5 x.r₀
        ∷ cell 2 (next s.machine.pc)
        ∷ cell 1 s.machine.psr
        ∷ [];
    depth = 5;
    bytes = bytes;
    busy = busy;
    mcr = 0x8000;
    read = 0;
    status = s.machine.devices.kbsr;
  }

  abbrev left : ℕ
  left = s.machine.devices.busy - 1 - 1 - 1 - 1 - 1 - 1 - 1 - 1

  polls : (u : View) → Polls f u 2 0x0274
  unfolding computing
  polls u = record {
    pointer = 0x0282;
    loads = λ r c b. refl;
    display = refl;
    branches = λ r c b. refl;
    own = refl;
    other = refl;
  }

  to_poll : Path f may (begun s x 0x026D (next s.machine.pc)) 7 (W 0x029D 0x48 x.r₂ 0x0274 (from 0x48) [] left)
  unfolding computing calm calmly
  to_poll =
      treads f may 0 (omega arith) 7 (begun s x 0x026D (next s.machine.pc)) (kept refl refl refl) refl refl

  abbrev ready : View
  ready = W 0x029D 0x48 0x8000 0x0276 (from 0x8000) [] 0

  to_first : Path f may (begun s x 0x026D (next s.machine.pc)) 9 ready
  unfolding wait_steps
  to_first =
      let front : View = W 0x029D 0x48 x.r₂ 0x0274 (from 0x48) [] 0 in
      then
      (subst (λ (busy : ℕ). Path f may (begun s x 0x026D (next s.machine.pc)) 7
      (W 0x029D 0x48 x.r₂ 0x0274 (from 0x48) [] busy)) (eight_later s.machine.devices.busy few) to_poll)
      (attends front refl refl 2 0x0274 (polls front) 0 front.regs (from 0x48) refl refl refl)

  -- Six characters are shown, each by STI, ADD, BRnzp, LDR and BRz, with the wait for the next; the last stands in R1.
  abbrev last : View
  last = W 0x02A3 0x0A 0x8000 0x0276 (from 0x8000) (0x48 ∷ 0x61 ∷ 0x6C ∷ 0x74 ∷ 0x65 ∷ 0x64 ∷ []) 0

  to_last : Path f may ready 66 last
  unfolding computing calm calmly turned_by may_turns
  to_last = turns f may 7 room 2 0x0274 polls 6 ready (kept refl refl refl) refl

  -- In front of STOP, with the registers restored; and halted.
  pub restored : View
  restored = stepped_by 8 f last

  pub stopped : View
  stopped = stepped_by 2 f restored

  pub way : Path f may (begun s x 0x026D (next s.machine.pc)) 83 restored
  unfolding restored computing calm calmly
  way =
      then to_first (then to_last (treads f may 7 room 8 last (kept refl refl refl) refl refl))

  pub to_stop : Path f may restored 2 stopped
  unfolding stopped restored computing calm calmly
  to_stop = treads f may 0 (omega arith) 2 restored (kept refl refl refl) refl refl

  pub in_front : (cells_fine 5 restored.cells ≡ true) × (restored.depth ≡ 5) × (restored.pc ≡ 0x027C)
  unfolding restored computing
  in_front = (refl, refl, refl)

  pub registers_then : stopped.regs ≡ set s.machine.regs 6 0x2FFE
  unfolding stopped restored computing
  registers_then = rw x.are

  pub bytes_then : stopped.bytes ≡ message
  unfolding stopped restored computing
  bytes_then = refl

  pub halts_then : (stopped.mcr ≡ 0) × (stopped.pc ≡ 0x027E)
      × (psr_at f stopped ≡ s.machine.psr / 8 % 4096 * 8 + 1)
  unfolding stopped restored computing
  halts_then = (refl, refl, refl)

halt_halts : (user : Bool) (s : Start) (n : ℕ) → Calls 0x25 halt_code 5 user s n → halt_steps < n → 7 ≤ length s.output
    → NoInterrupt s halt_steps → Eight s.machine.regs → Halts s n halt_steps message 0 5
unfolding stopped restored computing vector_word
halt_halts user s n c more room none x =
    let b = c.begins in
    let few = (accepted_is_acceptable s n b.accepted).defined.devices.busy in
    let quiet : Quiet s 0 halt_steps = quiet_steps s n halt_steps 0 b.accepted (omega arith) none in
    let a : At s 0 86 (f user s x few room (λ a. false)) (stopped user s x few room (λ a. false)) =
    (walks quiet (f user s x few room (λ a. false)) (begins_sound s n b)
    (then (way user s x few room (λ a. false)) (to_stop user s x few room (λ a. false)))).on (omega arith)
    (routine_begins halt_code 5 user s n halt_steps x 0x25 0x026D c (omega arith) quiet (omega arith) (omega arith)
    refl) in
    halts a n b refl refl refl refl refl refl 0 refl more (registers_then user s x few room (λ a. false)) refl refl refl
    refl refl

pub halt_shows : HaltShows
halt_shows user s n c more room none =
    halt_halts user s n c more room none (eight s.machine.regs c.begins.registers)
