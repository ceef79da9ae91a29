-- From the end of a routine's way to what the call answers: RTI, and the caller has resumed; or STOP, and the machine
-- has halted.
use Prim.Native.Nat.{ℕ, suc, ◌+◌, ◌-◌, ◌*◌, ◌/◌, ◌%◌, ◌≤◌, ◌<◌}
use native.Mathlib.Omega.{arith}
use mathlib.Core.Path.{◌≡◌, sym, ap, ◌∙◌}
use mathlib.Core.Bool.{Bool, true, cond}
use mathlib.Core.List.{List}
use lib.ListN.{get_or, set, take, drop}
use Rattle.machine.specs.Words.{next}
use Rattle.machine.specs.Keys.{ready_after}
use Rattle.run.specs.Run.{Start, ended_by}
use Rattle.run.specs.Refusals.{admission_of, Accepted}
use Rattle.run.specs.Call.{call_of}
use Rattle.monitor.specs.Calls.{stack_of, StackApart, Begins}
use Rattle.monitor.proofs.Execution.{Frame, View, psr_at, memory_with, At, Quiet}
use Rattle.monitor.proofs.Intact.{word_at}
use Rattle.monitor.proofs.Instructions.{slot_is}
use Rattle.monitor.proofs.Entries.{called_frame, up_one, up_two, psr_parts, returned_frame, returned_view, return_once}
use Rattle.monitor.proofs.Calls.{psr_is_defined, words_below_lem, words_above_lem, call_stands, call_halts}
use Rattle.monitor.proofs.Calls.{steps_are_made, six_is_restored, ssp_is_restored}
use Rattle.monitor.proofs.Paths.{Readable, Ends}
use Rattle.interruptions.specs.GoesOn.{OnTheWay, ShownBefore, ResumedLater, HaltedLater}
use Rattle.interruptions.proofs.Following.{Rest, twin, beside, own_plan}
use Rattle.interruptions.proofs.Standing.{Standing, shorter}
use Rattle.interruptions.proofs.Ways.{same_word}

module _ (uses : ℕ → Bool) (words : ℕ) (user : Bool) (s : Start) (n : ℕ) (b : Begins uses words user s n)
    (two : 2 ≤ words) (may : ℕ → Bool) (below : ℕ) (apart : StackApart (words + below) (stack_of s.machine))
    (away : (a : ℕ) → may a ≡ true → Readable (words + below) (stack_of s.machine) a) {r : Start} {i : ℕ}
    {shown : List ℕ} {end : View} {x : Rest} (st : Standing (called_frame uses words user s) below r i shown end x)
    (m : ℕ) (accepted : admission_of r m ≡ Accepted) where
  abbrev f : Frame
  f = called_frame uses words user s

  abbrev top : ℕ
  top = stack_of s.machine

  abbrev g : Frame
  g = beside f r.memory r.output

  abbrev last : View
  last = twin end x

  below_is : take (top - (words + below)) (memory_with top r.memory x.cells)
      ≡ take (top - (words + below)) s.memory
  below_is =
      let h = apart.above_monitor in
      shorter (top - (words + below)) (top - words) (memory_with top r.memory x.cells) r.memory
      (omega arith) (words_below_lem b.stack r.memory x.cells st.like.fine)
      ∙ st.words_below_lem

  above_is : drop top (memory_with top r.memory x.cells) ≡ drop top s.memory
  above_is = words_above_lem b.stack r.memory x.cells st.like.fine ∙ st.words_above_lem

  -- ---- it returns

  module _ (quiet : Quiet r 0 m) (more : suc i ≤ m) {address : ℕ}
      (ends : Ends uses words user s address end) where
    pc_there : word_at g last (top - 2) ≡ next s.machine.pc
    pc_there =
        slot_is g st.sound last st.like.fine 2 (omega arith) two
        ∙ st.like.slots 2 ends.pc_stored (let d = ends.depth in omega (arith, d))
        ∙ ends.returns.pc

    psr_there : word_at g last (next (top - 2)) ≡ s.machine.psr
    psr_there =
        ap (λ (a : ℕ). word_at g last a) (up_one b.stack two)
        ∙ slot_is g st.sound last st.like.fine 1 (omega arith) (omega arith)
        ∙ st.like.slots 1 ends.psr_stored (let d = ends.depth in omega (arith, d))
        ∙ ends.returns.psr

    at_back : At r 0 (suc i) (returned_frame g user (top - 2) s.machine.psr)
        (returned_view g last user (top - 2) s.machine.psr (next s.machine.pc))
    at_back =
        return_once g st.sound last ends.returns.going st.like.fine
        (own_plan quiet f r.memory r.output shown st.sound st.total may (same_word f below may away st) end
        x ends.own
        ∙ ends.returns.plan)
        (top - 2) (next s.machine.pc) s.machine.psr ends.returns.six pc_there psr_there
        (psr_is_defined s n b) user b.mode st.at (quiet.at st.at more)

    up_again : next (next (top - 2)) ≡ cond user s.machine.saved_ssp (get_or s.machine.regs 6 0)
    up_again =
        up_two b.stack two
        ∙ ap (λ (u : Bool). cond u s.machine.saved_ssp (get_or s.machine.regs 6 0)) b.mode

    pub resumed : (regs : List ℕ) → set end.regs 6 (get_or s.machine.regs 6 0) ≡ regs → (bytes : List ℕ)
        → end.bytes ≡ bytes → ResumedLater s shown r m (suc i) bytes (words + below) regs
    resumed regs same bytes all =
        let q = call_stands at_back m accepted more in
        record {
          made = steps_are_made at_back m accepted more;
          ending = rw q;
          last = x.bytes;
          all = sym all ∙ st.like.bytes;
          last_shown = rw q;
          last_output = rw q;
          pc = rw q;
          psr = rw q (sym (psr_parts s.machine.psr));
          registers_are = rw q
              (ap (λ (y : ℕ). set end.regs 6 y)
              (six_is_restored s.machine.saved_ssp s.machine.saved_usp (get_or s.machine.regs 6 0)
              (next (next (top - 2))) user up_again)
              ∙ same);
          saved_ssp_lem = rw q
              (ssp_is_restored s.machine.saved_ssp s.machine.saved_usp (get_or s.machine.regs 6 0)
              (next (next (top - 2))) user up_again);
          saved_usp_lem = rw (q, b.mode);
          mcr = rw q ends.returns.going;
          words_below_lem = rw q below_is;
          words_above_lem = rw q above_is;
        }

    -- KBSR by the keys that have arrived.
    pub keyboard_then : (call_of r (suc i)).machine.devices.kbsr
        ≡ ready_after (take ((call_of r (suc i)).keys - x.read) (drop x.read r.bytes)) x.status
    keyboard_then = rw (call_stands at_back m accepted more) at_back.kbsr

  -- ---- it halts

  pub halted : {total last : ℕ} (o : OnTheWay s total last words below r m) → o.shown ≡ shown
      → ShownBefore o.interrupted → i < m → end.mcr ≡ 0 → end.pc ≡ 0x027E
      → psr_at f end ≡ s.machine.psr / 8 % 4096 * 8 + 1 → end.regs ≡ set s.machine.regs 6 0x2FFE
      → (bytes : List ℕ) → end.bytes ≡ bytes → HaltedLater s total last words below r m o bytes
  unfolding ended_by
  halted o shown_is before more off pc psr regs bytes all =
      let q = call_halts st.at m accepted more off in
      record {
        before = before;
        ending = rw q;
        mcr = rw q off;
        last_bytes = x.bytes;
        all = sym all ∙ st.like.bytes ∙ rw shown_is;
        last_shown = rw q;
        last_output = rw q;
        pc = rw q pc;
        psr = rw q psr;
        registers_are = rw q regs;
        saved_ssp_lem = rw q;
        saved_usp_lem = rw (q, b.mode);
        words_below_lem = rw q below_is;
        words_above_lem = rw q above_is;
      }
