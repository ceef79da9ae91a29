-- The same run in a frame that relies on fewer of the monitor's words: so a way tells at which addresses it is.
use Prim.Native.Nat.{ℕ}
use mathlib.Core.Path.{◌≡◌, sym, ap, subst}
use mathlib.Core.Bool.{Bool, true, ◌&&◌}
use mathlib.Core.List.{List}
use Rattle.machine.specs.Words.{next}
use Rattle.machine.proofs.Tests.{both_true}
use Rattle.run.specs.Run.{Start}
use Rattle.monitor.proofs.Execution.{Frame, View, At}
use Rattle.monitor.proofs.Intact.{usable}
use Rattle.monitor.proofs.Instructions.{plan_at, use_at}
use Rattle.monitor.proofs.Paths.{calm_use, calm, Path, stays, knows, makes, jumps, fetches, attends, joins}
use Rattle.interruptions.proofs.Following.{Rest, twin, beside}
use Rattle.interruptions.proofs.Standing.{Standing}

-- With these words in the place of its own.
abbrev pub relying : Frame → (ℕ → Bool) → Frame
relying f uses = record {
  uses = uses;
  words = f.words;
  sp = f.sp;
  high = f.high;
  ssp = f.ssp;
  usp = f.usp;
  memory = f.memory;
  output = f.output;
}

module _ (f : Frame) (uses uses' : ℕ → Bool) {q : Start} {j : ℕ} where
  same_at : (mem out : List ℕ) (v : View) → At q 0 j (beside (relying f uses) mem out) v
      → At q 0 j (beside (relying f uses') mem out) v
  same_at mem out v a = record {
    keys = a.keys;
    devices = a.devices;
    clock = a.clock;
    ticks = a.ticks;
    order = a.order;
    equal = a.equal;
    arrived_by_lem = a.arrived_by_lem;
    read_before = a.read_before;
    kbsr = a.kbsr;
    kbdr = a.kbdr;
    rest_of_status = a.rest_of_status;
    status_below = a.status_below;
    timer = a.timer;
    stands = a.stands;
    quiet = a.quiet;
  }

  -- It stands in a frame as in another, where it stood somewhere in that one.
  pub relied : {below i : ℕ} {shown : List ℕ} {w w' : View} {x x' : Rest}
      → Standing (relying f uses') below q i shown w' x' → Standing (relying f uses) below q j shown w x
      → Standing (relying f uses') below q j shown w x
  relied {w = w} {x = x} there st =
      let l = st.like in
      let k = st.kept in
      record {
        sound = there.sound;
        total = st.total;
        words_below_lem = st.words_below_lem;
        words_above_lem = st.words_above_lem;
        like = record { fine = l.fine; bytes = l.bytes; busy = l.busy; slots = l.slots };
        kept = record { eight = k.eight; six = k.six; few = k.few };
        at = same_at q.memory q.output (twin w x) st.at;
      }

  -- Of fewer words.
  pub narrowed : ((a : ℕ) → uses' a ≡ true → uses a ≡ true) → {below : ℕ} {shown : List ℕ} {w : View} {x : Rest}
      → Standing (relying f uses) below q j shown w x → Standing (relying f uses') below q j shown w x
  narrowed fewer {w = w} {x = x} st =
      let l = st.like in
      let k = st.kept in
      let s = st.sound in
      record {
        sound = record {
          above = s.above;
          intact = record { words = λ a used. s.intact.words a (fewer a used); size = s.intact.size };
          stack = s.stack;
        };
        total = st.total;
        words_below_lem = st.words_below_lem;
        words_above_lem = st.words_above_lem;
        like = record { fine = l.fine; bytes = l.bytes; busy = l.busy; slots = l.slots };
        kept = record { eight = k.eight; six = k.six; few = k.few };
        at = same_at q.memory q.output (twin w x) st.at;
      }

-- A way is at words that its frame relies on, where its end is.
pub inside : {f : Frame} {may : ℕ → Bool} {v v' : View} {n : ℕ} → Path f may v n v' → usable f v'.pc ≡ true
    → usable f v.pc ≡ true
unfolding calm plan_at
inside {f} (stays e z) there = subst (λ (pc : ℕ). usable f pc ≡ true) (sym (ap (λ (y : View). y.pc) e)) there
inside {f} (knows c codes e z) there = subst (λ (pc : ℕ). usable f pc ≡ true) (sym (ap (λ (y : View). y.pc) e)) there
inside {f} {v = v} (makes room has_room k steps calms e z) there =
    (both_true (usable f v.pc) (calm_use f v (use_at f v)) calms).0
inside (jumps going fine own pc plan e z) there = own
inside (fetches going fine own a w ok r plan is e z) there = own
inside {f} (attends u going fine r pc p busy regs c first last z) there =
    subst (λ (y : View). usable f y.pc ≡ true) first
    (both_true (usable f pc) (usable f (next pc) && usable f p.pointer) p.own).0
inside (joins w i j first second z) there = inside first (inside second there)
