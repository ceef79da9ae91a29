-- What stays so along a way, and what was so before: R6 is where the view says, and the words stored are the stack's.
use Prim.Native.Nat.{ℕ, ◌-◌, ◌%◌, ◌≤◌, ◌<◌}
use native.Mathlib.Omega.{arith}
use mathlib.Core.Path.{◌≡◌, refl, subst}
use mathlib.Core.Bool.{Bool, true, false, cond, ◌&&◌}
use mathlib.Core.List.{List, [], ◌∷◌}
use lib.Dec.{eqb}
use lib.ListN.{length, length-append}
use Rattle.machine.specs.declared.Plan.{Plan}
use Rattle.machine.specs.declared.Plan.TheVariants.{Move, Put, Jump, Load, LoadBy, Store, StoreBy, Call, Illegal}
use Rattle.machine.specs.declared.Plan.TheVariants.{Return}
use Rattle.machine.specs.Words.{next, with_register}
use Rattle.machine.specs.Devices.{MCR}
use Rattle.machine.proofs.Tests.{both_true}
use Rattle.monitor.proofs.Execution.{Frame, Known, from, View}
use Rattle.monitor.proofs.Intact.{cells_fine, word_at}
use Rattle.monitor.proofs.Instructions.{plan_at, changed, valued}
use Rattle.monitor.proofs.Instructions.{stepped, may_step, performed, clocked, showing, Use, loads_slot, stores_slot}
use Rattle.monitor.proofs.Instructions.{moves_stack, leaves_stack, elsewhere, used, may_use, use_at, on_stack_lem}
use Rattle.monitor.proofs.Entries.{within}
use Rattle.monitor.proofs.Paths.{Path, stays, knows, makes, jumps, fetches, attends, joins}

-- What is so at the end of a way was so at its beginning: R6 was known, the words stored were the stack's, and no more
-- bytes had been shown.
pub record Before (f : Frame) (v v' : View) : Type 0 where
  pub known : 0 < v'.depth → 0 < v.depth
  pub fine : cells_fine f.words v'.cells ≡ true → cells_fine f.words v.cells ≡ true
  pub fewer : length v.bytes ≤ length v'.bytes

alike : (f : Frame) (v v' : View) → v'.depth ≡ v.depth → v'.cells ≡ v.cells → v'.bytes ≡ v.bytes → Before f v v'
alike f v v' depth cells bytes = record {
  known = λ h. rw depth at h;
  fine = λ h. rw cells at h;
  fewer = rw bytes (omega arith);
}

module _ (f : Frame) (v : View) (room : ℕ) (fine : cells_fine f.words v.cells ≡ true) where
  before_plan : (plan : Plan) → Before f v (performed f v plan)
  before_plan (Move r x pc) = alike f v (performed f v (Move r x pc)) refl refl refl
  before_plan (Put r x pc) = alike f v (performed f v (Put r x pc)) refl refl refl
  before_plan (Jump pc) = alike f v (performed f v (Jump pc)) refl refl refl
  before_plan (Load r a) = alike f v (performed f v (Load r a)) refl refl refl
  before_plan (LoadBy r a) = alike f v (performed f v (LoadBy r a)) refl refl refl
  before_plan (Store x a) = alike f v v refl refl refl
  before_plan (StoreBy x a) = go (eqb (word_at f v a) MCR)
    where
      go : (b : Bool) → Before f v (cond b (clocked v x) (showing v (x % 256)))
      go true = alike f v (clocked v x) refl refl refl
      go false = record {
        known = λ h. h;
        fine = λ h. h;
        fewer = (let z = length-append v.bytes ((x % 256) ∷ []) in omega (arith, z));
      }
  before_plan (Call vector) = alike f v v refl refl refl
  before_plan Illegal = alike f v v refl refl refl
  before_plan Return = alike f v v refl refl refl

  before_use : (u : Use) → may_use f v room u ≡ true → Before f v (used f v u)
  before_use (loads_slot r n) may = alike f v (used f v (loads_slot r n)) refl refl refl
  before_use (stores_slot r n) may = record { known = λ h. h; fine = λ h. fine; fewer = omega arith }
  before_use (moves_stack n) may = record {
    known = λ h. (on_stack_lem f v n may).some;
    fine = λ h. h;
    fewer = omega arith;
  }
  before_use (leaves_stack n) may = record { known = λ h. absurd (omega arith); fine = λ h. h; fewer = omega arith }
  before_use elsewhere may = before_plan (plan_at f v)

  before_step : may_step f room v ≡ true → Before f v (stepped f v)
  unfolding stepped may_step plan_at
  before_step may =
      let outer = both_true (eqb v.mcr 0x8000) (cells_fine f.words v.cells && may_use f v room (use_at f v)) may
      in
      before_use (use_at f v) (both_true (cells_fine f.words v.cells) (may_use f v room (use_at f v)) outer.1).1

-- The test of a step looks at the words stored.
step_fine : (f : Frame) (v : View) (room : ℕ) → may_step f room v ≡ true → cells_fine f.words v.cells ≡ true
unfolding may_step plan_at
step_fine f v room may =
    let outer = both_true (eqb v.mcr 0x8000) (cells_fine f.words v.cells && may_use f v room (use_at f v)) may in
    (both_true (cells_fine f.words v.cells) (may_use f v room (use_at f v)) outer.1).0

waited_before : (f : Frame) (u v v' : View) (regs : List ℕ) (r pc busy : ℕ) (c : Known) → within u regs pc c busy ≡ v
    → within u (with_register regs r 0x8000) (next (next pc)) (from 0x8000) 0 ≡ v' → Before f v v'
waited_before f u v v' regs r pc busy c first last =
    subst (λ (x : View). Before f x v') first
    (subst (λ (x : View). Before f (within u regs pc c busy) x) last
    (alike f (within u regs pc c busy) (within u (with_register regs r 0x8000) (next (next pc)) (from 0x8000) 0) refl
    refl refl))

pub before : {f : Frame} {may : ℕ → Bool} {v v' : View} {n : ℕ} → Path f may v n v' → Before f v v'
before {f} {v = v} (stays e z) = subst (λ (x : View). Before f v x) e (alike f v v refl refl refl)
before {f} {v = v} (knows c codes e z) =
    subst (λ (x : View). Before f v x) e (alike f v (within v v.regs v.pc c v.busy) refl refl refl)
before {f} {v = v} (makes room has_room k steps calms e z) =
    subst (λ (x : View). Before f v x) e (before_step f v room (step_fine f v room steps) steps)
before {f} {v = v} (jumps going fine own pc plan e z) =
    subst (λ (x : View). Before f v x) e
    (alike f v (changed v v.regs pc v.codes v.cells) refl refl refl)
before {f} {v = v} (fetches going fine own a w ok r plan is e z) =
    subst (λ (x : View). Before f v x) e (alike f v (valued v 1 w (next v.pc)) refl refl refl)
before {f} {v = v} {v' = v'} (attends u going fine r pc p busy regs c first last z) =
    waited_before f u v v' regs r pc busy c first last
before (joins w i j first second z) =
    let a = before first in
    let b = before second in
    record {
      known = λ h. a.known (b.known h);
      fine = λ h. a.fine (b.fine h);
      fewer = omega (arith, a.fewer, b.fewer);
    }
