-- A step of User mode that makes an entry: whatever it was, it left registers and words alone before the entry.
use Prim.Native.Nat.{ℕ}
use mathlib.Core.Path.{◌≡◌, refl, sym, ap, subst, ◌∙◌}
use mathlib.Core.Bool.{true}
use mathlib.Core.List.{List, [], ◌∷◌}
use Rattle.machine.specs.declared.Machine.{Machine}
use Rattle.machine.specs.Psr.{in_user_mode}
use Rattle.machine.specs.Outcome.{Reason, Cause, instruction, entered, Outcome}
use Rattle.machine.specs.Outcome.{with_reads}
use Rattle.machine.specs.Entry.{entry, raised}
use Rattle.machine.specs.Step.{obeyed}
use Rattle.monitor.proofs.Modes.{in_user_mode_lem}

-- What the cause says.
abbrev is_entry : Cause → Type 0
is_entry instruction = ⊥
is_entry (entered reason psr pc) = Unit {0}

abbrev reason_in : Reason → Cause → Reason
reason_in other instruction = other
reason_in other (entered reason psr pc) = reason

abbrev pc_in : Cause → ℕ
pc_in instruction = 0
pc_in (entered reason psr pc) = pc

-- The outcome is that entry, but for the words read before it.
pub record Raised (o : Outcome) (m : Machine) (mem : List ℕ) (reason : Reason) (pc : ℕ) : Type 0 where
  pub machine : o.machine ≡ (raised reason pc m mem).machine
  pub memory : o.memory ≡ (raised reason pc m mem).memory
  pub shown : o.shown ≡ (raised reason pc m mem).shown

abbrev OnlyRaises : Machine → List ℕ → Outcome → Type 0
OnlyRaises m mem o = (reason : Reason) (psr pc : ℕ) → o.cause ≡ entered reason psr pc → Raised o m mem reason pc

obeys : (m : Machine) (mem : List ℕ) (o : Outcome) → o.cause ≡ instruction → OnlyRaises m mem o
obeys m mem o e reason psr pc q = absurd (subst is_entry (sym q ∙ e) tt)

raises : (m : Machine) (mem : List ℕ) (why : Reason) (at : ℕ) → OnlyRaises m mem (raised why at m mem)
unfolding raised entry
raises m mem why at reason psr pc q =
    let r : why ≡ reason = ap (reason_in why) q in
    let p : at ≡ pc = ap pc_in q in
    rw (r, p) (record { machine = refl; memory = refl; shown = refl })

with_reads_lem : (m : Machine) (mem addresses : List ℕ) (o : Outcome) → OnlyRaises m mem o
    → OnlyRaises m mem (with_reads addresses o)
unfolding with_reads
with_reads_lem m mem addresses o h reason psr pc q =
    let r = h reason psr pc q in
    record { machine = r.machine; memory = r.memory; shown = r.shown }

pub user_raises : (m : Machine) (mem : List ℕ) → in_user_mode m.psr ≡ true → OnlyRaises m mem (obeyed m mem)
user_raises m mem user =
    in_user_mode_lem m mem user (OnlyRaises m mem)
    (record {
      raises = λ reason pc v. raises m mem reason pc;
      ends = λ regs pc c e. obeys m mem _ refl;
      stores = λ v a u. obeys m mem _ refl;
      reads = λ a o u h. with_reads_lem m mem (a ∷ []) o h;
    })
