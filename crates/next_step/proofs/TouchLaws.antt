-- What an outcome touches, for each access: by the definitions.
use Prim.Native.Nat.{ℕ}
use mathlib.Core.Path.{◌≡◌, refl}
use mathlib.Core.Bool.{Bool, true, false, cond}
use mathlib.Core.List.{List, [], ◌∷◌, ◌++◌}
use lib.Dec.{eqb}
use lib.ListN.{set}
use Rattle.machine.specs.declared.Machine.{Machine}
use Rattle.machine.specs.declared.Rule.TheVariants.{Instruction}
use Rattle.machine.specs.Edition.{Edition}
use Rattle.machine.specs.Outcome.{Outcome, touching, with_reads}
use Rattle.machine.specs.Devices.{KBSR, KBDR, DSR, DDR, TSR, TIR, PSR, is_device_by, lent_word_by, ddr_store}
use Rattle.machine.specs.Devices.{device_store}
use Rattle.machine.specs.Devices.{stored_by}
use Rattle.machine.proofs.Tests.{either_branch}
use Rattle.telling.specs.declared.Addresses.{Addresses}
use Rattle.telling.specs.declared.Touched.{Touched}
use Rattle.telling.specs.Told.{prepended, addresses_of, untouched, after_pointer, touched_in}

-- The lent word behind an address, before others and by itself.
lent_first : (e : Edition) (a : ℕ) (l : List ℕ)
    → addresses_of (lent_word_by e a ++ l) ≡ cond (is_device_by e a) (addresses_of l) (prepended a (addresses_of l))
unfolding lent_word_by
lent_first e a l = go (is_device_by e a)
  where
    go : (t : Bool)
        → addresses_of (cond t [] (a ∷ []) ++ l) ≡ cond t (addresses_of l) (prepended a (addresses_of l))
    go true = refl
    go false = refl

pub lent_alone : (e : Edition) (a : ℕ)
    → addresses_of (lent_word_by e a) ≡ cond (is_device_by e a) (addresses_of []) (prepended a (addresses_of []))
unfolding lent_word_by
lent_alone e a = go (is_device_by e a)
  where
    go : (t : Bool) → addresses_of (cond t [] (a ∷ [])) ≡ cond t (addresses_of []) (prepended a (addresses_of []))
    go true = refl
    go false = refl

pub pointer_touches : (e : Edition) (a : ℕ) (o : Outcome)
    → touched_in (with_reads (lent_word_by e a) o) ≡ after_pointer e a (touched_in o)
unfolding with_reads
pointer_touches e a o = rw (lent_first e a o.reads) refl

-- A store to a device register touches no lent word.
abbrev Nothing : Outcome → Type 0
Nothing o = touched_in o ≡ untouched

device_touches : (v a : ℕ) (m : Machine) (mem : List ℕ) → Nothing (device_store v a m mem)
unfolding device_store ddr_store
device_touches v a m mem =
    either_branch Nothing (eqb a KBSR) refl
    (either_branch Nothing (eqb a KBDR) refl
    (either_branch Nothing (eqb a DSR) refl
    (either_branch Nothing (eqb a DDR) refl
    (either_branch Nothing (eqb a TSR) refl
    (either_branch Nothing (eqb a TIR) refl
    (either_branch Nothing (eqb a PSR) refl refl))))))

abbrev storing : Addresses → Touched
storing writes = record { rule = Instruction; reads = addresses_of []; writes = writes }

pub stored_touches : (e : Edition) (v a : ℕ) (m : Machine) (mem : List ℕ)
    → touched_in (stored_by e v a m mem)
    ≡ storing (cond (is_device_by e a) (addresses_of []) (prepended a (addresses_of [])))
unfolding stored_by
stored_touches e v a m mem = go (is_device_by e a)
  where
    go : (t : Bool)
        → touched_in (cond t (device_store v a m mem) (touching [] (a ∷ []) m (set mem a v)))
        ≡ storing (cond t (addresses_of []) (prepended a (addresses_of [])))
    go true = device_touches v a m mem
    go false = refl
