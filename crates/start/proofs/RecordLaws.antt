-- The record that is answered: zeros where loading is refused; else a fresh one, which no run refuses.
use Rattle.std.specs.Prelude.{Err}
use Prim.Native.Nat.{ℕ, zero, suc, ◌+◌, ◌^◌}
use native.Mathlib.Omega.{arith}
use mathlib.Core.Path.{◌≡◌, refl}
use mathlib.Core.Bool.{Bool, true, false, cond}
use mathlib.Core.List.{List}
use lib.Dec.{ltb}
use lib.ListN.{length}
use borrow.Author.Tests.{ltb-false, le-ltb, eq-eqb}
use Rattle.machine.specs.Psr.{defined_psr}
use Rattle.run.specs.declared.Refusal.TheVariants.{TooManySteps, UnequalLists}
use Rattle.run.specs.Fresh.{fresh_of}
use Rattle.run.specs.Refusals.{wrong_size, undefined_timer, undefined_devices, undefined_record, too_many_steps}
use Rattle.run.specs.Refusals.{unequal_lists}
use Rattle.run.specs.Refusals.{times_admission, admission_of}
use Rattle.run.specs.Call.{start_of}
use Rattle.start.specs.Start.{zero_machine, record_by}

pub refused_record_is_zero : (n origin : ℕ) (user : Bool) (userStack : ℕ) → (n ≡ 0 → ⊥)
    → zero_machine ≡ record_by n origin user userStack
unfolding record_by
refused_record_is_zero zero origin user userStack h = absurd (h refl)
refused_record_is_zero (suc n) origin user userStack h = refl

fresh_is_defined : (pc : ℕ) (user : Bool) (userStack : ℕ) → undefined_record (fresh_of pc user userStack) ≡ false
unfolding undefined_record undefined_devices undefined_timer fresh_of defined_psr
fresh_is_defined pc true userStack = refl
fresh_is_defined pc false userStack = refl

-- At clock 0 the limit on n alone counts.
limit_at_clock_0 : (n : ℕ) → too_many_steps 0 n ≡ ltb 1048576 n
unfolding too_many_steps
limit_at_clock_0 n = by_limit (ltb 1048576 n) refl
  where
    by_limit : (b : Bool) → ltb 1048576 n ≡ b → too_many_steps 0 n ≡ b
    by_limit true e = rw e refl
    by_limit false e = rw e (le-ltb (2 ^ 48) (0 + n) (omega (arith, ltb-false 1048576 n e)))

pub fresh_machine_admission : (pc : ℕ) (user : Bool) (userStack : ℕ) (memory times bytes output : List ℕ) (n : ℕ)
    → length memory ≡ 65536
    → admission_of (start_of (fresh_of pc user userStack) memory times bytes output) n
    ≡ cond (ltb 1048576 n) (Err TooManySteps)
    (cond (unequal_lists times bytes) (Err UnequalLists) (times_admission 0 0 0 times))
unfolding admission_of wrong_size fresh_of
fresh_machine_admission pc user userStack memory times bytes output n size =
    rw (eq-eqb (length memory) 65536 size, fresh_is_defined pc user userStack, limit_at_clock_0 n)
