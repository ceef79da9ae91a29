-- TRAP in a routine, by what is known of the vector.
use Prim.Native.Nat.{ℕ}
use mathlib.Core.Path.{◌≡◌, refl}
use mathlib.Core.Bool.{false}
use Rattle.sitting.specs.Test.{Claim, State, fixed, own, hidden, value_in, calling, calls_from, calls_by}
use Rattle.ways.specs.Pushed.{pushed}

pub calls_fixed : (c : Claim) (pc w : ℕ) (σ : State)
    → calls_by c pc (fixed w) σ ≡ calls_from c pc w (value_in σ.regs 6) σ
unfolding calls_by
calls_fixed c pc w σ = refl

pub calls_own : (c : Claim) (pc : ℕ) (σ : State) → calls_by c pc own σ ≡ false
unfolding calls_by
calls_own c pc σ = refl

pub calls_hidden : (c : Claim) (pc : ℕ) (σ : State) → calls_by c pc hidden σ ≡ false
unfolding calls_by
calls_hidden c pc σ = refl

pub calling_is : (c : Claim) (pc sp : ℕ) (σ : State) → calling c pc sp σ ≡ pushed c.watched pc sp σ
unfolding calling
calling_is c pc sp σ = refl

pub ruleset called = (calls_fixed, calls_own, calls_hidden, calling_is)
