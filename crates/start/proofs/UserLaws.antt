-- How a start in User mode is turned away, by the number: that of loading comes first, and every number leaves zeros.
use Prim.Native.Nat.{ℕ, zero, suc, ◌≤◌}
use mathlib.Core.Path.{◌≡◌, refl, sym}
use mathlib.Core.List.{List}
use lib.ListN.{length}
use mathlib.Core.Bool.{Bool}
use Rattle.std.specs.Prelude.{Err}
use Rattle.lent.specs.declared.Refusal.{Refusal}
use Rattle.lent.specs.Lent.{refusal_number}
use Rattle.object.specs.Calls.{load_refusal, load_of, loading}
use Rattle.object.proofs.Acceptance.{accepted_is_readable}
use Rattle.object.proofs.CallLaws.{not_zero}
use Rattle.start.specs.Start.{zero_machine, started_from, started_of, user_refusal_after, user_refusal}
use Rattle.start.specs.Start.{user_started_by, user_started_of, starting}
use Rattle.start.proofs.RecordLaws.{refused_record_is_zero}

-- A file that loading accepts has its origin.
pub two_bytes : (file memory : List ℕ) → 0 ≡ load_refusal file memory → 2 ≤ length file
two_bytes file memory e = (accepted_is_readable file memory (sym e)).least

pub loading_refused_first : (n : ℕ) (file : List ℕ) → (n ≡ 0 → ⊥) → n ≡ user_refusal_after n file
unfolding user_refusal_after
loading_refused_first zero file h = absurd (h refl)
loading_refused_first (suc n) file h = refl

-- A refusal of loading is the start's.
pub user_refused_by_loading : (r : Refusal) (file memory : List ℕ) → refusal_number r ≡ load_refusal file memory
    → refusal_number r ≡ user_refusal file memory
unfolding user_refusal
user_refused_by_loading r file memory e = rw (← e) (loading_refused_first (refusal_number r) file (not_zero r))

pub start_refused : (r : Refusal) (file memory memory' : List ℕ) (user : Bool) (userStack : ℕ)
    → loading (Err r) memory' ≡ load_of file memory → starting (Err r) memory' ≡ started_of file memory user userStack
unfolding started_of started_from
start_refused r file memory memory' user userStack e =
    rw (← e, refused_record_is_zero (refusal_number r) 0 user userStack (not_zero r))

pub user_start_refused : (n : ℕ) (file memory : List ℕ) (userStack : ℕ) → (n ≡ 0 → ⊥)
    → record { machine = zero_machine; words = 0; refusal = n; memory = memory }
    ≡ user_started_by n file memory userStack
unfolding user_started_by
user_start_refused zero file memory userStack h = absurd (h refl)
user_start_refused (suc n) file memory userStack h = refl

pub user_starting_refused : (r : Refusal) (file memory : List ℕ) (userStack : ℕ)
    → refusal_number r ≡ user_refusal file memory → starting (Err r) memory ≡ user_started_of file memory userStack
unfolding user_started_of
user_starting_refused r file memory userStack e =
    rw (← e) (user_start_refused (refusal_number r) file memory userStack (not_zero r))
