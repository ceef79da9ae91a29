-- Demand 3 over the calls of a sitting. Each call goes on from the record and the memory that the one before it left;
-- keys and output are handed in anew. Two such sittings, with the same n in each call, agree call by call as demand 3
-- says of one run: up to the first trap or exception of the sitting, in whichever call it comes.
use Rattle.std.specs.Prelude.{ℕ, ◌+◌, ◌≡◌, List, [], ◌∷◌}
use Rattle.machine.specs.Visible.{hidden_of}
use Rattle.run.specs.Run.{Start, End}
use Rattle.run.specs.Refusals.{admission_of, Accepted}
use Rattle.run.specs.Call.{start_of, call_of}
use Rattle.run.specs.Noninterference.{MeetsNone, NoInterrupt, Premises, Agreement}

-- What a host hands to a later call besides n: "whatever .. the key lists and the display outputs are".
pub record Lent : Type 0 where
  pub times : List ℕ
  pub bytes : List ℕ
  pub output : List ℕ

-- A later call of both sittings.
pub record Later : Type 0 where
  pub steps : ℕ
  pub lent₁ : Lent
  pub lent₂ : Lent

-- The start of a call that goes on from what the one before left.
abbrev pub going_on : End → Lent → Start
going_on e l = start_of e.machine e.memory l.times l.bytes l.output

-- What demand 3 asks of a later call. Nothing is asked of records and memories: they are as the calls before left them.
pub record LaterPremises (s₁ s₂ : Start) (n : ℕ) : Type 0 where
  -- "accepted runs of n steps"
  pub accepted₁ : admission_of s₁ n ≡ Accepted
  pub accepted₂ : admission_of s₂ n ≡ Accepted
  -- "and let neither take an interrupt before its first trap or exception"
  pub no_interrupt₁ : NoInterrupt s₁ n
  pub no_interrupt₂ : NoInterrupt s₂ n

-- Of each call after one of n steps, as long as no trap or exception is met.
unfoldable pub EachPremises : Start → Start → ℕ → List Later → Type 0
EachPremises s₁ s₂ n [] = Unit {0}
EachPremises s₁ s₂ n (c ∷ calls) =
    MeetsNone s₁ n → MeetsNone s₂ n
    → LaterPremises (going_on (call_of s₁ n) c.lent₁) (going_on (call_of s₂ n) c.lent₂) c.steps
    × EachPremises (going_on (call_of s₁ n) c.lent₁) (going_on (call_of s₂ n) c.lent₂) c.steps calls

-- Two sittings that began at these starts and have made so many steps, in their next call, from s₁ and s₂.
pub record CallAgreement (first₁ first₂ : Start) (made₁ made₂ : ℕ) (s₁ s₂ : Start) (n : ℕ) : Type 0 where
  -- all that demand 3 says of the two calls: what is equal, that nothing is displayed, the first trap or exception with
  -- its step, vector and pushes, the number of steps and the stop
  pub agreement : Agreement s₁ s₂ n
  -- "at the same step", counted from the start of the sitting: the calls before made equally many
  pub same_steps_before : made₁ ≡ made₂
  -- "in each run the words outside that range, MCR and both saved stack pointers are as at its start", the sitting's
  pub hidden_kept₁ : hidden_of s₁.machine s₁.memory ≡ hidden_of first₁.machine first₁.memory
  pub hidden_kept₂ : hidden_of s₂.machine s₂.memory ≡ hidden_of first₂.machine first₂.memory
  -- where one meets none, the other meets none, so that both sittings go on
  pub none_by_second : MeetsNone s₁ n → MeetsNone s₂ n
  pub none_by_first : MeetsNone s₂ n → MeetsNone s₁ n

-- Of this call, and of each later one as long as no trap or exception is met.
unfoldable pub EachAgreement : Start → Start → ℕ → ℕ → Start → Start → ℕ → List Later → Type 0
EachAgreement first₁ first₂ made₁ made₂ s₁ s₂ n [] = CallAgreement first₁ first₂ made₁ made₂ s₁ s₂ n
EachAgreement first₁ first₂ made₁ made₂ s₁ s₂ n (c ∷ calls) =
    CallAgreement first₁ first₂ made₁ made₂ s₁ s₂ n
    × (MeetsNone s₁ n → MeetsNone s₂ n
    → EachAgreement first₁ first₂ (made₁ + (call_of s₁ n).steps) (made₂ + (call_of s₂ n).steps)
    (going_on (call_of s₁ n) c.lent₁) (going_on (call_of s₂ n) c.lent₂) c.steps calls)

abbrev pub ContinuedNoninterference : Type 0
ContinuedNoninterference = (s₁ s₂ : Start) (n : ℕ) (calls : List Later) → Premises s₁ s₂ n → EachPremises s₁ s₂ n calls
    → EachAgreement s₁ s₂ 0 0 s₁ s₂ n calls
