-- Demand 3 over the calls of a sitting. A call that meets no trap or exception leaves both sittings looking the same,
-- in User mode, with what is hidden as it was: so `noninterference` speaks of the next call too.
use Prim.Native.Nat.{ℕ, ◌+◌}
use mathlib.Core.Path.{◌≡◌, refl, sym, ap, ◌∙◌}
use mathlib.Core.Bool.{true≢false}
use mathlib.Core.Logic.{◌⊎◌, inl, inr}
use mathlib.Core.List.{List, [], ◌∷◌}
use Rattle.machine.specs.Visible.{hidden_of}
use Rattle.machine.specs.Causes.{meets_trap_or_exception}
use Rattle.run.specs.Run.{Start}
use Rattle.run.specs.Call.{call_of}
use Rattle.run.specs.Noninterference.{First, MeetsNone, Premises}
use Rattle.run.proofs.Noninterference.{MeetsSomeFirst, meets_none_or_a_first, both_stop, noninterference}
use Rattle.statements.specs.Continued.{Later, going_on, EachPremises, CallAgreement, EachAgreement}
use Rattle.statements.specs.Continued.{ContinuedNoninterference}

-- ---- one call to the next

met_is_not_none : (s : Start) (n : ℕ) → MeetsSomeFirst s n → MeetsNone s n → ⊥
met_is_not_none s n x b =
    let f = x.4 in
    true≢false
    (sym f.is_trap_or_exception_lem ∙ (sym (ap meets_trap_or_exception f.enters) ∙ b.none x.0 f.made))

-- Where each first of one run is a first of another that meets none, the one meets none.
none_met : (s₁ s₂ : Start) (n : ℕ) → ((k vector psr pc : ℕ) → First s₂ n k vector psr pc → First s₁ n k vector psr pc)
    → MeetsNone s₁ n → MeetsNone s₂ n
none_met s₁ s₂ n f b = go (meets_none_or_a_first s₂ n)
  where
    go : MeetsNone s₂ n ⊎ MeetsSomeFirst s₂ n → MeetsNone s₂ n
    go (inl c) = c
    go (inr x) = absurd
        (met_is_not_none s₁ n (x.0, x.1, x.2, x.3, f x.0 x.1 x.2 x.3 x.4) b)

-- ---- every call

-- Where two sittings stand before a call.
record Standing (first₁ first₂ : Start) (made₁ made₂ : ℕ) (s₁ s₂ : Start) : Type 0 where
  same_steps : made₁ ≡ made₂
  hidden₁ : hidden_of s₁.machine s₁.memory ≡ hidden_of first₁.machine first₁.memory
  hidden₂ : hidden_of s₂.machine s₂.memory ≡ hidden_of first₂.machine first₂.memory

call_agrees : (first₁ first₂ : Start) (made₁ made₂ : ℕ) (s₁ s₂ : Start) (n : ℕ)
    → Standing first₁ first₂ made₁ made₂ s₁ s₂ → Premises s₁ s₂ n
    → CallAgreement first₁ first₂ made₁ made₂ s₁ s₂ n
call_agrees first₁ first₂ made₁ made₂ s₁ s₂ n w p = record {
  agreement = noninterference s₁ s₂ n p;
  same_steps_before = w.same_steps;
  hidden_kept₁ = w.hidden₁;
  hidden_kept₂ = w.hidden₂;
  none_by_second = none_met s₁ s₂ n (noninterference s₁ s₂ n p).met_by_first;
  none_by_first = none_met s₂ s₁ n (noninterference s₁ s₂ n p).met_by_second;
}

each_agrees : (first₁ first₂ : Start) (made₁ made₂ : ℕ) (s₁ s₂ : Start) (n : ℕ) (calls : List Later)
    → Standing first₁ first₂ made₁ made₂ s₁ s₂ → Premises s₁ s₂ n → EachPremises s₁ s₂ n calls
    → EachAgreement first₁ first₂ made₁ made₂ s₁ s₂ n calls
unfolding EachPremises EachAgreement
each_agrees first₁ first₂ made₁ made₂ s₁ s₂ n [] w p q = call_agrees first₁ first₂ made₁ made₂ s₁ s₂ n w p
each_agrees first₁ first₂ made₁ made₂ s₁ s₂ n (c ∷ calls) w p q = (
  call_agrees first₁ first₂ made₁ made₂ s₁ s₂ n w p,
  λ b₁ b₂.
      let o = both_stop s₁ s₂ n p b₁ in
      let l = (q b₁ b₂).0 in
      each_agrees first₁ first₂ (made₁ + (call_of s₁ n).steps) (made₂ + (call_of s₂ n).steps)
      (going_on (call_of s₁ n) c.lent₁) (going_on (call_of s₂ n) c.lent₂) c.steps calls
      (record {
        same_steps = cc (w.same_steps, o.steps);
        hidden₁ = o.related.undisturbed₁.hidden_kept ∙ w.hidden₁;
        hidden₂ = o.related.undisturbed₂.hidden_kept ∙ w.hidden₂;
      })
      (record {
        accepted₁ = l.accepted₁;
        accepted₂ = l.accepted₂;
        user_mode_lem = o.related.user;
        same_visible = o.related.same;
        no_interrupt₁ = l.no_interrupt₁;
        no_interrupt₂ = l.no_interrupt₂;
      })
      (q b₁ b₂).1,
)

pub continued_noninterference : ContinuedNoninterference
continued_noninterference s₁ s₂ n calls p q =
    each_agrees s₁ s₂ 0 0 s₁ s₂ n calls (record { same_steps = refl; hidden₁ = refl; hidden₂ = refl }) p q
