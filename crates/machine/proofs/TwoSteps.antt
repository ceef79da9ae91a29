-- Two steps side by side, in User mode: what an instruction asks for is one function of what User mode sees, so two
-- steps that take no interrupt look the same afterwards or make the same entry. By the plan that they share, and never
-- by the instruction.
use Rattle.machine.specs.declared.Interrupt.{Interrupt}
use Rattle.std.specs.Prelude.{Option, None, Some}
use Prim.Native.Nat.{ℕ}
use mathlib.Core.Path.{◌≡◌, refl}
use mathlib.Core.Bool.{true, false, true≢false}
use mathlib.Core.List.{List, []}
use lib.ListN.{get_or}
use Rattle.word.specs.Reading.{read_of}
use Rattle.machine.specs.declared.Machine.{Machine}
use Rattle.machine.specs.declared.Plan.{Plan}
use Rattle.machine.specs.declared.Plan.TheVariants.{Move, Put, Jump, Load, LoadBy, Store, StoreBy, Call, Illegal}
use Rattle.machine.specs.declared.Plan.TheVariants.{Return}
use Rattle.machine.specs.Psr.{in_user_mode}
use Rattle.machine.specs.Outcome.{trap, privilege, illegal, Outcome}
use Rattle.machine.specs.Keys.{after_keys}
use Rattle.machine.specs.Timer.{after_timer}
use Rattle.machine.specs.Interrupts.{pending_interrupt}
use Rattle.machine.specs.Entry.{entry, interrupted}
use Rattle.machine.specs.Access.{load_to, store_at}
use Rattle.machine.specs.Return.{return}
use Rattle.machine.specs.Plan.{plan_of}
use Rattle.machine.specs.Step.{perform_by, perform, obeyed_by, obeyed, interrupted_or_obeyed_by, interrupted_or_obeyed}
use Rattle.machine.specs.Step.{after_tick, ended, after_start, step_by, step_of}
use Rattle.machine.specs.Visible.{SameVisible, Hidden, hidden_of}
use Rattle.machine.specs.Causes.{takes_interrupt}
use Rattle.machine.specs.TwoSteps.{SameOutcome, both_obey, both_enter, TwoStepsAgree}
use Rattle.machine.proofs.TwoAccesses.{reads_do_not_matter}
use Rattle.machine.proofs.TwoAccesses.{second_in_user_mode, entries_agree, checks_agree, user_words_agree}
use Rattle.machine.proofs.TwoAccesses.{instructions_end_alike, next_agrees, loads_to_register_agree}
use Rattle.machine.proofs.TwoAccesses.{stores_of_value_agree, accesses_by_pointer_agree}

module _ (m₁ m₂ : Machine) (mem₁ mem₂ : List ℕ) (g : SameVisible m₁ m₂ mem₁ mem₂) (u : in_user_mode m₁.psr ≡ true)
  where
    returns_agree : SameOutcome (hidden_of m₁ mem₁) (hidden_of m₂ mem₂) (return m₁ mem₁) (return m₂ mem₂)
    unfolding return
    returns_agree = rw (u, second_in_user_mode m₁ m₂ mem₁ mem₂ g u)
        (entries_agree m₁ m₂ mem₁ mem₂ g u privilege refl g.pc)

    plans_agree : (p : Plan) → SameOutcome (hidden_of m₁ mem₁) (hidden_of m₂ mem₂) (perform p m₁ mem₁)
        (perform p m₂ mem₂)
    unfolding perform_by
    plans_agree (Move r v pc) = instructions_end_alike m₁ m₂ mem₁ mem₂ g u (cc) refl refl
    plans_agree (Put r v pc) = instructions_end_alike m₁ m₂ mem₁ mem₂ g u (cc) refl refl
    plans_agree (Jump pc) = instructions_end_alike m₁ m₂ mem₁ mem₂ g u g.regs refl refl
    plans_agree (Load r a) = loads_to_register_agree m₁ m₂ mem₁ mem₂ g u r a a refl
    plans_agree (LoadBy r a) =
        accesses_by_pointer_agree m₁ m₂ mem₁ mem₂ g u a (load_to r)
        (λ n₁ n₂ h w a₁ a₂ q. loads_to_register_agree n₁ n₂ mem₁ mem₂ h w r a₁ a₂ q)
    plans_agree (Store v a) = stores_of_value_agree m₁ m₂ mem₁ mem₂ g u v a a refl
    plans_agree (StoreBy v a) =
        accesses_by_pointer_agree m₁ m₂ mem₁ mem₂ g u a (store_at v)
        (λ n₁ n₂ h w a₁ a₂ q. stores_of_value_agree n₁ n₂ mem₁ mem₂ h w v a₁ a₂ q)
    plans_agree (Call vector) = entries_agree m₁ m₂ mem₁ mem₂ g u (trap vector) refl (next_agrees m₁ m₂ mem₁ mem₂ g u)
    plans_agree Illegal = entries_agree m₁ m₂ mem₁ mem₂ g u illegal refl g.pc
    plans_agree Return = returns_agree

    obeyed_instructions_agree : SameOutcome (hidden_of m₁ mem₁) (hidden_of m₂ mem₂) (obeyed m₁ mem₁) (obeyed m₂ mem₂)
    unfolding obeyed_by
    obeyed_instructions_agree =
        checks_agree m₁ m₂ mem₁ mem₂ g u m₁.pc m₂.pc g.pc
        (λ w.
        let f : get_or mem₁ m₁.pc 0 ≡ get_or mem₂ m₂.pc 0 = user_words_agree m₁ m₂ mem₁ mem₂ g u m₁.pc m₂.pc
        g.pc w in
        let p₁ : Plan = plan_of m₁.regs m₁.pc m₁.psr (read_of (get_or mem₁ m₁.pc 0)) in
        let e : plan_of m₁.regs m₁.pc m₁.psr (read_of (get_or mem₁ m₁.pc 0))
        ≡ plan_of m₂.regs m₂.pc m₂.psr (read_of (get_or mem₂ m₂.pc 0)) = cc in
        reads_do_not_matter _ _ _ _ _ _ (rw (← e) (plans_agree p₁)))

-- The start of a step, keys and the timer's count, changes nothing that User mode sees.
start_leaves_visible : (m₁ m₂ : Machine) (mem₁ mem₂ keys₁ keys₂ : List ℕ) → SameVisible m₁ m₂ mem₁ mem₂
    → SameVisible (after_start keys₁ m₁) (after_start keys₂ m₂) mem₁ mem₂
unfolding after_keys after_timer
start_leaves_visible m₁ m₂ mem₁ mem₂ keys₁ keys₂ g = record
    { regs = g.regs; pc = g.pc; psr = g.psr; mcr = g.mcr; words = g.words }

pub no_interrupt_is_obeyed : (p : Option Interrupt) (m : Machine) (mem : List ℕ)
    → takes_interrupt (interrupted_or_obeyed p m mem).cause ≡ false
    → interrupted_or_obeyed p m mem ≡ obeyed m mem
unfolding interrupted_or_obeyed_by interrupted entry
no_interrupt_is_obeyed None m mem h = refl
no_interrupt_is_obeyed (Some q) m mem h = absurd (true≢false h)

-- The clocks move on, and stay out of sight.
ticks_do_not_matter : (h₁ h₂ : Hidden) (o₁ o₂ : Outcome) → SameOutcome h₁ h₂ o₁ o₂
    → SameOutcome h₁ h₂ (ended o₁) (ended o₂)
unfolding ended after_tick
ticks_do_not_matter h₁ h₂ o₁ o₂ (both_obey g c₁ c₂) =
    both_obey (record { regs = g.regs; pc = g.pc; psr = g.psr; mcr = g.mcr; words = g.words })
    (record { user = c₁.user; hidden_kept = c₁.hidden_kept; shows_nothing = c₁.shows_nothing; obeys = c₁.obeys })
    (record { user = c₂.user; hidden_kept = c₂.hidden_kept; shows_nothing = c₂.shows_nothing; obeys = c₂.obeys })
ticks_do_not_matter h₁ h₂ o₁ o₂ (both_enter r x y t e₁ e₂ z₁ z₂) = both_enter r x y t e₁ e₂ z₁ z₂

-- One step of each run: keys, devices, clocks and the words outside x3000 to xFDFF may differ.
pub two_steps_agree : TwoStepsAgree
unfolding step_by ended after_keys after_timer
two_steps_agree m₁ m₂ mem₁ mem₂ keys₁ keys₂ g u i₁ i₂ =
    let n₁ : Machine = after_start keys₁ m₁ in
    let n₂ : Machine = after_start keys₂ m₂ in
    ticks_do_not_matter _ _ _ _
    (rw (
      no_interrupt_is_obeyed (pending_interrupt n₁) n₁ mem₁ i₁,
      no_interrupt_is_obeyed (pending_interrupt n₂) n₂ mem₂
          i₂,
    )
    (obeyed_instructions_agree n₁ n₂ mem₁ mem₂ (start_leaves_visible m₁ m₂ mem₁ mem₂ keys₁ keys₂ g) u))

-- A step in User mode shows nothing, the interrupt included: by two steps from one and the same record.
pub user_mode_shows_nothing : (m : Machine) (mem keys : List ℕ) → in_user_mode m.psr ≡ true → (step_of keys m mem).shown
    ≡ []
unfolding step_by ended after_keys after_timer interrupted_or_obeyed_by interrupted entry
user_mode_shows_nothing m mem keys u = go (pending_interrupt n)
  where
    n : Machine
    n = after_start keys m

    shown : SameOutcome (hidden_of n mem) (hidden_of n mem) (obeyed n mem) (obeyed n mem) → (obeyed n mem).shown ≡ []
    shown (both_obey g c₁ c₂) = c₁.shows_nothing
    shown (both_enter r x y t e₁ e₂ z₁ z₂) = z₁

    go : (p : Option Interrupt) → (interrupted_or_obeyed p n mem).shown ≡ []
    go (Some q) = refl
    go None = shown (obeyed_instructions_agree n n mem mem
        (record { regs = refl; pc = refl; psr = refl; mcr = refl; words = refl }) u)
