-- What keeps interrupts away stays as it is in User mode: a step that meets no trap or exception alters neither the
-- priority nor what is enabled. By going through a step once, for any property of the record that instructions, loads
-- and the passing of time leave alone.
use Prim.Native.Nat.{ℕ, zero, suc, ◌+◌, ◌*◌, ◌/◌, ◌%◌, ◌≤◌, ◌<◌}
use mathlib.Core.Path.{◌≡◌, refl, sym, ap, ◌∙◌}
use mathlib.Core.Bool.{Bool, true, false, cond, true≢false}
use mathlib.Core.List.{List, [], ◌∷◌}
use native.Mathlib.Omega.{arith}
use borrow.Author.Tests.{leb-true, le-leb, lt-leb, le-ltb}
use lib.Dec.{eqb, leb}
use lib.ListN.{get_or}
use Rattle.word.specs.Reading.{read_of}
use Rattle.machine.specs.declared.Machine.{Machine}
use Rattle.machine.specs.declared.Plan.{Plan}
use Rattle.machine.specs.declared.Plan.TheVariants.{Move, Put, Jump, Load, LoadBy, Store, StoreBy}
use Rattle.machine.specs.declared.Plan.TheVariants.{Call, Illegal, Return}
use Rattle.machine.specs.Record.{Timer, timer_of}
use Rattle.machine.specs.Words.{next}
use Rattle.machine.specs.Psr.{Codes, kept, set_from, recoded, codes_of, in_user_mode, priority_of}
use Rattle.machine.specs.Outcome.{Reason, trap, privilege, illegal, access, Outcome, with_reads, after_instruction}
use Rattle.machine.specs.Keys.{ready_after, after_keys}
use Rattle.machine.specs.Timer.{is_off, expired, one_less, fallen_to, ticked, after_timer}
use Rattle.machine.specs.Interrupts.{may_interrupt, timer_may_interrupt, keyboard_may_interrupt}
use Rattle.machine.specs.Protection.{denied}
use Rattle.machine.specs.Entry.{entry, raised}
use Rattle.machine.specs.Devices.{is_device_by, kbsr_after_load, timer_status_after_load, after_load, stored_by, stored}
use Rattle.machine.specs.Devices.{KBDR, TSR}
use Rattle.machine.specs.Access.{checked, load_to_by, load_to, store_at_by, store_at, by_pointer_by, by_pointer}
use Rattle.machine.specs.Return.{return}
use Rattle.machine.specs.Plan.{plan_of}
use Rattle.machine.specs.Step.{perform_by, perform, obeyed_by, obeyed, after_tick, ended, after_start, step_by, step_of}
use Rattle.machine.specs.Causes.{is_trap_or_exception, meets_trap_or_exception}
use Rattle.machine.proofs.Tests.{or_of_false, and_false, either_branch}
use Rattle.machine.proofs.MemoryParts.{UserAddress}
use Rattle.machine.proofs.TwoAccesses.{allowed_in_user_mode}
use Rattle.machine.proofs.StepLaws.{codes_of_below}
use Rattle.machine.proofs.InterruptRule.{interrupt_is_due, otherwise_the_word_is_obeyed}
use Rattle.statements.specs.Demand3.{Disabled, NoneEnabled}

-- A property that holds in User mode alone, lets no device interrupt, and is left alone by all that User mode can do.
pub record Calm (C : Machine → Type 0) : Type 0 where
  pub user : (m : Machine) → C m → in_user_mode m.psr ≡ true
  pub none_due : (keys : List ℕ) (m : Machine) → C m → interrupt_is_due keys m ≡ false
  pub after_start_lem : (keys : List ℕ) (m : Machine) → C m → C (after_start keys m)
  pub after_instruction_lem : (regs : List ℕ) (pc : ℕ) (codes : Codes) (m : Machine) → C m
      → C (after_instruction regs pc codes m)
  pub after_load_lem : (a : ℕ) (m : Machine) → C m → C (after_load a m)
  pub after_tick_lem : (shown : List ℕ) (m : Machine) → C m → C (after_tick shown m)

module _ (C : Machine → Type 0) (K : Calm C) where
  abbrev Stays : Outcome → Type 0
  Stays o = meets_trap_or_exception o.cause ≡ false → C o.machine

  raised_stays : (reason : Reason) (pc : ℕ) (m : Machine) (mem : List ℕ) → is_trap_or_exception reason ≡ true
      → Stays (raised reason pc m mem)
  unfolding raised entry
  raised_stays reason pc m mem t h = absurd (true≢false (sym t ∙ h))

  checked_stays : (a : ℕ) (m : Machine) (mem : List ℕ) (o : Outcome) → (denied m.psr a ≡ false → Stays o)
      → Stays (checked a m mem o)
  checked_stays a m mem o f = go (denied m.psr a) refl
    where
      go : (t : Bool) → denied m.psr a ≡ t → Stays (cond t (raised access m.pc m mem) o)
      go true e = raised_stays access m.pc m mem refl
      go false e = f e

  stored_stays : (v a : ℕ) (m : Machine) (mem : List ℕ) → UserAddress a → C m → Stays (stored v a m mem)
  unfolding stored_by is_device_by
  stored_stays v a m mem w c = rw (lt-leb 0xFE00 a w.high) (λ h. c)

  load_to_stays : (r a : ℕ) (m : Machine) (mem : List ℕ) → C m → Stays (load_to r a m mem)
  unfolding load_to_by
  load_to_stays r a m mem c =
      checked_stays a m mem _ (λ d h. K.after_instruction_lem _ _ _ (after_load a m) (K.after_load_lem a m c))

  store_at_stays : (v a : ℕ) (m : Machine) (mem : List ℕ) → C m → Stays (store_at v a m mem)
  unfolding store_at_by
  store_at_stays v a m mem c =
      checked_stays a m mem _
      (λ d. stored_stays v a (after_instruction m.regs (next m.pc) kept m) mem
      (allowed_in_user_mode m.psr a (K.user m c) d) (K.after_instruction_lem _ _ _ m c))

  by_pointer_stays : (a : ℕ) (data-access : ℕ → Machine → List ℕ → Outcome) (m : Machine) (mem : List ℕ) → C m
      → ((b : ℕ) (n : Machine) → C n → Stays (data-access b n mem)) → Stays (by_pointer a data-access m mem)
  unfolding by_pointer_by with_reads
  by_pointer_stays a data-access m mem c f =
      checked_stays a m mem _ (λ d. f _ (after_load a m) (K.after_load_lem a m c))

  plan_stays : (p : Plan) (m : Machine) (mem : List ℕ) → C m → Stays (perform p m mem)
  unfolding perform_by return
  plan_stays (Move r v pc) m mem c = λ h. K.after_instruction_lem _ _ _ m c
  plan_stays (Put r v pc) m mem c = λ h. K.after_instruction_lem _ _ _ m c
  plan_stays (Jump pc) m mem c = λ h. K.after_instruction_lem _ _ _ m c
  plan_stays (Load r a) m mem c = load_to_stays r a m mem c
  plan_stays (LoadBy r a) m mem c = by_pointer_stays a (load_to r) m mem c (λ b n d. load_to_stays r b n mem d)
  plan_stays (Store v a) m mem c = store_at_stays v a m mem c
  plan_stays (StoreBy v a) m mem c = by_pointer_stays a (store_at v) m mem c (λ b n d. store_at_stays v b n mem d)
  plan_stays (Call vector) m mem c = raised_stays (trap vector) (next m.pc) m mem refl
  plan_stays Illegal m mem c = raised_stays illegal m.pc m mem refl
  plan_stays Return m mem c = rw (K.user m c) (raised_stays privilege m.pc m mem refl)

  obeyed_stays : (m : Machine) (mem : List ℕ) → C m → Stays (obeyed m mem)
  unfolding obeyed_by with_reads
  obeyed_stays m mem c =
      checked_stays m.pc m mem _
      (λ d. plan_stays (plan_of m.regs m.pc m.psr (read_of (get_or mem m.pc 0))) m mem c)

  pub calm_step : (keys : List ℕ) (m : Machine) (mem : List ℕ) → C m → Stays (step_of keys m mem)
  unfolding ended
  calm_step keys m mem c =
      rw (otherwise_the_word_is_obeyed keys m mem (K.none_due keys m c))
      (λ h. K.after_tick_lem _ _ (obeyed_stays (after_start keys m) mem (K.after_start_lem keys m c) h))

-- ---- a priority of 6 or more

recoded_in_user_mode : (c : Codes) (psr : ℕ) → in_user_mode psr ≡ true → in_user_mode (recoded c psr) ≡ true
unfolding in_user_mode recoded
recoded_in_user_mode kept psr u = u
recoded_in_user_mode (set_from v) psr u =
    let h : 0x8000 ≤ psr = leb-true 0x8000 psr u in
    le-leb 0x8000 (psr / 8 * 8 + codes_of v) (omega arith)

recoded_priority : (c : Codes) (psr : ℕ) → 6 ≤ priority_of psr → 6 ≤ priority_of (recoded c psr)
unfolding recoded
recoded_priority kept psr h = h
recoded_priority (set_from v) psr h = let b : codes_of v < 8 = codes_of_below v in omega arith

priority_forbids : (status p psr : ℕ) → p ≤ priority_of psr → may_interrupt status p psr ≡ false
priority_forbids status p psr h = rw (le-ltb (priority_of psr) p h) (and_false (leb 0xC000 status))

pub record HighPriority (m : Machine) : Type 0 where
  pub user : in_user_mode m.psr ≡ true
  pub priority : 6 ≤ priority_of m.psr

pub high_priority_is_calm : Calm HighPriority
unfolding after_keys after_timer after_instruction after_load after_tick
high_priority_is_calm = record {
  user = λ m c. c.user;
  none_due =
      λ keys m c.
      or_of_false (timer_may_interrupt (after_start keys m)) (keyboard_may_interrupt (after_start keys m))
      (priority_forbids (after_start keys m).devices.timer_status 6 m.psr c.priority)
      (priority_forbids (after_start keys m).devices.kbsr 4 m.psr (omega (arith, c.priority)));
  after_start_lem = λ keys m c. record { user = c.user; priority = c.priority };
  after_instruction_lem =
      λ regs pc codes m c. record {
        user = recoded_in_user_mode codes m.psr c.user;
        priority = recoded_priority codes m.psr c.priority;
      };
  after_load_lem = λ a m c. record { user = c.user; priority = c.priority };
  after_tick_lem = λ shown m c. record { user = c.user; priority = c.priority };
}

-- ---- nothing enabled

ready_disabled : (s : ℕ) → Disabled s → Disabled (s % 0x8000 + 0x8000)
ready_disabled s d = record { is_word = omega (arith, d.enable_clear); enable_clear = omega (arith, d.enable_clear) }

cleared_disabled : (s : ℕ) → Disabled s → Disabled (s % 0x8000)
cleared_disabled s d = record {
  is_word = omega (arith, d.enable_clear);
  enable_clear = omega (arith, d.enable_clear);
}

keys_disabled : (keys : List ℕ) (s : ℕ) → Disabled s → Disabled (ready_after keys s)
unfolding ready_after
keys_disabled [] s d = d
keys_disabled (b ∷ keys) s d = keys_disabled keys (s % 0x8000 + 0x8000) (ready_disabled s d)

abbrev TimerDisabled : Timer → Type 0
TimerDisabled t = Disabled t.status

ticked_disabled : (t : Timer) → Disabled t.status → Disabled (ticked t).status
unfolding ticked
ticked_disabled t d =
    either_branch TimerDisabled (is_off t) {x = t} {y = fallen_to t} d
    (either_branch TimerDisabled (leb t.count 1) {x = expired t} {y = one_less t} (ready_disabled t.status d) d)

disabled_forbids : (status p psr : ℕ) → Disabled status → may_interrupt status p psr ≡ false
disabled_forbids status p psr d = rw (lt-leb 0xC000 status (omega (arith, d.is_word, d.enable_clear)))

pub record CalmDevices (m : Machine) : Type 0 where
  pub user : in_user_mode m.psr ≡ true
  pub none : NoneEnabled m

started_devices : (keys : List ℕ) (m : Machine) → NoneEnabled m → NoneEnabled (after_start keys m)
unfolding after_keys after_timer
started_devices keys m c = record {
  keyboard = keys_disabled keys m.devices.kbsr c.keyboard;
  timer = ticked_disabled (timer_of m.devices) c.timer;
}

pub calm_devices_are_calm : Calm CalmDevices
unfolding after_keys after_timer after_instruction after_load after_tick kbsr_after_load timer_status_after_load
calm_devices_are_calm = record {
  user = λ m c. c.user;
  none_due =
      λ keys m c.
      or_of_false (timer_may_interrupt (after_start keys m)) (keyboard_may_interrupt (after_start keys m))
      (disabled_forbids _ 6 m.psr (started_devices keys m c.none).timer)
      (disabled_forbids _ 4 m.psr (started_devices keys m c.none).keyboard);
  after_start_lem = λ keys m c. record { user = c.user; none = started_devices keys m c.none };
  after_instruction_lem =
      λ regs pc codes m c. record {
        user = recoded_in_user_mode codes m.psr c.user;
        none = record { keyboard = c.none.keyboard; timer = c.none.timer };
      };
  after_load_lem =
      λ a m c. record {
        user = c.user;
        none = record {
          keyboard = either_branch Disabled (eqb a KBDR) (cleared_disabled _ c.none.keyboard) c.none.keyboard;
          timer = either_branch Disabled (eqb a TSR) (cleared_disabled _ c.none.timer) c.none.timer;
        };
      };
  after_tick_lem = λ shown m c. record {
    user = c.user;
    none = record { keyboard = c.none.keyboard; timer = c.none.timer };
  };
}
