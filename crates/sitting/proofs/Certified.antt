-- The theorem for any monitor that passes the test: a sitting keeps the invariant, so no step of it reads or writes a
-- secret word.
use Prim.Native.Nat.{ℕ, ◌-◌}
use native.Mathlib.Omega.{arith}
use mathlib.Core.Path.{◌≡◌, refl, sym, ap, subst, ◌∙◌}
use mathlib.Core.Bool.{Bool, true, false, cond, ◌||◌, not, true≢false}
use mathlib.Core.List.{List, [], ◌∷◌}
use borrow.Author.Tests.{eqb-true}
use lib.Dec.{eqb}
use Rattle.machine.specs.declared.Machine.{Machine}
use Rattle.machine.specs.declared.Devices.{Devices}
use Rattle.machine.proofs.Tests.{either_branch}
use Rattle.footprint.specs.Altered.{SameOutside}
use Rattle.run.specs.declared.Ending.{Ending}
use Rattle.run.specs.Run.{Start}
use Rattle.run.specs.AlteredWords.{Variants}
use Rattle.logging.specs.declared.LoggedEnding.TheVariants.{Run}
use Rattle.logging.specs.LoggedRun.{Logged, run_in}
use Rattle.sitting.specs.Sitting.{is_enabled, stack_from, Call, start_at, answer_to, answer_after, Begins, SameAnswers}
use Rattle.sitting.specs.Sitting.{Guarded}
use Rattle.sitting.specs.Certified.{Loaded, CertifiedTellsNothing}
use Rattle.sitting.proofs.Runs.{Kept, logged_call_keeps, call_keeps, logged_calls_alike, calls_alike}
use Rattle.sitting.proofs.Invariant.{Words, core_of, Stands, in_user_mode_lem, in_routine, interrupted_once}
use Rattle.sitting.proofs.Invariant.{interrupted_twice, Enabled, pushed_in, CannotInterrupt, Setting, lowest}
use Rattle.sitting.proofs.Invariant.{secret, Disabled, Invariant, fixed_word_is_open}
use Rattle.sitting.proofs.Interrupts.{step_keeps}

words_stand : {g : Setting} {m : Machine} {mem : List ℕ} → Invariant g m mem → Words g.claim mem
words_stand {g} {m} {mem} i = go i.stands
  where
    go : Stands g (core_of m) mem → Words g.claim mem
    go (in_user_mode_lem s) = s.memory
    go (in_routine r) = r.known.memory
    go (interrupted_once o b) = b.memory
    go (interrupted_twice e b) = b.memory

-- ---- the devices that may interrupt

abbrev enabled_for : Devices → Enabled
enabled_for d = record { keyboard = is_enabled d.kbsr; timer = is_enabled d.timer_status }

lowest_for : (l : ℕ) (d : Devices) → l - pushed_in (enabled_for d) ≡ stack_from l d
unfolding stack_from
lowest_for l d = omega arith

cannot_interrupt : (status : ℕ) → is_enabled status ≡ false → CannotInterrupt status
unfolding is_enabled
cannot_interrupt status h = go (eqb status 0) refl (eqb status 0x8000) refl h
  where
    go : (x : Bool) → eqb status 0 ≡ x → (y : Bool) → eqb status 0x8000 ≡ y → not (x || y) ≡ false
        → CannotInterrupt status
    go true e y f h = let z : status ≡ 0 = eqb-true status 0 e in (omega arith, omega arith)
    go false e true f h = let z : status ≡ 0x8000 = eqb-true status 0x8000 f in (omega arith, omega arith)
    go false e false f h = absurd (true≢false h)

disabled_for : (d : Devices) → Disabled (enabled_for d) d
disabled_for d = (cannot_interrupt d.kbsr, cannot_interrupt d.timer_status)

-- ---- one sitting, in calls

module _ (g : Setting) where
  start_stands : (c : Call) (m : Machine) (memory : List ℕ) → Invariant g m memory
      → Invariant g (start_at c m memory).machine (start_at c m memory).memory
  unfolding start_at
  start_stands c m memory i =
      either_branch (λ (m : Machine). Invariant g m memory) c.restarts
      (record { disabled = i.disabled; stands = i.stands }) i

  abbrev StandsAfter : List ℕ → Logged → Type 0
  StandsAfter before a = Kept (secret g) (Invariant g) before (run_in a)

  call_stands : (c : Call) (m : Machine) (memory : List ℕ) → Invariant g m memory
      → StandsAfter memory (answer_to c m memory)
  unfolding answer_to start_at
  call_stands c m memory i =
      let j : Invariant g (start_at c m memory).machine memory = start_stands c m memory i in
      either_branch (StandsAfter memory) c.logged
      (logged_call_keeps (secret g) (Invariant g) (step_keeps g) (start_at c m memory) j c.log c.steps)
      (call_keeps (secret g) (Invariant g) (step_keeps g) (start_at c m memory) j c.steps)

  sitting_stands : (earlier : List Call) (call : Call) (m : Machine) (memory : List ℕ) → Invariant g m memory
      → StandsAfter memory (answer_after earlier call m memory)
  unfolding answer_after
  sitting_stands [] call m memory i = call_stands call m memory i
  sitting_stands (c ∷ earlier) call m memory i =
      let s : StandsAfter memory (answer_to c m memory) = call_stands c m memory i in
      let t : StandsAfter (answer_to c m memory).memory
      (answer_after earlier call (answer_to c m memory).machine (answer_to c m memory).memory) =
      sitting_stands earlier call (answer_to c m memory).machine (answer_to c m memory).memory
      s.invariant in
      record { invariant = t.invariant; kept = λ a h. t.kept a h ∙ s.kept a h }

  -- ---- two sittings

  abbrev Alike : Logged → Logged → Type 0
  Alike = SameAnswers (secret g)

  starts_alike : (c : Call) (m : Machine) (memory₁ memory₂ : List ℕ) → SameOutside (secret g) memory₁ memory₂
      → Variants (secret g) (start_at c m memory₁) (start_at c m memory₂)
  unfolding start_at
  starts_alike c m memory₁ memory₂ v =
      record { machine = refl; memory = v; times = refl; bytes = refl; output = refl }

  calls_answer_alike : (c : Call) (m : Machine) (memory₁ memory₂ : List ℕ) → SameOutside (secret g) memory₁ memory₂
      → Invariant g m memory₁ → Alike (answer_to c m memory₁) (answer_to c m memory₂)
  unfolding answer_to
  calls_answer_alike c m memory₁ memory₂ v i =
      let s₁ : Start = start_at c m memory₁ in
      let s₂ : Start = start_at c m memory₂ in
      let w : Variants (secret g) (start_at c m memory₁) (start_at c m memory₂) = starts_alike c m memory₁ memory₂ v in
      let j = start_stands c m memory₁ i in
      let alike = calls_alike (secret g) (Invariant g) (step_keeps g) s₁ s₂ w j c.steps in
      go c.logged (logged_calls_alike (secret g) (Invariant g) (step_keeps g) s₁ s₂ w j c.log c.steps)
      (record { run = alike; log = refl; words = refl; ending = ap (λ (e : Ending). Run e) alike.ending })
    where
      go : (logged : Bool) {a₁ b₁ a₂ b₂ : Logged} → Alike a₁ a₂ → Alike b₁ b₂
          → Alike (cond logged a₁ b₁) (cond logged a₂ b₂)
      go true a b = a
      go false a b = b

  sittings_alike : (earlier : List Call) (call : Call) (m : Machine) (memory₁ memory₂ : List ℕ)
      → SameOutside (secret g) memory₁ memory₂ → Invariant g m memory₁
      → Alike (answer_after earlier call m memory₁) (answer_after earlier call m memory₂)
  unfolding answer_after
  sittings_alike [] call m memory₁ memory₂ v i = calls_answer_alike call m memory₁ memory₂ v i
  sittings_alike (c ∷ earlier) call m memory₁ memory₂ v i =
      let a : Alike (answer_to c m memory₁) (answer_to c m memory₂) = calls_answer_alike c m memory₁ memory₂ v i in
      subst (λ (n : Machine).
      Alike (answer_after earlier call (answer_to c m memory₁).machine (answer_to c m memory₁).memory)
      (answer_after earlier call n (answer_to c m memory₂).memory)) a.run.machine
      (sittings_alike earlier call (answer_to c m memory₁).machine (answer_to c m memory₁).memory
      (answer_to c m memory₂).memory a.run.memory (call_stands c m memory₁ i).invariant)

  -- ---- the start

  begins_well : (m : Machine) (memory : List ℕ) → Begins (Loaded g.claim.cells) m memory
      → Disabled g.enabled m.devices → Invariant g m memory
  begins_well m memory b q = record {
    disabled = q;
    stands = in_user_mode_lem (record {
      memory = record { size = b.size; intact = b.intact };
      eight = b.registers;
      user = b.user_mode_lem;
      stack = b.stack;
    });
  }

  -- The monitor's words are not secret, so a memory that differs in secret words has them too.
  begins_too : (m : Machine) (memory₁ memory₂ : List ℕ) → SameOutside (secret g) memory₁ memory₂
      → Begins (Loaded g.claim.cells) m memory₁ → Begins (Loaded g.claim.cells) m memory₂
  begins_too m memory₁ memory₂ v b = record {
    registers = b.registers;
    size = sym v.size ∙ b.size;
    user_mode_lem = b.user_mode_lem;
    intact = λ a x h. sym (v.words a (fixed_word_is_open g a x h)) ∙ b.intact a x h;
    stack = b.stack;
  }

  guarded : (earlier : List Call) (call : Call) (m : Machine) (memory : List ℕ) → Invariant g m memory
      → Guarded (Loaded g.claim.cells) (secret g) memory (answer_after earlier call m memory).memory
  guarded earlier call m memory i =
      let t : StandsAfter memory (answer_after earlier call m memory) = sitting_stands earlier call m memory i in
      record {
        secrets = t.kept;
        size = (words_stand t.invariant).size;
        intact = (words_stand t.invariant).intact;
      }

pub certified_tells_nothing : CertifiedTellsNothing
certified_tells_nothing c passed m memory₁ memory₂ b v earlier call =
    let g : Setting = record { claim = c; passed = passed; enabled = enabled_for m.devices } in
    let e : lowest g ≡ stack_from c.lowest m.devices = lowest_for c.lowest m.devices in
    let v : SameOutside (secret g) memory₁ memory₂ = rw e v in
    let i₁ : Invariant g m memory₁ = begins_well g m memory₁ b (disabled_for m.devices) in
    let i₂ : Invariant g m memory₂ =
    begins_well g m memory₂ (begins_too g m memory₁ memory₂ v b) (disabled_for m.devices) in
    rw (← e)
    (record {
      same = sittings_alike g earlier call m memory₁ memory₂ v i₁;
      guarded₁ = guarded g earlier call m memory₁ i₁;
      guarded₂ = guarded g earlier call m memory₂ i₂;
    })
