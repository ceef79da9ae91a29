-- A step reads no other word than those named: by going through the definitions of a step once.
use Rattle.machine.specs.declared.Interrupt.{Interrupt}
use Rattle.std.specs.Prelude.{Option, None, Some}
use Prim.Native.Nat.{ℕ}
use mathlib.Core.Path.{◌≡◌, refl}
use mathlib.Core.Bool.{Bool, true, false, ◌||◌, false≢true}
use mathlib.Core.List.{List, [], ◌∷◌, ◌++◌}
use borrow.Author.Tests.{eq-eqb}
use lib.Dec.{eqb}
use lib.ListN.{get_or}
use Rattle.word.specs.Reading.{read_of}
use Rattle.machine.specs.declared.Machine.{Machine}
use Rattle.machine.specs.declared.Plan.{Plan}
use Rattle.machine.specs.declared.Plan.TheVariants.{Move, Put, Jump, Load, LoadBy, Store, StoreBy}
use Rattle.machine.specs.declared.Plan.TheVariants.{Call, Illegal, Return}
use Rattle.machine.specs.Edition.{Edition, third, second, linked, trapped}
use Rattle.machine.specs.Words.{next}
use Rattle.machine.specs.Psr.{in_user_mode, kept}
use Rattle.machine.specs.Outcome.{Reason, vector_of, trap, privilege, illegal, access, interrupt, Cause, Outcome}
use Rattle.machine.specs.Outcome.{instruction, with_reads, after_instruction}
use Rattle.machine.specs.Keys.{after_keys}
use Rattle.machine.specs.Timer.{after_timer}
use Rattle.machine.specs.Interrupts.{pending_interrupt}
use Rattle.machine.specs.Protection.{denied_by}
use Rattle.machine.specs.Entry.{entry, raised, interrupted}
use Rattle.machine.specs.Devices.{KBSR, KBDR, DSR, DDR, TSR, TIR, PSR, is_device_by, lent_word_by, loaded_value_by}
use Rattle.machine.specs.Devices.{after_load}
use Rattle.machine.specs.Devices.{ddr_store, device_store, stored_by}
use Rattle.machine.specs.Access.{checked_by, load_to_by, store_at_by, by_pointer_by}
use Rattle.machine.specs.Return.{popped, return}
use Rattle.machine.specs.Plan.{plan_by}
use Rattle.machine.specs.Step.{perform_by, obeyed_by, interrupted_or_obeyed_by, ended, after_start, step_by}
use Rattle.machine.proofs.Tests.{either_branch}
use Rattle.footprint.specs.Footprint.{Each}
use Rattle.footprint.specs.Altered.{is_among}
use Rattle.statements.specs.NoOtherReads.{reads_of_plan, vectors_of, StepReadsNoOther}

-- ---- addresses in lists

true_or : (p q : Bool) → q ≡ true → (p || q) ≡ true
true_or true q h = refl
true_or false q h = h

or_true : (p q r : Bool) → (p || q) ≡ true → (q ≡ true → r ≡ true) → (p || r) ≡ true
or_true true q r h f = refl
or_true false q r h f = f h

first_among : (a : ℕ) (xs : List ℕ) → is_among a (a ∷ xs) ≡ true
unfolding is_among
first_among a xs = rw (eq-eqb a a refl) refl

later_among : (a b : ℕ) (xs : List ℕ) → is_among a xs ≡ true → is_among a (b ∷ xs) ≡ true
unfolding is_among
later_among a b xs h = true_or (eqb a b) (is_among a xs) h

among_left : (a : ℕ) (xs ys : List ℕ) → is_among a xs ≡ true → is_among a (xs ++ ys) ≡ true
unfolding is_among
among_left a [] ys h = absurd (false≢true h)
among_left a (x ∷ xs) ys h =
    or_true (eqb a x) (is_among a xs) (is_among a (xs ++ ys)) h (λ k. among_left a xs ys k)

among_right : (a : ℕ) (xs ys : List ℕ) → is_among a ys ≡ true → is_among a (xs ++ ys) ≡ true
unfolding is_among
among_right a [] ys h = h
among_right a (x ∷ xs) ys h = true_or (eqb a x) (is_among a (xs ++ ys)) (among_right a xs ys h)

-- ---- outcomes

-- Each of these addresses is one of xs or the vector of this cause.
abbrev AllAmong : List ℕ → Cause → List ℕ → Type 0
AllAmong xs c addresses = Each (λ a. is_among a (xs ++ vectors_of c) ≡ true) addresses

abbrev ReadsAmong : List ℕ → Outcome → Type 0
ReadsAmong xs o = AllAmong xs o.cause o.reads

both_among : (xs : List ℕ) (c : Cause) (ys zs : List ℕ) → AllAmong xs c ys → AllAmong xs c zs → AllAmong xs c (ys ++ zs)
both_among xs c [] zs h k = k
both_among xs c (y ∷ ys) zs h k = (h.0, both_among xs c ys zs h.1 k)

-- One of xs is among them, whatever the cause.
one_among : (xs : List ℕ) (c : Cause) (a : ℕ) → is_among a xs ≡ true → AllAmong xs c (a ∷ [])
one_among xs c a h = (among_left a xs (vectors_of c) h, tt)

entry_among : (xs : List ℕ) (reason : Reason) (pc psr : ℕ) (m : Machine) (mem : List ℕ)
    → ReadsAmong xs (entry reason pc psr m mem)
unfolding entry
entry_among xs reason pc psr m mem =
    (among_right (vector_of reason) xs (vector_of reason ∷ []) (first_among (vector_of reason) []), tt)

raised_among : (xs : List ℕ) (reason : Reason) (pc : ℕ) (m : Machine) (mem : List ℕ)
    → ReadsAmong xs (raised reason pc m mem)
unfolding raised
raised_among xs reason pc m mem = entry_among xs reason pc _ m mem

device_store_among : (xs : List ℕ) (v a : ℕ) (m : Machine) (mem : List ℕ) → ReadsAmong xs (device_store v a m mem)
unfolding device_store ddr_store
device_store_among xs v a m mem =
    either_branch (ReadsAmong xs) (eqb a KBSR) tt
    (either_branch (ReadsAmong xs) (eqb a KBDR) tt
    (either_branch (ReadsAmong xs) (eqb a DSR) tt
    (either_branch (ReadsAmong xs) (eqb a DDR) tt
    (either_branch (ReadsAmong xs) (eqb a TSR) tt
    (either_branch (ReadsAmong xs) (eqb a TIR) tt (either_branch (ReadsAmong xs) (eqb a PSR) tt tt))))))

return_among : (xs : List ℕ) (m : Machine) (mem : List ℕ) → is_among (get_or m.regs 6 0) xs ≡ true
    → is_among (next (get_or m.regs 6 0)) xs ≡ true → ReadsAmong xs (return m mem)
unfolding return popped
return_among xs m mem h k =
    either_branch (ReadsAmong xs) (in_user_mode m.psr) (raised_among xs privilege m.pc m mem)
    (among_left _ xs [] h, (among_left _ xs [] k, tt))

trapped_among : (e : Edition) (xs : List ℕ) (vector : ℕ) (m : Machine) (mem : List ℕ) → is_among vector xs ≡ true
    → ReadsAmong xs (trapped e vector m mem)
unfolding linked
trapped_among third xs vector m mem h = raised_among xs (trap vector) (next m.pc) m mem
trapped_among second xs vector m mem h = (among_left vector xs [] h, tt)

module _ (e : Edition) (xs : List ℕ) where
  lent_among : (c : Cause) (a : ℕ) → is_among a xs ≡ true → AllAmong xs c (lent_word_by e a)
  unfolding lent_word_by
  lent_among c a h = either_branch (AllAmong xs c) (is_device_by e a) tt (one_among xs c a h)

  checked_among : (a : ℕ) (m : Machine) (mem : List ℕ) (o : Outcome) → ReadsAmong xs o
      → ReadsAmong xs (checked_by e a m mem o)
  checked_among a m mem o h =
      either_branch (ReadsAmong xs) (denied_by e m.psr a) (raised_among xs access m.pc m mem) h

  stored_among : (v a : ℕ) (m : Machine) (mem : List ℕ) → ReadsAmong xs (stored_by e v a m mem)
  unfolding stored_by
  stored_among v a m mem =
      either_branch (ReadsAmong xs) (is_device_by e a) (device_store_among xs v a m mem) tt

  load_to_among : (r a : ℕ) (m : Machine) (mem : List ℕ) → is_among a xs ≡ true → ReadsAmong xs (load_to_by e r a m mem)
  unfolding load_to_by
  load_to_among r a m mem h = checked_among a m mem _ (lent_among instruction a h)

  store_at_among : (v a : ℕ) (m : Machine) (mem : List ℕ) → ReadsAmong xs (store_at_by e v a m mem)
  unfolding store_at_by
  store_at_among v a m mem =
      checked_among a m mem _ (stored_among v a (after_instruction m.regs (next m.pc) kept m) mem)

  -- With words read before.
  with_reads_among : (addresses : List ℕ) (o : Outcome) → AllAmong xs o.cause addresses → ReadsAmong xs o
      → ReadsAmong xs (with_reads addresses o)
  unfolding with_reads
  with_reads_among addresses o h k = both_among xs o.cause addresses o.reads h k

  by_pointer_among : (a : ℕ) (data-access : ℕ → Machine → List ℕ → Outcome) (m : Machine) (mem : List ℕ)
      → is_among a xs ≡ true → ReadsAmong xs (data-access (loaded_value_by e a m mem) (after_load a m) mem)
      → ReadsAmong xs (by_pointer_by e a data-access m mem)
  unfolding by_pointer_by
  by_pointer_among a data-access m mem h k =
      let o : Outcome = data-access (loaded_value_by e a m mem) (after_load a m) mem in
      checked_among a m mem _ (with_reads_among (lent_word_by e a) o (lent_among o.cause a h) k)

plan_among : (e : Edition) (p : Plan) (m : Machine) (mem : List ℕ)
    → ReadsAmong (m.pc ∷ reads_of_plan e p m mem) (perform_by e p m mem)
unfolding perform_by
plan_among e (Move r v pc) m mem = tt
plan_among e (Put r v pc) m mem = tt
plan_among e (Jump pc) m mem = tt
plan_among e (Load r a) m mem = load_to_among e (m.pc ∷ a ∷ []) r a m mem (later_among a m.pc _ (first_among a []))
plan_among e (LoadBy r a) m mem =
    let b : ℕ = loaded_value_by e a m mem in
    by_pointer_among e (m.pc ∷ a ∷ b ∷ []) a (load_to_by e r) m mem (later_among a m.pc _ (first_among a (b ∷ [])))
    (load_to_among e (m.pc ∷ a ∷ b ∷ []) r b (after_load a m) mem
    (later_among b m.pc _ (later_among b a _ (first_among b []))))
plan_among e (Store v a) m mem = store_at_among e (m.pc ∷ []) v a m mem
plan_among e (StoreBy v a) m mem =
    by_pointer_among e (m.pc ∷ a ∷ []) a (store_at_by e v) m mem (later_among a m.pc _ (first_among a []))
    (store_at_among e (m.pc ∷ a ∷ []) v (loaded_value_by e a m mem) (after_load a m) mem)
plan_among e (Call vector) m mem =
    trapped_among e (m.pc ∷ vector ∷ []) vector m mem (later_among vector m.pc _ (first_among vector []))
plan_among e Illegal m mem = raised_among (m.pc ∷ []) illegal m.pc m mem
plan_among e Return m mem =
    let sp : ℕ = get_or m.regs 6 0 in
    return_among (m.pc ∷ sp ∷ next sp ∷ []) m mem (later_among sp m.pc _ (first_among sp _))
    (later_among (next sp) m.pc _ (later_among (next sp) sp _ (first_among (next sp) [])))

module _ (e : Edition) (m : Machine) (mem : List ℕ) where
  abbrev plan : Plan
  plan = plan_by e m.regs m.pc m.psr (read_of (get_or mem m.pc 0))

  abbrev named : List ℕ
  named = m.pc ∷ reads_of_plan e plan m mem

  obeyed_among : ReadsAmong named (obeyed_by e m mem)
  unfolding obeyed_by
  obeyed_among =
      checked_among e named m.pc m mem _
      (with_reads_among e named (m.pc ∷ []) (perform_by e plan m mem)
      (one_among named (perform_by e plan m mem).cause m.pc (first_among m.pc (reads_of_plan e plan m mem)))
      (plan_among e plan m mem))

  taken_among : (p : Option Interrupt) → ReadsAmong named (interrupted_or_obeyed_by e p m mem)
  unfolding interrupted_or_obeyed_by interrupted
  taken_among None = obeyed_among
  taken_among (Some q) = entry_among named (interrupt q.vector) m.pc _ m mem

pub step_reads_no_other : StepReadsNoOther
unfolding step_by ended
step_reads_no_other e keys m mem =
    taken_among e (after_start keys m) mem (pending_interrupt (after_start keys m))
