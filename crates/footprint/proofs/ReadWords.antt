-- Two steps from one record, with the same keys, from two memories: where these agree at all words that the first step
-- reads, both have the same effect. By accesses and by the plan that they share, never by the instruction; by either
-- edition.
use Rattle.machine.specs.declared.Interrupt.{Interrupt}
use Rattle.std.specs.Prelude.{Option, None, Some}
use Prim.Native.Nat.{ℕ, zero, suc}
use mathlib.Core.Path.{◌≡◌, refl}
use mathlib.Core.Bool.{Bool, true, false, cond}
use mathlib.Core.List.{List, [], ◌∷◌, ◌++◌}
use native.Mathlib.Omega.{arith}
use lib.Dec.{eqb}
use lib.ListN.{length, get_or, set, length-set}
use Rattle.word.specs.Reading.{read_of}
use Rattle.machine.specs.declared.Machine.{Machine}
use Rattle.machine.specs.declared.Plan.{Plan}
use Rattle.machine.specs.declared.Plan.TheVariants.{Move, Put, Jump, Load, LoadBy, Store, StoreBy}
use Rattle.machine.specs.declared.Plan.TheVariants.{Call, Illegal, Return}
use Rattle.machine.specs.Edition.{Edition, third, second, linked, trapped}
use Rattle.machine.specs.Words.{before}
use Rattle.machine.specs.Psr.{in_user_mode}
use Rattle.machine.specs.Outcome.{Reason, access, privilege, illegal, trap, interrupt, vector_of}
use Rattle.machine.specs.Outcome.{Cause, Outcome, plain_outcome, with_reads}
use Rattle.machine.specs.Interrupts.{pending_interrupt}
use Rattle.machine.specs.Protection.{denied_by}
use Rattle.machine.specs.Entry.{stack_pointer_on_entry, pushed, after_entry, entry, raised, interrupted}
use Rattle.machine.specs.Devices.{KBSR, KBDR, DSR, DDR, TSR, TIR, PSR, is_device_by, lent_word_by}
use Rattle.machine.specs.Devices.{device_value, loaded_value_by, after_load, ddr_store, device_store}
use Rattle.machine.specs.Devices.{stored_by}
use Rattle.machine.specs.Access.{checked_by, load_to_by, store_at_by, by_pointer_by}
use Rattle.machine.specs.Return.{popped, return}
use Rattle.machine.specs.Plan.{plan_by}
use Rattle.machine.specs.Step.{perform_by, obeyed_by, interrupted_or_obeyed_by, ended, after_start, step_by}
use Rattle.footprint.specs.Footprint.{Each, SameWordAt, SameEffect, StepReadsBy}

-- ---- lists of addresses

each_of_first : (P : ℕ → Type 0) (xs ys : List ℕ) → Each P (xs ++ ys) → Each P xs
each_of_first P [] ys e = tt
each_of_first P (x ∷ xs) ys e = (e.0, each_of_first P xs ys e.1)

each_of_second : (P : ℕ → Type 0) (xs ys : List ℕ) → Each P (xs ++ ys) → Each P ys
each_of_second P [] ys e = e
each_of_second P (x ∷ xs) ys e = each_of_second P xs ys e.1

-- ---- one store to two memories of one size: they agree at its word, and stay of one size and agreed elsewhere

stored_word_agrees : (mem₁ mem₂ : List ℕ) (a v : ℕ) → length mem₁ ≡ length mem₂
    → SameWordAt (set mem₁ a v) (set mem₂ a v) a
stored_word_agrees [] [] a v l = refl
stored_word_agrees [] (y ∷ ys) a v l = absurd (omega arith)
stored_word_agrees (x ∷ xs) [] a v l = absurd (omega arith)
stored_word_agrees (x ∷ xs) (y ∷ ys) zero v l = refl
stored_word_agrees (x ∷ xs) (y ∷ ys) (suc a) v l = stored_word_agrees xs ys a v (omega arith)

same_word_stays : (mem₁ mem₂ : List ℕ) (a v b : ℕ) → length mem₁ ≡ length mem₂ → SameWordAt mem₁ mem₂ b
    → SameWordAt (set mem₁ a v) (set mem₂ a v) b
same_word_stays [] [] a v b l s = s
same_word_stays [] (y ∷ ys) a v b l s = absurd (omega arith)
same_word_stays (x ∷ xs) [] a v b l s = absurd (omega arith)
same_word_stays (x ∷ xs) (y ∷ ys) zero v zero l s = refl
same_word_stays (x ∷ xs) (y ∷ ys) zero v (suc b) l s = s
same_word_stays (x ∷ xs) (y ∷ ys) (suc a) v zero l s = s
same_word_stays (x ∷ xs) (y ∷ ys) (suc a) v (suc b) l s = same_word_stays xs ys a v b (omega arith) s

same_size_stays : (mem₁ mem₂ : List ℕ) (a v : ℕ) → length mem₁ ≡ length mem₂
    → length (set mem₁ a v) ≡ length (set mem₂ a v)
same_size_stays mem₁ mem₂ a v l = rw (length-set mem₁ a v, length-set mem₂ a v) l

-- ---- the parts of a step

module _ (edition : Edition) (mem₁ mem₂ : List ℕ) (l : length mem₁ ≡ length mem₂) where
  -- Where the memories agree at all that the first outcome reads, both outcomes have the same effect. A record, so that
  -- the prover compares two of them by their outcomes, and does not open these.
  record Follows (o₁ o₂ : Outcome) : Type 0 where
    follows : Each (SameWordAt mem₁ mem₂) o₁.reads → SameEffect mem₁ mem₂ o₁ o₂

  -- The same of what is done to the one memory and to the other.
  abbrev Followed : (List ℕ → Outcome) → Type 0
  Followed act = Follows (act mem₁) (act mem₂)

  either : (b : Bool) {x₁ x₂ y₁ y₂ : Outcome} → Follows x₁ x₂ → Follows y₁ y₂ → Follows (cond b x₁ y₁) (cond b x₂ y₂)
  either true f g = f
  either false f g = g

  -- Outcomes that leave memory as it is.
  memory_kept : {m₁ m₂ : Machine} {shown reads : List ℕ} {cause : Cause} → m₁ ≡ m₂
      → SameEffect mem₁ mem₂
      (record { machine = m₁; memory = mem₁; shown = shown; cause = cause; reads = reads; writes = [] })
      (record { machine = m₂; memory = mem₂; shown = shown; cause = cause; reads = reads; writes = [] })
  memory_kept e = record {
    machine = e;
    shown = refl;
    cause = refl;
    reads = refl;
    writes = refl;
    size = l;
    kept = λ a s. s;
    written = tt;
  }

  plain_follows : (m : Machine) → Followed (plain_outcome m)
  plain_follows m = record { follows = λ e. memory_kept refl }

  -- What is read first may be used for what comes after.
  after_reads : (addresses : List ℕ) (o₁ o₂ : Outcome) → (Each (SameWordAt mem₁ mem₂) addresses → Follows o₁ o₂)
      → Follows (with_reads addresses o₁) (with_reads addresses o₂)
  unfolding with_reads
  after_reads addresses o₁ o₂ f = record {
    follows = λ e.
        let same : ℕ → Type 0 = SameWordAt mem₁ mem₂ in
        let s : SameEffect mem₁ mem₂ o₁ o₂ =
        (f (each_of_first same addresses o₁.reads e)).follows (each_of_second same addresses o₁.reads e) in
        record {
          machine = s.machine;
          shown = s.shown;
          cause = s.cause;
          reads = rw s.reads;
          writes = s.writes;
          size = s.size;
          kept = s.kept;
          written = s.written;
        };
  }

  entry_follows : (reason : Reason) (pc psr : ℕ) (m : Machine) → Followed (entry reason pc psr m)
  unfolding entry pushed after_entry
  entry_follows reason pc psr m = record {
    follows = λ e.
        let a : ℕ = before (stack_pointer_on_entry m) in
        let b : ℕ = before a in
        let n₁ : List ℕ = set mem₁ a m.psr in
        let n₂ : List ℕ = set mem₂ a m.psr in
        let k : length (set mem₁ a m.psr) ≡ length (set mem₂ a m.psr) = same_size_stays mem₁ mem₂ a m.psr l in
        let stays : (c : ℕ) → SameWordAt mem₁ mem₂ c → SameWordAt (set n₁ b pc) (set n₂ b pc) c =
        λ c s. same_word_stays n₁ n₂ b pc c k (same_word_stays mem₁ mem₂ a m.psr c l s) in
        record {
          machine = rw (stays (vector_of reason) e.0);
          shown = refl;
          cause = refl;
          reads = refl;
          writes = refl;
          size = same_size_stays n₁ n₂ b pc k;
          kept = stays;
          written = (
            same_word_stays n₁ n₂ b pc a k (stored_word_agrees mem₁ mem₂ a m.psr l),
            (stored_word_agrees n₁ n₂ b pc k, tt),
          );
        };
  }

  raised_follows : (reason : Reason) (pc : ℕ) (m : Machine) → Followed (raised reason pc m)
  unfolding raised
  raised_follows reason pc m = entry_follows reason pc _ m

  checked_follows : (a : ℕ) (m : Machine) {o₁ o₂ : Outcome} → Follows o₁ o₂
      → Follows (checked_by edition a m mem₁ o₁) (checked_by edition a m mem₂ o₂)
  checked_follows a m f = either (denied_by edition m.psr a) (raised_follows access m.pc m) f

  -- A load gives a device's value, or the lent word that it reads.
  loaded_value_follows : (a : ℕ) (m : Machine) → Each (SameWordAt mem₁ mem₂) (lent_word_by edition a)
      → loaded_value_by edition a m mem₁ ≡ loaded_value_by edition a m mem₂
  unfolding lent_word_by loaded_value_by
  loaded_value_follows a m e = go (is_device_by edition a) e
    where
      go : (b : Bool) → Each (SameWordAt mem₁ mem₂) (cond b [] (a ∷ []))
          → cond b (device_value a m) (get_or mem₁ a 0) ≡ cond b (device_value a m) (get_or mem₂ a 0)
      go true e = refl
      go false e = e.0

  load_follows : (r a : ℕ) (m : Machine) → Followed (load_to_by edition r a m)
  unfolding load_to_by
  load_follows r a m =
      checked_follows a m (record { follows = λ e. memory_kept (rw (loaded_value_follows a m e)) })

  device_follows : (v a : ℕ) (m : Machine) → Followed (device_store v a m)
  unfolding device_store ddr_store
  device_follows v a m =
      either (eqb a KBSR) (plain_follows _)
      (either (eqb a KBDR) (plain_follows _)
      (either (eqb a DSR) (plain_follows _)
      (either (eqb a DDR) (record { follows = λ e. memory_kept refl })
      (either (eqb a TSR) (plain_follows _)
      (either (eqb a TIR) (plain_follows _)
      (either (eqb a PSR) (plain_follows _) (plain_follows _)))))))

  stored_follows : (v a : ℕ) (m : Machine) → Followed (stored_by edition v a m)
  unfolding stored_by
  stored_follows v a m =
      either (is_device_by edition a) (device_follows v a m)
      (record {
        follows = λ e. record {
          machine = refl;
          shown = refl;
          cause = refl;
          reads = refl;
          writes = refl;
          size = same_size_stays mem₁ mem₂ a v l;
          kept = λ b s. same_word_stays mem₁ mem₂ a v b l s;
          written = (stored_word_agrees mem₁ mem₂ a v l, tt);
        };
      })

  store_follows : (v a : ℕ) (m : Machine) → Followed (store_at_by edition v a m)
  unfolding store_at_by
  store_follows v a m = checked_follows a m (stored_follows v a _)

  -- The pointer is the same in both, since its word is read.
  pointer_follows : (a : ℕ) (data-access : ℕ → Machine → List ℕ → Outcome) (m : Machine)
      → ((b : ℕ) (n : Machine) → Followed (data-access b n)) → Followed (by_pointer_by edition a data-access m)
  unfolding by_pointer_by
  pointer_follows a data-access m f =
      checked_follows a m
      (after_reads (lent_word_by edition a) _ _
      (λ e. rw (← loaded_value_follows a m e) (f (loaded_value_by edition a m mem₁) (after_load a m))))

  popped_follows : (sp : ℕ) (m : Machine) → Followed (popped sp m)
  unfolding popped
  popped_follows sp m = record { follows = λ e. memory_kept (rw (e.0, e.1.0)) }

  return_follows : (m : Machine) → Followed (return m)
  unfolding return
  return_follows m = either (in_user_mode m.psr) (raised_follows privilege m.pc m) (popped_follows _ m)

  -- TRAP reads its vector word by either edition.
  trapped_follows : (e : Edition) (vector : ℕ) (m : Machine) → Followed (trapped e vector m)
  unfolding linked
  trapped_follows third vector m = raised_follows (trap vector) _ m
  trapped_follows second vector m = record { follows = λ e. memory_kept (rw e.0) }

  plan_follows : (p : Plan) (m : Machine) → Followed (perform_by edition p m)
  unfolding perform_by
  plan_follows (Move r v pc) m = plain_follows _
  plan_follows (Put r v pc) m = plain_follows _
  plan_follows (Jump pc) m = plain_follows _
  plan_follows (Load r a) m = load_follows r a m
  plan_follows (LoadBy r a) m = pointer_follows a (load_to_by edition r) m (λ b n. load_follows r b n)
  plan_follows (Store v a) m = store_follows v a m
  plan_follows (StoreBy v a) m = pointer_follows a (store_at_by edition v) m (λ b n. store_follows v b n)
  plan_follows (Call vector) m = trapped_follows edition vector m
  plan_follows Illegal m = raised_follows illegal m.pc m
  plan_follows Return m = return_follows m

  -- The plan is the same in both, since the word fetched is read.
  obeyed_follows : (m : Machine) → Followed (obeyed_by edition m)
  unfolding obeyed_by
  obeyed_follows m =
      checked_follows m.pc m
      (after_reads (m.pc ∷ []) _ _
      (λ e. rw (← e.0) (plan_follows (plan_by edition m.regs m.pc m.psr (read_of (get_or mem₁ m.pc 0))) m)))

  either_follows : (p : Option Interrupt) (m : Machine) → Followed (interrupted_or_obeyed_by edition p m)
  unfolding interrupted_or_obeyed_by interrupted
  either_follows None m = obeyed_follows m
  either_follows (Some q) m = entry_follows (interrupt q.vector) m.pc _ m

  end_follows : (o₁ o₂ : Outcome) → Follows o₁ o₂ → Follows (ended o₁) (ended o₂)
  unfolding ended
  end_follows o₁ o₂ f = record {
    follows = λ e.
        let s : SameEffect mem₁ mem₂ o₁ o₂ = f.follows e in
        record {
          machine = rw (s.machine, s.shown);
          shown = s.shown;
          cause = s.cause;
          reads = s.reads;
          writes = s.writes;
          size = s.size;
          kept = s.kept;
          written = s.written;
        };
  }

pub step_reads : (edition : Edition) → StepReadsBy edition
unfolding step_by
step_reads edition keys m mem₁ mem₂ l =
    let n : Machine = after_start keys m in
    (end_follows edition mem₁ mem₂ l _ _ (either_follows edition mem₁ mem₂ l (pending_interrupt n) n)).follows
