-- A step in User mode: it stays there, or enters a routine; it touches no secret word. By the law for both crates.
use Prim.Native.Nat.{ℕ, ◌+◌, ◌*◌, ◌/◌, ◌≤◌, ◌<◌}
use native.Mathlib.Omega.{arith}
use mathlib.Core.Path.{◌≡◌, refl, subst, ◌∙◌}
use mathlib.Core.Bool.{true, false}
use mathlib.Core.List.{List, [], ◌∷◌}
use borrow.Author.Tests.{leb-true, le-leb}
use lib.ListN.{length, get_or, set, replicate, length-set}
use lib.Seq.{get_or-set_other, get_or-set_same}
use Rattle.machine.specs.declared.Machine.{Machine}
use Rattle.machine.specs.Words.{next}
use Rattle.machine.specs.Psr.{in_user_mode, in_supervisor_mode, codes_of, Codes, kept, set_from, recoded}
use Rattle.machine.specs.Outcome.{Reason, vector_of, touching, plain_outcome}
use Rattle.machine.specs.Outcome.{after_instruction}
use Rattle.machine.specs.Entry.{stack_pointer_on_entry, pushed, after_entry, entry, raised}
use Rattle.machine.specs.Step.{obeyed}
use Rattle.machine.proofs.MemoryParts.{UserAddress}
use Rattle.monitor.proofs.Modes.{in_user_mode_lem}
use Rattle.sitting.specs.Values.{any, is}
use Rattle.sitting.specs.Test.{on_entry}
use Rattle.sitting.proofs.Values.{Registers, nothing_known, updated, words_at, length_watched}
use Rattle.sitting.proofs.Table.{LeadsIn, trap_leads}
use Rattle.sitting.proofs.Invariant.{Words, word_stored, unlisted_changes, core_of, InUserMode, goes_to_routine}
use Rattle.sitting.proofs.Invariant.{stays_in_user_mode, Disabled, Setting, lowest, secret}
use Rattle.sitting.proofs.Invariant.{OutcomeKeeps, keeps_reads, bounds, user_word_is_open, fixed_word_is_open}
use Rattle.sitting.proofs.Invariant.{stack_word_is_open, stack_word_changes}

-- ---- an entry

entry_registers : (g : Setting) (r : ℕ) (xs : List ℕ) → length xs ≡ 8
    → Registers r (on_entry g.claim).regs (set xs 6 0x2FFE)
entry_registers g r xs e =
    updated r (replicate 8 any) xs
    (subst (λ (n : ℕ). Registers r (replicate n any) xs) e (nothing_known r xs)) 6 (is 0x2FFE) 0x2FFE refl

module _ (g : Setting) (m : Machine) (mem : List ℕ) (q : Disabled g.enabled m.devices)
    (s : InUserMode g.claim (core_of m) mem) where
  stack_is : stack_pointer_on_entry m ≡ 0x3000
  unfolding stack_pointer_on_entry
  stack_is = rw s.user s.stack

  low : lowest g ≤ 0x2FFE
  low = omega (arith, (bounds g).low, (bounds g).top)

  -- The memory after the two pushes.
  abbrev called : ℕ → List ℕ
  called pc = set (set mem 0x2FFF m.psr) 0x2FFE pc

  called_words : (pc : ℕ) → Words g.claim (called pc)
  called_words pc =
      word_stored (word_stored s.memory 0x2FFF m.psr (stack_word_changes g 0x2FFF (omega (arith, low)))) 0x2FFE pc
      (stack_word_changes g 0x2FFE low)

  caller_is_user : (pc : ℕ) → 0x8000 ≤ get_or (called pc) 0x2FFF 0
  unfolding in_user_mode
  caller_is_user pc =
      let u : 0x8000 ≤ m.psr = leb-true 0x8000 m.psr s.user in
      rw (
        get_or-set_other (set mem 0x2FFF m.psr) 0x2FFE 0x2FFF pc 0 (λ e. absurd (omega arith)),
        get_or-set_same mem 0x2FFF m.psr 0 (omega (arith, s.memory.size)),
      ) u

  -- Of the watched words nothing is known.
  entry_words : (r pc : ℕ) → Registers r (on_entry g.claim).words (words_at g.claim.watched (called pc))
  entry_words r pc =
      subst (λ (n : ℕ). Registers r (replicate n any) (words_at g.claim.watched (called pc)))
      (length_watched g.claim.watched (called pc)) (nothing_known r (words_at g.claim.watched (called pc)))

  pub enters : (reason : Reason) (pc psr : ℕ) → LeadsIn g.claim (vector_of reason) → psr < 0x8000
      → OutcomeKeeps g (entry reason pc psr m mem)
  unfolding entry pushed after_entry
  enters reason pc psr v l =
      rw stack_is
      (record {
        reads = (fixed_word_is_open g (vector_of reason) v.to v.word, tt);
        writes = (
          stack_word_is_open g 0x2FFF (omega (arith, low)) (omega arith),
          (stack_word_is_open g 0x2FFE (omega (arith, low)) (omega arith), tt),
        );
        invariant = goes_to_routine {σ = on_entry g.claim} q
            (rw ((called_words pc).intact (vector_of reason) v.to v.word) v.accepted)
            (record {
              memory = called_words pc;
              eight = length-set m.regs 6 0x2FFE ∙ s.eight;
              supervisor = l;
              caller = caller_is_user pc;
              registers = entry_registers g (get_or (set m.regs 6 0x2FFE) 0 0) m.regs s.eight;
              codes = tt;
              words = entry_words (get_or (set m.regs 6 0x2FFE) 0 0) pc;
            });
      })

  raises : (reason : Reason) (pc : ℕ) → vector_of reason < 0x0103 → OutcomeKeeps g (raised reason pc m mem)
  unfolding raised
  raises reason pc v =
      enters reason pc (in_supervisor_mode m.psr) (trap_leads g.claim g.passed (vector_of reason) v) (omega arith)

  open_word : (a : ℕ) → UserAddress a → secret g a ≡ false
  open_word a u = user_word_is_open g a u

  still_user : (c : Codes) → in_user_mode (recoded c m.psr) ≡ true
  unfolding in_user_mode recoded
  still_user kept = s.user
  still_user (set_from v) =
      let h : 0x8000 ≤ m.psr = leb-true 0x8000 m.psr s.user in
      le-leb 0x8000 (m.psr / 8 * 8 + codes_of v) (omega arith)

  -- An instruction that stores nothing.
  ends : (regs : List ℕ) (pc : ℕ) (c : Codes) → length regs ≡ length m.regs
      → OutcomeKeeps g (plain_outcome (after_instruction regs pc c m) mem)
  unfolding after_instruction
  ends regs pc c e = record {
    reads = tt;
    writes = tt;
    invariant = stays_in_user_mode q
        (record { memory = s.memory; eight = e ∙ s.eight; user = still_user c; stack = s.stack });
  }

  stores : (v a : ℕ) → UserAddress a
      → OutcomeKeeps g
      (touching [] (a ∷ []) (after_instruction m.regs (next m.pc) kept m) (set mem a v))
  unfolding after_instruction recoded
  stores v a u = record {
    reads = tt;
    writes = (open_word a u, tt);
    invariant = stays_in_user_mode q (record {
      memory = word_stored s.memory a v
          (unlisted_changes g.claim a (omega (arith, u.low, (bounds g).cells_deep, (bounds g).top)));
      eight = s.eight;
      user = s.user;
      stack = s.stack;
    });
  }

  -- User mode obeys its next instruction.
  pub user_keeps : OutcomeKeeps g (obeyed m mem)
  user_keeps =
      in_user_mode_lem m mem s.user (OutcomeKeeps g)
      (record {
        raises = raises;
        ends = ends;
        stores = stores;
        reads = λ a o u h. keeps_reads g (a ∷ []) o (open_word a u, tt) h;
      })
