-- One step by its mode, for this crate and for that of whole sittings. Supervisor mode may touch every address. In User
-- mode, what holds of every entry, of every instruction that stores nothing and of every store to a word of User mode's
-- holds of every step: by the plan, and never by the instruction.
use Prim.Native.Nat.{ℕ, suc, ◌%◌, ◌≤◌, ◌<◌}
use native.Mathlib.Omega.{arith}
use native.Mathlib.Decide.{dec_le}
use mathlib.Core.Path.{◌≡◌, refl, sym, subst}
use mathlib.Core.Bool.{Bool, true, false, cond, not}
use mathlib.Core.List.{List, [], ◌∷◌}
use borrow.Author.Tests.{lt-leb, le-leb, ltb-true, ltb-false, eqb-true, ne_eqb}
use lib.Dec.{leb, ltb, eqb}
use lib.ListN.{length, get_or, set, length-set, get_or-eq_default}
use Rattle.word.specs.Reading.{opcode, forms, read_of}
use Rattle.word.specs.Range.{InRange}
use Rattle.word.proofs.Ranges.{read_in_range}
use Rattle.word.specs.declared.Instruction.{Instruction}
use Rattle.word.specs.declared.Instruction.TheVariants.{Br, AddRegister, AddImmediate, Ld, St, Jsr, Jsrr, AndRegister}
use Rattle.word.specs.declared.Instruction.TheVariants.{AndImmediate, Ldr, Str, Rti, Not, Ldi, Sti, Jmp, Reserved, Lea}
use Rattle.word.specs.declared.Instruction.TheVariants.{Trap}
use Rattle.machine.specs.declared.Machine.{Machine}
use Rattle.machine.specs.declared.Plan.{Plan}
use Rattle.machine.specs.declared.Plan.TheVariants.{Move, Put, Jump, Load, LoadBy, Store, StoreBy, Call, Illegal}
use Rattle.machine.specs.declared.Plan.TheVariants.{Return}
use Rattle.machine.specs.Words.{next, word_and, and_bits}
use Rattle.machine.specs.Psr.{in_user_mode, codes_of, Codes, kept, set_from, is_taken}
use Rattle.machine.specs.Outcome.{Reason, trap, privilege, illegal, access, vector_of, Outcome, touching, plain_outcome}
use Rattle.machine.specs.Outcome.{with_reads, after_instruction}
use Rattle.machine.specs.Protection.{denied_by, denied}
use Rattle.machine.specs.Devices.{KBDR, TSR, is_device_by, is_device, lent_word_by, lent_word, loaded_value_by}
use Rattle.machine.specs.Devices.{loaded_value}
use Rattle.machine.specs.Devices.{kbsr_after_load, timer_status_after_load, after_load, stored_by}
use Rattle.machine.specs.Access.{checked, load_to_by, load_to, store_at_by, store_at, by_pointer_by, by_pointer}
use Rattle.machine.specs.Entry.{raised}
use Rattle.machine.specs.Return.{return}
use Rattle.machine.specs.Plan.{plan_by, plan_of}
use Rattle.machine.specs.Step.{perform_by, perform, obeyed_by, obeyed}
use Rattle.machine.proofs.MemoryParts.{UserAddress}
use Rattle.machine.proofs.TwoAccesses.{allowed_in_user_mode}

-- ---- in either mode

-- An address below xFE00 is a plain word, and a load of it leaves keyboard and timer alone.
pub plain_word : (a : ℕ) → a < 0xFE00 → is_device a ≡ false
unfolding is_device_by
plain_word a h = rw (lt-leb 0xFE00 a h)

pub after_plain_load : (a : ℕ) (m : Machine) → a < 0xFE00 → after_load a m ≡ m
unfolding after_load kbsr_after_load timer_status_after_load
after_plain_load a m h = rw (ne_eqb a KBDR (λ e. omega arith), ne_eqb a TSR (λ e. omega arith))

-- BRnzp is always taken, once some value has set the codes.
pub always_taken : (x psr : ℕ) → psr % 8 ≡ codes_of x → is_taken 7 psr ≡ true
unfolding is_taken codes_of and_bits
always_taken x psr e = rw e (go (eqb x 0) (ltb x 0x8000))
  where
    go : (z p : Bool) → not (eqb (word_and 7 (cond z 2 (cond p 1 4))) 0) ≡ true
    go true p = refl
    go false true = refl
    go false false = refl

-- BRn is taken exactly where that value is x8000 or more, and BRzp where it is less.
pub taken_by_sign : (x psr : ℕ) → psr % 8 ≡ codes_of x
    → (is_taken 4 psr ≡ leb 0x8000 x) × (is_taken 3 psr ≡ ltb x 0x8000)
unfolding is_taken codes_of and_bits
taken_by_sign x psr e = rw e (go (eqb x 0) refl (ltb x 0x8000) refl)
  where
    go : (z : Bool) → eqb x 0 ≡ z → (p : Bool) → ltb x 0x8000 ≡ p
        → (not (eqb (word_and 4 (cond z 2 (cond p 1 4))) 0) ≡ leb 0x8000 x)
        × (not (eqb (word_and 3 (cond z 2 (cond p 1 4))) 0) ≡ p)
    go true e p f = let z : x ≡ 0 = eqb-true x 0 e in (rw z, rw z at f)
    go false e true f = (sym (lt-leb 0x8000 x (ltb-true x 0x8000 f)), refl)
    go false e false f = (sym (le-leb 0x8000 x (ltb-false x 0x8000 f)), refl)

-- ---- in Supervisor mode

pub supervisor_mode_lem : (psr : ℕ) → psr < 0x8000 → in_user_mode psr ≡ false
unfolding in_user_mode
supervisor_mode_lem psr h = lt-leb 0x8000 psr h

pub allowed_in_supervisor_mode : (psr : ℕ) → psr < 0x8000 → (a : ℕ) → denied psr a ≡ false
unfolding denied_by
allowed_in_supervisor_mode psr h a = rw (supervisor_mode_lem psr h)

-- The pointer of LDI and STI is a plain word.
pub by_plain_pointer : (a : ℕ) (data-access : ℕ → Machine → List ℕ → Outcome) (m : Machine) (mem : List ℕ)
    → m.psr < 0x8000 → a < 0xFE00
    → by_pointer a data-access m mem ≡ with_reads (lent_word a) (data-access (get_or mem a 0) m mem)
unfolding by_pointer_by loaded_value_by
by_plain_pointer a data-access m mem h l =
    rw (allowed_in_supervisor_mode m.psr h a, plain_word a l, after_plain_load a m l)

-- ---- in User mode

-- A trap vector has eight bits.
abbrev Planned : Plan → Type 0
Planned (Move r v pc) = Unit {0}
Planned (Put r v pc) = Unit {0}
Planned (Jump pc) = Unit {0}
Planned (Load r a) = Unit {0}
Planned (LoadBy r a) = Unit {0}
Planned (Store v a) = Unit {0}
Planned (StoreBy v a) = Unit {0}
Planned (Call vector) = vector < 256
Planned Illegal = Unit {0}
Planned Return = Unit {0}

planned : (regs : List ℕ) (pc psr : ℕ) (i : Instruction) → InRange i → Planned (plan_of regs pc psr i)
unfolding plan_by
planned regs pc psr (Br mask n) h = tt
planned regs pc psr (AddRegister d a b) h = tt
planned regs pc psr (AddImmediate d a n) h = tt
planned regs pc psr (Ld d n) h = tt
planned regs pc psr (St s n) h = tt
planned regs pc psr (Jsr n) h = tt
planned regs pc psr (Jsrr b) h = tt
planned regs pc psr (AndRegister d a b) h = tt
planned regs pc psr (AndImmediate d a n) h = tt
planned regs pc psr (Ldr d b n) h = tt
planned regs pc psr (Str s b n) h = tt
planned regs pc psr Rti h = tt
planned regs pc psr (Not d a) h = tt
planned regs pc psr (Ldi d n) h = tt
planned regs pc psr (Sti s n) h = tt
planned regs pc psr (Jmp b) h = tt
planned regs pc psr (Reserved low) h = tt
planned regs pc psr (Lea d n) h = tt
planned regs pc psr (Trap vector) h = h

-- Whatever number stands in memory, it is read in range.
always_in_range : (w : ℕ) → InRange (read_of w)
always_in_range w = elim (dec_le (suc w) 65536) [
  | yes l ↦ read_in_range w l
  | no l ↦ subst InRange (sym (no_form w l)) tt
]
  where
    no_form : (w : ℕ) → (w < 65536 → ⊥) → read_of w ≡ Rti
    no_form w l = unfold read_of in
        get_or-eq_default (forms w) Rti (let h : 16 ≤ opcode w = omega arith in h)

-- What holds of each part of a step from m and mem, and stays so where a word of User mode's is read before.
pub record Covers (m : Machine) (mem : List ℕ) (P : Outcome → Type 0) : Type 0 where
  pub raises : (reason : Reason) (pc : ℕ) → vector_of reason < 0x0103 → P (raised reason pc m mem)
  pub ends : (regs : List ℕ) (pc : ℕ) (c : Codes) → length regs ≡ length m.regs
      → P (plain_outcome (after_instruction regs pc c m) mem)
  pub stores : (v a : ℕ) → UserAddress a
      → P (touching [] (a ∷ []) (after_instruction m.regs (next m.pc) kept m) (set mem a v))
  pub reads : (a : ℕ) (o : Outcome) → UserAddress a → P o → P (with_reads (a ∷ []) o)

module _ (m : Machine) (mem : List ℕ) (user : in_user_mode m.psr ≡ true) (P : Outcome → Type 0)
    (c : Covers m mem P) where
  -- Every access goes through here: the exception, or the address is User mode's.
  checks : (a : ℕ) (o : Outcome) → (UserAddress a → P o) → P (checked a m mem o)
  checks a o f = go (denied m.psr a) refl
    where
      go : (d : Bool) → denied m.psr a ≡ d → P (cond d (raised access m.pc m mem) o)
      go true e = c.raises access m.pc (omega arith)
      go false e = f (allowed_in_user_mode m.psr a user e)

  loads : (r a : ℕ) → P (load_to r a m mem)
  unfolding load_to_by lent_word_by with_reads
  loads r a =
      checks a _
      (λ u.
      rw (plain_word a u.high, after_plain_load a m u.high)
      (c.reads a _ u (c.ends _ (next m.pc) (set_from (loaded_value a m mem)) (length-set m.regs (r % 8) _))))

  stores : (v a : ℕ) → P (store_at v a m mem)
  unfolding store_at_by stored_by
  stores v a = checks a _ (λ u. rw (plain_word a u.high) (c.stores v a u))

  by_pointer_lem : (a : ℕ) (data-access : ℕ → Machine → List ℕ → Outcome) → ((b : ℕ) → P (data-access b m mem))
      → P (by_pointer a data-access m mem)
  unfolding by_pointer_by lent_word_by
  by_pointer_lem a data-access f =
      checks a _
      (λ u.
      rw (plain_word a u.high, after_plain_load a m u.high) (c.reads a _ u (f (loaded_value a m mem))))

  performs : (p : Plan) → Planned p → P (perform p m mem)
  unfolding perform_by return
  performs (Move r v pc) h = c.ends _ pc (set_from v) (length-set m.regs (r % 8) v)
  performs (Put r v pc) h = c.ends _ pc kept (length-set m.regs (r % 8) v)
  performs (Jump pc) h = c.ends m.regs pc kept refl
  performs (Load r a) h = loads r a
  performs (LoadBy r a) h = by_pointer_lem a (load_to r) (λ b. loads r b)
  performs (Store v a) h = stores v a
  performs (StoreBy v a) h = by_pointer_lem a (store_at v) (λ b. stores v b)
  performs (Call vector) h = c.raises (trap vector) (next m.pc) (omega arith)
  performs Illegal h = c.raises illegal m.pc (omega arith)
  performs Return h = rw user (c.raises privilege m.pc (omega arith))

  pub in_user_mode_lem : P (obeyed m mem)
  unfolding obeyed_by
  in_user_mode_lem =
      checks m.pc _
      (λ u.
      c.reads m.pc _ u
      (performs (plan_of m.regs m.pc m.psr (read_of (get_or mem m.pc 0)))
      (planned m.regs m.pc m.psr (read_of (get_or mem m.pc 0)) (always_in_range (get_or mem m.pc 0)))))
