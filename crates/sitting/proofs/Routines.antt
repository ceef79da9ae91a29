-- A step of a routine, by the kind of instruction: where the test finds it harmless, it touches no secret word and
-- keeps the invariant.
use Prim.Native.Nat.{ℕ, ◌+◌, ◌-◌, ◌*◌, ◌/◌, ◌%◌, ◌≤◌, ◌<◌}
use native.Mathlib.Omega.{arith}
use mathlib.Core.Path.{◌≡◌, refl, sym, ap, subst, ◌∙◌}
use mathlib.Core.Bool.{Bool, true, false, cond, ◌&&◌, ◌||◌, not, true≢false, false≢true}
use mathlib.Core.Logic.{inl, inr}
use mathlib.Core.List.{List, [], ◌∷◌}
use lib.IntN.{ℤ}
use borrow.Author.Tests.{leb-true, leb-false, ltb-true, ltb-false, eqb-true, eqb-false, le-leb}
use lib.Dec.{leb, ltb, eqb}
use lib.ListN.{get_or, set, length-set}
use lib.Seq.{get_or-set_other}
use Rattle.word.specs.Field.{bits}
use Rattle.word.specs.Reading.{read_of}
use Rattle.word.specs.declared.Instruction.{Instruction}
use Rattle.word.specs.declared.Instruction.TheVariants.{Br, AddRegister, AddImmediate, Ld, St, Jsr, Jsrr, AndRegister}
use Rattle.word.specs.declared.Instruction.TheVariants.{AndImmediate, Ldr, Str, Rti, Not, Ldi, Sti, Jmp, Reserved, Lea}
use Rattle.word.specs.declared.Instruction.TheVariants.{Trap}
use Rattle.machine.specs.declared.Machine.{Machine}
use Rattle.machine.specs.declared.Devices.{Devices}
use Rattle.machine.specs.Record.{with_devices}
use Rattle.machine.specs.Words.{wrap, next, before, plus, word_and, register, with_register}
use Rattle.machine.specs.Psr.{in_user_mode, defined_psr, codes_of, kept, set_from, recoded, is_taken}
use Rattle.machine.specs.Outcome.{trap, Outcome, touching, plain_outcome, after_instruction}
use Rattle.machine.specs.Devices.{DDR, MCR, is_device_by, is_device, lent_word_by, lent_word, loaded_value_by}
use Rattle.machine.specs.Devices.{loaded_value}
use Rattle.machine.specs.Devices.{device_value, after_load, mcr_store, ddr_store, device_store, stored_by}
use Rattle.machine.specs.Access.{load_to_by, load_to, store_at_by, store_at, by_pointer}
use Rattle.machine.specs.Entry.{stack_pointer_on_entry, pushed, after_entry, entry, raised}
use Rattle.machine.specs.Return.{after_return, return}
use Rattle.machine.specs.Return as Return
use Rattle.machine.specs.Plan.{plan_by, plan_of}
use Rattle.machine.specs.Step.{perform_by, perform, obeyed_by, obeyed}
use Rattle.machine.proofs.MemoryParts.{UserAddress}
use Rattle.machine.proofs.StepLaws.{codes_of_below}
use Rattle.machine.proofs.Tests.{both_true}
use Rattle.footprint.specs.Altered.{NoneAltered}
use Rattle.monitor.proofs.Modes.{plain_word, always_taken, taken_by_sign, supervisor_mode_lem}
use Rattle.monitor.proofs.Modes.{allowed_in_supervisor_mode, by_plain_pointer}
use Rattle.sitting.specs.Values.{Value, unset, any, is, high, low, sum, allowed, sum_with, sum_of, and_with, and_of}
use Rattle.sitting.specs.Values.{same, not_of, besides, all_besides}
use Rattle.sitting.specs.Test.{Cell, fixed, own, hidden, State, Claim, cell_at, is_hidden, is_own, accepts, is_stack}
use Rattle.sitting.specs.Test.{is_free_stack, is_loadable, held, from_cell, loaded_from, stored_in, remember, value_in}
use Rattle.sitting.specs.Test.{is_first, moved, put, loads_at, loads_by, stores_at, stores_by, loads_through}
use Rattle.sitting.specs.Test.{stores_through, refined_if, is_above, is_below, where_taken, where_not_taken, either_way}
use Rattle.sitting.specs.Test.{branches, jumps_by, calling, calls_from, calls_by, returning, returns_by, sound}
use Rattle.sitting.specs.Test.{harmless}
use Rattle.sitting.proofs.Values.{Holds, CodesHold, codes_set, sum_holds, sum_of_both_holds, and_holds}
use Rattle.sitting.proofs.Values.{and_of_both_holds, not_holds, looked_up, refined, register_taken}
use Rattle.sitting.proofs.Values.{codes_besides, words_besides, held_holds, stored_holds, same_is, words_at}
use Rattle.sitting.proofs.Table.{fixed_is_open, own_is_open, own_is_not_fixed, sound_at, Keepable, kept_holds}
use Rattle.sitting.proofs.Invariant.{Changeable, word_stored, unlisted_changes, core_of, Known, InRoutine}
use Rattle.sitting.proofs.Invariant.{goes_to_routine, stays_in_user_mode, Disabled, load_disabled, Setting}
use Rattle.sitting.proofs.Invariant.{cells_of, lowest, secret, OutcomeKeeps, keeps_reads, bounds}
use Rattle.sitting.proofs.Invariant.{user_word_is_open, monitor_word_is_open, fixed_word_is_open}
use Rattle.sitting.proofs.Invariant.{stack_word_is_open, monitor_word_is_low, stack_word_changes}

-- ---- tests

stack_is : (lowest a : ℕ) → is_stack lowest a ≡ true → (lowest ≤ a) × (a < 0x3000)
unfolding is_stack
stack_is lowest a h =
    let b = both_true (leb lowest a) (ltb a 0x3000) h in
    (leb-true lowest a b.0, ltb-true a 0x3000 b.1)

free_stack_is : (lowest a : ℕ) → is_free_stack lowest a ≡ true → (lowest ≤ a) × (a < 0x2FFF)
unfolding is_free_stack
free_stack_is lowest a h =
    let b = both_true (leb lowest a) (ltb a 0x2FFF) h in
    (leb-true lowest a b.0, ltb-true a 0x2FFF b.1)

-- No lent word is read behind a device register.
device_word_read : (g : Setting) (a : ℕ) → is_device a ≡ true → NoneAltered (secret g) (lent_word a)
unfolding lent_word_by
device_word_read g a e = rw e tt

-- ---- one step, from what is known

module _ (g : Setting) (σ : State) (m : Machine) (mem : List ℕ) (q : Disabled g.enabled m.devices)
    (k : Known g.claim σ m.regs m.psr mem) where
  abbrev c : Claim
  c = g.claim

  abbrev Goes : ℕ → State → Type 0
  Goes pc τ = accepts c pc τ ≡ true

  abbrev first : ℕ
  first = get_or m.regs 0 0

  -- ADD, AND, NOT and the loads, which may change the devices: a register takes a value, and the codes are set from it.
  move_keeps : (d : Devices) (reads : List ℕ) (r x pc : ℕ) (v : Value) → Disabled g.enabled d
      → NoneAltered (secret g) reads → Holds first v x → Goes pc (moved r v σ)
      → OutcomeKeeps g
      (touching reads [] (after_instruction (with_register m.regs r x) pc (set_from x) (with_devices d m)) mem)
  unfolding after_instruction recoded moved
  move_keeps d reads r x pc v qd n h a = record {
    reads = n;
    writes = tt;
    invariant = goes_to_routine qd a
        (record {
          memory = k.memory;
          eight = length-set m.regs (r % 8) x ∙ k.eight;
          supervisor = omega (arith, k.supervisor, codes_of_below x);
          caller = k.caller;
          registers = register_taken σ.regs m.regs r v x k.registers h;
          codes = codes_besides m.regs r v x _ (codes_set first v x m.psr h);
          words = words_besides m.regs r σ.words x _ k.words;
        });
  }

  -- LEA, JSR and JSRR: the codes are kept.
  put_keeps : (r x pc : ℕ) (v : Value) → Holds first v x → Goes pc (put r v σ)
      → OutcomeKeeps g (plain_outcome (after_instruction (with_register m.regs r x) pc kept m) mem)
  unfolding after_instruction recoded put
  put_keeps r x pc v h a = record {
    reads = tt;
    writes = tt;
    invariant = goes_to_routine q a
        (record {
          memory = k.memory;
          eight = length-set m.regs (r % 8) x ∙ k.eight;
          supervisor = k.supervisor;
          caller = k.caller;
          registers = register_taken σ.regs m.regs r v x k.registers h;
          codes = codes_besides m.regs r σ.codes x _ k.codes;
          words = words_besides m.regs r σ.words x _ k.words;
        });
  }

  -- BR and JMP, to where this much is known.
  jump_keeps : (pc : ℕ) (τ : State) → Known c τ m.regs m.psr mem → Goes pc τ
      → OutcomeKeeps g (plain_outcome (after_instruction m.regs pc kept m) mem)
  unfolding after_instruction recoded
  jump_keeps pc τ h a = record { reads = tt; writes = tt; invariant = goes_to_routine q a h }

  -- ---- loads

  load_keeps : (r a : ℕ) (v : Value) → NoneAltered (secret g) (lent_word a)
      → Holds first v (loaded_value a m mem) → Goes (next m.pc) (moved r v σ) → OutcomeKeeps g (load_to r a m mem)
  unfolding load_to_by after_load
  load_keeps r a v n h t =
      rw (allowed_in_supervisor_mode m.psr k.supervisor a)
      (move_keeps (after_load a m).devices (lent_word a) r (loaded_value a m mem) (next m.pc) v
      (load_disabled g.enabled a m q) n h t)

  plain_word_read : (a : ℕ) → a < 0xFE00 → secret g a ≡ false → NoneAltered (secret g) (lent_word a)
  unfolding lent_word_by
  plain_word_read a h o = rw (plain_word a h) (o, tt)

  plain_value : (a : ℕ) → a < 0xFE00 → loaded_value a m mem ≡ get_or mem a 0
  unfolding loaded_value_by
  plain_value a h = rw (plain_word a h)

  fixed_is_low : (a w : ℕ) → cell_at (cells_of g) a ≡ fixed w → a < 0x2FFA
  fixed_is_low a w e = monitor_word_is_low g a (fixed_is_open (cell_at (cells_of g) a) w e)

  -- A load at such an address reads nothing secret.
  loadable : (a : ℕ) → is_loadable c a ≡ true → NoneAltered (secret g) (lent_word a)
  unfolding is_loadable
  loadable a h = go (is_hidden (cell_at (cells_of g) a)) refl (is_stack c.lowest a) refl h
    where
      go : (x : Bool) → is_hidden (cell_at (cells_of g) a) ≡ x → (y : Bool) → is_stack c.lowest a ≡ y
          → not x || (y || is_device a) ≡ true → NoneAltered (secret g) (lent_word a)
      go false e y f h =
          plain_word_read a (omega (arith, monitor_word_is_low g a e)) (monitor_word_is_open g a e)
      go true e true f h =
          let b = stack_is c.lowest a f in
          plain_word_read a (omega (arith, b.1))
          (stack_word_is_open g a (omega (arith, b.0, (bounds g).low)) b.1)
      go true e false f h = device_word_read g a h

  -- And what it gives.
  held_value : (a : ℕ) → Holds first (held a c.watched σ.words) (get_or mem a 0)
  held_value a = held_holds first a c.watched σ.words mem k.words

  cell_value : (a : ℕ) (x : Cell) → cell_at (cells_of g) a ≡ x → Holds first (from_cell c a x σ) (get_or mem a 0)
  unfolding from_cell
  cell_value a (fixed w) e = k.memory.intact a w e
  cell_value a own e = held_value a
  cell_value a hidden e = go (eqb a 0x2FFF) refl
    where
      go : (b : Bool) → eqb a 0x2FFF ≡ b
          → Holds first (cond b high (held a c.watched σ.words)) (get_or mem a 0)
      go true e = rw (eqb-true a 0x2FFF e) k.caller
      go false e = held_value a

  loaded_value_lem : (a : ℕ) → Holds first (loaded_from c a σ) (loaded_value a m mem)
  loaded_value_lem a = unfold loaded_from loaded_value_by in go (is_device a) refl
    where
      go : (b : Bool) → is_device a ≡ b
          → Holds first (cond b any (from_cell c a (cell_at (cells_of g) a) σ))
          (cond b (device_value a m) (get_or mem a 0))
      go true e = tt
      go false e = cell_value a (cell_at (cells_of g) a) refl

  load_by_table : (r a : ℕ) → loads_at c m.pc r a σ ≡ true → OutcomeKeeps g (load_to r a m mem)
  unfolding loads_at
  load_by_table r a h =
      let b = both_true (is_loadable c a) (accepts c (next m.pc) (moved r (loaded_from c a σ) σ)) h in
      load_keeps r a (loaded_from c a σ) (loadable a b.0) (loaded_value_lem a) b.1

  value_of : (r : ℕ) → Holds first (value_in σ.regs r) (register m.regs r)
  value_of r = looked_up first σ.regs m.regs k.registers (r % 8)

  -- The address in a base register, with no offset, is User mode's.
  user_address : (b : ℕ) (n : ℤ) → UserAddress (wrap (register m.regs b)) → eqb (bits 32768 n) 0 ≡ true
      → UserAddress (plus (register m.regs b) n)
  user_address b n u t =
      let z : bits 32768 n ≡ 0 = eqb-true (bits 32768 n) 0 t in
      let e : wrap (register m.regs b) ≡ plus (register m.regs b) n = rw z (omega arith) in
      subst UserAddress e u

  -- LDR
  load_by_base : (v : Value) (r b : ℕ) (n : ℤ) → Holds first v (register m.regs b)
      → loads_by c v m.pc r n σ ≡ true → OutcomeKeeps g (load_to r (plus (register m.regs b) n) m mem)
  unfolding loads_by
  load_by_base unset r b n h t = absurd (false≢true t)
  load_by_base any r b n h t = absurd (false≢true t)
  load_by_base (is d) r b n h t = rw h (load_by_table r (plus d n) t)
  load_by_base high r b n h t = absurd (false≢true t)
  load_by_base low r b n h t = absurd (false≢true t)
  load_by_base (sum d) r b n h t = absurd (false≢true t)
  load_by_base allowed r b n h t =
      let s = both_true (eqb (bits 32768 n) 0) (accepts c (next m.pc) (moved r any σ)) t in
      let a : ℕ = plus (register m.regs b) n in
      let u : UserAddress a = user_address b n h s.0 in
      load_keeps r a any (plain_word_read a u.high (user_word_is_open g a u)) tt s.1

  -- ---- stores

  -- To a plain word that is not the monitor's code and not the caller's PSR.
  store_keeps : (x a : ℕ) (τ : State) → a < 0xFE00 → secret g a ≡ false → Changeable c a → (0x2FFF ≡ a → ⊥)
      → Known c τ m.regs m.psr (set mem a x) → Goes (next m.pc) τ → OutcomeKeeps g (store_at x a m mem)
  unfolding store_at_by stored_by after_instruction recoded
  store_keeps x a τ l o n p h t =
      rw (allowed_in_supervisor_mode m.psr k.supervisor a, plain_word a l)
      (record { reads = tt; writes = (o, tt); invariant = goes_to_routine q t h })

  store_known : (x a : ℕ) (v : Value) → a < 0xFE00 → Changeable c a → (0x2FFF ≡ a → ⊥) → Holds first v x
      → Known c (remember c a v σ) m.regs m.psr (set mem a x)
  unfolding remember
  store_known x a v l n p h = record {
    memory = word_stored k.memory a x n;
    eight = k.eight;
    supervisor = k.supervisor;
    caller = rw (get_or-set_other mem a 0x2FFF x 0 p) k.caller;
    registers = k.registers;
    codes = k.codes;
    words = stored_holds first a v x c.watched σ.words mem (omega (arith, k.memory.size)) h k.words;
  }

  own_store_keeps : (x a : ℕ) (v : Value) → Holds first v x
      → is_own (cell_at (cells_of g) a) || is_free_stack c.lowest a ≡ true
      → Goes (next m.pc) (remember c a v σ) → OutcomeKeeps g (store_at x a m mem)
  own_store_keeps x a v h f t = go (is_own (cell_at (cells_of g) a)) refl f
    where
      go : (y : Bool) → is_own (cell_at (cells_of g) a) ≡ y → y || is_free_stack c.lowest a ≡ true
          → OutcomeKeeps g (store_at x a m mem)
      go true e f =
          let o = own_is_open (cell_at (cells_of g) a) e in
          let l : a < 0x2FFA = monitor_word_is_low g a o in
          let n : Changeable c a = own_is_not_fixed (cell_at (cells_of g) a) e in
          store_keeps x a (remember c a v σ) (omega arith) (monitor_word_is_open g a o) n (λ z. absurd (omega arith))
          (store_known x a v (omega arith) n (λ z. absurd (omega arith)) h) t
      go false e f =
          let b = free_stack_is c.lowest a f in
          let l : a < 0x2FFF = b.1 in
          let d : lowest g ≤ a = omega (arith, b.0, (bounds g).low) in
          let n : Changeable c a = stack_word_changes g a d in
          store_keeps x a (remember c a v σ) (omega arith) (stack_word_is_open g a d (omega arith)) n
          (λ z. absurd (omega arith)) (store_known x a v (omega arith) n (λ z. absurd (omega arith)) h) t

  -- to DDR and MCR
  device_store_keeps : (x a : ℕ) → eqb a DDR || eqb a MCR ≡ true → Goes (next m.pc) σ
      → OutcomeKeeps g (store_at x a m mem)
  device_store_keeps x a f t = go (eqb a DDR) refl f
    where
      to_ddr : OutcomeKeeps g (store_at x DDR m mem)
      to_ddr = unfold store_at_by stored_by is_device_by device_store ddr_store after_instruction recoded in
          rw (allowed_in_supervisor_mode m.psr k.supervisor DDR)
          (record { reads = tt; writes = tt; invariant = goes_to_routine q t k })

      to_mcr : OutcomeKeeps g (store_at x MCR m mem)
      to_mcr = unfold store_at_by stored_by is_device_by device_store mcr_store after_instruction recoded in
          rw (allowed_in_supervisor_mode m.psr k.supervisor MCR)
          (record { reads = tt; writes = tt; invariant = goes_to_routine q t k })

      go : (d : Bool) → eqb a DDR ≡ d → d || eqb a MCR ≡ true → OutcomeKeeps g (store_at x a m mem)
      go true e f = rw (eqb-true a DDR e) to_ddr
      go false e f = rw (eqb-true a MCR f) to_mcr

  store_by_table : (x a : ℕ) (v : Value) → Holds first v x → stores_at c m.pc v a σ ≡ true
      → OutcomeKeeps g (store_at x a m mem)
  store_by_table x a v h t = go (eqb a DDR || eqb a MCR) refl (unfold stores_at in t)
    where
      go : (d : Bool) → eqb a DDR || eqb a MCR ≡ d
          → cond d (accepts c (next m.pc) σ)
          ((is_own (cell_at c.cells a) || is_free_stack c.lowest a) && accepts c (next m.pc) (remember c a v σ))
          ≡ true → OutcomeKeeps g (store_at x a m mem)
      go true e t = device_store_keeps x a e t
      go false e t =
          let b = both_true (is_own (cell_at c.cells a) || is_free_stack c.lowest a)
          (accepts c (next m.pc) (remember c a v σ)) t in
          own_store_keeps x a v h b.0 b.1

  -- To a word of User mode's: nothing that is known changes.
  user_store_keeps : sound c (value_in σ.regs 6) σ.words ≡ true → (x a : ℕ) → UserAddress a
      → Goes (next m.pc) σ → OutcomeKeeps g (store_at x a m mem)
  user_store_keeps s x a u t =
      let r = sound_at c (value_in σ.regs 6) σ.words s in
      let f : 0x3000 ≤ a = u.low in
      let l : a < 0xFE00 = u.high in
      let b = bounds g in
      let n : Changeable c a = unlisted_changes c a (omega (arith, b.cells_deep, b.top)) in
      store_keeps x a σ l (user_word_is_open g a u) n (λ z. absurd (omega arith))
      (record {
        memory = word_stored k.memory a x n;
        eight = k.eight;
        supervisor = k.supervisor;
        caller = rw (get_or-set_other mem a 0x2FFF x 0 (λ z. absurd (omega arith))) k.caller;
        registers = k.registers;
        codes = k.codes;
        words = kept_holds c first r.sp a x mem (λ w y z. apart w f y z) c.watched σ.words r.kept
            k.words;
      }) t
    where
      apart : (w : ℕ) → 0x3000 ≤ a → Keepable c (sound_at c (value_in σ.regs 6) σ.words s).sp w → w ≡ a → ⊥
      apart w f (inl o) z =
          let l : w < 0x2FFA = monitor_word_is_low g w (own_is_open (cell_at (cells_of g) w) o) in
          absurd (omega arith)
      apart w f (inr y) z = absurd (omega (arith, y.1))

  store_by_base : sound c (value_in σ.regs 6) σ.words ≡ true → (v : Value) (x b : ℕ) (n : ℤ) (y : Value)
      → Holds first v (register m.regs b) → Holds first y x
      → stores_by c v m.pc y n σ ≡ true → OutcomeKeeps g (store_at x (plus (register m.regs b) n) m mem)
  unfolding stores_by
  store_by_base s unset x b n y h j t = absurd (false≢true t)
  store_by_base s any x b n y h j t = absurd (false≢true t)
  store_by_base s (is d) x b n y h j t = rw h (store_by_table x (plus d n) y j t)
  store_by_base s high x b n y h j t = absurd (false≢true t)
  store_by_base s low x b n y h j t = absurd (false≢true t)
  store_by_base s (sum d) x b n y h j t = absurd (false≢true t)
  store_by_base s allowed x b n y h j t =
      let r = both_true (eqb (bits 32768 n) 0) (accepts c (next m.pc) σ) t in
      user_store_keeps s x (plus (register m.regs b) n) (user_address b n h r.0) r.1

  -- ---- RTI

  user_psr : (v : ℕ) → 0x8000 ≤ v → in_user_mode (defined_psr v) ≡ true
  unfolding in_user_mode defined_psr
  user_psr v h = le-leb 0x8000 (v / 0x8000 * 0x8000 + v / 256 % 8 * 256 + v % 8) (omega arith)

  low_psr : (v : ℕ) → v < 0x8000 → defined_psr v < 0x8000
  unfolding defined_psr
  low_psr v h = omega arith

  -- To User mode.
  return_to_user : get_or m.regs 6 0 ≡ 0x2FFE → OutcomeKeeps g (return m mem)
  return_to_user six = unfold return in
      rw (supervisor_mode_lem m.psr k.supervisor, six) pops
    where
      deep : lowest g ≤ 0x2FFE
      deep = omega (arith, (bounds g).low, (bounds g).top)

      user : in_user_mode (defined_psr (get_or mem 0x2FFF 0)) ≡ true
      user = user_psr (get_or mem 0x2FFF 0) k.caller

      pops : OutcomeKeeps g (Return.popped 0x2FFE m mem)
      pops = unfold Return.popped after_return in
          record {
            reads = (
              stack_word_is_open g 0x2FFE (omega (arith, deep)) (omega arith),
              (stack_word_is_open g 0x2FFF (omega (arith, deep)) (omega arith), tt),
            );
            writes = tt;
            invariant = stays_in_user_mode q
                (record {
                  memory = k.memory;
                  eight = length-set m.regs 6 _ ∙ k.eight;
                  user = user;
                  stack = rw user;
                });
          }

  -- To a routine.
  known_back : (sp psr : ℕ) → psr < 0x8000
      → Known c (returning sp σ) (with_register m.regs 6 (sp + 2)) psr mem
  unfolding returning all_besides
  known_back sp psr l = record {
    memory = k.memory;
    eight = length-set m.regs 6 (sp + 2) ∙ k.eight;
    supervisor = l;
    caller = k.caller;
    registers = register_taken σ.regs m.regs 6 (is (sp + 2)) (sp + 2) k.registers refl;
    codes = tt;
    words = words_besides m.regs 6 σ.words (sp + 2) _ k.words;
  }

  return_to_routine : (sp : ℕ) → get_or m.regs 6 0 ≡ sp → c.lowest ≤ sp → sp < 0x2FFE
      → get_or mem (sp + 1) 0 < 0x8000 → Goes (get_or mem sp 0) (returning sp σ) → OutcomeKeeps g (return m mem)
  unfolding return Return.popped after_return
  return_to_routine sp six from below l t =
      let n : next sp ≡ sp + 1 = omega arith in
      let nn : next (sp + 1) ≡ sp + 2 = omega arith in
      let p : defined_psr (get_or mem (sp + 1) 0) < 0x8000 = low_psr (get_or mem (sp + 1) 0) l in
      let d : lowest g ≤ sp = omega (arith, (bounds g).low) in
      rw (
        supervisor_mode_lem m.psr k.supervisor,
        six,
        n,
        nn,
        supervisor_mode_lem
            (defined_psr (get_or mem (sp + 1) 0)) p,
      )
      (record {
        reads = (
          stack_word_is_open g sp d (omega arith),
          (stack_word_is_open g (sp + 1) (omega arith) (omega arith), tt),
        );
        writes = tt;
        invariant = goes_to_routine {σ = returning sp σ} q t (known_back sp (defined_psr (get_or mem (sp + 1) 0)) p);
      })

  -- Where the word at sp is a known address.
  jumps_to : (v : Value) (x : ℕ) (τ : State) → Holds first v x → jumps_by c v τ ≡ true → Goes x τ
  unfolding jumps_by
  jumps_to unset x τ h t = absurd (false≢true t)
  jumps_to any x τ h t = absurd (false≢true t)
  jumps_to (is d) x τ h t = rw h t
  jumps_to high x τ h t = absurd (false≢true t)
  jumps_to low x τ h t = absurd (false≢true t)
  jumps_to (sum d) x τ h t = absurd (false≢true t)
  jumps_to allowed x τ h t = absurd (false≢true t)

  return_keeps : sound c (value_in σ.regs 6) σ.words ≡ true → returns_by c (value_in σ.regs 6) σ ≡ true
      → OutcomeKeeps g (return m mem)
  return_keeps s t =
      let r = sound_at c (value_in σ.regs 6) σ.words s in
      let six : get_or m.regs 6 0 ≡ r.sp =
      subst (λ (v : Value). Holds first v (get_or m.regs 6 0)) r.known (value_of 6) in
      go r.sp six r.from r.below (eqb r.sp 0x2FFE) refl
      (subst (λ (v : Value). returns_by c v σ ≡ true) r.known t)
    where
      go : (sp : ℕ) → get_or m.regs 6 0 ≡ sp → c.lowest ≤ sp → sp ≤ 0x2FFE → (b : Bool) → eqb sp 0x2FFE ≡ b
          → returns_by c (is sp) σ ≡ true → OutcomeKeeps g (return m mem)
      go sp six from below true e t = return_to_user (six ∙ eqb-true sp 0x2FFE e)
      go sp six from below false e t =
          let n : sp < 0x2FFE = below_top sp below (eqb-false sp 0x2FFE e) in
          let u : same (held (sp + 1) c.watched σ.words) low
          && jumps_by c (held sp c.watched σ.words) (returning sp σ) ≡ true =
          (unfold returns_by in rw e at t) in
          let b = both_true (same (held (sp + 1) c.watched σ.words) low)
          (jumps_by c (held sp c.watched σ.words) (returning sp σ)) u in
          return_to_routine sp six from n
          (subst (λ (v : Value). Holds first v (get_or mem (sp + 1) 0)) (same_is _ low b.0) (held_value (sp + 1)))
          (jumps_to (held sp c.watched σ.words) (get_or mem sp 0) (returning sp σ) (held_value sp) b.1)
        where
          below_top : (sp : ℕ) → sp ≤ 0x2FFE → (sp ≡ 0x2FFE → ⊥) → sp < 0x2FFE
          below_top sp l n = omega arith

  -- ---- TRAP

  abbrev pushed_two : ℕ → List ℕ
  pushed_two sp = set (set mem (sp - 1) m.psr) (sp - 2) (next m.pc)

  known_called : (sp : ℕ) → c.lowest + 2 ≤ sp → sp ≤ 0x2FFE
      → Known c (calling c m.pc sp σ) (with_register m.regs 6 (sp - 2)) (m.psr % 0x8000) (pushed_two sp)
  unfolding calling besides all_besides
  known_called sp from below =
      let d₁ : lowest g ≤ sp - 1 = omega (arith, (bounds g).low) in
      let d₂ : lowest g ≤ sp - 2 = omega (arith, (bounds g).low) in
      let z : m.psr % 0x8000 ≡ m.psr = omega (arith, k.supervisor) in
      record {
        memory = word_stored (word_stored k.memory (sp - 1) m.psr (stack_word_changes g (sp - 1) d₁)) (sp - 2)
            (next m.pc) (stack_word_changes g (sp - 2) d₂);
        eight = length-set m.regs 6 (sp - 2) ∙ k.eight;
        supervisor = omega arith;
        caller = rw (
          get_or-set_other (set mem (sp - 1) m.psr) (sp - 2) 0x2FFF (next m.pc) 0 (λ e. absurd (omega arith)),
          get_or-set_other mem (sp - 1) 0x2FFF m.psr 0 (λ e. absurd (omega arith)),
        )
            k.caller;
        registers = register_taken σ.regs m.regs 6 (is (sp - 2)) (sp - 2) k.registers refl;
        codes = rw z (codes_besides m.regs 6 σ.codes (sp - 2) _ k.codes);
        words = words_besides m.regs 6
            (stored_in (sp - 2) (is (next m.pc)) c.watched (stored_in (sp - 1) low c.watched σ.words))
            (sp - 2) (words_at c.watched (pushed_two sp))
            (stored_holds first (sp - 2) (is (next m.pc)) (next m.pc) c.watched
            (stored_in (sp - 1) low c.watched σ.words) (set mem (sp - 1) m.psr)
            (omega (arith, length-set mem (sp - 1) m.psr, k.memory.size)) refl
            (stored_holds first (sp - 1) low m.psr c.watched σ.words mem (omega (arith, k.memory.size))
            k.supervisor k.words));
      }

  call_keeps : (vector w sp : ℕ) → cell_at (cells_of g) vector ≡ fixed w → get_or m.regs 6 0 ≡ sp → c.lowest + 2 ≤ sp
      → sp ≤ 0x2FFE → Goes w (calling c m.pc sp σ) → OutcomeKeeps g (raised (trap vector) (next m.pc) m mem)
  unfolding raised entry pushed after_entry stack_pointer_on_entry
  call_keeps vector w sp e six from below t =
      let n₁ : before sp ≡ sp - 1 = omega arith in
      let n₂ : before (sp - 1) ≡ sp - 2 = omega arith in
      let h = known_called sp from below in
      rw (supervisor_mode_lem m.psr k.supervisor, six, n₁, n₂, h.memory.intact vector w e)
      (record {
        reads = (fixed_word_is_open g vector w e, tt);
        writes = (
          stack_word_is_open g (sp - 1) (omega (arith, (bounds g).low)) (omega arith),
          (stack_word_is_open g (sp - 2) (omega (arith, (bounds g).low)) (omega arith), tt),
        );
        invariant = goes_to_routine {σ = calling c m.pc sp σ} q t h;
      })

  trap_keeps : sound c (value_in σ.regs 6) σ.words ≡ true → (vector : ℕ) (x : Cell)
      → cell_at (cells_of g) vector ≡ x → calls_by c m.pc x σ ≡ true
      → OutcomeKeeps g (raised (trap vector) (next m.pc) m mem)
  unfolding calls_by
  trap_keeps s vector (fixed w) e t =
      let r = sound_at c (value_in σ.regs 6) σ.words s in
      let six : get_or m.regs 6 0 ≡ r.sp =
      subst (λ (v : Value). Holds first v (get_or m.regs 6 0)) r.known (value_of 6) in
      go r.sp six r.below (subst (λ (v : Value). calls_from c m.pc w v σ ≡ true) r.known t)
    where
      go : (sp : ℕ) → get_or m.regs 6 0 ≡ sp → sp ≤ 0x2FFE → calls_from c m.pc w (is sp) σ ≡ true
          → OutcomeKeeps g (raised (trap vector) (next m.pc) m mem)
      go sp six below t =
          let b = both_true (leb (c.lowest + 2) sp) (accepts c w (calling c m.pc sp σ))
          (unfold calls_from in t) in
          call_keeps vector w sp e six (leb-true (c.lowest + 2) sp b.0) below b.1
  trap_keeps s vector own e t = absurd (false≢true t)
  trap_keeps s vector hidden e t = absurd (false≢true t)

  -- ---- BR

  abbrev Branched : ℕ → ℕ → ℕ → Type 0
  Branched mask there here =
      OutcomeKeeps g (plain_outcome (after_instruction m.regs (cond (is_taken mask m.psr) there here) kept m) mem)

  -- A branch whose codes are known.
  branch_known : (mask there here codes : ℕ) → m.psr % 8 ≡ codes
      → accepts c (cond (not (eqb (word_and mask codes) 0)) there here) σ ≡ true
      → Branched mask there here
  branch_known mask there here codes e g =
      jump_keeps (cond (is_taken mask m.psr) there here) σ k (unfold is_taken in rw e g)

  -- A branch that may go either way: what is known where it is taken, and where it is not.
  branch_either : (mask there here : ℕ)
      → (is_taken mask m.psr ≡ true → (τ : State) × Known c τ m.regs m.psr mem × (accepts c there τ ≡ true))
      → (is_taken mask m.psr ≡ false → (τ : State) × Known c τ m.regs m.psr mem × (accepts c here τ ≡ true))
      → Branched mask there here
  branch_either mask there here f h = go (is_taken mask m.psr) refl
    where
      go : (b : Bool) → is_taken mask m.psr ≡ b
          → OutcomeKeeps g (plain_outcome (after_instruction m.regs (cond b there here) kept m) mem)
      go true e = let t = f e in jump_keeps there t.0 t.1 t.2
      go false e = let t = h e in jump_keeps here t.0 t.1 t.2

  not_always : (mask here : ℕ) (τ : State) (x : ℕ) → m.psr % 8 ≡ codes_of x → eqb mask 7 || accepts c here τ ≡ true
      → is_taken mask m.psr ≡ false → accepts c here τ ≡ true
  not_always mask here τ x e h t = go (eqb mask 7) refl h
    where
      go : (s : Bool) → eqb mask 7 ≡ s → s || accepts c here τ ≡ true → accepts c here τ ≡ true
      go true z h = absurd (true≢false (sym (always_taken x m.psr e) ∙ rw (eqb-true mask 7 z) at t))
      go false z h = h

  branch_on_some : (mask there here x : ℕ) → m.psr % 8 ≡ codes_of x → either_way c mask there here σ ≡ true
      → Branched mask there here
  unfolding either_way
  branch_on_some mask there here x e t =
      let b = both_true (accepts c there σ) (eqb mask 7 || accepts c here σ) t in
      branch_either mask there here (λ y. (σ, k, b.0)) (λ y. (σ, k, not_always mask here σ x e b.1 y))

  -- R0 is found to be an address of User mode's.
  known_refined : (b : Bool) → (b ≡ true → UserAddress (wrap first)) → Known c (refined_if b σ) m.regs m.psr mem
  unfolding refined_if
  known_refined true u = record {
    memory = k.memory;
    eight = k.eight;
    supervisor = k.supervisor;
    caller = k.caller;
    registers = refined first σ.regs m.regs k.registers allowed (u refl);
    codes = k.codes;
    words = k.words;
  }
  known_refined false u = k

  -- BRn is taken exactly where the value is x8000 or more, and BRzp where it is less.
  taken_if_negative : (x : ℕ) → m.psr % 8 ≡ codes_of x → (is_taken 4 m.psr ≡ true → 0x8000 ≤ x)
      × (is_taken 4 m.psr ≡ false → x < 0x8000)
  taken_if_negative x e =
      let t = (taken_by_sign x m.psr e).0 in
      (λ h. leb-true 0x8000 x (sym t ∙ h), λ h. leb-false 0x8000 x (sym t ∙ h))

  taken_if_not_negative : (x : ℕ) → m.psr % 8 ≡ codes_of x → (is_taken 3 m.psr ≡ true → x < 0x8000)
      × (is_taken 3 m.psr ≡ false → 0x8000 ≤ x)
  taken_if_not_negative x e =
      let t = (taken_by_sign x m.psr e).1 in
      (λ h. ltb-true x 0x8000 (sym t ∙ h), λ h. ltb-false x 0x8000 (sym t ∙ h))

  -- The address plus c is x8000 or more; or is less.
  in_user_space_above : (x d : ℕ) → is_above d ≡ true → 0x8000 ≤ wrap (x + d) → UserAddress (wrap x)
  unfolding is_above
  in_user_space_above x d t h =
      let b = both_true (leb 0x0200 d) (leb d 0x5000) t in
      let f : 0x0200 ≤ d = leb-true 0x0200 d b.0 in
      let l : d ≤ 0x5000 = leb-true d 0x5000 b.1 in
      record { low = omega arith; high = omega arith }

  in_user_space_below : (x d : ℕ) → is_below d ≡ true → wrap (x + d) < 0x8000 → UserAddress (wrap x)
  unfolding is_below
  in_user_space_below x d t h =
      let b = both_true (leb 0x8200 d) (leb d 0xD000) t in
      let f : 0x8200 ≤ d = leb-true 0x8200 d b.0 in
      let l : d ≤ 0xD000 = leb-true d 0xD000 b.1 in
      record { low = omega arith; high = omega arith }

  found_where_taken : (mask d : ℕ) → m.psr % 8 ≡ codes_of (wrap (first + d)) → is_taken mask m.psr ≡ true
      → where_taken mask d ≡ true → UserAddress (wrap first)
  found_where_taken mask d e t h = go (eqb mask 4) refl (unfold where_taken in h)
    where
      go : (n : Bool) → eqb mask 4 ≡ n → cond n (is_above d) (eqb mask 3 && is_below d) ≡ true
          → UserAddress (wrap first)
      go true z h =
          in_user_space_above first d h
          ((taken_if_negative (wrap (first + d)) e).0 (rw (eqb-true mask 4 z) at t))
      go false z h =
          let b = both_true (eqb mask 3) (is_below d) h in
          in_user_space_below first d b.1
          ((taken_if_not_negative (wrap (first + d)) e).0 (rw (eqb-true mask 3 b.0) at t))

  found_where_not_taken : (mask d : ℕ) → m.psr % 8 ≡ codes_of (wrap (first + d)) → is_taken mask m.psr ≡ false
      → where_not_taken mask d ≡ true → UserAddress (wrap first)
  found_where_not_taken mask d e t h = go (eqb mask 4) refl (unfold where_not_taken in h)
    where
      go : (n : Bool) → eqb mask 4 ≡ n → cond n (is_below d) (eqb mask 3 && is_above d) ≡ true
          → UserAddress (wrap first)
      go true z h =
          in_user_space_below first d h
          ((taken_if_negative (wrap (first + d)) e).1 (rw (eqb-true mask 4 z) at t))
      go false z h =
          let b = both_true (eqb mask 3) (is_above d) h in
          in_user_space_above first d b.1
          ((taken_if_not_negative (wrap (first + d)) e).1 (rw (eqb-true mask 3 b.0) at t))

  branch_on_sum : (mask d there here : ℕ) → m.psr % 8 ≡ codes_of (wrap (first + d))
      → accepts c there (refined_if (where_taken mask d) σ)
      && (eqb mask 7 || accepts c here (refined_if (where_not_taken mask d) σ)) ≡ true
      → Branched mask there here
  branch_on_sum mask d there here e t =
      let above = refined_if (where_taken mask d) σ in
      let below = refined_if (where_not_taken mask d) σ in
      let b = both_true (accepts c there above) (eqb mask 7 || accepts c here below) t in
      branch_either mask there here
      (λ y. (above, known_refined (where_taken mask d) (λ h. found_where_taken mask d e y h), b.0))
      (λ y. (
        below,
        known_refined (where_not_taken mask d) (λ h. found_where_not_taken mask d e y h),
        not_always mask here below (wrap (first + d)) e b.1 y,
      ))

  branch_on_low : (mask there here x : ℕ) → m.psr % 8 ≡ codes_of x → x < 0x8000
      → cond (eqb mask 3) (accepts c there σ)
      (cond (eqb mask 4) (accepts c here σ) (either_way c mask there here σ)) ≡ true → Branched mask there here
  branch_on_low mask there here x e l t = go (eqb mask 3) refl (eqb mask 4) refl t
    where
      go : (y : Bool) → eqb mask 3 ≡ y → (z : Bool) → eqb mask 4 ≡ z
          → cond y (accepts c there σ) (cond z (accepts c here σ) (either_way c mask there here σ)) ≡ true
          → Branched mask there here
      go true f z j t =
          branch_either mask there here (λ o. (σ, k, t))
          (λ o. absurd (omega (arith, (taken_if_not_negative x e).1 (rw (eqb-true mask 3 f) at o))))
      go false f true j t =
          branch_either mask there here
          (λ o. absurd (omega (arith, (taken_if_negative x e).0 (rw (eqb-true mask 4 j) at o))))
          (λ o. (σ, k, t))
      go false f false j t = branch_on_some mask there here x e t

  branch_keeps : (v : Value) (mask there here : ℕ) → CodesHold first v (m.psr % 8)
      → branches c v mask there here σ ≡ true
      → Branched mask there here
  unfolding branches
  branch_keeps unset mask there here h t =
      let b = both_true (accepts c there σ) (accepts c here σ) t in
      branch_either mask there here (λ y. (σ, k, b.0)) (λ y. (σ, k, b.1))
  branch_keeps any mask there here h t = branch_on_some mask there here h.0 h.1 t
  branch_keeps (is d) mask there here h t = branch_known mask there here (codes_of d) h t
  branch_keeps high mask there here h t = branch_known mask there here 4 h t
  branch_keeps low mask there here h t = branch_on_low mask there here h.0 h.1 h.2 t
  branch_keeps (sum d) mask there here h t = branch_on_sum mask d there here h t
  branch_keeps allowed mask there here h t = branch_on_some mask there here h.0 h.1 t

  -- JMP and RET
  jump_by_base : (v : Value) (b : ℕ) → Holds first v (register m.regs b) → jumps_by c v σ ≡ true
      → OutcomeKeeps g (plain_outcome (after_instruction m.regs (register m.regs b) kept m) mem)
  unfolding jumps_by
  jump_by_base unset b h t = absurd (false≢true t)
  jump_by_base any b h t = absurd (false≢true t)
  jump_by_base (is d) b h t = rw h (jump_keeps d σ k t)
  jump_by_base high b h t = absurd (false≢true t)
  jump_by_base low b h t = absurd (false≢true t)
  jump_by_base (sum d) b h t = absurd (false≢true t)
  jump_by_base allowed b h t = absurd (false≢true t)

  -- JSRR
  call_by_base : (v : Value) (b : ℕ) → Holds first v (register m.regs b)
      → jumps_by c v (put 7 (is (next m.pc)) σ) ≡ true
      → OutcomeKeeps g
      (plain_outcome (after_instruction (with_register m.regs 7 (next m.pc)) (register m.regs b) kept m) mem)
  unfolding jumps_by
  call_by_base unset b h t = absurd (false≢true t)
  call_by_base any b h t = absurd (false≢true t)
  call_by_base (is d) b h t = rw h (put_keeps 7 (next m.pc) d (is (next m.pc)) refl t)
  call_by_base high b h t = absurd (false≢true t)
  call_by_base low b h t = absurd (false≢true t)
  call_by_base (sum d) b h t = absurd (false≢true t)
  call_by_base allowed b h t = absurd (false≢true t)

  first_is : (r : ℕ) → is_first r ≡ true → register m.regs r ≡ first
  unfolding is_first
  first_is r h = ap (λ (i : ℕ). get_or m.regs i 0) (eqb-true (r % 8) 0 h)

-- ---- LDI and STI: the pointer is a word that never changes

module _ (g : Setting) (σ : State) (m : Machine) (mem : List ℕ) (q : Disabled g.enabled m.devices)
    (k : Known g.claim σ m.regs m.psr mem) where
  by_pointer_keeps : (a w : ℕ) (data-access : ℕ → Machine → List ℕ → Outcome) → cell_at (cells_of g) a ≡ fixed w
      → OutcomeKeeps g (data-access w m mem) → OutcomeKeeps g (by_pointer a data-access m mem)
  by_pointer_keeps a w data-access e o =
      let l : a < 0xFE00 = omega (arith, fixed_is_low g σ m mem q k a w e) in
      rw (by_plain_pointer a data-access m mem k.supervisor l, k.memory.intact a w e)
      (keeps_reads g (lent_word a) (data-access w m mem)
      (plain_word_read g σ m mem q k a l (fixed_word_is_open g a w e)) o)

  load_by_pointer : (r a : ℕ) (x : Cell) → cell_at (cells_of g) a ≡ x → loads_through g.claim m.pc r x σ ≡ true
      → OutcomeKeeps g (by_pointer a (load_to r) m mem)
  unfolding loads_through
  load_by_pointer r a (fixed w) e t =
      by_pointer_keeps a w (load_to r) e (load_by_table g σ m mem q k r w t)
  load_by_pointer r a own e t = absurd (false≢true t)
  load_by_pointer r a hidden e t = absurd (false≢true t)

  store_by_pointer : (x a : ℕ) (v : Value) (y : Cell) → Holds (get_or m.regs 0 0) v x → cell_at (cells_of g) a ≡ y
      → stores_through g.claim m.pc v y σ ≡ true → OutcomeKeeps g (by_pointer a (store_at x) m mem)
  unfolding stores_through
  store_by_pointer x a v (fixed w) h e t =
      by_pointer_keeps a w (store_at x) e (store_by_table g σ m mem q k x w v h t)
  store_by_pointer x a v own h e t = absurd (false≢true t)
  store_by_pointer x a v hidden h e t = absurd (false≢true t)

  -- ---- any instruction

  no_change : (reads : List ℕ) (r x pc : ℕ) (v : Value) → NoneAltered (secret g) reads
      → Holds (get_or m.regs 0 0) v x → accepts g.claim pc (moved r v σ) ≡ true
      → OutcomeKeeps g (touching reads [] (after_instruction (with_register m.regs r x) pc (set_from x) m) mem)
  no_change reads r x pc v n h t = move_keeps g σ m mem q k m.devices reads r x pc v q n h t

  abbrev in_reg : ℕ → Value
  in_reg r = value_in σ.regs r

  harmless_keeps : sound g.claim (value_in σ.regs 6) σ.words ≡ true → (i : Instruction)
      → harmless g.claim m.pc i σ ≡ true → OutcomeKeeps g (perform (plan_of m.regs m.pc m.psr i) m mem)
  unfolding harmless plan_by perform_by
  harmless_keeps s (Br mask n) h = branch_keeps g σ m mem q k σ.codes mask _ _ k.codes h
  harmless_keeps s (AddRegister d a b) h =
      no_change [] d _ _ (sum_of (is_first a) (in_reg a) (in_reg b)) tt
      (sum_of_both_holds _ (is_first a) (in_reg a) (in_reg b) _ _
      (first_is g σ m mem q k a) (value_of g σ m mem q k a) (value_of g σ m mem q k b)) h
  harmless_keeps s (AddImmediate d a n) h =
      no_change [] d _ _ (sum_with (is_first a) (in_reg a) (bits 32768 n)) tt
      (sum_holds _ (is_first a) (in_reg a) _ _ (first_is g σ m mem q k a) (value_of g σ m mem q k a)) h
  harmless_keeps s (Ld d n) h = load_by_table g σ m mem q k d (plus (next m.pc) n) h
  harmless_keeps s (St r n) h =
      store_by_table g σ m mem q k (register m.regs r) (plus (next m.pc) n) (in_reg r)
      (value_of g σ m mem q k r) h
  harmless_keeps s (Jsr n) h = put_keeps g σ m mem q k 7 _ _ (is (next m.pc)) refl h
  harmless_keeps s (Jsrr b) h = call_by_base g σ m mem q k (in_reg b) b (value_of g σ m mem q k b) h
  harmless_keeps s (AndRegister d a b) h =
      no_change [] d _ _ (and_of (in_reg a) (in_reg b)) tt
      (and_of_both_holds _ (in_reg a) (in_reg b) _ _ (value_of g σ m mem q k a) (value_of g σ m mem q k b)) h
  harmless_keeps s (AndImmediate d a n) h =
      no_change [] d _ _ (and_with (in_reg a) (bits 32768 n)) tt
      (and_holds _ (in_reg a) _ _ (value_of g σ m mem q k a)) h
  harmless_keeps s (Ldr d b n) h = load_by_base g σ m mem q k (in_reg b) d b n (value_of g σ m mem q k b) h
  harmless_keeps s (Str r b n) h =
      store_by_base g σ m mem q k s (in_reg b) (register m.regs r) b n (in_reg r)
      (value_of g σ m mem q k b) (value_of g σ m mem q k r) h
  harmless_keeps s Rti h = return_keeps g σ m mem q k s h
  harmless_keeps s (Not d a) h =
      no_change [] d _ _ (not_of (in_reg a)) tt (not_holds _ (in_reg a) _ (value_of g σ m mem q k a)) h
  harmless_keeps s (Ldi d n) h = load_by_pointer d (plus (next m.pc) n) _ refl h
  harmless_keeps s (Sti r n) h =
      store_by_pointer (register m.regs r) (plus (next m.pc) n) (in_reg r) _ (value_of g σ m mem q k r) refl h
  harmless_keeps s (Jmp b) h = jump_by_base g σ m mem q k (in_reg b) b (value_of g σ m mem q k b) h
  harmless_keeps s (Reserved field) h = absurd (false≢true h)
  harmless_keeps s (Lea d n) h = put_keeps g σ m mem q k d _ _ (is (plus (next m.pc) n)) refl h
  harmless_keeps s (Trap vector) h = trap_keeps g σ m mem q k s vector _ refl h

-- A routine obeys its next instruction.
pub routine_keeps : (g : Setting) (m : Machine) (mem : List ℕ) → Disabled g.enabled m.devices
    → InRoutine g.claim (core_of m) mem → OutcomeKeeps g (obeyed m mem)
unfolding obeyed_by
routine_keeps g m mem q r =
    let f = r.found in
    let k = r.known in
    rw (allowed_in_supervisor_mode m.psr k.supervisor m.pc, k.memory.intact m.pc f.word f.at)
    (keeps_reads g (m.pc ∷ []) _ (fixed_word_is_open g m.pc f.word f.at, tt)
    (harmless_keeps g f.state m mem q k f.is_sound (read_of f.word) f.is_harmless))
