-- A step that meets none of the exclusions is the same by both editions: its plan is one that the editions share, each
-- of its addresses is allowed, and none of them is xFFFC, so it is a device register by both or by neither.
use Rattle.machine.specs.declared.Interrupt.{Interrupt}
use Rattle.std.specs.Prelude.{Option, None, Some}
use Prim.Native.Nat.{ℕ, ◌%◌}
use mathlib.Core.Path.{◌≡◌, refl, ap}
use mathlib.Core.Bool.{Bool, true, false, cond, true≢false}
use mathlib.Core.List.{List, [], ◌∷◌, ◌++◌}
use native.Mathlib.Omega.{arith}
use lib.Dec.{eqb}
use lib.ListN.{length, get_or}
use Rattle.word.specs.Reading.{read_of}
use Rattle.word.specs.declared.Instruction.{Instruction}
use Rattle.word.specs.declared.Instruction.TheVariants.{Br, AddRegister, AddImmediate, Ld, St, Jsr, Jsrr, AndRegister}
use Rattle.word.specs.declared.Instruction.TheVariants.{AndImmediate, Ldr, Str, Rti, Not, Ldi, Sti, Jmp, Reserved, Lea}
use Rattle.word.specs.declared.Instruction.TheVariants.{Trap}
use Rattle.machine.specs.declared.Machine.{Machine}
use Rattle.machine.specs.Edition.{third, second}
use Rattle.machine.specs.Words.{next, plus, register}
use Rattle.machine.specs.Psr.{kept}
use Rattle.machine.specs.Outcome.{Outcome, with_reads, after_instruction}
use Rattle.machine.specs.Interrupts.{pending_interrupt}
use Rattle.machine.specs.Protection.{denied_by, denied}
use Rattle.machine.specs.Devices.{PSR, is_device_by, lent_word_by, loaded_value_by, after_load, stored_by}
use Rattle.machine.specs.Access.{load_to_by, store_at_by, by_pointer_by}
use Rattle.machine.specs.Plan.{plan_by}
use Rattle.machine.specs.Step.{perform_by, obeyed_by, interrupted_or_obeyed_by, ended, after_start, step_by}
use Rattle.machine.specs.Exclusions.{Exclusion, lea, trap, jsrr_r7, privileged_address, psr_address}
use Rattle.machine.specs.Exclusions.{instruction_exclusions, accesses_of, address_exclusions, access_exclusions}
use Rattle.machine.specs.Exclusions.{obeyed_exclusions, taken_exclusions, exclusions_of, CommonStepsAgree}

-- ---- lists of exclusions

none_in_first : (xs ys : List Exclusion) → xs ++ ys ≡ [] → xs ≡ []
none_in_first [] ys h = refl
none_in_first (x ∷ xs) ys h = absurd (none_of_more (ap length h))
  where
    none_of_more : length (x ∷ (xs ++ ys)) ≡ 0 → ⊥
    none_of_more l = omega arith

none_in_second : (xs ys : List Exclusion) → xs ++ ys ≡ [] → ys ≡ []
none_in_second xs ys h = rw (none_in_first xs ys h) at h

none_is_false : (x : Exclusion) (b : Bool) → cond b (x ∷ []) [] ≡ [] → b ≡ false
none_is_false x false h = refl
none_is_false x true h = absurd (one_is_some (ap length h))
  where
    one_is_some : length (x ∷ []) ≡ 0 → ⊥
    one_is_some l = omega arith

-- ---- one address

-- An address that the editions treat alike.
record Alike (psr a : ℕ) : Type 0 where
  allowed : denied psr a ≡ false
  plain : eqb a PSR ≡ false

first_alike : (psr a : ℕ) (addresses : List ℕ) → access_exclusions psr (a ∷ addresses) ≡ [] → Alike psr a
unfolding access_exclusions address_exclusions
first_alike psr a addresses h = record {
  allowed = none_is_false privileged_address (denied psr a) (none_in_first _ _ h);
  plain = none_is_false psr_address (eqb a PSR) (none_in_first _ _ (none_in_second (address_exclusions psr a) _ h));
}

rest_alike : (psr a : ℕ) (addresses : List ℕ) → access_exclusions psr (a ∷ addresses) ≡ []
    → access_exclusions psr addresses ≡ []
unfolding access_exclusions
rest_alike psr a addresses h = none_in_second (cond (eqb a PSR) (psr_address ∷ []) []) _
    (none_in_second (address_exclusions psr a) _ h)

second_allows : (psr a : ℕ) → denied_by second psr a ≡ false
unfolding denied_by
second_allows psr a = refl

module _ (a : ℕ) (plain : eqb a PSR ≡ false) where
  devices_alike : is_device_by second a ≡ is_device_by third a
  unfolding is_device_by
  devices_alike = rw plain

  lent_words_alike : lent_word_by second a ≡ lent_word_by third a
  unfolding lent_word_by
  lent_words_alike = rw devices_alike

  loaded_values_alike : (m : Machine) (mem : List ℕ) → loaded_value_by second a m mem ≡ loaded_value_by third a m mem
  unfolding loaded_value_by
  loaded_values_alike m mem = rw devices_alike

  stored_alike : (v : ℕ) (m : Machine) (mem : List ℕ) → stored_by second v a m mem ≡ stored_by third v a m mem
  unfolding stored_by
  stored_alike v m mem = rw devices_alike

-- ---- the accesses

module _ (m : Machine) (mem : List ℕ) where
  loads_alike : (r a : ℕ) → Alike m.psr a → load_to_by second r a m mem ≡ load_to_by third r a m mem
  unfolding load_to_by
  loads_alike r a h =
      rw (second_allows m.psr a, h.allowed, loaded_values_alike a h.plain m mem, lent_words_alike a h.plain)

  stores_alike : (v a : ℕ) → Alike m.psr a → store_at_by second v a m mem ≡ store_at_by third v a m mem
  unfolding store_at_by
  stores_alike v a h =
      rw (second_allows m.psr a, h.allowed)
      (stored_alike a h.plain v (after_instruction m.regs (next m.pc) kept m) mem)

  pointers_alike : (a : ℕ) (act₂ act₃ : ℕ → Machine → List ℕ → Outcome) → Alike m.psr a
      → act₂ (loaded_value_by second a m mem) (after_load a m) mem
      ≡ act₃ (loaded_value_by second a m mem) (after_load a m) mem
      → by_pointer_by second a act₂ m mem ≡ by_pointer_by third a act₃ m mem
  unfolding by_pointer_by
  pointers_alike a act₂ act₃ h e =
      rw (
        second_allows m.psr a,
        h.allowed,
        e,
        loaded_values_alike a h.plain m mem,
        lent_words_alike a h.plain,
      )

module _ (m : Machine) (mem : List ℕ) (a : ℕ)
    (h : access_exclusions m.psr (a ∷ loaded_value_by second a m mem ∷ []) ≡ [])
  where
    pointed_alike : Alike m.psr (loaded_value_by second a m mem)
    pointed_alike = first_alike m.psr (loaded_value_by second a m mem) [] (rest_alike m.psr a _ h)

    loads_by_alike : (r : ℕ)
        → by_pointer_by second a (load_to_by second r) m mem ≡ by_pointer_by third a (load_to_by third r) m mem
    unfolding after_load
    loads_by_alike r =
        pointers_alike m mem a (load_to_by second r) (load_to_by third r) (first_alike m.psr a _ h)
        (loads_alike (after_load a m) mem r (loaded_value_by second a m mem) pointed_alike)

    stores_by_alike : (v : ℕ)
        → by_pointer_by second a (store_at_by second v) m mem ≡ by_pointer_by third a (store_at_by third v) m mem
    unfolding after_load
    stores_by_alike v =
        pointers_alike m mem a (store_at_by second v) (store_at_by third v) (first_alike m.psr a _ h)
        (stores_alike (after_load a m) mem v (loaded_value_by second a m mem) pointed_alike)

-- ---- the step

some_is_not_none : (x : Exclusion) → x ∷ [] ≡ [] → ⊥
some_is_not_none x h = absurd (true≢false (none_is_false x true h))

module _ (m : Machine) (mem : List ℕ) where
  instructions_alike : (i : Instruction) → instruction_exclusions i ≡ []
      → access_exclusions m.psr (accesses_of (plan_by second m.regs m.pc m.psr i) m mem) ≡ []
      → perform_by second (plan_by second m.regs m.pc m.psr i) m mem
      ≡ perform_by third (plan_by third m.regs m.pc m.psr i) m mem
  unfolding instruction_exclusions accesses_of plan_by perform_by
  instructions_alike (Br mask n) c h = refl
  instructions_alike (AddRegister d a b) c h = refl
  instructions_alike (AddImmediate d a n) c h = refl
  instructions_alike (Ld d n) c h = loads_alike m mem d (plus (next m.pc) n) (first_alike m.psr _ [] h)
  instructions_alike (St s n) c h =
      stores_alike m mem (register m.regs s) (plus (next m.pc) n) (first_alike m.psr _ [] h)
  instructions_alike (Jsr n) c h = refl
  instructions_alike (Jsrr b) c h = rw (none_is_false jsrr_r7 (eqb (b % 8) 7) c) refl
  instructions_alike (AndRegister d a b) c h = refl
  instructions_alike (AndImmediate d a n) c h = refl
  instructions_alike (Ldr d b n) c h =
      loads_alike m mem d (plus (register m.regs b) n) (first_alike m.psr _ [] h)
  instructions_alike (Str s b n) c h =
      stores_alike m mem (register m.regs s) (plus (register m.regs b) n) (first_alike m.psr _ [] h)
  instructions_alike Rti c h = refl
  instructions_alike (Not d a) c h = refl
  instructions_alike (Ldi d n) c h = loads_by_alike m mem (plus (next m.pc) n) h d
  instructions_alike (Sti s n) c h = stores_by_alike m mem (plus (next m.pc) n) h (register m.regs s)
  instructions_alike (Jmp b) c h = refl
  instructions_alike (Reserved low) c h = refl
  instructions_alike (Lea d n) c h = absurd (some_is_not_none lea c)
  instructions_alike (Trap vector) c h = absurd (some_is_not_none trap c)

  obeyed_alike : obeyed_exclusions m mem ≡ [] → obeyed_by second m mem ≡ obeyed_by third m mem
  unfolding obeyed_exclusions address_exclusions obeyed_by
  obeyed_alike h =
      let i = read_of (get_or mem m.pc 0) in
      let d = none_is_false privileged_address (denied m.psr m.pc) (none_in_first _ _ h) in
      let r = none_in_second (address_exclusions m.psr m.pc) _ h in
      rw (second_allows m.psr m.pc, d)
      (ap (with_reads (m.pc ∷ []))
      (instructions_alike i (none_in_first _ _ r) (none_in_second (instruction_exclusions i) _ r)))

  taken_alike : (pending : Option Interrupt) → taken_exclusions pending m mem ≡ []
      → interrupted_or_obeyed_by second pending m mem ≡ interrupted_or_obeyed_by third pending m mem
  unfolding taken_exclusions interrupted_or_obeyed_by
  taken_alike None h = obeyed_alike h
  taken_alike (Some q) h = refl

pub common_steps_agree : CommonStepsAgree
unfolding exclusions_of step_by
common_steps_agree keys m mem h =
    ap ended (taken_alike (after_start keys m) mem (pending_interrupt (after_start keys m)) h)
