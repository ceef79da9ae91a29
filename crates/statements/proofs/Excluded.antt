-- Each exclusion that a step meets is one that M27.7 names: by the definition of what it meets.
use Rattle.machine.specs.declared.Interrupt.{Interrupt}
use Rattle.std.specs.Prelude.{Option, None, Some}
use Prim.Native.Nat.{ℕ, ◌%◌}
use mathlib.Core.Path.{◌≡◌, refl, sym}
use mathlib.Core.Bool.{Bool, true, false, cond, ◌||◌}
use mathlib.Core.List.{List, [], ◌∷◌, ◌++◌}
use borrow.Author.Tests.{eqb-true, eq-eqb}
use lib.Dec.{eqb}
use lib.IntN.{ℤ}
use lib.ListN.{get_or}
use Rattle.word.specs.Reading.{read_of}
use Rattle.word.specs.declared.Instruction.{Instruction}
use Rattle.word.specs.declared.Instruction.TheVariants.{Br, AddRegister, AddImmediate, Ld, St, Jsr, Jsrr, AndRegister}
use Rattle.word.specs.declared.Instruction.TheVariants.{AndImmediate, Ldr, Str, Rti, Not, Ldi, Sti, Jmp, Reserved, Lea}
use Rattle.word.specs.declared.Instruction.TheVariants.{Trap}
use Rattle.machine.specs.declared.Machine.{Machine}
use Rattle.machine.specs.Protection.{denied}
use Rattle.machine.specs.Interrupts.{pending_interrupt}
use Rattle.machine.specs.Step.{after_start}
use Rattle.machine.specs.Exclusions.{Exclusion, lea, trap, jsrr_r7, privileged_address, psr_address}
use Rattle.machine.specs.Exclusions.{instruction_exclusions, address_exclusions, access_exclusions, obeyed_exclusions}
use Rattle.machine.specs.Exclusions.{taken_exclusions, exclusions_of}
use Rattle.footprint.specs.Altered.{is_among}
use Rattle.statements.specs.Excluded.{instruction_at, accesses_at, Named, EachNamed, OnlyNamed, ExclusionsAreNamed}

both_named : (m : Machine) (mem : List ℕ) (xs ys : List Exclusion) → EachNamed m mem xs → EachNamed m mem ys
    → EachNamed m mem (xs ++ ys)
unfolding EachNamed
both_named m mem [] ys h k = k
both_named m mem (x ∷ xs) ys h k = (h.0, both_named m mem xs ys h.1 k)

-- ---- "LEA, TRAP or JSRR R7"

jsrr_named : (m : Machine) (mem : List ℕ) (b : ℕ) → instruction_at m mem ≡ Jsrr b → (t : Bool) → eqb (b % 8) 7 ≡ t
    → EachNamed m mem (cond t (jsrr_r7 ∷ []) [])
unfolding EachNamed
jsrr_named m mem b i true t = ((b, i, eqb-true (b % 8) 7 t), tt)
jsrr_named m mem b i false t = tt

instruction_named : (m : Machine) (mem : List ℕ) (i : Instruction) → instruction_at m mem ≡ i
    → EachNamed m mem (instruction_exclusions i)
unfolding EachNamed instruction_exclusions
instruction_named m mem (Br mask n) e = tt
instruction_named m mem (AddRegister d a b) e = tt
instruction_named m mem (AddImmediate d a n) e = tt
instruction_named m mem (Ld d n) e = tt
instruction_named m mem (St s n) e = tt
instruction_named m mem (Jsr n) e = tt
instruction_named m mem (Jsrr b) e = jsrr_named m mem b e (eqb (b % 8) 7) refl
instruction_named m mem (AndRegister d a b) e = tt
instruction_named m mem (AndImmediate d a n) e = tt
instruction_named m mem (Ldr d b n) e = tt
instruction_named m mem (Str s b n) e = tt
instruction_named m mem Rti e = tt
instruction_named m mem (Not d a) e = tt
instruction_named m mem (Ldi d n) e = tt
instruction_named m mem (Sti s n) e = tt
instruction_named m mem (Jmp b) e = tt
instruction_named m mem (Reserved low) e = tt
instruction_named m mem (Lea d n) e = ((d, n, e), tt)
instruction_named m mem (Trap vector) e = ((vector, e), tt)

-- ---- addresses

address_named : (m : Machine) (mem : List ℕ) (a : ℕ) → is_among a (m.pc ∷ accesses_at m mem) ≡ true
    → (t : Bool) → denied m.psr a ≡ t → EachNamed m mem (cond t (privileged_address ∷ []) [])
unfolding EachNamed
address_named m mem a h true t = ((a, h, t), tt)
address_named m mem a h false t = tt

psr_named : (m : Machine) (mem : List ℕ) (a : ℕ) → is_among a (accesses_at m mem) ≡ true
    → (t : Bool) → eqb a 0xFFFC ≡ t → EachNamed m mem (cond t (psr_address ∷ []) [])
unfolding EachNamed
psr_named m mem a h true t = (rw (sym (eqb-true a 0xFFFC t)) h, tt)
psr_named m mem a h false t = tt

true_or : (p q : Bool) → q ≡ true → (p || q) ≡ true
true_or true q h = refl
true_or false q h = h

none_named : (m : Machine) (mem : List ℕ) → EachNamed m mem []
unfolding EachNamed
none_named m mem = tt

-- Each of these addresses is among the accesses of the step.
accesses_named : (m : Machine) (mem addresses : List ℕ)
    → ((a : ℕ) → is_among a addresses ≡ true → is_among a (accesses_at m mem) ≡ true)
    → EachNamed m mem (access_exclusions m.psr addresses)
unfolding access_exclusions address_exclusions is_among
accesses_named m mem [] h = none_named m mem
accesses_named m mem (a ∷ addresses) h =
    let here : is_among a (accesses_at m mem) ≡ true = h a (rw (eq-eqb a a refl) refl) in
    both_named m mem _ _
    (address_named m mem a (true_or (eqb a m.pc) (is_among a (accesses_at m mem)) here) (denied m.psr a) refl)
    (both_named m mem _ _ (psr_named m mem a here (eqb a 0xFFFC) refl)
    (accesses_named m mem addresses (λ b k. h b (true_or (eqb b a) (is_among b addresses) k))))

obeyed_named : (m : Machine) (mem : List ℕ) → EachNamed m mem (obeyed_exclusions m mem)
unfolding obeyed_exclusions address_exclusions is_among
obeyed_named m mem =
    both_named m mem _ _
    (address_named m mem m.pc (rw (eq-eqb m.pc m.pc refl) refl) (denied m.psr m.pc) refl)
    (both_named m mem _ _ (instruction_named m mem (instruction_at m mem) refl)
    (accesses_named m mem (accesses_at m mem) (λ a h. h)))

taken_named : (p : Option Interrupt) (m : Machine) (mem : List ℕ) → EachNamed m mem (taken_exclusions p m mem)
unfolding taken_exclusions
taken_named None m mem = obeyed_named m mem
taken_named (Some q) m mem = none_named m mem

none_taken : (p : Option Interrupt) (m : Machine) (mem : List ℕ) → (p ≡ None → ⊥) → taken_exclusions p m mem ≡ []
unfolding taken_exclusions
none_taken None m mem h = absurd (h refl)
none_taken (Some q) m mem h = refl

pub exclusions_are_named : ExclusionsAreNamed
unfolding exclusions_of
exclusions_are_named keys m mem = record {
  named = taken_named (pending_interrupt (after_start keys m)) (after_start keys m) mem;
  none_at_interrupt = none_taken (pending_interrupt (after_start keys m)) (after_start keys m) mem;
}
