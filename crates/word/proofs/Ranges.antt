-- What is read is in range, by the opcode; and what is in range is written and nothing else, since the tests of
-- `write_of` are the bounds of `InRange`.
use Rattle.std.proofs.Common.{◌≡◌, ℕ, ◌/◌, ◌%◌, ◌<◌, Bool, true, false, cond, ◌&&◌, eqb, ltb, ◌↔◌, List, [], ◌∷◌, refl}
use Rattle.std.proofs.Common.{arith, ltb-true, lt-ltb}
use Rattle.word.specs.Reading.{bits11to9, bits8to6, bits2to0, opcode, read_of}
use Rattle.word.specs.Writing.{all_up_to7, registers_in_range, field_in_range, mask_in_range, write_of}
use Rattle.word.specs.Range.{InRange}
use Rattle.word.specs.Theorems.{ReadInRange, WrittenInRange, NotRefusedExactly}
use Rattle.word.specs.declared.Instruction.{Instruction}
use Rattle.word.specs.declared.Instruction.TheVariants.{Br, AddRegister, AddImmediate, Ld, St, Jsr, Jsrr}
use Rattle.word.specs.declared.Instruction.TheVariants.{AndRegister, AndImmediate, Ldr, Str, Rti, Not, Ldi, Sti}
use Rattle.word.specs.declared.Instruction.TheVariants.{Jmp, Reserved, Lea, Trap}
use Rattle.word.proofs.SignedFields.{signed_fields_of_the_figure as fields}
use Rattle.word.proofs.Opcodes.{form, Below, ◌&◌, each}
use Rattle.word.proofs.Refusals.{refusals_in_order}

-- ---- what is read
one_of : (t : Bool) (i j : Instruction) → InRange i → InRange j → InRange (cond t i j)
one_of true i j p q = p
one_of false i j p q = q

pub read_in_range : ReadInRange
unfolding read_of Below
read_in_range w h = each (λ k. InRange (form w k)) 16 cases (opcode w) (omega arith)
  where
    cases : Below (λ k. InRange (form w k)) 16
    cases =
        let a : bits11to9 w < 8 = omega arith in
        let b : bits8to6 w < 8 = omega arith in
        let c : bits2to0 w < 8 = omega arith in
        let imm5 = fields.imm5.range w in
        let offset6 = fields.offset6.range w in
        let pcoffset9 = fields.pcoffset9.range w in
        let pcoffset11 = fields.pcoffset11.range w in
        (a, pcoffset9)
        & one_of (eqb (w / 32 % 2) 0) _ _ (a, b, c) (a, b, imm5)
        & (a, pcoffset9)
        & (a, pcoffset9)
        & one_of (eqb (w / 2048 % 2) 0) _ _ b pcoffset11
        & one_of (eqb (w / 32 % 2) 0) _ _ (a, b, c) (a, b, imm5)
        & (a, b, offset6)
        & (a, b, offset6)
        & tt
        & (a, b)
        & (a, pcoffset9)
        & (a, pcoffset9)
        & b
        & omega arith
        & (a, pcoffset9)
        & omega arith
        & tt

-- ---- registers, each up to 7
abbrev UpTo7 : List ℕ → Type 0
UpTo7 [] = Unit {0}
UpTo7 (r ∷ rs) = (r < 8) × UpTo7 rs

both_true : (a b : Bool) → a && b ≡ true → (a ≡ true) × (b ≡ true)
both_true true b e = (refl, e)
both_true false b e = let z : ◌≡◌ {A = ℕ} 0 1 = cc in absurd (omega arith)

tested : (rs : List ℕ) → all_up_to7 rs ≡ true → UpTo7 rs
tested [] e = tt
tested (r ∷ rs) e =
    let p = both_true (ltb r 8) (all_up_to7 rs) e in
    (ltb-true r 8 p.0, tested rs p.1)

test : (rs : List ℕ) → UpTo7 rs → all_up_to7 rs ≡ true
test [] u = refl
test (r ∷ rs) u = rw (lt-ltb r 8 u.0, test rs u.1)

-- ---- the tests of `write_of` pass exactly for the instructions in range
abbrev Pass : Bool → Bool → Bool → Type 0
Pass a b c = (a ≡ true) × (b ≡ true) × (c ≡ true)

one_and : (a : ℕ) (t : Bool) → Pass (all_up_to7 (a ∷ [])) t true ↔ ((a < 8) × (t ≡ true))
one_and a t = (λ p. ((tested (a ∷ []) p.0).0, p.1), λ r. (test (a ∷ []) (r.0, tt), r.1, refl))

two_and : (a b : ℕ) (t : Bool) → Pass (all_up_to7 (a ∷ b ∷ [])) t true ↔ ((a < 8) × (b < 8) × (t ≡ true))
two_and a b t = (
  λ p. let u = tested (a ∷ b ∷ []) p.0 in (u.0, u.1.0, p.1),
  λ r.
      (test (a ∷ b ∷ []) (r.0, (r.1, tt)), r.2, refl),
)

three : (a b c : ℕ) → Pass (all_up_to7 (a ∷ b ∷ c ∷ [])) true true ↔ ((a < 8) × (b < 8) × (c < 8))
three a b c = (
  λ p. let u = tested (a ∷ b ∷ c ∷ []) p.0 in (u.0, u.1.0, u.1.1.0),
  λ r.
      (test (a ∷ b ∷ c ∷ []) (r.0, (r.1, (r.2, tt))), refl, refl),
)

two : (a b : ℕ) → Pass (all_up_to7 (a ∷ b ∷ [])) true true ↔ ((a < 8) × (b < 8))
two a b = (λ p. let r = (two_and a b true).0 p in (r.0, r.1), λ r. (two_and a b true).1 (r.0, r.1, refl))

one : (a : ℕ) → Pass (all_up_to7 (a ∷ [])) true true ↔ (a < 8)
one a = (λ p. ((one_and a true).0 p).0, λ r. (one_and a true).1 (r, refl))

number : (n l : ℕ) → Pass true (ltb n l) true ↔ (n < l)
number n l = (λ p. ltb-true n l p.1, λ r. (refl, lt-ltb n l r, refl))

passes : (i : Instruction) → Pass (registers_in_range i) (field_in_range i) (mask_in_range i) ↔ InRange i
passes (AddRegister dr sr1 sr2) = three dr sr1 sr2
passes (AddImmediate dr sr1 imm5) = two_and dr sr1 _
passes (AndRegister dr sr1 sr2) = three dr sr1 sr2
passes (AndImmediate dr sr1 imm5) = two_and dr sr1 _
passes (Br mask pcoffset9) = (λ p. (ltb-true mask 8 p.2, p.1), λ r. (refl, r.1, lt-ltb mask 8 r.0))
passes (Jmp base) = one base
passes (Jsr pcoffset11) = (λ p. p.1, λ r. (refl, r, refl))
passes (Jsrr base) = one base
passes (Ld dr pcoffset9) = one_and dr _
passes (Ldi dr pcoffset9) = one_and dr _
passes (Ldr dr base offset6) = two_and dr base _
passes (Lea dr pcoffset9) = one_and dr _
passes (Not dr sr) = two dr sr
passes Rti = (λ p. tt, λ r. (refl, refl, refl))
passes (St sr pcoffset9) = one_and sr _
passes (Sti sr pcoffset9) = one_and sr _
passes (Str sr base offset6) = two_and sr base _
passes (Trap trapvect8) = number trapvect8 256
passes (Reserved low12) = number low12 4096

pub not_refused_exactly : NotRefusedExactly
not_refused_exactly i =
    let e = (refusals_in_order i).none in
    (λ z. (passes i).0 (e.0 z), λ r. e.1 ((passes i).1 r))

pub written_in_range : WrittenInRange
unfolding write_of
written_in_range i r =
    let p = (passes i).1 r in
    simp (p.0, p.1, p.2)
