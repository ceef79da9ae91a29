-- No line is longer than 17 bytes: a signed field has at most four digits, and those of the longest forms at most two.
use Prim.Native.Nat.{ℕ, ◌+◌, ◌*◌, ◌/◌, ◌%◌, ◌<◌, ◌≤◌}
use native.Mathlib.Omega.{arith}
use mathlib.Core.Path.{◌≡◌, refl, ap}
use mathlib.Core.Bool.{Bool, true, false, cond}
use mathlib.Core.List.{[], ◌∷◌, ◌++◌}
use lib.Dec.{eqb, ltb}
use lib.IntN.{ℤ, pos, negsuc}
use lib.ListN.{length, length-append}
use borrow.Author.Tests.{ltb-true, ltb-false}
use Rattle.word.specs.Range.{Within, InRange}
use Rattle.word.specs.Reading.{read_of}
use Rattle.word.specs.FixedBits.{fixed_of}
use Rattle.word.specs.declared.Instruction.{Instruction}
use Rattle.word.specs.declared.Instruction.TheVariants.{Br, AddRegister, AddImmediate, Ld, St, Jsr, Jsrr, AndRegister}
use Rattle.word.specs.declared.Instruction.TheVariants.{AndImmediate, Ldr, Str, Rti, Not, Ldi, Sti, Jmp, Reserved, Lea}
use Rattle.word.specs.declared.Instruction.TheVariants.{Trap}
use Rattle.word.proofs.SignedFields.{within_bound}
use Rattle.word.proofs.Ranges.{read_in_range}
use Rattle.text.specs.Characters.{line_feed, space, E, J, M, P, R, T, lower_n, lower_z, lower_p}
use Rattle.text.specs.Operands.{digit, decimal, register, signed_digits, signed_number}
use Rattle.mnemonics.specs.Statement.{statement, code, codes, fill_line, branch_line}
use Rattle.line.specs.Line.{instruction_line, line_of}
use Rattle.line.specs.Theorems.{LongestLine}
use Rattle.text.proofs.Decimal.{last_digit, digits_before}

-- numbers below b have at most k digits
abbrev Digits : ℕ → ℕ → Type 0
Digits b k = (n : ℕ) → n < b → length (decimal n) ≤ k

one_digit : Digits 10 1
one_digit n p = omega (arith, ap length (last_digit n p))

one_more : (b k : ℕ) → 1 ≤ k → Digits b k → Digits (b * 10) (k + 1)
one_more b k q f n p = go (ltb n 10) refl
  where
    go : (t : Bool) → ltb n 10 ≡ t → length (decimal n) ≤ k + 1
    go true e = omega (arith, ap length (last_digit n (ltb-true n 10 e)))
    go false e =
        let some : length (decimal (n / 10)) ≤ k = f (n / 10) (omega arith) in
        omega (
          arith,
          ap length (digits_before n (ltb-false n 10 e)),
          length-append (decimal (n / 10))
              (digit (n % 10) ∷ []),
        )

two_digits : Digits 100 2
two_digits = one_more 10 1 (omega arith) one_digit

three_digits : Digits 1000 3
three_digits = one_more 100 2 (omega arith) two_digits

four_digits : Digits 10000 4
four_digits = one_more 1000 3 (omega arith) three_digits

-- a number's sign, digits and line feed
field : (b k h : ℕ) → Digits b k → h < b → (n : ℤ) → Within h n → length (signed_digits n ++ line_feed ∷ []) ≤ k + 2
field b k h f p (pos n) r =
    omega (arith, f n (omega (arith, within_bound h (pos n) r)), length-append (decimal n) (line_feed ∷ []))
field b k h f p (negsuc n) r =
    omega (
      arith,
      f (n + 1) (omega (arith, within_bound h (negsuc n) r)),
      length-append (decimal (n + 1))
          (line_feed ∷ []),
    )

imm5_field : (n : ℤ) → Within 16 n → length (signed_digits n ++ line_feed ∷ []) ≤ 4
imm5_field = field 100 2 16 two_digits (omega arith)

offset6_field : (n : ℤ) → Within 32 n → length (signed_digits n ++ line_feed ∷ []) ≤ 4
offset6_field = field 100 2 32 two_digits (omega arith)

pcoffset9_field : (n : ℤ) → Within 256 n → length (signed_digits n ++ line_feed ∷ []) ≤ 5
pcoffset9_field = field 1000 3 256 three_digits (omega arith)

pcoffset11_field : (n : ℤ) → Within 1024 n → length (signed_digits n ++ line_feed ∷ []) ≤ 6
pcoffset11_field = field 10000 4 1024 four_digits (omega arith)

one_letter : (bit letter : ℕ) → length (code bit letter) ≤ 1
one_letter bit letter = go (eqb bit 1)
  where
    go : (t : Bool) → length (cond t (letter ∷ []) []) ≤ 1
    go true = omega arith
    go false = omega arith

letters : (mask : ℕ) → length (codes mask) ≤ 3
letters mask =
    let n = code (mask / 4 % 2) lower_n in
    let z = code (mask / 2 % 2) lower_z in
    let p = code (mask % 2) lower_p in
    omega (
      arith,
      length-append n z,
      length-append (n ++ z) p,
      one_letter (mask / 4 % 2) lower_n,
      one_letter (mask / 2 % 2)
          lower_z,
      one_letter (mask % 2) lower_p,
    )

branch : (w mask : ℕ) (n : ℤ) → Within 256 n → length (instruction_line w (Br mask n)) ≤ 17
branch w mask n r = go (eqb mask 0)
  where
    go : (t : Bool) → length (cond t (fill_line w) (branch_line mask n)) ≤ 17
    go true = omega arith
    go false = omega (
      arith,
      letters mask,
      pcoffset9_field n r,
      length-append (codes mask)
          (space ∷ signed_number n ++ line_feed ∷ []),
    )

jump : (w base : ℕ) → length (instruction_line w (Jmp base)) ≤ 17
jump w base = go (eqb base 7)
  where
    go : (t : Bool) → length (cond t (statement (R ∷ E ∷ T ∷ []) []) (statement (J ∷ M ∷ P ∷ []) (register base ∷ [])))
        ≤ 17
    go true = omega arith
    go false = omega arith

instruction : (w : ℕ) (i : Instruction) → InRange i → length (instruction_line w i) ≤ 17
instruction w (AddRegister dr sr1 sr2) r = omega arith
instruction w (AddImmediate dr sr1 imm5) r = omega (arith, imm5_field imm5 r.2)
instruction w (AndRegister dr sr1 sr2) r = omega arith
instruction w (AndImmediate dr sr1 imm5) r = omega (arith, imm5_field imm5 r.2)
instruction w (Br mask pcoffset9) r = branch w mask pcoffset9 r.1
instruction w (Jmp base) r = jump w base
instruction w (Jsr pcoffset11) r = omega (arith, pcoffset11_field pcoffset11 r)
instruction w (Jsrr base) r = omega arith
instruction w (Ld dr pcoffset9) r = omega (arith, pcoffset9_field pcoffset9 r.1)
instruction w (Ldi dr pcoffset9) r = omega (arith, pcoffset9_field pcoffset9 r.1)
instruction w (Ldr dr base offset6) r = omega (arith, offset6_field offset6 r.2)
instruction w (Lea dr pcoffset9) r = omega (arith, pcoffset9_field pcoffset9 r.1)
instruction w (Not dr sr) r = omega arith
instruction w Rti r = omega arith
instruction w (St sr pcoffset9) r = omega (arith, pcoffset9_field pcoffset9 r.1)
instruction w (Sti sr pcoffset9) r = omega (arith, pcoffset9_field pcoffset9 r.1)
instruction w (Str sr base offset6) r = omega (arith, offset6_field offset6 r.2)
instruction w (Trap trapvect8) r = omega arith
instruction w (Reserved low12) r = omega arith

pub longest_line : LongestLine
unfolding line_of
longest_line w p = go (eqb (fixed_of w) w)
  where
    go : (t : Bool) → length (cond t (instruction_line w (read_of w)) (fill_line w)) ≤ 17
    go true = instruction w (read_of w) (read_in_range w p)
    go false = omega arith
