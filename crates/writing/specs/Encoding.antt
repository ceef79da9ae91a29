-- The forms that the private functions of src/lib.rt encode; only their contracts cite this file. Each is what
-- `write_of` gives the instructions of that form, over the opcode with the fixed bits and the numbers to be put in
-- place.
use Rattle.std.specs.Prelude.{ℕ, ◌+◌, ◌*◌, true, [], ◌∷◌, ltb, ℤ, Result}
use Rattle.word.specs.Field.{bits, within}
use Rattle.word.specs.Writing.{all_up_to7, answer}
use Rattle.word.specs.declared.WriteRefusal.{WriteRefusal}

-- registers at bits 9 and 6, and a signed field of h + h patterns at bit 0
abbrev pub field_form : ℕ → ℕ → ℕ → ℕ → ℤ → Result ℕ WriteRefusal
field_form fixed a b h n = answer (all_up_to7 (a ∷ b ∷ [])) (within h n) true
    (fixed + a * 512 + b * 64 + bits h n)

-- registers at bits 9, 6 and 0
abbrev pub registers_form : ℕ → ℕ → ℕ → ℕ → Result ℕ WriteRefusal
registers_form fixed a b c = answer (all_up_to7 (a ∷ b ∷ c ∷ [])) true true (fixed + a * 512 + b * 64 + c)

-- a number below the limit at bit 0
abbrev pub number_form : ℕ → ℕ → ℕ → Result ℕ WriteRefusal
number_form fixed limit n = answer true (ltb n limit) true (fixed + n)

-- the BR mask at bit 9, and PCoffset9 at bit 0
abbrev pub branch_form : ℕ → ℤ → Result ℕ WriteRefusal
branch_form mask n = answer true (within 256 n) (ltb mask 8) (0x0000 + mask * 512 + bits 256 n)
