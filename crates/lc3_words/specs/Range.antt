-- The values that each kind takes, as a host's number of 32 bits.
use Rattle.std.specs.Prelude.{ℕ, Bool, true, ◌&&◌, List, [], ◌∷◌, get_or, ℤ, pos}
use Rattle.std.specs.Int.Signed.{le_z, lt_z}
use Rattle.word.specs.Field.{within}
use Rattle.lc3_words.specs.declared.Lc3Instruction.{Lc3Instruction}

-- v is one of 0 to limit - 1
abbrev pub below : ℕ → ℤ → Bool
below limit v = le_z (pos 0) v && lt_z v (pos limit)

-- for each kind from 0 to 18: PCoffset9 from -256 to 255, imm5 from -16 to 15, PCoffset11 from -1024 to 1023, offset6
-- from -32 to 31, reserved field from 0 to 4095, trap vector from 0 to 255; any value where the kind has no use for one
abbrev pub value_ranges : ℤ → List Bool
value_ranges v =
    within 256 v
    ∷ true
    ∷ within 16 v
    ∷ within 256 v
    ∷ within 256 v
    ∷ within 1024 v
    ∷ true
    ∷ true
    ∷ within 16 v
    ∷ within 32 v
    ∷ within 32 v
    ∷ true
    ∷ true
    ∷ within 256 v
    ∷ within 256 v
    ∷ true
    ∷ below 4096 v
    ∷ within 256 v
    ∷ below 256 v
    ∷ []

abbrev pub value_in_range : Lc3Instruction → Bool
value_in_range f = get_or (value_ranges f.value) f.kind true
