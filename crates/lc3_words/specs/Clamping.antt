-- A value in the 16 bits of an instruction's field. Only the conversion of a flat instruction cites this file.
use Rattle.std.specs.Prelude.{ℕ, cond, ltb, ℤ, pos, negsuc, Result, Ok, Err}
use Rattle.word.specs.Field.{within}
use Rattle.word.specs.declared.Instruction.{Instruction}
use Rattle.word.specs.declared.WriteRefusal.{WriteRefusal}
use Rattle.word.specs.declared.WriteRefusal.TheVariants.{Field}
use Rattle.lc3_words.specs.Unflat.{kinds, form_of}
use Rattle.lc3_words.specs.declared.Lc3Instruction.{Lc3Instruction}

-- a value within -32768 to 32767 as it is, and 32767 for every other
abbrev pub clamp_signed : ℤ → ℤ
clamp_signed v = cond (within 32768 v) v (pos 32767)

-- a value within 0 to 65535 as it is, and 65535 for every other
abbrev pub clamp_unsigned : ℤ → ℕ
clamp_unsigned (pos n) = cond (ltb n 65536) n 65535
clamp_unsigned (negsuc n) = 65535

-- the form of a flat instruction's kind, with its value in 16 bits
abbrev pub clamped_form : Lc3Instruction → Instruction
clamped_form f = form_of f.kind f.a f.b f.c (clamp_signed f.value) (clamp_unsigned f.value)

-- the instruction of a known kind; an unknown kind is refused as a field out of range
abbrev pub clamped_of : Lc3Instruction → Result Instruction WriteRefusal
clamped_of f = cond (ltb f.kind kinds) (Ok (clamped_form f)) (Err Field)
