-- What a flat instruction is written as.
use Rattle.std.specs.Prelude.{ℕ, Bool, cond, ltb, Result, Ok, Err}
use Rattle.word.specs.Writing.{write_of, refusal_number}
use Rattle.word.specs.declared.WriteRefusal.{WriteRefusal}
use Rattle.word.specs.declared.WriteRefusal.TheVariants.{Field}
use Rattle.lc3_words.specs.Unflat.{kinds, instruction_of}
use Rattle.lc3_words.specs.declared.Lc3Instruction.{Lc3Instruction}
use Rattle.lc3_words.specs.declared.Lc3Written.{Lc3Written}

-- the answers: a word with 0, or word 0 with the number of a refusal
abbrev pub written : ℕ → Lc3Written
written w = record { word = w; refusal = 0 }

abbrev pub refused : ℕ → Lc3Written
refused r = record { word = 0; refusal = r }

-- an answer of `write`, for a host
abbrev pub host_answer : Result ℕ WriteRefusal → Lc3Written
host_answer (Ok w) = written w
host_answer (Err e) = refused (refusal_number e)

-- a known kind is written as the instruction that it is; an unknown kind is refused as a field out of range, whatever
-- its operands
abbrev pub flat_write_of : Lc3Instruction → Result ℕ WriteRefusal
flat_write_of f = cond (ltb f.kind kinds) (write_of (instruction_of f)) (Err Field)

-- 1 if a register is above 7, else 2 if the value is out of range, else 3 if the mask is above 7, else 0
abbrev pub refusal : Bool → Bool → Bool → ℕ
refusal registersRight valueRight maskRight = cond registersRight (cond valueRight (cond maskRight 0 3) 2) 1

-- what `lc3_write` answers
unfoldable pub written_of : Lc3Instruction → Lc3Written
written_of f = host_answer (flat_write_of f)
