-- `written_of` at a known and at an unknown kind, and what is written of a flat instruction with its value in 16 bits.
use Prim.Native.Nat.{◌≤◌, ◌<◌}
use mathlib.Core.Path.{◌≡◌, refl, ap, ◌∙◌}
use mathlib.Core.Bool.{Bool, true, false, cond, true≢false}
use lib.Dec.{ltb}
use borrow.Author.Tests.{ltb-true, lt-ltb, le-ltb}
use Rattle.std.specs.Prelude.{Result, Ok, Err, is_ok}
use Rattle.std.specs.Result.{result_unwrap_or}
use Rattle.word.specs.Writing.{write_of}
use Rattle.word.specs.declared.Instruction.{Instruction}
use Rattle.word.specs.declared.Instruction.TheVariants.{Rti}
use Rattle.word.specs.declared.WriteRefusal.{WriteRefusal}
use Rattle.word.specs.declared.WriteRefusal.TheVariants.{Field}
use Rattle.lc3_words.specs.Unflat.{kinds, instruction_of}
use Rattle.lc3_words.specs.Writing.{refused, host_answer, flat_write_of, written_of}
use Rattle.lc3_words.specs.Clamping.{clamped_form, clamped_of}
use Rattle.lc3_words.specs.declared.Lc3Instruction.{Lc3Instruction}
use Rattle.lc3_words.specs.declared.Lc3Written.{Lc3Written}
use Rattle.lc3_words.proofs.Alike.{written_alike}

-- the answer by the test of the kind
abbrev answer_by : Lc3Instruction → Bool → Lc3Written
answer_by f t = host_answer (cond t (write_of (instruction_of f)) (Err Field))

pub known_kind_written : (f : Lc3Instruction) → f.kind < kinds → written_of f
    ≡ host_answer (write_of (instruction_of f))
unfolding written_of
known_kind_written f p = ap (answer_by f) (lt-ltb f.kind kinds p)

pub unknown_kind_refused : (f : Lc3Instruction) → kinds ≤ f.kind → written_of f ≡ refused 2
unfolding written_of
unknown_kind_refused f p = ap (answer_by f) (le-ltb f.kind kinds p)

-- a flat instruction is written as the one with its value in 16 bits
pub clamped_written : (f : Lc3Instruction) (i : Instruction) → Ok i ≡ clamped_of f → write_of i ≡ flat_write_of f
clamped_written f i = go (ltb f.kind kinds) refl
  where
    instruction : Result Instruction WriteRefusal → Instruction
    instruction r = result_unwrap_or r Rti

    go : (t : Bool) → ltb f.kind kinds ≡ t
        → Ok i ≡ cond t (Ok (clamped_form f)) (Err Field)
        → write_of i ≡ cond t (write_of (instruction_of f)) (Err Field)
    go true e p =
        ap write_of (ap instruction p) ∙ written_alike f.kind f.a f.b f.c f.value (ltb-true f.kind kinds e)
    go false e p = absurd (true≢false (ap is_ok p))
