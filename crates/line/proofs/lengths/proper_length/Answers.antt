-- `line::lengths::proper_length` meets its contract: each arm of the match knows its opcode.
use Prim.Native.Nat.{ℕ, ◌/◌}
use mathlib.Core.Path.{◌≡◌, refl, sym, ap, ◌∙◌}
use mathlib.Core.List.{[], ◌∷◌}
use lib.ListN.{length, get_or}
use Rattle.word.specs.Reading.{opcode}
use Rattle.word.proofs.Opcodes.{none_below}
use Rattle.text.specs.Characters.{A, D, E, I, L, N, R, S, T}
use Rattle.line.specs.Shapes.{proper_lines, proper_line}
use Rattle.line.proofs.ShapeLaws.{last_opcode, proper_as}
use Rattle.line.proofs.lengths.proper_length.Goals as goal

-- the line of a word by its opcode
of : (w k : ℕ) → opcode w ≡ k → length (get_or (proper_lines w) k []) ≡ length (proper_line w)
of w k e = ap length (sym (proper_as w k e))

pub returns-in-0 : goal.returns-in-0
returns-in-0 c =
    c.br_length.ensures ∙ of c.args.word 0 c.in-0.is

pub returns-in-1 : goal.returns-in-1
returns-in-1 c =
    c.operate_length.ensures (A ∷ D ∷ D ∷ []) refl ∙ of c.args.word 1 c.in-1.is

pub returns-in-2 : goal.returns-in-2
returns-in-2 c =
    c.relative_length.ensures (L ∷ D ∷ []) refl ∙ of c.args.word 2 c.in-2.is

pub returns-in-3 : goal.returns-in-3
returns-in-3 c =
    c.relative_length-in-3.ensures (S ∷ T ∷ []) refl ∙ of c.args.word 3 c.in-3.is

pub returns-in-4 : goal.returns-in-4
returns-in-4 c =
    c.call_length.ensures ∙ of c.args.word 4 c.in-4.is

pub returns-in-5 : goal.returns-in-5
returns-in-5 c =
    c.operate_length-in-5.ensures (A ∷ N ∷ D ∷ []) refl ∙ of c.args.word 5 c.in-5.is

pub returns-in-6 : goal.returns-in-6
returns-in-6 c =
    c.based_length.ensures (L ∷ D ∷ R ∷ []) refl ∙ of c.args.word 6 c.in-6.is

pub returns-in-7 : goal.returns-in-7
returns-in-7 c =
    c.based_length-in-7.ensures (S ∷ T ∷ R ∷ []) refl ∙ of c.args.word 7 c.in-7.is

pub returns-in-8 : goal.returns-in-8
returns-in-8 c = of c.args.word 8 c.in-8.is

pub returns-in-9 : goal.returns-in-9
returns-in-9 c = of c.args.word 9 c.in-9.is

pub returns-in-10 : goal.returns-in-10
returns-in-10 c =
    c.relative_length-in-10.ensures (L ∷ D ∷ I ∷ []) refl ∙ of c.args.word 10 c.in-10.is

pub returns-in-11 : goal.returns-in-11
returns-in-11 c =
    c.relative_length-in-11.ensures (S ∷ T ∷ I ∷ []) refl ∙ of c.args.word 11 c.in-11.is

pub returns-in-12 : goal.returns-in-12
returns-in-12 c =
    c.jump_length.ensures ∙ of c.args.word 12 c.in-12.is

pub returns-in-13 : goal.returns-in-13
returns-in-13 c = of c.args.word 13 c.in-13.is

pub returns-in-14 : goal.returns-in-14
returns-in-14 c =
    c.relative_length-in-14.ensures (L ∷ E ∷ A ∷ []) refl ∙ of c.args.word 14 c.in-14.is

pub returns-in_default : goal.returns-in_default
returns-in_default c =
    let w = c.args.word in
    of w 15 (last_opcode w (none_below (w / 4096) 15 c.in_default.in_default-own.rest) c.ranges.word.fits)
