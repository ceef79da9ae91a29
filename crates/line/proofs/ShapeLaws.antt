-- The lines by shape are those of `line_of`, for each opcode; a word with wrong fixed bits is data.
use Prim.Native.Nat.{ℕ, ◌/◌, ◌<◌, ◌≤◌}
use native.Mathlib.Omega.{arith}
use mathlib.Core.Path.{◌≡◌, refl, ap}
use mathlib.Core.Bool.{Bool, true, false, cond}
use mathlib.Core.List.{[]}
use lib.Dec.{eqb}
use lib.ListN.{get_or}
use borrow.Author.Tests.{eq-eqb, ne_eqb}
use Rattle.word.specs.Reading.{opcode, bit5, bit11, read_of}
use Rattle.word.specs.FixedBits.{fixed_of}
use Rattle.word.specs.Mask.{mask_of}
use Rattle.word.specs.declared.Instruction.{Instruction}
use Rattle.word.proofs.Opcodes.{form, Below, ◌&◌, each}
use Rattle.word.proofs.MaskLaws.{mask_is_zero_exactly}
use Rattle.mnemonics.specs.Statement.{fill_line}
use Rattle.line.specs.Line.{instruction_line, line_of}
use Rattle.line.specs.Shapes.{proper_lines, proper_line}

-- the line of one of two instructions
one_of : (t : Bool) (w : ℕ) (i j : Instruction)
    → instruction_line w (cond t i j) ≡ cond t (instruction_line w i) (instruction_line w j)
one_of true w i j = refl
one_of false w i j = refl

abbrev Shown : ℕ → ℕ → Type 0
Shown w k = instruction_line w (form w k) ≡ get_or (proper_lines w) k []

read_shown : (w : ℕ) → w < 65536 → instruction_line w (read_of w) ≡ proper_line w
unfolding read_of proper_line Below
read_shown w h = each (Shown w) 16 cases (opcode w) (omega arith)
  where
    cases : Below (Shown w) 16
    cases =
        refl
        & one_of (eqb (bit5 w) 0) w _ _
        & refl
        & refl
        & one_of (eqb (bit11 w) 0) w _ _
        & one_of (eqb (bit5 w) 0) w _ _
        & refl
        & refl
        & refl
        & refl
        & refl
        & refl
        & refl
        & refl
        & refl
        & refl
        & tt

-- the opcode of a word in the last arm of a match
pub last_opcode : (w : ℕ) → 15 ≤ w / 4096 → w < 65536 → opcode w ≡ 15
last_opcode w p q = omega arith

pub proper_shown : (w : ℕ) → w < 65536 → mask_of w ≡ 0 → line_of w ≡ proper_line w
unfolding line_of
proper_shown w h e = rw (eq-eqb (fixed_of w) w ((mask_is_zero_exactly w h).0 e)) (read_shown w h)

pub data_shown : (w : ℕ) → w < 65536 → (mask_of w ≡ 0 → ⊥) → line_of w ≡ fill_line w
unfolding line_of
data_shown w h d = rw (ne_eqb (fixed_of w) w (λ e. d ((mask_is_zero_exactly w h).1 e)))

-- by the opcode
pub proper_as : (w k : ℕ) → opcode w ≡ k → proper_line w ≡ get_or (proper_lines w) k []
unfolding proper_line
proper_as w k e = ap (λ (o : ℕ). get_or (proper_lines w) o []) e
