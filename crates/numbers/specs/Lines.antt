-- Lines that two words must not share, and the order of the lines of a page.
use Rattle.std.specs.Prelude.{ℕ, ◌≡◌, List, [], ◌∷◌}
use Rattle.text.specs.Characters.{codes_in}
use Rattle.line.specs.Line.{line_of}
use Rattle.lines.specs.Page.{page_text}

pub record LinesApart : Type 0 where
  -- the lines of a page stand in the order of its words
  pub in_order : page_text (0x8000 ∷ 0xC1C0 ∷ 0x5020 ∷ []) 1 2 ≡ codes_in "RET\nAND R0, R0, #0\n"
  -- RET is JMP R7: of no other register, and no JSRR
  pub jmp_r6 : line_of 0xC180 ≡ codes_in "JMP R6\n"
  pub jsrr_r7 : line_of 0x41C0 ≡ codes_in "JSRR R7\n"
