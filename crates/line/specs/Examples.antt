-- Words and their lines: one table, in the order of M16's rules.
use Rattle.std.specs.Prelude.{ℕ, ◌≡◌, List, [], ◌∷◌, map}
use Prim.Native.String.{String}
use Rattle.text.specs.Characters.{codes_in}
use Rattle.line.specs.Line.{line_of}

-- A word, and its line.
pub data Example : Type 0 where
  line : ℕ → String → Example

abbrev pub examples : List Example
examples =
    -- Every instruction, with an offset or immediate of either sign.
    line 0x14E7 "ADD R2, R3, #7\n"
    ∷ line 0x1A30 "ADD R5, R0, #-16\n"
    ∷ line 0x1F85 "ADD R7, R6, R5\n"
    ∷ line 0x52A0 "AND R1, R2, #0\n"
    ∷ line 0x513F "AND R0, R4, #-1\n"
    ∷ line 0x5644 "AND R3, R1, R4\n"
    ∷ line 0xC0C0 "JMP R3\n"
    ∷ line 0x4BFF "JSR #1023\n"
    ∷ line 0x4C00 "JSR #-1024\n"
    ∷ line 0x4100 "JSRR R4\n"
    ∷ line 0x2D00 "LD R6, #-256\n"
    ∷ line 0xA2FF "LDI R1, #255\n"
    ∷ line 0x6560 "LDR R2, R5, #-32\n"
    ∷ line 0xE7F6 "LEA R3, #-10\n"
    ∷ line 0x987F "NOT R4, R1\n"
    ∷ line 0x3C63 "ST R6, #99\n"
    ∷ line 0xB39C "STI R1, #-100\n"
    ∷ line 0x755F "STR R2, R5, #31\n"
    -- "BR adds those of n, z, p that it tests, lower case, in that order."
    ∷ line 0x0800 "BRn #0\n"
    ∷ line 0x0409 "BRz #9\n"
    ∷ line 0x03F7 "BRp #-9\n"
    ∷ line 0x0C0A "BRnz #10\n"
    ∷ line 0x0BF0 "BRnp #-16\n"
    ∷ line 0x0680 "BRzp #128\n"
    ∷ line 0x0FFF "BRnzp #-1\n"
    -- "RTI and RET have neither space nor operands."
    ∷ line 0x8000 "RTI\n"
    ∷ line 0xC1C0 "RET\n"
    -- "TRAP takes x and two upper-case hexadecimal digits."
    ∷ line 0xF009 "TRAP x09\n"
    ∷ line 0xF025 "TRAP x25\n"
    ∷ line 0xF0AF "TRAP xAF\n"
    ∷ line 0xF0FF "TRAP xFF\n"
    -- "A reserved word"
    ∷ line 0xD000 ".FILL xD000\n"
    ∷ line 0xDABC ".FILL xDABC\n"
    -- "one with wrong fixed bits": ADD, AND, JSRR, RTI, NOT, JMP, TRAP.
    ∷ line 0x1008 ".FILL x1008\n"
    ∷ line 0x5010 ".FILL x5010\n"
    ∷ line 0x4001 ".FILL x4001\n"
    ∷ line 0x4200 ".FILL x4200\n"
    ∷ line 0x8001 ".FILL x8001\n"
    ∷ line 0x903E ".FILL x903E\n"
    ∷ line 0xC00A ".FILL xC00A\n"
    ∷ line 0xC200 ".FILL xC200\n"
    ∷ line 0xF125 ".FILL xF125\n"
    -- "and BR testing nothing give .FILL x0005 with the word in four upper-case digits."
    ∷ line 0x0005 ".FILL x0005\n"
    ∷ line 0x0000 ".FILL x0000\n"
    ∷ []

-- The line that the definitions give, and the line claimed.
abbrev pub line_found : Example → List ℕ
line_found (line w text) = line_of w

abbrev pub line_claimed : Example → List ℕ
line_claimed (line w text) = codes_in text

abbrev pub LinesHold : Type 0
LinesHold = map line_found examples ≡ map line_claimed examples
