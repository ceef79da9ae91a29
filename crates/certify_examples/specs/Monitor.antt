-- A class's monitor in the book's style, and the table of what is known at each of its words. It has what our own does
-- without: words in which registers are kept, a word that counts, subroutines one inside another, a table of pointers,
-- a TRAP in a routine; and an answer of the examiner's in the midst of its words.
use Rattle.std.specs.Prelude.{ℕ, ◌+◌, List, [], ◌∷◌, ◌++◌, length, replicate}

-- ---- its words

-- x0200. OUT, TRAP x21: ST R1, SAVE1; LDI R1, DSR; BRzp; STI R0, DDR; LD R1, SAVE1; RTI.
abbrev out : List ℕ
out = 0x322D ∷ 0xA225 ∷ 0x07FE ∷ 0xB024 ∷ 0x2229 ∷ 0x8000 ∷ []

-- x0206. COUNT, TRAP x26: JSR NEXT; RTI. NEXT: ST R7, SAVE7; JSR BUMP; LD R7, SAVE7; RET. BUMP: LD R0, CALLS;
-- ADD R0, R0, #1; ST R0, CALLS; RET.
abbrev count : List ℕ
count = 0x4801 ∷ 0x8000 ∷ 0x3E26 ∷ 0x4802 ∷ 0x2E24 ∷ 0xC1C0 ∷ 0x2023 ∷ 0x1021 ∷ 0x3021 ∷ 0xC1C0 ∷ []

-- x0210. TOUCH, TRAP x27, loads and stores the caller's word at R0, from x3000 to xAFFF: LDR R1, R6, #1; BRzp ANSWER,
-- which is never taken; LD R1, LOOK; ADD R1, R0, R1; BRzp #2; LDR R1, R0, #0; STR R1, R0, #0; RTI.
abbrev touch : List ℕ
touch = 0x6381 ∷ 0x061F ∷ 0x2217 ∷ 0x1201 ∷ 0x0602 ∷ 0x6200 ∷ 0x7200 ∷ 0x8000 ∷ []

-- x0218. SERVE, TRAP x28, calls NEXT by a table of pointers: ADD R6, R6, #-1; STR R7, R6, #0; LEA R1, TABLE;
-- LDR R1, R1, #1; JSRR R1; LDR R7, R6, #0; ADD R6, R6, #1; RTI.
abbrev serve : List ℕ
serve = 0x1DBF ∷ 0x7F80 ∷ 0xE211 ∷ 0x6241 ∷ 0x4040 ∷ 0x6F80 ∷ 0x1DA1 ∷ 0x8000 ∷ []

-- x0220. HALT, TRAP x25: LD R0, LETTER; TRAP x21. STOP: AND R0, R0, #0; BRnp ANSWER, which is never taken;
-- STI R0, MCR; BRnzp STOP. BACK: RTI.
abbrev halt : List ℕ
halt = 0x200A ∷ 0xF021 ∷ 0x5020 ∷ 0x0A0D ∷ 0xB004 ∷ 0x0FFC ∷ 0x8000 ∷ []

-- x0227. DSR, DDR, MCR, LOOK, LETTER, and TABLE: OUT and NEXT. x022E: SAVE1, SAVE7, CALLS. x0231: ANSWER.
abbrev filled : List ℕ
filled = 0xFE04 ∷ 0xFE06 ∷ 0xFFFE ∷ 0x5000 ∷ 0x0048 ∷ 0x0200 ∷ 0x0208 ∷ 0 ∷ 0 ∷ 0 ∷ 0x1234 ∷ []

-- Every other trap, and the exceptions, lead to STOP, interrupts to BACK.
unfoldable pub class_words : List ℕ
class_words =
    replicate 0x21 0x0222 ++ (0x0200 ∷ replicate 3 0x0222)
    ++ (0x0220 ∷ 0x0206 ∷ 0x0210 ∷ 0x0218 ∷ replicate 0xDA 0x0222) ++ replicate 0xFD 0x0226
    ++ out ++ count ++ touch ++ serve ++ halt ++ filled

-- SAVE1, SAVE7 and CALLS are its own, ANSWER is secret.
unfoldable pub class_kinds : List ℕ
class_kinds = replicate 0x022E 1 ++ (2 ∷ 2 ∷ 2 ∷ 0 ∷ [])

-- SAVE7, and the two words of the stack to which HALT's TRAP pushes, are watched.
unfoldable pub class_watched : List ℕ
class_watched = 0x022F ∷ 0x2FFC ∷ 0x2FFD ∷ replicate 5 0

-- ---- its table

-- Values as numbers: any, this number, x8000 or more, less, R0 plus this number, an address of User mode's. The codes
-- are of no value where nothing is known of them.
abbrev any : ℕ
any = 0x10000

abbrev exactly : ℕ → ℕ
exactly n = 0x20000 + n

abbrev high : ℕ
high = 0x30000

abbrev low : ℕ
low = 0x40000

abbrev beyond : ℕ → ℕ
beyond n = 0x50000 + n

abbrev allowed : ℕ
allowed = 0x60000

abbrev unset : ℕ
unset = 0

abbrev State : Type 0
State = List ℕ

-- What R0, R1, R6, R7, the codes and the three watched words are; of the rest nothing is known.
abbrev pub state_with : ℕ → ℕ → ℕ → ℕ → ℕ → ℕ → ℕ → ℕ → State
state_with r₀ r₁ r₆ r₇ codes saved pc psr =
    r₀ ∷ r₁ ∷ replicate 4 any ++ (r₆ ∷ r₇ ∷ codes ∷ saved ∷ pc ∷ psr ∷ replicate 5 any)

-- R6 alone.
abbrev at : ℕ → State
at sp = state_with any any (exactly sp) any unset any any any

abbrev pub entry : State
entry = at 0x2FFE

abbrev with_r0 : ℕ → State
with_r0 v = state_with v any (exactly 0x2FFE) any unset any any any

abbrev with_r1 : ℕ → ℕ → State
with_r1 sp n = state_with any (exactly n) (exactly sp) any unset any any any

abbrev with_codes : ℕ → State
with_codes v = state_with any any (exactly 0x2FFE) any v any any any

-- OUT by HALT's TRAP: its return address and its PSR are on the stack.
abbrev trapped : State
trapped = state_with any any (exactly 0x2FFC) any unset any (exactly 0x0222) low

-- In NEXT: its return address is in R7; it is in SAVE7; and BUMP returns to x020A.
abbrev called : ℕ → ℕ → State
called sp r = state_with any any (exactly sp) (exactly r) unset any any any

abbrev kept : ℕ → ℕ → State
kept sp r = state_with any any (exactly sp) any unset (exactly r) any any

abbrev bumping : ℕ → ℕ → State
bumping sp r = state_with any any (exactly sp) (exactly 0x020A) unset (exactly r) any any

-- NEXT is called by COUNT and by SERVE.
abbrev by_both : (ℕ → ℕ → State) → List State
by_both f = f 0x2FFE 0x0207 ∷ f 0x2FFD 0x021D ∷ []

abbrev one : State → List State
one s = s ∷ []

-- A row for each word from x0200 to x0226.
unfoldable pub class_rows : List (List State)
class_rows =
    -- OUT, COUNT
    replicate 6 (entry ∷ trapped ∷ []) ++ replicate 2 (one entry)
    -- NEXT, BUMP
    ++ (by_both called ∷ by_both kept ∷ by_both kept ∷ by_both called ∷ replicate 4 (by_both bumping))
    -- TOUCH
    ++ (one entry ∷ one (with_codes high) ∷ one entry ∷ one (with_r1 0x2FFE 0x5000) ∷ one (with_codes (beyond 0x5000))
    ∷ one (with_r0 allowed) ∷ one (with_r0 allowed) ∷ one entry ∷ [])
    -- SERVE
    ++ (one entry ∷ one (at 0x2FFD) ∷ one (at 0x2FFD) ∷ one (with_r1 0x2FFD 0x022C) ∷ one (with_r1 0x2FFD 0x0208)
    ∷ one (at 0x2FFD) ∷ one (at 0x2FFD) ∷ one entry ∷ [])
    -- HALT, STOP, BACK
    ++ (one entry ∷ one entry ∷ one entry ∷ one (with_codes (exactly 0)) ∷ one entry ∷ one entry ∷ one entry ∷ [])

-- Where each row ends, and all states, as numbers.
unfoldable pub ends_from : ℕ → List (List State) → List ℕ
ends_from n [] = []
ends_from n (row ∷ rows) = (n + length row) ∷ ends_from (n + length row) rows

unfoldable pub joined : {A : Type 0} → List (List A) → List A
joined [] = []
joined (l ∷ ls) = l ++ joined ls
