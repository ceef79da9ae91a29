-- What `certify` answers (M31.4): what is wrong first with a claim, at which word and in which state. The parts of the
-- test (crates/sitting/specs/Test.antt) are tried one after the other, and the states in the order of the table.
use Rattle.std.specs.Prelude.{ℕ, zero, suc, min, Bool, cond, List, [], ◌∷◌, eqb, length}
use Rattle.word.specs.Reading.{read_of}
use Rattle.word.specs.declared.Instruction.{Instruction}
use Rattle.machine.specs.Interrupts.{keyboard_vector, timer_vector}
use Rattle.sitting.specs.Test.{Cell, fixed, own, hidden, cell_at, State, Row, Claim, value_in, sound, harmless}
use Rattle.sitting.specs.Test.{is_empty}
use Rattle.sitting.specs.Test.{leads_in, leads_back, room_holds}
use Rattle.claims.specs.Encoding.{row_of, claim_of}
use Rattle.findings.specs.declared.Certified.{Certified}

abbrev pub nothing_wrong : Certified
nothing_wrong = record { finding = 0; address = 0; state = 0 }

-- This is wrong at a word, in the state with this number. Rows past xFFFF are of no word: 65,536 is named for them.
unfoldable pub wrong : ℕ → ℕ → ℕ → Certified
wrong finding a k = record { finding = finding; address = min a 65536; state = k }

-- What is wrong unless a part of the test holds.
unfoldable pub unless : Bool → Certified → Certified
unless holds found = cond holds nothing_wrong found

-- The first of two answers, or the second where nothing is wrong by the first.
unfoldable pub or_else : Certified → Certified → Certified
or_else first second = cond (eqb first.finding 0) second first

-- Finding 3: the first of n vectors that does not lead to where the table knows the entry.
unfoldable pub wrong_vector : Claim → ℕ → Certified
wrong_vector c zero = nothing_wrong
wrong_vector c (suc n) = or_else (wrong_vector c n) (unless (leads_in c (cell_at c.cells n)) (wrong 3 n 0))

-- Finding 4: an interrupt's vector that does not lead to a lone RTI.
unfoldable pub wrong_interrupt : Claim → ℕ → Certified
wrong_interrupt c a = unless (leads_back c (cell_at c.cells a)) (wrong 4 a 0)

-- The vectors of traps and exceptions, of the keyboard, of the timer.
unfoldable pub wrong_vectors : Claim → Certified
wrong_vectors c =
    or_else (wrong_vector c 0x0103) (or_else (wrong_interrupt c keyboard_vector) (wrong_interrupt c timer_vector))

-- Finding 6: what a state knows of the stack. Finding 7: the instruction at pc from that state.
unfoldable pub wrong_in : Claim → ℕ → Instruction → ℕ → State → Certified
wrong_in c pc i k σ =
    or_else (unless (sound c (value_in σ.regs 6) σ.words) (wrong 6 pc k))
    (unless (harmless c pc i σ) (wrong 7 pc k))

-- The states of a row, numbered from k on.
unfoldable pub wrong_in_row : Claim → ℕ → Instruction → ℕ → Row → Certified
wrong_in_row c pc i k [] = nothing_wrong
wrong_in_row c pc i k (σ ∷ row) = or_else (wrong_in c pc i k σ) (wrong_in_row c pc i (suc k) row)

-- Finding 5: a word that may change, or is secret, has a state.
unfoldable pub wrong_at : Claim → ℕ → Cell → ℕ → Row → Certified
wrong_at c pc (fixed w) k row = wrong_in_row c pc (read_of w) k row
wrong_at c pc own k row = unless (is_empty row) (wrong 5 pc k)
wrong_at c pc hidden k row = unless (is_empty row) (wrong 5 pc k)

-- The rows from this address on: the first begins with state `start`, and each other where the one before it ends.
unfoldable pub wrong_in_rows : Claim → List ℕ → ℕ → ℕ → List ℕ → Certified
wrong_in_rows c table pc start [] = nothing_wrong
wrong_in_rows c table pc start (end ∷ ends) =
    or_else (wrong_at c pc (cell_at c.cells pc) start (row_of table start end))
    (wrong_in_rows c table (suc pc) end ends)

-- Finding 2: no room between the words and the stack.
unfoldable pub wrong_with : Claim → List ℕ → List ℕ → Certified
wrong_with c ends table =
    or_else (unless (room_holds c) (wrong 2 0 0)) (or_else (wrong_vectors c) (wrong_in_rows c table 0x0200 0 ends))

-- Finding 1: not eight words are watched.
unfoldable pub certify_of : List ℕ → List ℕ → ℕ → List ℕ → List ℕ → List ℕ → Certified
certify_of memory kinds lowest watched ends table =
    or_else (unless (eqb (length watched) 8) (wrong 1 0 0))
    (wrong_with (claim_of memory kinds lowest watched ends table) ends table)
