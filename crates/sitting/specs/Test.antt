-- A class's monitor, what is claimed of it, and the test of the claim: one pass over a table that says what is known at
-- each address. From each of its states the instruction at that address touches no secret word and leads to what the
-- table says of the next address. Any tool may make the table: nothing is taken from it that is not tested.
use Rattle.std.specs.Prelude.{ℕ, zero, suc, ◌+◌, ◌-◌, ◌%◌, Bool, true, false, cond, ◌&&◌, ◌||◌, not, List, [], ◌∷◌, ℤ}
use Rattle.std.specs.Prelude.{leb, ltb, eqb, length, get_or, set, replicate}
use Rattle.word.specs.Field.{bits}
use Rattle.word.specs.Reading.{read_of}
use Rattle.word.specs.declared.Instruction.{Instruction}
use Rattle.word.specs.declared.Instruction.TheVariants.{Br, AddRegister, AddImmediate, Ld, St, Jsr, Jsrr, AndRegister}
use Rattle.word.specs.declared.Instruction.TheVariants.{AndImmediate, Ldr, Str, Rti, Not, Ldi, Sti, Jmp, Reserved, Lea}
use Rattle.word.specs.declared.Instruction.TheVariants.{Trap}
use Rattle.machine.specs.Words.{next, plus, word_and}
use Rattle.machine.specs.Psr.{codes_of}
use Rattle.machine.specs.Devices.{DDR, MCR, is_device}
use Rattle.machine.specs.Interrupts.{keyboard_vector, timer_vector}
use Rattle.sitting.specs.Values.{Value, unset, any, is, high, low, sum, allowed, implies, all_imply, sum_with}
use Rattle.sitting.specs.Values.{sum_of, same, and_with, and_of, not_of, taking, besides, all_besides}

-- ---- a monitor

-- A word of privileged memory: one of the monitor's that never changes; one that its routines may write, of any value;
-- one that is to be kept secret.
pub data Cell : Type 0 where
  fixed : ℕ → Cell
  own : Cell
  hidden : Cell

-- What is known of R0 to R7, of the value that the codes were set from, and of the words that are watched.
pub record State : Type 0 where
  pub regs : List Value
  pub codes : Value
  pub words : List Value

abbrev pub Row : Type 0
Row = List State

pub record Claim : Type 0 where
  -- the words from x0000 on: what is not listed is secret
  pub cells : List Cell
  -- the lowest word of the stack, but for interrupts; it ends at x2FFF
  pub lowest : ℕ
  -- the words of which the table says something, and the table: a row for each word from x0200 on
  pub watched : List ℕ
  pub table : List Row

abbrev pub cell_at : List Cell → ℕ → Cell
cell_at cells a = get_or cells a hidden

unfoldable pub is_hidden : Cell → Bool
is_hidden (fixed w) = false
is_hidden own = false
is_hidden hidden = true

unfoldable pub is_own : Cell → Bool
is_own (fixed w) = false
is_own own = true
is_own hidden = false

-- ---- what the table accepts

-- The first state says all that the second says.
unfoldable pub covers : State → State → Bool
covers σ τ = all_imply σ.regs τ.regs && (implies σ.codes τ.codes && all_imply σ.words τ.words)

unfoldable pub one_covers : State → Row → Bool
one_covers σ [] = false
one_covers σ (τ ∷ row) = covers σ τ || one_covers σ row

-- The table knows no more at this address than this.
unfoldable pub accepts : Claim → ℕ → State → Bool
accepts c pc σ = leb 0x0200 pc && one_covers σ (get_or c.table (pc - 0x0200) [])

-- ---- loads and stores

-- The stack, and its words that a routine may store to: all but the caller's PSR.
unfoldable pub is_stack : ℕ → ℕ → Bool
is_stack lowest a = leb lowest a && ltb a 0x3000

unfoldable pub is_free_stack : ℕ → ℕ → Bool
is_free_stack lowest a = leb lowest a && ltb a 0x2FFF

unfoldable pub is_loadable : Claim → ℕ → Bool
is_loadable c a = not (is_hidden (cell_at c.cells a)) || (is_stack c.lowest a || is_device a)

-- What is known of the word at a.
unfoldable pub held : ℕ → List ℕ → List Value → Value
held a [] vs = any
held a (w ∷ ws) [] = any
held a (w ∷ ws) (v ∷ vs) = cond (eqb a w) v (held a ws vs)

unfoldable pub from_cell : Claim → ℕ → Cell → State → Value
from_cell c a (fixed w) σ = is w
from_cell c a own σ = held a c.watched σ.words
from_cell c a hidden σ = cond (eqb a 0x2FFF) high (held a c.watched σ.words)

-- What a load there gives.
unfoldable pub loaded_from : Claim → ℕ → State → Value
loaded_from c a σ = cond (is_device a) any (from_cell c a (cell_at c.cells a) σ)

-- The word at a takes a value.
unfoldable pub stored_in : ℕ → Value → List ℕ → List Value → List Value
stored_in a v [] vs = vs
stored_in a v (w ∷ ws) [] = []
stored_in a v (w ∷ ws) (x ∷ vs) = cond (eqb w a) v x ∷ stored_in a v ws vs

unfoldable pub remember : Claim → ℕ → Value → State → State
remember c a v σ = record { regs = σ.regs; codes = σ.codes; words = stored_in a v c.watched σ.words }

abbrev pub value_in : List Value → ℕ → Value
value_in vs r = get_or vs (r % 8) any

unfoldable pub is_first : ℕ → Bool
is_first r = eqb (r % 8) 0

-- The state after a register takes a value, with the codes set from it, and with the codes kept.
unfoldable pub moved : ℕ → Value → State → State
moved r v σ = record { regs = taking r v σ.regs; codes = besides r v; words = all_besides r σ.words }

unfoldable pub put : ℕ → Value → State → State
put r v σ = record { regs = taking r v σ.regs; codes = besides r σ.codes; words = all_besides r σ.words }

unfoldable pub loads_at : Claim → ℕ → ℕ → ℕ → State → Bool
loads_at c pc r a σ = is_loadable c a && accepts c (next pc) (moved r (loaded_from c a σ) σ)

-- At a base register and an offset: at a known address, or at one of User mode's.
unfoldable pub loads_by : Claim → Value → ℕ → ℕ → ℤ → State → Bool
loads_by c unset pc r n σ = false
loads_by c any pc r n σ = false
loads_by c (is b) pc r n σ = loads_at c pc r (plus b n) σ
loads_by c high pc r n σ = false
loads_by c low pc r n σ = false
loads_by c (sum b) pc r n σ = false
loads_by c allowed pc r n σ = eqb (bits 32768 n) 0 && accepts c (next pc) (moved r any σ)

-- To the display and the clock enable, to the monitor's own words, to the stack.
unfoldable pub stores_at : Claim → ℕ → Value → ℕ → State → Bool
stores_at c pc v a σ =
    cond (eqb a DDR || eqb a MCR) (accepts c (next pc) σ)
    ((is_own (cell_at c.cells a) || is_free_stack c.lowest a) && accepts c (next pc) (remember c a v σ))

unfoldable pub stores_by : Claim → Value → ℕ → Value → ℤ → State → Bool
stores_by c unset pc v n σ = false
stores_by c any pc v n σ = false
stores_by c (is b) pc v n σ = stores_at c pc v (plus b n) σ
stores_by c high pc v n σ = false
stores_by c low pc v n σ = false
stores_by c (sum b) pc v n σ = false
stores_by c allowed pc v n σ = eqb (bits 32768 n) 0 && accepts c (next pc) σ

-- The pointer of LDI and STI is a word that never changes.
unfoldable pub loads_through : Claim → ℕ → ℕ → Cell → State → Bool
loads_through c pc r (fixed w) σ = loads_at c pc r w σ
loads_through c pc r own σ = false
loads_through c pc r hidden σ = false

unfoldable pub stores_through : Claim → ℕ → Value → Cell → State → Bool
stores_through c pc v (fixed w) σ = stores_at c pc v w σ
stores_through c pc v own σ = false
stores_through c pc v hidden σ = false

-- ---- jumps

-- R0 is an address that User mode may touch.
unfoldable pub refined_if : Bool → State → State
refined_if b σ = record {
  regs = cond b (set σ.regs 0 allowed) σ.regs;
  codes = σ.codes;
  words = σ.words;
}

-- R0 plus c is x8000 or more, or is less, only where R0 is such an address.
unfoldable pub is_above : ℕ → Bool
is_above c = leb 0x0200 c && leb c 0x5000

unfoldable pub is_below : ℕ → Bool
is_below c = leb 0x8200 c && leb c 0xD000

-- What BRn and BRzp tell where they are taken, and where not.
unfoldable pub where_taken : ℕ → ℕ → Bool
where_taken mask c = cond (eqb mask 4) (is_above c) (eqb mask 3 && is_below c)

unfoldable pub where_not_taken : ℕ → ℕ → Bool
where_not_taken mask c = cond (eqb mask 4) (is_below c) (eqb mask 3 && is_above c)

unfoldable pub either_way : Claim → ℕ → ℕ → ℕ → State → Bool
either_way c mask there here σ = accepts c there σ && (eqb mask 7 || accepts c here σ)

-- A branch with this mask: the addresses where it is taken and where it is not.
unfoldable pub branches : Claim → Value → ℕ → ℕ → ℕ → State → Bool
branches c unset mask there here σ = accepts c there σ && accepts c here σ
branches c any mask there here σ = either_way c mask there here σ
branches c (is d) mask there here σ = accepts c (cond (not (eqb (word_and mask (codes_of d)) 0)) there here) σ
branches c high mask there here σ = accepts c (cond (not (eqb (word_and mask 4) 0)) there here) σ
branches c low mask there here σ =
    cond (eqb mask 3) (accepts c there σ) (cond (eqb mask 4) (accepts c here σ) (either_way c mask there here σ))
branches c (sum d) mask there here σ =
    accepts c there (refined_if (where_taken mask d) σ)
    && (eqb mask 7 || accepts c here (refined_if (where_not_taken mask d) σ))
branches c allowed mask there here σ = either_way c mask there here σ

-- JMP, RET and JSRR: to a known address.
unfoldable pub jumps_by : Claim → Value → State → Bool
jumps_by c unset σ = false
jumps_by c any σ = false
jumps_by c (is d) σ = accepts c d σ
jumps_by c high σ = false
jumps_by c low σ = false
jumps_by c (sum d) σ = false
jumps_by c allowed σ = false

-- TRAP in a routine pushes the PSR, which is less than x8000, and Next.
unfoldable pub calling : Claim → ℕ → ℕ → State → State
calling c pc sp σ = record {
  regs = taking 6 (is (sp - 2)) σ.regs;
  codes = σ.codes;
  words = stored_in (sp - 2) (is (next pc)) c.watched (stored_in (sp - 1) low c.watched σ.words);
}

unfoldable pub calls_from : Claim → ℕ → ℕ → Value → State → Bool
calls_from c pc w unset σ = false
calls_from c pc w any σ = false
calls_from c pc w (is sp) σ = leb (c.lowest + 2) sp && accepts c w (calling c pc sp σ)
calls_from c pc w high σ = false
calls_from c pc w low σ = false
calls_from c pc w (sum d) σ = false
calls_from c pc w allowed σ = false

unfoldable pub calls_by : Claim → ℕ → Cell → State → Bool
calls_by c pc (fixed w) σ = calls_from c pc w (value_in σ.regs 6) σ
calls_by c pc own σ = false
calls_by c pc hidden σ = false

-- RTI to User mode, where R6 is x2FFE; or back to a routine, where the two words on the stack are known.
unfoldable pub returning : ℕ → State → State
returning sp σ = record { regs = taking 6 (is (sp + 2)) σ.regs; codes = unset; words = σ.words }

unfoldable pub returns_by : Claim → Value → State → Bool
returns_by c unset σ = false
returns_by c any σ = false
returns_by c (is sp) σ =
    eqb sp 0x2FFE
    || (same (held (sp + 1) c.watched σ.words) low
    && jumps_by c (held sp c.watched σ.words) (returning sp σ))
returns_by c high σ = false
returns_by c low σ = false
returns_by c (sum d) σ = false
returns_by c allowed σ = false

-- ---- the test

-- From this state the instruction at pc is harmless, and leads to what the table says.
unfoldable pub harmless : Claim → ℕ → Instruction → State → Bool
harmless c pc (Br mask n) σ = branches c σ.codes mask (plus (next pc) n) (next pc) σ
harmless c pc (AddRegister d a b) σ =
    accepts c (next pc) (moved d (sum_of (is_first a) (value_in σ.regs a) (value_in σ.regs b)) σ)
harmless c pc (AddImmediate d a n) σ =
    accepts c (next pc) (moved d (sum_with (is_first a) (value_in σ.regs a) (bits 32768 n)) σ)
harmless c pc (Ld d n) σ = loads_at c pc d (plus (next pc) n) σ
harmless c pc (St s n) σ = stores_at c pc (value_in σ.regs s) (plus (next pc) n) σ
harmless c pc (Jsr n) σ = accepts c (plus (next pc) n) (put 7 (is (next pc)) σ)
harmless c pc (Jsrr b) σ = jumps_by c (value_in σ.regs b) (put 7 (is (next pc)) σ)
harmless c pc (AndRegister d a b) σ =
    accepts c (next pc) (moved d (and_of (value_in σ.regs a) (value_in σ.regs b)) σ)
harmless c pc (AndImmediate d a n) σ =
    accepts c (next pc) (moved d (and_with (value_in σ.regs a) (bits 32768 n)) σ)
harmless c pc (Ldr d b n) σ = loads_by c (value_in σ.regs b) pc d n σ
harmless c pc (Str s b n) σ = stores_by c (value_in σ.regs b) pc (value_in σ.regs s) n σ
harmless c pc Rti σ = returns_by c (value_in σ.regs 6) σ
harmless c pc (Not d a) σ = accepts c (next pc) (moved d (not_of (value_in σ.regs a)) σ)
harmless c pc (Ldi d n) σ = loads_through c pc d (cell_at c.cells (plus (next pc) n)) σ
harmless c pc (Sti s n) σ = stores_through c pc (value_in σ.regs s) (cell_at c.cells (plus (next pc) n)) σ
harmless c pc (Jmp b) σ = jumps_by c (value_in σ.regs b) σ
harmless c pc (Reserved bits) σ = false
harmless c pc (Lea d n) σ = accepts c (next pc) (put d (is (plus (next pc) n)) σ)
harmless c pc (Trap vector) σ = calls_by c pc (cell_at c.cells vector) σ

-- What an interrupt's two words cannot change: nothing is known of a watched word, or it is one of the monitor's own,
-- or of the stack from R6 on.
unfoldable pub is_kept : Claim → ℕ → ℕ → Value → Bool
is_kept c sp w v = implies any v || (is_own (cell_at c.cells w) || leb sp w && ltb w 0x3000)

unfoldable pub all_kept : Claim → ℕ → List ℕ → List Value → Bool
all_kept c sp [] [] = true
all_kept c sp [] (v ∷ vs) = false
all_kept c sp (w ∷ ws) [] = false
all_kept c sp (w ∷ ws) (v ∷ vs) = is_kept c sp w v && all_kept c sp ws vs

-- R6 is a known address of the stack, with the trap's two words above it.
unfoldable pub sound : Claim → Value → List Value → Bool
sound c unset vs = false
sound c any vs = false
sound c (is sp) vs = (leb c.lowest sp && leb sp 0x2FFE) && all_kept c sp c.watched vs
sound c high vs = false
sound c low vs = false
sound c (sum sp) vs = false
sound c allowed vs = false

unfoldable pub all_harmless : Claim → ℕ → Instruction → Row → Bool
all_harmless c pc i [] = true
all_harmless c pc i (σ ∷ row) =
    (sound c (value_in σ.regs 6) σ.words && harmless c pc i σ) && all_harmless c pc i row

unfoldable pub is_empty : Row → Bool
is_empty [] = true
is_empty (σ ∷ row) = false

-- A word that may change, or is secret, is never fetched.
unfoldable pub row_holds : Claim → ℕ → Cell → Row → Bool
row_holds c pc (fixed w) row = all_harmless c pc (read_of w) row
row_holds c pc own row = is_empty row
row_holds c pc hidden row = is_empty row

-- The rows from this address on.
unfoldable pub rows_hold : Claim → ℕ → List Row → Bool
rows_hold c pc [] = true
rows_hold c pc (row ∷ rows) = row_holds c pc (cell_at c.cells pc) row && rows_hold c (suc pc) rows

-- What is known on entry from User mode.
abbrev pub on_entry : Claim → State
on_entry c = record {
  regs = any ∷ any ∷ any ∷ any ∷ any ∷ any ∷ is 0x2FFE ∷ any ∷ [];
  codes = unset;
  words = replicate (length c.watched) any;
}

-- A vector word leads to where the table knows the entry.
unfoldable pub leads_in : Claim → Cell → Bool
leads_in c (fixed w) = accepts c w (on_entry c)
leads_in c own = false
leads_in c hidden = false

-- The first n vectors do.
unfoldable pub all_lead_in : Claim → ℕ → Bool
all_lead_in c zero = true
all_lead_in c (suc n) = leads_in c (cell_at c.cells n) && all_lead_in c n

-- An interrupt's vector word leads to a lone RTI.
unfoldable pub is_return : Cell → Bool
is_return (fixed w) = eqb w 0x8000
is_return own = false
is_return hidden = false

unfoldable pub leads_back : Claim → Cell → Bool
leads_back c (fixed w) = accepts c w (on_entry c) && is_return (cell_at c.cells w)
leads_back c own = false
leads_back c hidden = false

-- Traps and exceptions, x0000 to x0102; keyboard and timer; the room between the words and the stack, four words of it
-- for interrupts; and the table.
unfoldable pub vectors_hold : Claim → Bool
vectors_hold c =
    all_lead_in c 0x0103
    && (leads_back c (cell_at c.cells keyboard_vector) && leads_back c (cell_at c.cells timer_vector))

unfoldable pub room_holds : Claim → Bool
room_holds c = leb (length c.cells + 4) c.lowest && leb c.lowest 0x2FFE

unfoldable pub passes : Claim → Bool
passes c = room_holds c && (vectors_hold c && rows_hold c 0x0200 c.table)
