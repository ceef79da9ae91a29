-- What is a claim on the words alone. That the six services are what stands behind x0020 to x0025, and STOP behind the
-- others, is claimed of the calls themselves: Getc, Out, Puts, In, Putsp, Halt and Stop.
use Rattle.std.specs.Prelude.{ℕ, zero, suc, ◌+◌, ◌-◌, ◌/◌, ◌%◌, ◌≤◌, ◌<◌, ◌≡◌, Bool, true, false, ◌&&◌, ◌||◌, not, List}
use Rattle.std.specs.Prelude.{[], ◌∷◌, eqb, length, get_or}
use Rattle.word.specs.Field.{field}
use Rattle.word.specs.Reading.{opcode, read_of}
use Rattle.word.specs.declared.Instruction.TheVariants.{Rti}
use Rattle.machine.specs.Words.{next, plus}
use Rattle.machine.specs.Devices.{DSR, DDR, MCR}
use Rattle.monitor.specs.Routines.{routine_words, monitor_words}
use Rattle.monitor.specs.Stop.{OtherTrap}

-- ---- "Each routine waits until DSR is ready before it shows a byte", as a test of the routines' words

-- The word at a, from x0200 on; and the address that its offset of nine bits leads to.
abbrev pub word_of : ℕ → ℕ
word_of a = get_or routine_words (a - 0x0200) 0

abbrev pub leads_to : ℕ → ℕ
leads_to a = plus (next a) (field 9 (word_of a))

-- Its opcode is one of these.
abbrev pub has_opcode : List ℕ → ℕ → Bool
has_opcode [] a = false
has_opcode (code ∷ codes) a = eqb (opcode (word_of a)) code || has_opcode codes a

-- STI by the word that holds the address of this device register; and LDI by the one that holds that of DSR.
abbrev pub stores_to : ℕ → ℕ → Bool
stores_to device a = eqb (opcode (word_of a)) 11 && eqb (word_of (leads_to a)) device

abbrev pub stores_to_display : ℕ → Bool
stores_to_display a = stores_to DDR a

abbrev pub loads_display_status : ℕ → Bool
loads_display_status a = eqb (opcode (word_of a)) 10 && eqb (word_of (leads_to a)) DSR

-- ADD, LD, AND, LDR, NOT, LDI and LEA to R6: none but ADD R6, R6, #n and LD of x2FFE, so that R6 stays the stack's.
abbrev pub sets_stack : ℕ → Bool
sets_stack a = eqb (word_of a / 512 % 8) 6 && has_opcode (1 ∷ 2 ∷ 5 ∷ 6 ∷ 9 ∷ 10 ∷ 14 ∷ []) a

abbrev pub keeps_stack : ℕ → Bool
keeps_stack a =
    not (sets_stack a) || eqb (word_of a / 32) (0x1DA0 / 32) || has_opcode (2 ∷ []) a && eqb
    (word_of (leads_to a)) 0x2FFE

-- STR by R6.
abbrev pub stores_to_stack : ℕ → Bool
stores_to_stack a = has_opcode (7 ∷ []) a && eqb (word_of a / 64 % 8) 6

-- ST, STR and STI: to DDR, to MCR or to the stack.
abbrev pub stores_known : ℕ → Bool
stores_known a = not (has_opcode (3 ∷ 7 ∷ 11 ∷ []) a) || stores_to_display a || stores_to MCR a || stores_to_stack a

-- A store to DDR stands behind LDI of DSR and BRzp back to it; no branch leads to such a store, or to the BRzp before
-- it; every other store is to MCR or to the stack; and no word is a JSR, a JMP or a TRAP.
abbrev pub waits_at : ℕ → Bool
waits_at a =
    (not (stores_to_display a) || loads_display_status (a - 2) && eqb (word_of (a - 1)) 0x07FE)
    && (not (eqb (opcode (word_of a)) 0)
    || not (stores_to_display (leads_to a)) && not (stores_to_display (next (leads_to a))))
    && (stores_known a && keeps_stack a)
    && not (has_opcode (4 ∷ 12 ∷ 15 ∷ []) a)

-- The test holds at n addresses from a on.
unfoldable pub wait_from : ℕ → ℕ → Bool
wait_from a zero = true
wait_from a (suc n) = waits_at a && wait_from (suc a) n

pub record WordsHold : Type 0 where
  -- "Each routine waits until DSR is ready before it shows a byte": the words x0200 to x027F
  pub waits : wait_from 0x0200 128 ≡ true
  -- "every other word of x0100 to x01FF [leads] to a lone RTI"
  pub lone_rti : (a : ℕ) → 0x0103 ≤ a → a < 0x0200 → read_of (get_or monitor_words (get_or monitor_words a 0) 0) ≡ Rti
  -- "all other trap vectors lead to one routine"
  pub one_routine : (a b : ℕ) → OtherTrap a → OtherTrap b → get_or monitor_words a 0 ≡ get_or monitor_words b 0
  -- "The routines and eight words of stack must fit below x3000."
  pub fits : length monitor_words + 8 ≤ 0x3000
