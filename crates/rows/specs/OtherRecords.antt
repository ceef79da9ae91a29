-- Each instruction, entry and device register once more, from two records that share no number with those of
-- machine/specs/Rows.antt: high and odd addresses, a byte above x7F in KBDR, MCR clear, the display busy, the clock
-- beyond 32 bits; in User mode the timer off but ready, in Supervisor mode its count coming to zero in the step. So a
-- rule that loses a bit, or that holds only where something else of the record does, comes to something else here.
use Rattle.std.specs.Prelude.{ℕ, List, [], ◌∷◌}
use Rattle.machine.specs.Edition.{Edition, third, second}
use Rattle.machine.specs.Outcome.{Reason, trap, privilege, illegal, access, interrupt}
use Rattle.machine.specs.Rows.{Moment, Fact, Row, R, PC, PSR, Saved_SSP, Saved_USP, KBSR, KBDR, MCR, key, word, reads}
use Rattle.machine.specs.Rows.{busy, TSR, TIR, timer_count, shows, enters, unfetched, number, applied, row_from, Hold}
use Rattle.machine.specs.Rows.{user_mode, supervisor_mode}

-- ---- where a row begins

abbrev pub elsewhere : Moment
elsewhere =
    applied
    (PC 0xB455 ∷ PSR 0x8202 ∷ Saved_SSP 0x9283 ∷ Saved_USP 0xDE87 ∷ KBSR 0 ∷ KBDR 0xD5 ∷ MCR 0 ∷ busy 3
    ∷ TSR 0x8000 ∷ TIR 0 ∷ timer_count 0 ∷ number 19 0x8000000080A9 ∷ [])
    user_mode

abbrev pub elsewhere_above : Moment
elsewhere_above =
    applied
    (R 6 0x9341 ∷ PC 0xB455 ∷ PSR 0x0202 ∷ Saved_SSP 0x9283 ∷ Saved_USP 0xDE87 ∷ KBSR 0 ∷ KBDR 0xD5 ∷ MCR 0 ∷ busy 3
    ∷ TSR 0 ∷ TIR 0x8901 ∷ timer_count 1 ∷ number 19 0x8000000080A9 ∷ [])
    supervisor_mode

-- ---- rows in which no key arrives

abbrev pub user_quiet : ℕ → List Fact → List Fact → Row
user_quiet w facts changes = row_from third (applied facts elsewhere) w changes

abbrev pub supervisor_quiet : ℕ → List Fact → List Fact → Row
supervisor_quiet w facts changes = row_from third (applied facts elsewhere_above) w changes

abbrev pub user_second_quiet : ℕ → List Fact → List Fact → Row
user_second_quiet w facts changes = row_from second (applied facts elsewhere) w changes

-- ---- rows in which a key xE9 arrives: ready is set and KBDR takes it, unless the row says otherwise

abbrev pub user_with_key : Edition → ℕ → List Fact → List Fact → Row
user_with_key e w facts changes =
    row_from e (applied (key 0xE9 ∷ facts) elsewhere) w (KBSR 0x8000 ∷ KBDR 0xE9 ∷ changes)

-- In Supervisor mode the timer sets ready and reloads as well.
abbrev pub supervisor_with_key : Edition → ℕ → List Fact → List Fact → Row
supervisor_with_key e w facts changes =
    row_from e (applied (key 0xE9 ∷ facts) elsewhere_above) w
    (KBSR 0x8000 ∷ KBDR 0xE9 ∷ TSR 0x8000 ∷ timer_count 0x8901 ∷ changes)

abbrev pub user : ℕ → List Fact → List Fact → Row
user w facts changes = user_with_key third w facts changes

abbrev pub supervisor : ℕ → List Fact → List Fact → Row
supervisor w facts changes = supervisor_with_key third w facts changes

abbrev pub user_second : ℕ → List Fact → List Fact → Row
user_second w facts changes = user_with_key second w facts changes

abbrev pub supervisor_second : ℕ → List Fact → List Fact → Row
supervisor_second w facts changes = supervisor_with_key second w facts changes

-- After an entry from User mode that pushes this PC, where x9E01 stands at this vector word.
abbrev pub taken : Reason → ℕ → ℕ → List Fact
taken reason vector pc =
    enters reason 0x9281 0x8202 pc ∷ reads vector ∷ PC 0x9E01 ∷ PSR 0x0202 ∷ Saved_USP 0xFD00 ∷ []

-- ---- the rows

-- Instructions that touch no memory, in User mode.
pub record Instructions : Type 0 where
  pub in_user_mode_lem :
      Hold
      (user 0x0410 [] (PC 0xB466 ∷ [])  -- BRz #16
      ∷ user 0x0810 [] []  -- BRn #16
      ∷ user 0x1A44 [] (R 5 0x5D5D ∷ PSR 0x8201 ∷ [])  -- ADD R5, R1, R4
      ∷ user 0x1A6F [] (R 5 0x5A4B ∷ PSR 0x8201 ∷ [])  -- ADD R5, R1, #15
      ∷ user 0x5A43 [] (R 5 0x401C ∷ PSR 0x8201 ∷ [])  -- AND R5, R1, R3
      ∷ user 0x5A7E [] (R 5 0x5A3C ∷ PSR 0x8201 ∷ [])  -- AND R5, R1, #-2
      ∷ user 0x9AFF [] (R 5 0x3F21 ∷ PSR 0x8201 ∷ [])  -- NOT R5, R3
      ∷ user 0xEB01 [] (R 5 0xB357 ∷ [])  -- LEA R5, #-255
      ∷ user 0x4BFE [] (R 7 0xB456 ∷ PC 0xB854 ∷ [])  -- JSR #1022
      ∷ user 0x41C0 [] (R 7 0xB456 ∷ PC 0x0789 ∷ [])  -- JSRR R7
      ∷ user 0xC1C0 [] (PC 0x0789 ∷ [])  -- RET
      ∷ [])

-- Loads, stores and entries in User mode.
pub record Accesses : Type 0 where
  pub and_entries :
      Hold
      (user 0x2B11 (word 0xB367 0x9ABD ∷ []) (reads 0xB367 ∷ R 5 0x9ABD ∷ PSR 0x8204 ∷ [])  -- LD R5, #-239
      ∷ user 0x3B11 [] (word 0xB367 0x9007 ∷ [])  -- ST R5, #-239
      ∷ user 0x6A41 (R 1 0xFDFE ∷ word 0xFDFF 0x9ABD ∷ [])  -- LDR R5, R1, #1
      (reads 0xFDFF ∷ R 5 0x9ABD ∷ PSR 0x8204 ∷ [])
      ∷ user 0x7A41 (R 1 0xFDFE ∷ []) (word 0xFDFF 0x9007 ∷ [])  -- STR R5, R1, #1
      ∷ user 0xAB11 (word 0xB367 0xFDFF ∷ word 0xFDFF 0x9ABD ∷ [])  -- LDI R5, #-239
      (reads 0xB367 ∷ reads 0xFDFF ∷ R 5 0x9ABD ∷ PSR 0x8204 ∷ [])
      ∷ user 0xBB11 (word 0xB367 0xFDFF ∷ []) (reads 0xB367 ∷ word 0xFDFF 0x9007 ∷ [])  -- STI R5, #-239
      ∷ user 0xF0D3 (word 0x00D3 0x9E01 ∷ []) (taken (trap 0x00D3) 0x00D3 0xB456)  -- TRAP xD3
      ∷ user 0x8000 (word 0x0100 0x9E01 ∷ []) (taken privilege 0x0100 0xB455)  -- RTI: privilege
      ∷ user 0xDABC (word 0x0101 0x9E01 ∷ []) (taken illegal 0x0101 0xB455)  -- illegal
      ∷ [])

-- The access exception, both interrupts, and accesses by other bits of an address.
pub record Further : Type 0 where
  pub further :
      Hold
      (user 0x6A42 (R 1 0xFE00 ∷ word 0x0102 0x9E01 ∷ []) (taken access 0x0102 0xB455)  -- LDR R5, R1, #2: access
      ∷ user 0x0000 (KBSR 0x4000 ∷ word 0x0180 0x9E01 ∷ [])  -- the keyboard's interrupt
      (unfetched ∷ enters (interrupt 0x0180) 0x9281 0x8202 0xB455 ∷ reads 0x0180
      ∷ PC 0x9E01 ∷ PSR 0x0402 ∷ Saved_USP 0xFD00 ∷ KBSR 0xC000 ∷ [])
      ∷ user 0x0000 (TSR 0xC000 ∷ word 0x0181 0x9E01 ∷ [])  -- the timer's interrupt, with its interval 0
      (unfetched ∷ enters (interrupt 0x0181) 0x9281 0x8202 0xB455 ∷ reads 0x0181
      ∷ PC 0x9E01 ∷ PSR 0x0602 ∷ Saved_USP 0xFD00 ∷ [])
      ∷ user 0x6A40 (R 1 0x9001 ∷ word 0x9001 0x9ABD ∷ [])  -- LDR R5, R1, #0
      (reads 0x9001 ∷ R 5 0x9ABD ∷ PSR 0x8204 ∷ [])
      ∷ user 0xABFD (PC 0x9003 ∷ word 0x9001 0xA001 ∷ word 0xA001 0x9ABD ∷ [])  -- LDI R5, #-3
      (reads 0x9001 ∷ reads 0xA001 ∷ R 5 0x9ABD ∷ PSR 0x8204 ∷ [])
      ∷ user 0x4140 [] (R 7 0xB456 ∷ PC 0x9007 ∷ [])  -- JSRR R5
      ∷ user_quiet 0xDABC (word 0x0101 0x9E01 ∷ []) (taken illegal 0x0101 0xB455)  -- illegal, with no key
      ∷ [])

-- Keys and trap vectors with each bit set and each clear; and two keys in one step, and four.
pub record KeysAndVectors : Type 0 where
  pub every_bit :
      Hold
      (user_quiet 0x0000 (key 0xFF ∷ []) (KBSR 0x8000 ∷ KBDR 0xFF ∷ [])  -- a key xFF
      ∷ user_quiet 0x0000 (key 0x00 ∷ []) (KBSR 0x8000 ∷ KBDR 0x00 ∷ [])  -- a key x00
      ∷ user_quiet 0x0000 (key 0x55 ∷ []) (KBSR 0x8000 ∷ KBDR 0x55 ∷ [])  -- a key x55
      ∷ user_quiet 0x0000 (key 0xAA ∷ []) (KBSR 0x8000 ∷ KBDR 0xAA ∷ [])  -- a key xAA
      ∷ user_quiet 0x0000 (key 0x84 ∷ []) (KBSR 0x8000 ∷ KBDR 0x84 ∷ [])  -- a key x84
      ∷ user_quiet 0x0000 (key 0xE9 ∷ key 0x96 ∷ []) (KBSR 0x8000 ∷ KBDR 0x96 ∷ [])  -- two keys
      ∷ user_quiet 0x0000 (key 0xE9 ∷ key 0x96 ∷ key 0x41 ∷ key 0x84 ∷ []) (KBSR 0x8000 ∷ KBDR 0x84 ∷ [])  -- four keys
      ∷ user 0xF0FF (word 0x00FF 0x9E01 ∷ []) (taken (trap 0x00FF) 0x00FF 0xB456)  -- TRAP xFF
      ∷ user 0xF000 (word 0x0000 0x9E01 ∷ []) (taken (trap 0x0000) 0x0000 0xB456)  -- TRAP x00
      ∷ user 0xF055 (word 0x0055 0x9E01 ∷ []) (taken (trap 0x0055) 0x0055 0xB456)  -- TRAP x55
      ∷ user 0xF0AA (word 0x00AA 0x9E01 ∷ []) (taken (trap 0x00AA) 0x00AA 0xB456)  -- TRAP xAA
      ∷ [])

-- Loads from each device register. The key has just arrived, and the count of the timer comes to zero in the step.
pub record Loads : Type 0 where
  pub of_registers :
      Hold
      (supervisor 0x6A40 (R 1 0xFE00 ∷ []) (R 5 0x8000 ∷ PSR 0x0204 ∷ [])  -- LDR, KBSR
      ∷ supervisor 0x6A40 (R 1 0xFE02 ∷ []) (KBSR 0 ∷ R 5 0x00E9 ∷ PSR 0x0201 ∷ [])  -- LDR, KBDR
      ∷ supervisor 0x6A40 (R 1 0xFE04 ∷ []) (R 5 0 ∷ [])  -- LDR, DSR
      ∷ supervisor 0x6A40 (R 1 0xFE06 ∷ []) (R 5 0 ∷ [])  -- LDR, DDR
      ∷ supervisor 0x6A40 (R 1 0xFE08 ∷ []) (TSR 0 ∷ R 5 0x8000 ∷ PSR 0x0204 ∷ [])  -- LDR, TSR
      ∷ supervisor 0x6A40 (R 1 0xFE0A ∷ []) (R 5 0x8901 ∷ PSR 0x0204 ∷ [])  -- LDR, TIR
      ∷ supervisor 0x6A40 (R 1 0xFFFC ∷ []) (R 5 0x0202 ∷ PSR 0x0201 ∷ [])  -- LDR, PSR
      ∷ supervisor 0x6A40 (R 1 0xFFFE ∷ []) (R 5 0 ∷ [])  -- LDR, MCR
      ∷ supervisor 0x6A40 (R 1 0xFE0C ∷ word 0xFE0C 0x9ABD ∷ [])  -- LDR, a plain word
      (reads 0xFE0C ∷ R 5 0x9ABD ∷ PSR 0x0204 ∷ [])
      ∷ [])

-- Loads beside the device registers; and from the status of a timer that is off.
pub record MoreLoads : Type 0 where
  pub beside_them :
      Hold
      (supervisor 0x6A40 (R 1 0xFFFA ∷ word 0xFFFA 0x9ABD ∷ [])  -- LDR, a plain word
      (reads 0xFFFA ∷ R 5 0x9ABD ∷ PSR 0x0204 ∷ [])
      ∷ supervisor 0x6A40 (R 1 0x2FFF ∷ word 0x2FFF 0x9ABD ∷ [])  -- LDR, a plain word
      (reads 0x2FFF ∷ R 5 0x9ABD ∷ PSR 0x0204 ∷ [])
      ∷ supervisor_quiet 0x6A40 (R 1 0xFE08 ∷ TSR 0x8000 ∷ TIR 0 ∷ timer_count 0 ∷ [])  -- LDR, TSR, off
      (R 5 0x8000 ∷ PSR 0x0204 ∷ TSR 0 ∷ [])
      ∷ supervisor 0x6A40 (R 1 0xFE03 ∷ word 0xFE03 0x9ABD ∷ [])  -- LDR, a plain word
      (reads 0xFE03 ∷ R 5 0x9ABD ∷ PSR 0x0204 ∷ [])
      ∷ supervisor 0x6A40 (R 1 0xFE09 ∷ word 0xFE09 0x9ABD ∷ [])  -- LDR, a plain word
      (reads 0xFE09 ∷ R 5 0x9ABD ∷ PSR 0x0204 ∷ [])
      ∷ supervisor 0x6A40 (R 1 0xFFFD ∷ word 0xFFFD 0x9ABD ∷ [])  -- LDR, a plain word
      (reads 0xFFFD ∷ R 5 0x9ABD ∷ PSR 0x0204 ∷ [])
      ∷ supervisor 0xAA01 (PC 0xFE01 ∷ word 0xFE03 0x4000 ∷ [])  -- LDI R5, #1: a pointer beside KBDR
      (reads 0xFE03 ∷ reads 0x4000 ∷ R 5 0xAA01 ∷ PSR 0x0204 ∷ [])
      ∷ supervisor 0xAA01 (PC 0xFE07 ∷ word 0xFE09 0x4000 ∷ [])  -- LDI R5, #1: a pointer beside TSR
      (reads 0xFE09 ∷ reads 0x4000 ∷ R 5 0xAA01 ∷ PSR 0x0204 ∷ [])
      ∷ [])

-- Stores to each device register, while the display is busy.
pub record Stores : Type 0 where
  pub to_registers :
      Hold
      (supervisor 0x7640 (R 1 0xFE00 ∷ R 3 0xC7D7 ∷ []) (KBSR 0xC000 ∷ [])  -- STR, KBSR
      ∷ supervisor 0x7640 (R 1 0xFE02 ∷ R 3 0xC7D7 ∷ []) []  -- STR, KBDR
      ∷ supervisor 0x7640 (R 1 0xFE04 ∷ R 3 0xC7D7 ∷ []) []  -- STR, DSR
      ∷ supervisor 0x7640 (R 1 0xFE06 ∷ R 3 0xC7D7 ∷ []) []  -- STR, DDR
      ∷ supervisor 0x7640 (R 1 0xFE08 ∷ R 3 0xC7D7 ∷ []) (TSR 0xC000 ∷ [])  -- STR, TSR
      ∷ supervisor 0x7640 (R 1 0xFE0A ∷ R 3 0xC7D7 ∷ []) (TIR 0xC7D7 ∷ timer_count 0xC7D7 ∷ [])  -- STR, TIR
      ∷ supervisor 0x7640 (R 1 0xFFFC ∷ R 3 0xC7D7 ∷ []) (PSR 0x0707 ∷ [])  -- STR, PSR
      ∷ supervisor 0x7640 (R 1 0xFFFE ∷ R 3 0xC7D7 ∷ []) (MCR 0x8000 ∷ [])  -- STR, MCR
      ∷ supervisor 0x7640 (R 1 0xFE0C ∷ R 3 0xC7D7 ∷ []) (word 0xFE0C 0xC7D7 ∷ [])  -- STR, a plain word
      ∷ [])

-- Stores beside the device registers; to DDR while the display is ready; an interval of 0, which leaves ready; and the
-- least value that sets MCR, with the one below it.
pub record MoreStores : Type 0 where
  pub beside_them :
      Hold
      (supervisor 0x7640 (R 1 0xFFFA ∷ R 3 0xC7D7 ∷ []) (word 0xFFFA 0xC7D7 ∷ [])  -- STR, a plain word
      ∷ supervisor 0x7640 (R 1 0x2FFF ∷ R 3 0xC7D7 ∷ []) (word 0x2FFF 0xC7D7 ∷ [])  -- STR, a plain word
      ∷ supervisor 0x7640 (R 1 0xFE06 ∷ busy 0 ∷ R 3 0xC7D7 ∷ []) (shows 0x00D7 ∷ [])  -- STR, DDR, ready
      ∷ supervisor_quiet 0x7640 (R 1 0xFE0A ∷ R 3 0 ∷ TSR 0x8000 ∷ timer_count 2 ∷ [])  -- STR, TIR, off
      (TIR 0 ∷ timer_count 0 ∷ [])
      ∷ supervisor 0x7640 (R 1 0xFE03 ∷ R 3 0xC7D7 ∷ []) (word 0xFE03 0xC7D7 ∷ [])  -- STR, a plain word
      ∷ supervisor 0x7640 (R 1 0xFE09 ∷ R 3 0xC7D7 ∷ []) (word 0xFE09 0xC7D7 ∷ [])  -- STR, a plain word
      ∷ supervisor 0x7640 (R 1 0xFFFD ∷ R 3 0xC7D7 ∷ []) (word 0xFFFD 0xC7D7 ∷ [])  -- STR, a plain word
      ∷ supervisor 0x7640 (R 1 0xFFFE ∷ R 3 0x8000 ∷ []) (MCR 0x8000 ∷ [])  -- STR, MCR
      ∷ supervisor 0x7640 (R 1 0xFFFE ∷ R 3 0x7FFF ∷ MCR 0x8000 ∷ []) (MCR 0 ∷ [])  -- STR, MCR
      ∷ [])

-- A store to the PSR by a pointer, RTI to both modes, a trap and the timer's interrupt in Supervisor mode, the count.
pub record Supervisor : Type 0 where
  pub others :
      Hold
      (supervisor 0xBB11 (R 5 0x8203 ∷ word 0xB367 0xFFFC ∷ [])  -- STI R5, #-239: PSR
      (reads 0xB367 ∷ PSR 0x0203 ∷ [])
      ∷ supervisor 0x8000 (word 0x9341 0x8AAB ∷ word 0x9342 0x8101 ∷ [])  -- RTI to User mode
      (reads 0x9341 ∷ reads 0x9342 ∷ R 6 0xDE87 ∷ PC 0x8AAB ∷ PSR 0x8101 ∷ Saved_SSP 0x9343 ∷ [])
      ∷ supervisor 0x8000 (word 0x9341 0x8AAB ∷ word 0x9342 0x0101 ∷ [])  -- RTI to Supervisor mode
      (reads 0x9341 ∷ reads 0x9342 ∷ R 6 0x9343 ∷ PC 0x8AAB ∷ PSR 0x0101 ∷ [])
      ∷ supervisor 0xF0D3 (word 0x00D3 0x9E01 ∷ [])  -- TRAP xD3
      (enters (trap 0x00D3) 0x933F 0x0202 0xB456 ∷ reads 0x00D3 ∷ PC 0x9E01 ∷ [])
      ∷ supervisor 0x0000 (TSR 0x4000 ∷ word 0x0181 0x9E01 ∷ [])  -- the timer's interrupt, with a key that arrives
      (unfetched ∷ enters (interrupt 0x0181) 0x933F 0x0202 0xB455 ∷ reads 0x0181
      ∷ PC 0x9E01 ∷ PSR 0x0602 ∷ TSR 0xC000 ∷ [])
      ∷ supervisor_quiet 0x0000 (timer_count 0x8777 ∷ []) []  -- the count falls
      ∷ supervisor_quiet 0x0000 (timer_count 0x0081 ∷ []) []  -- the count falls
      ∷ [])

-- The five rules of the second edition, and what it shares.
pub record Second : Type 0 where
  pub by_five_rules :
      Hold
      (user_second 0xF0D3 (word 0x00D3 0x9E01 ∷ []) (reads 0x00D3 ∷ R 7 0xB456 ∷ PC 0x9E01 ∷ [])  -- TRAP xD3
      ∷ supervisor_second 0xF0D3 (word 0x00D3 0x9E01 ∷ []) (reads 0x00D3 ∷ R 7 0xB456 ∷ PC 0x9E01 ∷ [])  -- TRAP xD3
      ∷ user_second 0x41C0 [] (R 7 0xB456 ∷ [])  -- JSRR R7
      ∷ user_second 0x4100 [] (R 7 0xB456 ∷ PC 0x0321 ∷ [])  -- JSRR R4
      ∷ user_second 0xEB01 [] (R 5 0xB357 ∷ PSR 0x8204 ∷ [])  -- LEA R5, #-255
      ∷ user_second 0x6A40 (R 1 0xFFFC ∷ word 0xFFFC 0x9ABD ∷ [])  -- LDR, xFFFC
      (reads 0xFFFC ∷ R 5 0x9ABD ∷ PSR 0x8204 ∷ [])
      ∷ user_second 0x7640 (R 1 0xFFFC ∷ []) (word 0xFFFC 0xC0DE ∷ [])  -- STR, xFFFC
      ∷ user_second 0x6A42 (R 1 0xFE00 ∷ []) (KBSR 0 ∷ R 5 0x00E9 ∷ PSR 0x8201 ∷ [])  -- LDR R5, R1, #2: KBDR
      ∷ user_second 0x4140 [] (R 7 0xB456 ∷ PC 0x9007 ∷ [])  -- JSRR R5
      ∷ user_second_quiet 0xF0D3 (word 0x00D3 0x9E01 ∷ [])  -- TRAP xD3, with no key
      (reads 0x00D3 ∷ R 7 0xB456 ∷ PC 0x9E01 ∷ [])
      ∷ user_second 0x7640 (R 1 0xFE0A ∷ []) (TIR 0xC0DE ∷ timer_count 0xC0DE ∷ [])  -- STR, TIR
      ∷ [])

-- By the second edition User mode reaches each device register. Here no key has arrived, the timer is off and ready.
pub record SecondInUserMode : Type 0 where
  pub device_registers :
      Hold
      (user_second_quiet 0x6A40 (R 1 0xFE04 ∷ busy 0 ∷ []) (R 5 0x8000 ∷ PSR 0x8204 ∷ [])  -- LDR, DSR, ready
      ∷ user_second_quiet 0x7640 (R 1 0xFE00 ∷ []) (KBSR 0x4000 ∷ [])  -- STR, KBSR
      ∷ user_second_quiet 0x7640 (R 1 0xFE08 ∷ []) (TSR 0xC000 ∷ [])  -- STR, TSR
      ∷ user_second_quiet 0x7640 (R 1 0xFFFE ∷ []) (MCR 0x8000 ∷ [])  -- STR, MCR
      ∷ user_second_quiet 0x7640 (R 1 0xFE02 ∷ []) []  -- STR, KBDR
      ∷ user_second_quiet 0x7640 (R 1 0xFE04 ∷ []) []  -- STR, DSR
      ∷ user_second_quiet 0x7640 (R 1 0xFE06 ∷ []) []  -- STR, DDR
      ∷ user_second_quiet 0x7640 (R 1 0xFE06 ∷ busy 0 ∷ []) (shows 0x00DE ∷ [])  -- STR, DDR, ready
      ∷ [])

-- The same by loads; and addresses that would be privileged: both ends of memory fetched from, loaded and stored to.
pub record SecondInUserModeLoads : Type 0 where
  pub device_registers :
      Hold
      (user_second_quiet 0x6A40 (R 1 0xFE00 ∷ KBSR 0x8000 ∷ []) (R 5 0x8000 ∷ PSR 0x8204 ∷ [])  -- LDR, KBSR
      ∷ user_second_quiet 0x6A40 (R 1 0xFE04 ∷ []) (R 5 0 ∷ [])  -- LDR, DSR, busy
      ∷ user_second_quiet 0x6A40 (R 1 0xFE06 ∷ []) (R 5 0 ∷ [])  -- LDR, DDR
      ∷ user_second_quiet 0x6A40 (R 1 0xFE08 ∷ []) (R 5 0x8000 ∷ PSR 0x8204 ∷ TSR 0 ∷ [])  -- LDR, TSR
      ∷ user_second_quiet 0x6A40 (R 1 0xFE0A ∷ TIR 0x8901 ∷ timer_count 0x8002 ∷ [])  -- LDR, TIR
      (R 5 0x8901 ∷ PSR 0x8204 ∷ [])
      ∷ user_second_quiet 0x6A40 (R 1 0xFFFE ∷ MCR 0x8000 ∷ []) (R 5 0x8000 ∷ PSR 0x8204 ∷ [])  -- LDR, MCR
      ∷ user_second_quiet 0xAA01 (PC 0xFE00 ∷ KBSR 0x8000 ∷ [])  -- LDI R5, #1: a pointer at KBDR
      (reads 0x00D5 ∷ R 5 0xAA01 ∷ PSR 0x8204 ∷ KBSR 0 ∷ [])
      ∷ [])
  pub ends_of_memory :
      Hold
      (user_second_quiet 0x1A6F (PC 0xFFFF ∷ []) (R 5 0x5A4B ∷ PC 0x0000 ∷ PSR 0x8201 ∷ [])  -- ADD R5, R1, #15
      ∷ user_second_quiet 0x1A6F (PC 0x0000 ∷ []) (R 5 0x5A4B ∷ PSR 0x8201 ∷ [])  -- ADD R5, R1, #15
      ∷ user_second_quiet 0x6A40 (R 1 0xFFFF ∷ []) (reads 0xFFFF ∷ R 5 0x6A40 ∷ PSR 0x8201 ∷ [])  -- LDR
      ∷ user_second_quiet 0x7640 (R 1 0xFFFF ∷ []) (word 0xFFFF 0xC0DE ∷ [])  -- STR
      ∷ user_second_quiet 0x6A40 (R 1 0x0000 ∷ []) (reads 0x0000 ∷ R 5 0x6A40 ∷ PSR 0x8201 ∷ [])  -- LDR
      ∷ user_second_quiet 0x7640 (R 1 0x2FFF ∷ []) (word 0x2FFF 0xC0DE ∷ [])  -- STR
      ∷ [])

-- A load of 1; a word that stands at PC alone; a store to the PSR while the timer is off; counts and an interval of
-- which bit 15 is the only one, or the only one but bit 0; the longest interval; codes of which more than one is set; a
-- stack that wraps.
pub record Single : Type 0 where
  pub values :
      Hold
      (user 0x2B11 (word 0xB367 0x0001 ∷ []) (reads 0xB367 ∷ R 5 0x0001 ∷ PSR 0x8201 ∷ [])  -- LD R5, #-239
      ∷ user 0x0000 (word 0xB455 0x1A6F ∷ []) (R 5 0x5A4B ∷ PSR 0x8201 ∷ [])  -- ADD R5, R1, #15
      ∷ supervisor_quiet 0x7640 (R 1 0xFFFC ∷ R 3 0xC7D7 ∷ TIR 0 ∷ timer_count 0 ∷ []) (PSR 0x0707 ∷ [])  -- STR, PSR
      ∷ supervisor_quiet 0x0000 (timer_count 0x8001 ∷ []) []  -- the count falls
      ∷ supervisor_quiet 0x0000 (timer_count 0x8000 ∷ []) []  -- the count falls
      ∷ supervisor_quiet 0x0000 (TIR 0x8000 ∷ timer_count 0x0002 ∷ []) []  -- the count falls
      ∷ supervisor_quiet 0x0000 (TIR 0xFFFF ∷ timer_count 0x0002 ∷ []) []  -- the count falls
      ∷ supervisor_quiet 0x0000 (TIR 0xFFFF ∷ []) (TSR 0x8000 ∷ timer_count 0xFFFF ∷ [])  -- the count comes to zero
      ∷ user 0x0410 (PSR 0x8206 ∷ []) (PC 0xB466 ∷ [])  -- BRz #16, N and Z set
      ∷ user 0x0210 (PSR 0x8207 ∷ []) (PC 0xB466 ∷ [])  -- BRp #16, all set
      ∷ supervisor 0x8000 (R 6 0xFFFE ∷ word 0xFFFE 0x8AAB ∷ word 0xFFFF 0x0101 ∷ [])  -- RTI, and the stack wraps
      (reads 0xFFFE ∷ reads 0xFFFF ∷ R 6 0x0000 ∷ PC 0x8AAB ∷ PSR 0x0101 ∷ [])
      ∷ [])

pub record OtherRecordsHold : Type 0 where
  pub instructions : Instructions
  pub accesses : Accesses
  pub further_steps : Further
  pub keys_and_vectors : KeysAndVectors
  pub loads : Loads
  pub more_loads : MoreLoads
  pub stores : Stores
  pub more_stores : MoreStores
  pub supervisor_mode_lem : Supervisor
  pub second_edition : Second
  pub second_in_user_mode : SecondInUserMode
  pub second_in_user_mode_loads : SecondInUserModeLoads
  pub single_values : Single
