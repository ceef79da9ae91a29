-- The rules of the second edition, each in steps that would end otherwise without it; the form is in Rows.
use Rattle.std.specs.Prelude.{◌≡◌, true, false, List, [], ◌∷◌, map, ℕ}
use Rattle.machine.specs.Edition.{second}
use Rattle.machine.specs.Outcome.{privilege, illegal}
use Rattle.machine.specs.Devices.{is_device_by}
use Rattle.machine.specs.Rows.{R, PC, PSR, Saved_USP, TSR, word, reads, enters, interrupts_by}
use Rattle.machine.specs.Rows.{interrupts, Fact, Row, user_by, supervisor_by, Hold}

abbrev pub user : ℕ → List Fact → List Fact → Row
user w facts changes = user_by second w facts changes

abbrev pub supervisor : ℕ → List Fact → List Fact → Row
supervisor w facts changes = supervisor_by second w facts changes

pub record SecondEditionRulesHold : Type 0 where
  -- "LEA sets the codes": P, N and Z.
  pub lea_sets_codes :
      Hold
      (supervisor 0xEAFF [] (R 5 0x0500 ∷ PSR 0x0501 ∷ [])  -- LEA R5, #255
      ∷ supervisor 0xEB00 (PC 0x0010 ∷ []) (R 5 0xFF11 ∷ PSR 0x0504 ∷ [])  -- LEA R5, #-256
      ∷ supervisor 0xEBFF (PC 0x0000 ∷ []) (R 5 0x0000 ∷ PSR 0x0502 ∷ [])  -- LEA R5, #-1
      ∷ [])
  -- "TRAP puts Next in R7 and takes PC from its vector, with no push or mode change."
  pub trap_links :
      Hold
      (user 0xF0AF (word 0x00AF 0x0A00 ∷ []) (reads 0x00AF ∷ R 7 0x3001 ∷ PC 0x0A00 ∷ [])  -- TRAP xAF
      ∷ supervisor 0xF0AF (word 0x00AF 0x0A00 ∷ []) (reads 0x00AF ∷ R 7 0x0401 ∷ PC 0x0A00 ∷ [])  -- TRAP xAF
      ∷ [])
  -- "No access exception exists": for a fetch. For a load, a store, a pointer and what it points to in UserMode (crate
  -- machine_examples).
  pub user_mode_reaches_every_address :
      Hold
      (user 0x1A6F (PC 0x2FFF ∷ []) (R 5 0x5A4B ∷ PSR 0x8501 ∷ [])  -- ADD R5, R1, #15
      ∷ [])
  -- "xFFFC is a plain word", as steps in HighAddresses (crate machine_examples). The other device registers are where
  -- they were.
  pub other_devices_stay :
      map (is_device_by second) (0xFE00 ∷ 0xFE02 ∷ 0xFE04 ∷ 0xFE06 ∷ 0xFE08 ∷ 0xFE0A ∷ 0xFFFC ∷ 0xFFFE ∷ [])
      ≡ true ∷ true ∷ true ∷ true ∷ true ∷ true ∷ false ∷ true ∷ []
  -- "JSRR R7 continues at Next"; by any other register as before.
  pub jsrr_r7_continues_at_next :
      Hold
      (supervisor 0x41C0 [] (R 7 0x0401 ∷ [])  -- JSRR R7
      ∷ supervisor 0x4100 [] (R 7 0x0401 ∷ PC 0x0321 ∷ [])  -- JSRR R4
      ∷ [])
  -- "All else is unchanged": the privilege and the illegal exception and the two interrupts are entries.
  pub other_entries_stay :
      Hold
      (user 0x8000 (word 0x0100 0x0B00 ∷ [])  -- RTI: privilege
      (enters privilege 0x027E 0x8505 0x3000 ∷ reads 0x0100 ∷ PC 0x0B00 ∷ PSR 0x0505 ∷ Saved_USP 0xFD00 ∷ [])
      ∷ user 0xDABC (word 0x0101 0x0C00 ∷ [])  -- opcode 13: illegal
      (enters illegal 0x027E 0x8505 0x3000 ∷ reads 0x0101 ∷ PC 0x0C00 ∷ PSR 0x0505 ∷ Saved_USP 0xFD00 ∷ [])
      ∷ user 0xE000 (PSR 0x8302 ∷ word 0x0180 0x0E00 ∷ [])  -- the keyboard's interrupt
      (interrupts 0x027E 0x8302 0x3000 ∷ PSR 0x0402 ∷ Saved_USP 0xFD00 ∷ [])
      ∷ user 0xE000 (TSR 0xC000 ∷ word 0x0181 0x0E00 ∷ [])  -- the timer's
      (interrupts_by 0x0181 0x027E 0x8505 0x3000 ∷ PSR 0x0605 ∷ Saved_USP 0xFD00 ∷ [])
      ∷ [])
