-- Worked steps that fetch, load, store, push or pop high in memory. They are rows as those of crate machine, and stand
-- here because each reads its way through most of a list of 65,536 words.
use Rattle.machine.specs.Edition.{second}
use Rattle.machine.specs.Outcome.{trap}
use Rattle.machine.specs.Rows.{R, PC, PSR, Saved_SSP, KBSR, KBDR, MCR, TSR, word, reads, enters, Hold}
use Rattle.machine.specs.Rows.{user_by, supervisor, supervisor_by}
use Rattle.std.specs.Prelude.{[], ◌∷◌}

pub record HighAddresses : Type 0 where
  -- "Sums of addresses and registers wrap modulo 65,536": Next.
  pub next_wraps : Hold (supervisor 0x4802 (PC 0xFFFF ∷ []) (R 7 0x0000 ∷ PC 0x0002 ∷ []) ∷ [])  -- JSR #2
  -- R6 wraps. "Fetches, pushes, pops and vectors use the lent words", here at MCR's address.
  pub pushes_and_pops_wrap :
      Hold
      (supervisor 0xF0AF (R 6 0x0000 ∷ word 0x00AF 0x0A00 ∷ [])  -- TRAP xAF
      (enters (trap 0x00AF) 0xFFFE 0x0505 0x0401 ∷ reads 0x00AF ∷ PC 0x0A00 ∷ [])
      ∷ supervisor 0x8000 (R 6 0xFFFE ∷ MCR 0x0000 ∷ [])  -- RTI
      (reads 0xFFFE ∷ reads 0xFFFF ∷ R 6 0xFD00 ∷ PC 0x8000 ∷ PSR 0x8000 ∷ Saved_SSP 0x0000 ∷ [])
      ∷ [])
  -- "A pointer access is a load, made before the data access": through KBDR and the timer's status, which clears ready,
  -- and through KBSR. "Fetches use the lent words": all of these stand at device registers.
  pub pointers_are_loads :
      Hold
      (supervisor 0xA7FF (PC 0xFE02 ∷ KBDR 0xFF ∷ word 0x00FF 0x9ABC ∷ [])  -- LDI R3, #-1: by KBDR
      (reads 0x00FF ∷ R 3 0x9ABC ∷ PSR 0x0504 ∷ KBSR 0x4000 ∷ [])
      ∷ supervisor 0xB7FF (PC 0xFE02 ∷ []) (KBSR 0x4000 ∷ word 0x0055 0xC0DE ∷ [])  -- STI R3, #-1: by KBDR
      ∷ supervisor 0xA7FF (PC 0xFE00 ∷ KBSR 0x0000 ∷ word 0x0000 0x9ABC ∷ [])  -- by KBSR
      (reads 0x0000 ∷ R 3 0x9ABC ∷ PSR 0x0504 ∷ [])
      ∷ supervisor 0xB7FF (PC 0xFE00 ∷ KBSR 0x0000 ∷ []) (word 0x0000 0xC0DE ∷ [])  -- by KBSR
      ∷ supervisor 0xA7FF (PC 0xFE08 ∷ TSR 0x8000 ∷ word 0x8000 0x9ABC ∷ [])  -- by the timer's status
      (reads 0x8000 ∷ R 3 0x9ABC ∷ PSR 0x0504 ∷ TSR 0x0000 ∷ [])
      ∷ [])

pub record HighAddressesBySecondEdition : Type 0 where
  -- "No access exception exists": for a fetch above the words of User mode.
  pub user_mode_fetches :
      Hold (user_by second 0x1A6F (PC 0xFE00 ∷ []) (R 5 0x5A4B ∷ PSR 0x8501 ∷ []) ∷ [])  -- ADD R5, R1, #15
  -- "xFFFC is a plain word": for a load, a store and a pointer.
  pub psr_address_is_plain :
      Hold
      (supervisor_by second 0x6040 (R 1 0xFFFC ∷ word 0xFFFC 0x9ABC ∷ [])  -- LDR R0, R1, #0
      (reads 0xFFFC ∷ R 0 0x9ABC ∷ PSR 0x0504 ∷ [])
      ∷ supervisor_by second 0x7040 (R 0 0x0207 ∷ R 1 0xFFFC ∷ []) (word 0xFFFC 0x0207 ∷ [])  -- STR R0, R1, #0
      ∷ supervisor_by second 0xA79B (PC 0x0060 ∷ word 0xFFFC 0x0500 ∷ word 0x0500 0x9ABC ∷ [])  -- LDI R3, #-101
      (reads 0xFFFC ∷ reads 0x0500 ∷ R 3 0x9ABC ∷ PSR 0x0504 ∷ [])
      ∷ supervisor_by second 0xB79B (PC 0x0060 ∷ word 0xFFFC 0x0500 ∷ [])  -- STI R3, #-101
      (reads 0xFFFC ∷ word 0x0500 0xC0DE ∷ [])
      ∷ [])
