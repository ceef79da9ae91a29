-- Worked steps of programs in User mode, whose words begin at x3000. They are rows as those of crate machine, and stand
-- here because each reads its way through 12,288 words.
use Rattle.std.specs.Prelude.{◌≡◌, [], ◌∷◌}
use Rattle.machine.specs.Edition.{second}
use Rattle.machine.specs.Rows.{R, PC, PSR, KBSR, word, reads, shows, Hold}
use Rattle.machine.specs.Rows.{access_exception, user, user_by}
use Rattle.machine.specs.LogExamples.{user as logged, supervisor as supervisorLogged}

-- Access control.
pub record UserMode : Type 0 where
  -- "In User mode an access exception is raised by .. either address of LDI and STI, or by the address of .. ST, STR,
  -- if privileged." LD and LDR in Addresses (crate machine). Nothing is read before its check: KBDR keeps ready.
  pub access_exceptions :
      Hold
      (user 0x31FE (word 0x0102 0x0D00 ∷ []) access_exception  -- ST R0, #-2
      ∷ user 0x7060 (R 1 0xFE20 ∷ word 0x0102 0x0D00 ∷ []) access_exception  -- STR R0, R1, #-32
      ∷ user 0xA1FE (word 0x0102 0x0D00 ∷ []) access_exception  -- the pointer
      ∷ user 0xA010 (word 0x3011 0xFE02 ∷ word 0x0102 0x0D00 ∷ []) (reads 0x3011 ∷ access_exception)  -- the data
      ∷ user 0xB1FE (word 0x0102 0x0D00 ∷ []) access_exception  -- the pointer
      ∷ user 0xB010 (word 0x3011 0xFE06 ∷ word 0x0102 0x0D00 ∷ []) (reads 0x3011 ∷ access_exception)  -- the data
      ∷ [])
  -- Not at an address that is not privileged; in Supervisor mode none is denied. "Jumps are not checked until the
  -- fetch."
  pub no_exception_otherwise :
      Hold
      (user 0x6040 (R 1 0x3000 ∷ []) (reads 0x3000 ∷ R 0 0x6040 ∷ PSR 0x8501 ∷ [])  -- LDR R0, R1, #0
      ∷ user 0x707F (R 1 0x3001 ∷ []) (word 0x3000 0x0F1E ∷ [])  -- STR R0, R1, #-1
      ∷ user 0xC040 (R 1 0x0000 ∷ []) (PC 0x0000 ∷ [])  -- JMP R1
      ∷ user 0x4040 (R 1 0xFE00 ∷ []) (R 7 0x3001 ∷ PC 0xFE00 ∷ [])  -- JSRR R1
      ∷ [])

pub record UserModeBySecondEdition : Type 0 where
  -- "No access exception exists": for a load, a store, a pointer and what it points to. In User mode too a device
  -- register is reached.
  pub user_mode_reaches_every_address :
      Hold
      (user_by second 0x6040 (R 1 0x0000 ∷ word 0x0000 0x9ABC ∷ [])  -- LDR R0, R1, #0
      (reads 0x0000 ∷ R 0 0x9ABC ∷ PSR 0x8504 ∷ [])
      ∷ user_by second 0x6040 (R 1 0xFE02 ∷ []) (R 0 0x0055 ∷ PSR 0x8501 ∷ KBSR 0x4000 ∷ [])  -- LDR R0, R1, #0: KBDR
      ∷ user_by second 0x7040 (R 1 0x2FFF ∷ []) (word 0x2FFF 0x0F1E ∷ [])  -- STR R0, R1, #0
      ∷ user_by second 0x7040 (R 1 0xFE06 ∷ []) (shows 0x1E ∷ [])  -- STR R0, R1, #0: DDR
      ∷ user_by second 0xA7FE (word 0x2FFF 0x3100 ∷ word 0x3100 0x9ABC ∷ [])  -- LDI R3, #-2
      (reads 0x2FFF ∷ reads 0x3100 ∷ R 3 0x9ABC ∷ PSR 0x8504 ∷ [])
      ∷ user_by second 0xA610 (word 0x3011 0x0100 ∷ word 0x0100 0x9ABC ∷ [])  -- LDI R3, #16
      (reads 0x3011 ∷ reads 0x0100 ∷ R 3 0x9ABC ∷ PSR 0x8504 ∷ [])
      ∷ user_by second 0xB7FE (word 0x2FFF 0x3100 ∷ []) (reads 0x2FFF ∷ word 0x3100 0xC0DE ∷ [])  -- STI R3, #-2
      ∷ user_by second 0xB610 (word 0x3011 0x0100 ∷ []) (reads 0x3011 ∷ word 0x0100 0xC0DE ∷ [])  -- STI R3, #16
      ∷ [])

-- What a log tells of a step: the word fetched and the reason.
pub record LogOfUserMode : Type 0 where
  -- "0 instruction": ADD; a store over the instruction itself, which is logged as it was fetched
  pub instruction_0 : logged 0x1021 [] ≡ 0x1021 ∷ 0 ∷ []
  pub word_before_the_step : logged 0x31FF [] ≡ 0x31FF ∷ 0 ∷ []
  -- "1 trap, 2 privilege, 3 illegal"
  pub trap_1 : logged 0xF025 [] ≡ 0xF025 ∷ 1 ∷ []
  pub privilege_2 : logged 0x8000 [] ≡ 0x8000 ∷ 2 ∷ []
  pub illegal_3 : logged 0xD123 [] ≡ 0xD123 ∷ 3 ∷ []
  -- "4 access": by the data access of LDR and STR, by the pointer of LDI and by what it points to
  pub load_4 : logged 0x6040 (R 1 0xFE02 ∷ []) ≡ 0x6040 ∷ 4 ∷ []
  pub store_4 : logged 0x7040 (R 1 0x2FFF ∷ []) ≡ 0x7040 ∷ 4 ∷ []
  pub pointer_4 : logged 0xA1FE [] ≡ 0xA1FE ∷ 4 ∷ []
  pub pointed_4 : logged 0xA001 (word 0x3002 0x0000 ∷ []) ≡ 0xA001 ∷ 4 ∷ []
  -- the fetch of the last privileged word below, in Supervisor mode
  pub fetched_below : supervisorLogged 0x1021 (PC 0x2FFF ∷ []) ≡ 0x1021 ∷ 0 ∷ []
