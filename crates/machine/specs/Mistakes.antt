-- "Mistakes that invite": for each, a step in which it would show.
use Rattle.std.specs.Prelude.{[], ◌∷◌}
use Rattle.machine.specs.Outcome.{trap}
use Rattle.machine.specs.Rows.{R, PC, PSR, Saved_SSP, Saved_USP, KBSR, word, reads, enters, interrupts}
use Rattle.machine.specs.Rows.{access_exception, user, supervisor, Hold}

pub record NoTypicalMistake : Type 0 where
  -- "Reading the vector before the pushes": TRAP x25 with the stack at the vector word takes PC from what it pushed.
  pub vector_after_pushes :
      Hold
      (user 0xF025 (Saved_SSP 0x0026 ∷ word 0x0025 0x0600 ∷ [])
      (enters (trap 0x0025) 0x0024 0x8505 0x3001 ∷ reads 0x0025 ∷ PC 0x8505 ∷ PSR 0x0505 ∷ Saved_USP 0xFD00 ∷ [])
      ∷ [])
  -- "Restoring R6 before both pops": RTI takes PC and PSR from the supervisor stack, and nothing from the user stack.
  pub both_pops_from_supervisor_stack :
      Hold
      (supervisor 0x8000 (Saved_USP 0x0340 ∷ word 0x0240 0x4567 ∷ word 0x0241 0x8304 ∷ word 0x0341 0x8501 ∷ [])
      (reads 0x0240 ∷ reads 0x0241 ∷ R 6 0x0340 ∷ PC 0x4567 ∷ PSR 0x8304 ∷ Saved_SSP 0x0242 ∷ [])
      ∷ [])
  -- "Reading a word before checking privilege": LDR from KBDR in User mode leaves ready set.
  pub check_before_read : Hold (user 0x6040 (R 1 0xFE02 ∷ word 0x0102 0x0D00 ∷ []) access_exception ∷ [])
  -- "LEA setting codes".
  pub lea_keeps_codes : Hold (user 0xE1FF [] (R 0 0x3000 ∷ []) ∷ [])
  -- "Clearing ready at interrupt entry".
  pub ready_kept_at_entry :
      Hold
      (supervisor 0x0000 (PSR 0x0302 ∷ word 0x0180 0x0E00 ∷ []) (interrupts 0x023E 0x0302 0x0400 ∷ PSR 0x0402 ∷ [])
      ∷ [])
