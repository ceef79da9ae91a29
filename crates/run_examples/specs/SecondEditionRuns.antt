-- Runs by both editions: the premise of `EndsAsNewerRun` can be met, and none of its exclusions can be left out. The
-- form of a start is that of a row of crate machine: the word at PC, which stands at every place that is not named, and
-- what else holds.
use Rattle.std.specs.Prelude.{ℕ, ◌≡◌, List, [], ◌∷◌}
use Rattle.machine.specs.Exclusions.{Exclusion, lea, trap, jsrr_r7, privileged_address, psr_address}
use Rattle.machine.specs.Rows.{Moment, record_of, Fact, R, PC, PSR, KBSR, word, applied, user_mode, supervisor_mode}
use Rattle.machine.specs.Rows.{memory_with}
use Rattle.run.specs.declared.Ending.TheVariants.{OutputFull}
use Rattle.run.specs.Run.{Start}
use Rattle.run.specs.Call.{start_of, call_of, second_call_of}
use Rattle.run.specs.SecondEdition.{exclusions_at, MeetsNoExclusion}

-- No output is lent.
abbrev pub start_from : Moment → ℕ → List ℕ → List ℕ → Start
start_from m w times bytes = start_of (record_of m.numbers) (memory_with w m.words) times bytes []

-- No key is pressed.
abbrev pub user : ℕ → List Fact → Start
user w facts = start_from (applied facts user_mode) w [] []

abbrev pub supervisor : ℕ → List Fact → Start
supervisor w facts = start_from (applied facts supervisor_mode) w [] []

-- ---- the premise can be met

-- User mode: ADD R0, R0, #1; STR R0, R1, #0; LDR R3, R1, #0. The key at clock 44 interrupts, and at x0E00 stands
-- STR R0, R2, #0 with R2 at DDR, for which the output has no room.
abbrev pub common_start : Start
common_start =
    start_from
    (applied
    (R 1 0x3100 ∷ R 2 0xFE06 ∷ PSR 0x8302 ∷ KBSR 0x4000
    ∷ word 0x3001 0x7040 ∷ word 0x3002 0x6640 ∷ word 0x0180 0x0E00 ∷ word 0x0E00 0x7080 ∷ [])
    user_mode)
    0x1021 (44 ∷ []) (0x61 ∷ [])

pub record PremiseCanBeMet : Type 0 where
  pub premise : MeetsNoExclusion common_start 10
  -- four steps are made, the interrupt among them, and the fifth is the one that it stopped before
  pub steps : (second_call_of common_start 10).steps ≡ 4
  pub ending : (second_call_of common_start 10).ending ≡ OutputFull

-- ---- each exclusion is needed

-- The first step meets this exclusion and no other, so many steps are made of one, and the editions' calls differ.
pub record Differ (s : Start) (x : Exclusion) (made : ℕ) : Type 0 where
  pub meets : exclusions_at s 0 ≡ x ∷ []
  pub steps : (second_call_of s 1).steps ≡ made
  pub differ : second_call_of s 1 ≡ call_of s 1 → ⊥

pub record ExclusionsAreNeeded : Type 0 where
  -- "LEA, TRAP or JSRR R7"
  pub lea_needed : Differ (user 0xE1FF []) lea 1  -- LEA R0, #-1
  pub trap_needed : Differ (user 0xF025 []) trap 1  -- TRAP x25
  pub jsrr_r7_needed : Differ (user 0x41C0 []) jsrr_r7 1  -- JSRR R7
  -- "a privileged address in User mode, fetches included"
  pub fetch_needed : Differ (user 0x1021 (PC 0x0000 ∷ [])) privileged_address 1  -- ADD R0, R0, #1
  pub data_needed : Differ (user 0x6040 (R 1 0x0000 ∷ [])) privileged_address 1  -- LDR R0, R1, #0
  pub pointer_needed : Differ (user 0xA1FE (word 0x2FFF 0x3000 ∷ [])) privileged_address 1  -- LDI R0, #-2
  pub pointed_needed : Differ (user 0xA000 (word 0x3001 0x0000 ∷ [])) privileged_address 1  -- LDI R0, #0
  -- "xFFFC by a data or pointer access"
  pub psr_load_needed : Differ (supervisor 0x6040 (R 1 0xFFFC ∷ [])) psr_address 1  -- LDR R0, R1, #0
  pub psr_store_needed : Differ (supervisor 0x7040 (R 1 0xFFFC ∷ [])) psr_address 1  -- STR R0, R1, #0
  pub psr_pointer_needed :  -- LDI R3, #-101
      Differ (supervisor 0xA79B (PC 0x0060 ∷ word 0xFFFC 0x0500 ∷ word 0x0500 0x9ABC ∷ [])) psr_address 1
  -- "the step it stopped before": STR R0, R1, #0 to DDR in User mode. No step is made by the second edition's rules,
  -- and the newer run raises the access exception.
  pub stopped_step_needed : Differ (user 0x7040 (R 1 0xFE06 ∷ [])) privileged_address 0
