-- What is told of the next step, with steps of which it would tell otherwise without its rule; the form is in Rows of
-- crate machine.
use Rattle.std.specs.Prelude.{ℕ, ◌-◌, ◌^◌, ◌≡◌, List, [], ◌∷◌}
use Rattle.machine.specs.Edition.{Edition, third, second}
use Rattle.machine.specs.Rules.{rule_number}
use Rattle.machine.specs.Rows.{Moment, Fact, number, R, PC, PSR, KBSR, MCR, word, record_of, applied, user_mode}
use Rattle.machine.specs.Rows.{supervisor_mode, memory_with}
use Rattle.run.specs.Refusals.{ending_refusal, ending_index, ending_stop}
use Rattle.run.specs.Call.{start_of}
use Rattle.telling.specs.declared.Addresses.{Addresses}
use Rattle.telling.specs.declared.Told.{Told}
use Rattle.telling.specs.Told.{addresses_of, told_next, told_by}

-- In numbers: refusal, index and stop; the word and the reason; then how many words are read, and which, and written.
abbrev pub listed : Addresses → List ℕ → List ℕ
listed l rest = l.count ∷ l.first ∷ l.second ∷ l.third ∷ rest

abbrev pub in_numbers : Told → List ℕ
in_numbers t =
    ending_refusal t.ending ∷ ending_index t.ending ∷ ending_stop t.ending ∷ t.word
    ∷ rule_number t.touched.rule ∷ listed t.touched.reads (listed t.touched.writes [])

-- A step in which these keys arrive, from this moment with this word at PC.
abbrev pub keyed : Edition → List ℕ → List ℕ → ℕ → Moment → List ℕ
keyed e times bytes w s =
    in_numbers (told_next e (start_of (record_of s.numbers) (memory_with w s.words) times bytes []))

abbrev pub user : Edition → ℕ → List Fact → List ℕ
user e w facts = keyed e [] [] w (applied facts user_mode)

abbrev pub supervisor : Edition → ℕ → List Fact → List ℕ
supervisor e w facts = keyed e [] [] w (applied facts supervisor_mode)

-- A call at this clock with this memory and no key.
abbrev pub called : ℕ → List ℕ → List ℕ
called clock memory =
    in_numbers (told_by third (start_of (record_of (applied (number 19 clock ∷ []) user_mode).numbers) memory [] [] []))

pub record ToldExamplesHold : Type 0 where
  -- of a longer list the first three are told
  pub three_told : listed (addresses_of (7 ∷ 8 ∷ 9 ∷ 10 ∷ [])) [] ≡ 3 ∷ 7 ∷ 8 ∷ 9 ∷ []
  -- an instruction takes the word at PC alone: ADD R5, R1, #15
  pub fetched_alone : supervisor third 0x1A6F [] ≡ 0 ∷ 0 ∷ 0 ∷ 0x1A6F ∷ 0 ∷ 1 ∷ 0x0400 ∷ 0 ∷ 0 ∷ 0 ∷ 0 ∷ 0 ∷ 0 ∷ []
  -- LDI R5, #5: fetch, pointer, datum; STI R5, #5 stores to the word pointed to
  pub pointer_then_datum :
      supervisor third 0xAA05 (word 0x0406 0x0321 ∷ [])
      ≡ 0 ∷ 0 ∷ 0 ∷ 0xAA05 ∷ 0 ∷ 3 ∷ 0x0400 ∷ 0x0406 ∷ 0x0321 ∷ 0 ∷ 0 ∷ 0 ∷ 0 ∷ []
  pub pointer_then_store :
      supervisor third 0xBA05 (word 0x0406 0x0321 ∷ [])
      ≡ 0 ∷ 0 ∷ 0 ∷ 0xBA05 ∷ 0 ∷ 2 ∷ 0x0400 ∷ 0x0406 ∷ 0 ∷ 1 ∷ 0x0321 ∷ 0 ∷ 0 ∷ []
  -- STR R5, R1, #0 to DDR, and to xFFFC by each edition: no lent word stands behind a device register
  pub store_to_device :
      supervisor third 0x7A40 (R 1 0xFE06 ∷ []) ≡ 0 ∷ 0 ∷ 0 ∷ 0x7A40 ∷ 0 ∷ 1 ∷ 0x0400 ∷ 0 ∷ 0 ∷ 0 ∷ 0 ∷ 0 ∷ 0 ∷ []
  pub store_to_psr :
      supervisor third 0x7A40 (R 1 0xFFFC ∷ []) ≡ 0 ∷ 0 ∷ 0 ∷ 0x7A40 ∷ 0 ∷ 1 ∷ 0x0400 ∷ 0 ∷ 0 ∷ 0 ∷ 0 ∷ 0 ∷ 0 ∷ []
  pub second_stores_to_word :
      supervisor second 0x7A40 (R 1 0xFFFC ∷ [])
      ≡ 0 ∷ 0 ∷ 0 ∷ 0x7A40 ∷ 0 ∷ 1 ∷ 0x0400 ∷ 0 ∷ 0 ∷ 1 ∷ 0xFFFC ∷ 0 ∷ 0 ∷ []
  -- RTI pops two words
  pub pops :
      supervisor third 0x8000 []
      ≡ 0 ∷ 0 ∷ 0 ∷ 0x8000 ∷ 0 ∷ 3 ∷ 0x0400 ∷ 0x0240 ∷ 0x0241 ∷ 0 ∷ 0 ∷ 0 ∷ 0 ∷ []
  -- TRAP x25 pushes two words by the third edition, PSR's first, and none by the second
  pub trap_pushes :
      supervisor third 0xF025 []
      ≡ 0 ∷ 0 ∷ 0 ∷ 0xF025 ∷ 1 ∷ 2 ∷ 0x0400 ∷ 0x0025 ∷ 0 ∷ 2 ∷ 0x023F ∷ 0x023E ∷ 0 ∷ []
  pub second_trap_links :
      supervisor second 0xF025 []
      ≡ 0 ∷ 0 ∷ 0 ∷ 0xF025 ∷ 0 ∷ 2 ∷ 0x0400 ∷ 0x0025 ∷ 0 ∷ 0 ∷ 0 ∷ 0 ∷ 0 ∷ []
  -- a fetch that is denied takes the vector word alone; the second edition denies none
  pub fetch_denied :
      user third 0x1021 (PC 0x2FFF ∷ []) ≡ 0 ∷ 0 ∷ 0 ∷ 0 ∷ 4 ∷ 1 ∷ 0x0102 ∷ 0 ∷ 0 ∷ 2 ∷ 0x027F ∷ 0x027E ∷ 0 ∷ []
  pub second_denies_none :
      user second 0x1021 (PC 0x2FFF ∷ []) ≡ 0 ∷ 0 ∷ 0 ∷ 0x1021 ∷ 0 ∷ 1 ∷ 0x2FFF ∷ 0 ∷ 0 ∷ 0 ∷ 0 ∷ 0 ∷ 0 ∷ []
  -- an interrupt by the key that arrives in the step, and one by a key that does not
  pub key_arrives :
      keyed third (41 ∷ []) (0x61 ∷ []) 0x1A6F (applied (PSR 0x0305 ∷ KBSR 0x4000 ∷ []) supervisor_mode)
      ≡ 0 ∷ 0 ∷ 0 ∷ 0 ∷ 5 ∷ 1 ∷ 0x0180 ∷ 0 ∷ 0 ∷ 2 ∷ 0x023F ∷ 0x023E ∷ 0 ∷ []
  pub key_waits :
      keyed third (42 ∷ []) (0x61 ∷ []) 0x1A6F (applied (PSR 0x0305 ∷ KBSR 0x4000 ∷ []) supervisor_mode)
      ≡ 0 ∷ 0 ∷ 0 ∷ 0x1A6F ∷ 0 ∷ 1 ∷ 0x0400 ∷ 0 ∷ 0 ∷ 0 ∷ 0 ∷ 0 ∷ 0 ∷ []
  -- no step: halted, and refused under 11; under 13 at the last clock, where a call of no step is accepted; and the
  -- step before it
  pub halted : supervisor third 0x1A6F (MCR 0 ∷ []) ≡ 0 ∷ 0 ∷ 1 ∷ 0 ∷ 0 ∷ 0 ∷ 0 ∷ 0 ∷ 0 ∷ 0 ∷ 0 ∷ 0 ∷ 0 ∷ []
  pub refused_11 : called 41 [] ≡ 11 ∷ 0 ∷ 0 ∷ 0 ∷ 0 ∷ 0 ∷ 0 ∷ 0 ∷ 0 ∷ 0 ∷ 0 ∷ 0 ∷ 0 ∷ []
  pub refused_13 :
      called (2 ^ 48) (memory_with 0 [])
      ≡ 13 ∷ 0 ∷ 0 ∷ 0 ∷ 0 ∷ 0 ∷ 0 ∷ 0 ∷ 0 ∷ 0 ∷ 0 ∷ 0 ∷ 0 ∷ []
  pub last_step :
      called (2 ^ 48 - 1) (memory_with 0x1A6F [])
      ≡ 0 ∷ 0 ∷ 0 ∷ 0x1A6F ∷ 0 ∷ 1 ∷ 0x3000 ∷ 0 ∷ 0 ∷ 0 ∷ 0 ∷ 0 ∷ 0 ∷ []
