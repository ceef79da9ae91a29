-- What the theorems speak of, each notion with values that it would not have if it meant less or more: a premise that
-- asked for more, or a claim that said less, would be proved as gladly.
use Rattle.std.specs.Prelude.{ℕ, ◌≡◌, true, false, List, [], ◌∷◌, ◌++◌, map, length, get_or, replicate}
use Rattle.word.specs.Mask.{places_of}
use Rattle.machine.specs.Record.{Timer}
use Rattle.machine.specs.Outcome.{trap, privilege, illegal, access, interrupt, Cause, instruction, entered}
use Rattle.machine.specs.Timer.{expires, ticked_by}
use Rattle.machine.specs.TimerTheorems.{new_interval}
use Rattle.machine.specs.Causes.{meets_trap_or_exception, takes_interrupt}
use Rattle.machine.specs.Visible.{words_below, user_words, words_above, Hidden, hidden_of}
use Rattle.machine.specs.Exclusions.{Exclusion, lea, jsrr_r7, privileged_address, psr_address, exclusions_of}
use Rattle.machine.specs.Exclusions.{trap as trapMet}
use Rattle.machine.specs.Rows.{Fact, R, PC, PSR, KBSR, TSR, key, word, Moment, applied, record_of, memory_with}
use Rattle.machine.specs.Rows.{user_mode, supervisor_mode}
use Rattle.run.specs.Call.{start_of}
use Rattle.run.specs.OneAlteredWord.{with_word, only}
use Rattle.rows.specs.OtherRecords.{elsewhere}

-- ---- the parts of memory

-- Each part begins and ends with a word of its own.
abbrev pub bordered : List ℕ
bordered =
    1 ∷ replicate 0x2FFE 0 ++ 2 ∷ 3 ∷ replicate 0xCDFE 0 ++ 4 ∷ 5 ∷ replicate 0x01FE 0 ++ 6 ∷ []

-- How long a list is, and its first and last words.
abbrev pub borders : List ℕ → List ℕ → List ℕ
borders words = λ indices. length words ∷ map (λ i. get_or words i 0) indices

-- ---- what M27.7 excludes

-- What the step from this moment meets, with this word at PC.
abbrev pub met : ℕ → Moment → List Exclusion
met w s = exclusions_of s.keys (record_of s.numbers) (memory_with w s.words)

abbrev pub user : ℕ → List Fact → List Exclusion
user w facts = met w (applied facts user_mode)

abbrev pub supervisor : ℕ → List Fact → List Exclusion
supervisor w facts = met w (applied facts supervisor_mode)

-- In the records of OtherRecords.antt, with no key.
abbrev pub user_elsewhere : ℕ → List Fact → List Exclusion
user_elsewhere w facts = met w (applied facts elsewhere)

abbrev pub privileged : List Exclusion
privileged = privileged_address ∷ []

abbrev pub the_psr : List Exclusion
the_psr = psr_address ∷ []

-- ---- what demand 3 tells apart, the timer, and the one word of M28

-- A cause of each kind.
abbrev pub causes : List Cause
causes =
    instruction ∷ entered (trap 0x0025) 1 2 ∷ entered privilege 1 2 ∷ entered illegal 1 2 ∷ entered access 1 2
    ∷ entered (interrupt 0x0180) 1 2 ∷ entered (interrupt 0x0181) 1 2 ∷ []

abbrev pub timer : ℕ → ℕ → ℕ → Timer
timer status interval count = record { status = status; interval = interval; count = count }

pub record NotionsHold : Type 0 where
  -- "The words outside that range" x3000 to xFDFF, and the words inside.
  pub below : borders (words_below bordered) (0 ∷ 0x2FFF ∷ []) ≡ 0x3000 ∷ 1 ∷ 2 ∷ []
  pub inside : borders (user_words bordered) (0 ∷ 0xCDFF ∷ []) ≡ 0xCE00 ∷ 3 ∷ 4 ∷ []
  pub above : borders (words_above bordered) (0 ∷ 0x1FF ∷ []) ≡ 0x0200 ∷ 5 ∷ 6 ∷ []
  -- "MCR and both saved stack pointers", each in its place.
  pub hidden :
      hidden_of (record_of user_mode.numbers) []
      ≡ record { mcr = 0x8000; saved_ssp = 0x0280; saved_usp = 0x5E00; below = []; above = [] }
  pub hidden_elsewhere :
      hidden_of (record_of elsewhere.numbers) []
      ≡ record { mcr = 0; saved_ssp = 0x9283; saved_usp = 0xDE87; below = []; above = [] }
  pub hidden_below : borders (hidden_of (record_of user_mode.numbers) bordered).below (0 ∷ 0x2FFF ∷ [])
      ≡ 0x3000 ∷ 1 ∷ 2 ∷ []
  pub hidden_above : borders (hidden_of (record_of user_mode.numbers) bordered).above (0 ∷ 0x1FF ∷ [])
      ≡ 0x0200 ∷ 5 ∷ 6 ∷ []
  -- "No LEA, TRAP or JSRR R7": those three instructions, and no other.
  pub three_instructions :
      user 0xE000 [] ∷ user 0xF025 [] ∷ user 0x41C0 [] ∷ []
      ≡ (lea ∷ []) ∷ (trapMet ∷ []) ∷ (jsrr_r7 ∷ []) ∷ []
  -- (R7 is the register that these name, where they name one)
  pub no_other :
      map (λ w. user w (R 7 0x4000 ∷ []))
      (0x0E01 ∷ 0x1FC7 ∷ 0x1FE1 ∷ 0x2E01 ∷ 0x3E01 ∷ 0x4801 ∷ 0x4180 ∷ 0x5FC7 ∷ 0x5FE1 ∷ 0x6FC0 ∷ 0x7FC0 ∷ 0x8000
      ∷ 0x9FFF ∷ 0xAE01 ∷ 0xBE01 ∷ 0xC1C0 ∷ 0xD000 ∷ [])
      ≡ replicate 17 []
  -- "No privileged address in User mode, fetches included": a fetch, a datum, a pointer and what it points to.
  pub privileged_addresses :
      user 0x1021 (PC 0x2FFF ∷ []) ∷ user 0x6040 (R 1 0xFE02 ∷ []) ∷ user 0x7040 (R 1 0x2FFF ∷ [])
      ∷ user 0x21FE [] ∷ user 0x31FE [] ∷ user 0xA010 (word 0x3011 0x2FFF ∷ [])
      ∷ user 0xB010 (word 0x3011 0x2FFF ∷ []) ∷ user 0xA1FE (word 0x2FFF 0x4000 ∷ [])
      ∷ user 0xB1FE (word 0x2FFF 0x4000 ∷ []) ∷ supervisor 0x6040 (R 1 0xFE02 ∷ []) ∷ []
      ≡ privileged ∷ privileged ∷ privileged ∷ privileged ∷ privileged ∷ privileged ∷ privileged ∷ privileged
      ∷ privileged ∷ [] ∷ []
  -- "No xFFFC by a data or pointer access": by LDR, STR, LDI, STI; and not by its neighbours, nor by a fetch.
  pub psr_addresses :
      supervisor 0x6040 (R 1 0xFFFC ∷ []) ∷ supervisor 0x7040 (R 1 0xFFFC ∷ [])
      ∷ supervisor 0xA610 (word 0x0411 0xFFFC ∷ []) ∷ supervisor 0xB610 (word 0x0411 0xFFFC ∷ [])
      ∷ supervisor 0xA001 (PC 0xFFFA ∷ []) ∷ supervisor 0xB001 (PC 0xFFFA ∷ [])
      ∷ supervisor 0x6040 (R 1 0xFFFB ∷ []) ∷ supervisor 0x6040 (R 1 0xFFFD ∷ [])
      ∷ supervisor 0x1021 (PC 0xFFFC ∷ []) ∷ []
      ≡ the_psr ∷ the_psr ∷ the_psr ∷ the_psr ∷ the_psr ∷ the_psr ∷ [] ∷ [] ∷ [] ∷ []
  -- Pointers and data at the odd neighbour of xFFFC, and a datum beside the border of x3000.
  pub odd_neighbours :
      supervisor 0x7040 (R 1 0xFFFD ∷ []) ∷ supervisor 0xA001 (PC 0xFFFB ∷ []) ∷ supervisor 0xB001 (PC 0xFFFB ∷ [])
      ∷ user 0x21FE (PC 0x3001 ∷ []) ∷ []
      ≡ replicate 4 []
  -- The same in another record: a datum by LDR and STR, and by pointers at high addresses; a fetch at x8100; and an
  -- instruction that stands at PC alone.
  pub in_another_record :
      user_elsewhere 0x6040 (R 1 0xFE02 ∷ []) ∷ user_elsewhere 0x7040 (R 1 0xFE02 ∷ [])
      ∷ user_elsewhere 0xAB11 (word 0xB367 0x2FFF ∷ word 0x3367 0x4000 ∷ [])
      ∷ user_elsewhere 0xBB11 (word 0xB367 0x2FFF ∷ word 0x3367 0x4000 ∷ [])
      ∷ user_elsewhere 0x1021 (PC 0x8100 ∷ []) ∷ user_elsewhere 0x0000 (word 0xB455 0xE000 ∷ []) ∷ []
      ≡ privileged ∷ privileged ∷ privileged ∷ privileged ∷ [] ∷ (lea ∷ []) ∷ []
  -- An interrupt meets none, whatever stands at PC; nor does one by a key that arrives in the step.
  pub none_at_interrupt :
      user 0xE000 (TSR 0xC000 ∷ []) ∷ user 0xF025 (PC 0x2FFF ∷ TSR 0xC000 ∷ [])
      ∷ user 0xE000 (PSR 0x8305 ∷ KBSR 0x4000 ∷ key 0x61 ∷ []) ∷ []
      ≡ [] ∷ [] ∷ [] ∷ []
  -- The places of the fixed bits, by opcode: those of Figure A.2.
  pub places_of_fixed_bits :
      map places_of
      (0x0000 ∷ 0x1000 ∷ 0x1020 ∷ 0x2000 ∷ 0x3000 ∷ 0x4000 ∷ 0x4800 ∷ 0x5000 ∷ 0x5020 ∷ 0x6000 ∷ 0x7000 ∷ 0x8000
      ∷ 0x9000 ∷ 0xA000 ∷ 0xB000 ∷ 0xC000 ∷ 0xD000 ∷ 0xE000 ∷ 0xF000 ∷ [])
      ≡ 0 ∷ 0x18 ∷ 0 ∷ 0 ∷ 0 ∷ 0x63F ∷ 0 ∷ 0x18 ∷ 0 ∷ 0 ∷ 0 ∷ 0xFFF ∷ 0x3F ∷ 0 ∷ 0 ∷ 0xE3F ∷ 0 ∷ 0 ∷ 0xF00 ∷ []
  -- "A trap or exception", and an interrupt, which is none.
  pub traps_and_exceptions : map meets_trap_or_exception causes ≡ false ∷ true ∷ true ∷ true ∷ true ∷ false ∷ false ∷ []
  pub interrupts : map takes_interrupt causes ≡ false ∷ false ∷ false ∷ false ∷ false ∷ true ∷ true ∷ []
  -- The timer when an interval has been stored, three and eight steps later, and when its count comes to zero.
  pub new_interval_lem : new_interval 0xC000 0x8901 ≡ timer 0xC000 0x8901 0x8901
  pub three_steps : ticked_by 3 (timer 0x4000 7 7) ≡ timer 0x4000 7 4
  pub eight_steps : ticked_by 8 (timer 0x4000 7 7) ≡ timer 0xC000 7 6
  pub comes_to_zero : map (λ k. expires (timer 0 0x8901 k)) (0 ∷ 1 ∷ 2 ∷ 3 ∷ 0x81 ∷ 0x8001 ∷ 0x8901 ∷ [])
      ≡ true ∷ true ∷ false ∷ false ∷ false ∷ false ∷ false ∷ []
  -- A timer that is off comes to zero in no step, and stays off.
  pub off_never_expires : expires (timer 0 0 0) ≡ false
  pub off_stays : ticked_by 2 (timer 0x4000 0 0) ≡ timer 0x4000 0 0
  -- "Equal inputs but one lent word", and just that word.
  pub one_word :
      with_word 1 9 (start_of (record_of user_mode.numbers) (1 ∷ 2 ∷ 3 ∷ []) (4 ∷ []) (5 ∷ []) (6 ∷ []))
      ≡ start_of (record_of user_mode.numbers) (1 ∷ 9 ∷ 3 ∷ []) (4 ∷ []) (5 ∷ []) (6 ∷ [])
  pub high_word :
      get_or (with_word 0x8081 0x9ABD (start_of (record_of user_mode.numbers) bordered [] [] [])).memory
      0x8081 0 ≡ 0x9ABD
  pub only_one : map (only 5) (4 ∷ 5 ∷ 6 ∷ 0x85 ∷ 0x8005 ∷ []) ≡ false ∷ true ∷ false ∷ false ∷ false ∷ []
  pub only_high : map (only 0x8081) (1 ∷ 0x81 ∷ 0x8081 ∷ []) ≡ false ∷ false ∷ true ∷ []
