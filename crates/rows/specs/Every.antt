-- Rules that name a number of few values, asked with each of them: trap vectors, keys and bytes shown, registers, the
-- codes that BR tests, priorities. So a rule that fails for one of them alone comes to something else here.
use Rattle.machine.specs.declared.Interrupt.{Interrupt}
use Rattle.std.specs.Prelude.{Option, None, Some}
use Rattle.std.specs.Prelude.{ℕ, zero, suc, ◌+◌, ◌*◌, ◌≡◌, Bool, true, false, List, [], ◌∷◌, map, pos, negsuc}
use Rattle.word.specs.Reading.{read_of}
use Rattle.word.specs.declared.Instruction.{Instruction}
use Rattle.word.specs.declared.Instruction.TheVariants.{AddRegister, AddImmediate, Ld, St, Jsrr, AndRegister, Ldr, Str}
use Rattle.word.specs.declared.Instruction.TheVariants.{AndImmediate, Not, Ldi, Sti, Jmp, Lea}
use Rattle.machine.specs.declared.Machine.{Machine}
use Rattle.machine.specs.declared.Plan.{Plan}
use Rattle.machine.specs.declared.Plan.TheVariants.{Move, Put, Jump, Load, LoadBy, Store, StoreBy, Call}
use Rattle.machine.specs.Edition.{third, second}
use Rattle.machine.specs.Words.{with_register}
use Rattle.machine.specs.Psr.{is_taken}
use Rattle.machine.specs.Keys.{after_keys}
use Rattle.machine.specs.Interrupts.{pending_interrupt}
use Rattle.machine.specs.Devices.{device_value, ddr_store, display_status}
use Rattle.machine.specs.Plan.{plan_by}
use Rattle.machine.specs.Step.{busy_after}
use Rattle.machine.specs.Rows.{KBSR, TSR, PSR, busy, applied, record_of, user_mode, supervisor_mode}

-- So many numbers from n on.
unfoldable pub up_from : ℕ → ℕ → List ℕ
up_from zero n = []
up_from (suc k) n = n ∷ up_from k (suc n)

-- ---- vectors, keys, bytes shown

-- The plan of TRAP with this vector, by either edition.
abbrev pub trap_plans : ℕ → List Plan
trap_plans v = map (λ e. plan_by e [] 0x3000 0x8002 (read_of (0xF000 + v))) (third ∷ second ∷ [])

-- What KBDR gives when this key has arrived.
abbrev pub key_loaded : ℕ → ℕ
key_loaded b = device_value 0xFE02 (after_keys (b ∷ []) (record_of user_mode.numbers))

-- What is shown of a word that ends in this byte.
abbrev pub byte_shown : ℕ → List ℕ
byte_shown b = (ddr_store (0xA500 + b) (record_of (applied (busy 0 ∷ []) supervisor_mode).numbers) []).shown

-- ---- registers

abbrev pub eight : List ℕ
eight = 0x1007 ∷ 0x2106 ∷ 0x3205 ∷ 0x4304 ∷ 0x9403 ∷ 0xA502 ∷ 0xB601 ∷ 0xC700 ∷ []

-- The plans of an instruction with each register, at x3000.
abbrev pub plans : (ℕ → Instruction) → List Plan
plans f = map (λ r. plan_by third eight 0x3000 0x8002 (f r)) (up_from 8 0)

-- ---- priorities

-- The interrupt taken at each priority, in User mode, with these status registers.
abbrev pub taken : ℕ → ℕ → List (Option Interrupt)
taken kbsr tsr =
    map
    (λ p. pending_interrupt (record_of (applied (PSR (0x8000 + p * 256) ∷ KBSR kbsr ∷ TSR tsr ∷ []) user_mode).numbers))
    (up_from 8 0)

-- The keyboard's interrupt, and the timer's.
abbrev pub key : Option Interrupt
key = Some (record { vector = 0x0180; priority = 4 })

abbrev pub tick : Option Interrupt
tick = Some (record { vector = 0x0181; priority = 6 })

pub record EachVectorAndByte : Type 0 where
  pub vectors : map trap_plans (up_from 256 0) ≡ map (λ v. Call v ∷ Call v ∷ []) (up_from 256 0)
  pub keys : map key_loaded (up_from 256 0) ≡ up_from 256 0
  pub bytes : map byte_shown (up_from 256 0) ≡ map (λ b. b ∷ []) (up_from 256 0)

pub record EachRegister : Type 0 where
  pub jmp : plans (λ b. Jmp b) ≡ map (λ a. Jump a) eight
  pub jsrr : plans (λ b. Jsrr b) ≡ map (λ a. Put 7 0x3001 a) eight
  pub jsrr_second : map (λ r. plan_by second eight 0x3000 0x8002 (Jsrr r)) (up_from 8 0)
      ≡ map (λ a. Put 7 0x3001 a) (0x1007 ∷ 0x2106 ∷ 0x3205 ∷ 0x4304 ∷ 0x9403 ∷ 0xA502 ∷ 0xB601 ∷ 0x3001 ∷ [])
  pub ldr : plans (λ r. Ldr r r (pos 1))
      ≡ Load 0 0x1008 ∷ Load 1 0x2107 ∷ Load 2 0x3206 ∷ Load 3 0x4305 ∷ Load 4 0x9404 ∷ Load 5 0xA503 ∷ Load 6 0xB602
      ∷ Load 7 0xC701 ∷ []
  pub str : plans (λ r. Str r r (negsuc 0))
      ≡ Store 0x1007 0x1006 ∷ Store 0x2106 0x2105 ∷ Store 0x3205 0x3204 ∷ Store 0x4304 0x4303 ∷ Store 0x9403 0x9402
      ∷ Store 0xA502 0xA501 ∷ Store 0xB601 0xB600 ∷ Store 0xC700 0xC6FF ∷ []
  pub add : plans (λ r. AddRegister r r r)
      ≡ Move 0 0x200E 0x3001 ∷ Move 1 0x420C 0x3001 ∷ Move 2 0x640A 0x3001 ∷ Move 3 0x8608 0x3001
      ∷ Move 4 0x2806 0x3001 ∷ Move 5 0x4A04 0x3001 ∷ Move 6 0x6C02 0x3001 ∷ Move 7 0x8E00 0x3001 ∷ []
  pub add_immediate : plans (λ r. AddImmediate r r (negsuc 7))
      ≡ Move 0 0x0FFF 0x3001 ∷ Move 1 0x20FE 0x3001 ∷ Move 2 0x31FD 0x3001 ∷ Move 3 0x42FC 0x3001
      ∷ Move 4 0x93FB 0x3001 ∷ Move 5 0xA4FA 0x3001 ∷ Move 6 0xB5F9 0x3001 ∷ Move 7 0xC6F8 0x3001 ∷ []
  pub and : plans (λ r. AndRegister r r r)
      ≡ Move 0 0x1007 0x3001 ∷ Move 1 0x2106 0x3001 ∷ Move 2 0x3205 0x3001 ∷ Move 3 0x4304 0x3001
      ∷ Move 4 0x9403 0x3001 ∷ Move 5 0xA502 0x3001 ∷ Move 6 0xB601 0x3001 ∷ Move 7 0xC700 0x3001 ∷ []
  pub and_immediate : plans (λ r. AndImmediate r r (pos 5))
      ≡ Move 0 5 0x3001 ∷ Move 1 4 0x3001 ∷ Move 2 5 0x3001 ∷ Move 3 4 0x3001
      ∷ Move 4 1 0x3001 ∷ Move 5 0 0x3001 ∷ Move 6 1 0x3001 ∷ Move 7 0 0x3001 ∷ []
  pub not : plans (λ r. Not r r)
      ≡ Move 0 0xEFF8 0x3001 ∷ Move 1 0xDEF9 0x3001 ∷ Move 2 0xCDFA 0x3001 ∷ Move 3 0xBCFB 0x3001
      ∷ Move 4 0x6BFC 0x3001 ∷ Move 5 0x5AFD 0x3001 ∷ Move 6 0x49FE 0x3001 ∷ Move 7 0x38FF 0x3001 ∷ []
  pub ld : plans (λ r. Ld r (pos 2)) ≡ map (λ r. Load r 0x3003) (up_from 8 0)
  pub ldi : plans (λ r. Ldi r (pos 2)) ≡ map (λ r. LoadBy r 0x3003) (up_from 8 0)
  pub lea : plans (λ r. Lea r (pos 2)) ≡ map (λ r. Put r 0x3003 0x3001) (up_from 8 0)
  pub st : plans (λ r. St r (pos 2)) ≡ map (λ v. Store v 0x3003) eight
  pub sti : plans (λ r. Sti r (pos 2)) ≡ map (λ v. StoreBy v 0x3003) eight
  pub put : map (λ r. with_register (0 ∷ 0 ∷ 0 ∷ 0 ∷ 0 ∷ 0 ∷ 0 ∷ 0 ∷ []) r 9) (up_from 8 0)
      ≡ (9 ∷ 0 ∷ 0 ∷ 0 ∷ 0 ∷ 0 ∷ 0 ∷ 0 ∷ [])
      ∷ (0 ∷ 9 ∷ 0 ∷ 0 ∷ 0 ∷ 0 ∷ 0 ∷ 0 ∷ [])
      ∷ (0 ∷ 0 ∷ 9 ∷ 0 ∷ 0 ∷ 0 ∷ 0 ∷ 0 ∷ [])
      ∷ (0 ∷ 0 ∷ 0 ∷ 9 ∷ 0 ∷ 0 ∷ 0 ∷ 0 ∷ [])
      ∷ (0 ∷ 0 ∷ 0 ∷ 0 ∷ 9 ∷ 0 ∷ 0 ∷ 0 ∷ [])
      ∷ (0 ∷ 0 ∷ 0 ∷ 0 ∷ 0 ∷ 9 ∷ 0 ∷ 0 ∷ [])
      ∷ (0 ∷ 0 ∷ 0 ∷ 0 ∷ 0 ∷ 0 ∷ 9 ∷ 0 ∷ [])
      ∷ (0 ∷ 0 ∷ 0 ∷ 0 ∷ 0 ∷ 0 ∷ 0 ∷ 9 ∷ [])
      ∷ []

pub record EachCodeAndPriority : Type 0 where
  -- "BR is taken if a tested code is set": each mask with each pattern of codes
  pub branches : map (λ mask. map (is_taken mask) (up_from 8 0x8700)) (up_from 8 0)
      ≡ (false ∷ false ∷ false ∷ false ∷ false ∷ false ∷ false ∷ false ∷ [])
      ∷ (false ∷ true ∷ false ∷ true ∷ false ∷ true ∷ false ∷ true ∷ [])
      ∷ (false ∷ false ∷ true ∷ true ∷ false ∷ false ∷ true ∷ true ∷ [])
      ∷ (false ∷ true ∷ true ∷ true ∷ false ∷ true ∷ true ∷ true ∷ [])
      ∷ (false ∷ false ∷ false ∷ false ∷ true ∷ true ∷ true ∷ true ∷ [])
      ∷ (false ∷ true ∷ false ∷ true ∷ true ∷ true ∷ true ∷ true ∷ [])
      ∷ (false ∷ false ∷ true ∷ true ∷ true ∷ true ∷ true ∷ true ∷ [])
      ∷ (false ∷ true ∷ true ∷ true ∷ true ∷ true ∷ true ∷ true ∷ [])
      ∷ []
  -- "the priority is below 4", and below 6; "if both devices may interrupt, the timer goes first"
  pub keyboard : taken 0xC000 0x0000
      ≡ key ∷ key ∷ key ∷ key ∷ None ∷ None ∷ None ∷ None ∷ []
  pub timer : taken 0x0000 0xC000
      ≡ tick ∷ tick ∷ tick ∷ tick ∷ tick ∷ tick ∷ None ∷ None ∷ []
  pub both : taken 0xC000 0xC000
      ≡ tick ∷ tick ∷ tick ∷ tick ∷ tick ∷ tick ∷ None ∷ None ∷ []
  pub neither : taken 0x8000 0x4000
      ≡ None ∷ None ∷ None ∷ None ∷ None ∷ None ∷ None ∷ None ∷ []
  -- the display's count, from 0 to 8: what it becomes, and what DSR gives
  pub busy_counts : map (busy_after []) (up_from 9 0) ≡ 0 ∷ 0 ∷ 1 ∷ 2 ∷ 3 ∷ 4 ∷ 5 ∷ 6 ∷ 7 ∷ []
  pub display : map (λ k. display_status (record_of (applied (busy k ∷ []) user_mode).numbers)) (up_from 9 0)
      ≡ 0x8000 ∷ 0 ∷ 0 ∷ 0 ∷ 0 ∷ 0 ∷ 0 ∷ 0 ∷ 0 ∷ []

pub record EveryHold : Type 0 where
  pub vectors_and_bytes : EachVectorAndByte
  pub registers : EachRegister
  pub codes_and_priorities : EachCodeAndPriority
