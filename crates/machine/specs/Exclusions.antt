-- What the editions treat differently, as a step meets it: a step with "no LEA, TRAP or JSRR R7" that touches "no
-- privileged address in User mode, fetches included, and no xFFFC by a data or pointer access" is the same by both.
use Rattle.machine.specs.declared.Interrupt.{Interrupt}
use Rattle.std.specs.Prelude.{Option, None, Some}
use Rattle.std.specs.Prelude.{ℕ, ◌%◌, ◌≡◌, cond, List, [], ◌∷◌, ◌++◌, eqb, get_or}
use Rattle.word.specs.Reading.{read_of}
use Rattle.word.specs.declared.Instruction.{Instruction}
use Rattle.word.specs.declared.Instruction.TheVariants.{Br, AddRegister, AddImmediate, Ld, St, Jsr, Jsrr, AndRegister}
use Rattle.word.specs.declared.Instruction.TheVariants.{AndImmediate, Ldr, Str, Rti, Not, Ldi, Sti, Jmp, Reserved, Lea}
use Rattle.word.specs.declared.Instruction.TheVariants.{Trap}
use Rattle.machine.specs.declared.Machine.{Machine}
use Rattle.machine.specs.Edition.{second}
use Rattle.machine.specs.declared.Plan.{Plan}
use Rattle.machine.specs.declared.Plan.TheVariants.{Move, Put, Jump, Load, LoadBy, Store, StoreBy, Call, Illegal}
use Rattle.machine.specs.declared.Plan.TheVariants.{Return}
use Rattle.machine.specs.Interrupts.{pending_interrupt}
use Rattle.machine.specs.Protection.{denied}
use Rattle.machine.specs.Devices.{PSR, loaded_value_by}
use Rattle.machine.specs.Plan.{plan_by}
use Rattle.machine.specs.Step.{after_start, step_by, step_of}

-- The five things that are excluded.
pub data Exclusion : Type 0 where
  lea : Exclusion
  trap : Exclusion
  jsrr_r7 : Exclusion
  privileged_address : Exclusion
  psr_address : Exclusion

-- "LEA, TRAP or JSRR R7."
unfoldable pub instruction_exclusions : Instruction → List Exclusion
instruction_exclusions (Br mask n) = []
instruction_exclusions (AddRegister d a b) = []
instruction_exclusions (AddImmediate d a n) = []
instruction_exclusions (Ld d n) = []
instruction_exclusions (St s n) = []
instruction_exclusions (Jsr n) = []
instruction_exclusions (Jsrr b) = cond (eqb (b % 8) 7) (jsrr_r7 ∷ []) []
instruction_exclusions (AndRegister d a b) = []
instruction_exclusions (AndImmediate d a n) = []
instruction_exclusions (Ldr d b n) = []
instruction_exclusions (Str s b n) = []
instruction_exclusions Rti = []
instruction_exclusions (Not d a) = []
instruction_exclusions (Ldi d n) = []
instruction_exclusions (Sti s n) = []
instruction_exclusions (Jmp b) = []
instruction_exclusions (Reserved low) = []
instruction_exclusions (Lea d n) = lea ∷ []
instruction_exclusions (Trap vector) = trap ∷ []

-- The addresses of the pointer access and of the data access, in their order, by the second edition.
unfoldable pub accesses_of : Plan → Machine → List ℕ → List ℕ
accesses_of (Move r v pc) m mem = []
accesses_of (Put r v pc) m mem = []
accesses_of (Jump pc) m mem = []
accesses_of (Load r a) m mem = a ∷ []
accesses_of (LoadBy r a) m mem = a ∷ loaded_value_by second a m mem ∷ []
accesses_of (Store v a) m mem = a ∷ []
accesses_of (StoreBy v a) m mem = a ∷ loaded_value_by second a m mem ∷ []
accesses_of (Call vector) m mem = []
accesses_of Illegal m mem = []
accesses_of Return m mem = []

-- "A privileged address in User mode": where the third edition would raise the access exception.
unfoldable pub address_exclusions : ℕ → ℕ → List Exclusion
address_exclusions psr a = cond (denied psr a) (privileged_address ∷ []) []

-- "xFFFC by a data or pointer access."
unfoldable pub access_exclusions : ℕ → List ℕ → List Exclusion
access_exclusions psr [] = []
access_exclusions psr (a ∷ addresses) =
    address_exclusions psr a ++ (cond (eqb a PSR) (psr_address ∷ []) [] ++ access_exclusions psr addresses)

-- The word at PC, fetched and obeyed.
unfoldable pub obeyed_exclusions : Machine → List ℕ → List Exclusion
obeyed_exclusions m mem =
    let i = read_of (get_or mem m.pc 0) in
    address_exclusions m.psr m.pc
    ++ (instruction_exclusions i
    ++ access_exclusions m.psr (accesses_of (plan_by second m.regs m.pc m.psr i) m mem))

-- An interrupt meets none: it fetches nothing, and pushes and takes its vector in Supervisor mode, as every entry does.
unfoldable pub taken_exclusions : Option Interrupt → Machine → List ℕ → List Exclusion
taken_exclusions None m mem = obeyed_exclusions m mem
taken_exclusions (Some q) m mem = []

-- What the step in which these keys arrive meets.
unfoldable pub exclusions_of : List ℕ → Machine → List ℕ → List Exclusion
exclusions_of keys m mem = taken_exclusions (pending_interrupt (after_start keys m)) (after_start keys m) mem

-- A step that meets none has the same outcome by both editions, in every part.
abbrev pub CommonStepsAgree : Type 0
CommonStepsAgree = (keys : List ℕ) (m : Machine) (mem : List ℕ) → exclusions_of keys m mem ≡ []
    → step_by second keys m mem ≡ step_of keys m mem
