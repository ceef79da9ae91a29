-- What a log tells of a step (M26): "what it did and by which rule", and the word that it fetched.
use Rattle.std.specs.Prelude.{ℕ, ◌≡◌, Bool, true, false, cond, ◌&&◌, List, [], ◌∷◌, eqb, leb, ltb, get_or}
use Rattle.machine.specs.declared.Machine.{Machine}
use Rattle.machine.specs.declared.Rule.{Rule}
use Rattle.machine.specs.declared.Rule.TheVariants.{Instruction, Trap, Privilege, Illegal, Access, Keyboard}
use Rattle.machine.specs.declared.Rule.TheVariants.{Timer}
use Rattle.machine.specs.Edition.{Edition, third}
use Rattle.machine.specs.Outcome.{Reason, trap, privilege, illegal, access, interrupt, Cause, instruction}
use Rattle.machine.specs.Outcome.{entered}
use Rattle.machine.specs.Interrupts.{timer_vector}
use Rattle.machine.specs.Protection.{denied_by, denied}
use Rattle.machine.specs.Step.{step_of}
use Rattle.machine.specs.Causes.{meets_trap_or_exception, takes_interrupt}

-- The device that interrupts, by its vector word.
abbrev pub interrupt_rule : ℕ → Rule
interrupt_rule vector = cond (eqb vector timer_vector) Timer Keyboard

abbrev pub entry_rule : Reason → Rule
entry_rule (trap vector) = Trap
entry_rule privilege = Privilege
entry_rule illegal = Illegal
entry_rule access = Access
entry_rule (interrupt vector) = interrupt_rule vector

-- The rule by which a step was made, from its cause.
abbrev pub rule_of : Cause → Rule
rule_of instruction = Instruction
rule_of (entered reason psr pc) = entry_rule reason

-- "The reason: 0 instruction, 1 trap, 2 privilege, 3 illegal, 4 access, 5 keyboard, 6 timer."
abbrev pub rule_number : Rule → ℕ
rule_number Instruction = 0
rule_number Trap = 1
rule_number Privilege = 2
rule_number Illegal = 3
rule_number Access = 4
rule_number Keyboard = 5
rule_number Timer = 6

abbrev pub is_interrupt : Rule → Bool
is_interrupt Instruction = false
is_interrupt Trap = false
is_interrupt Privilege = false
is_interrupt Illegal = false
is_interrupt Access = false
is_interrupt Keyboard = true
is_interrupt Timer = true

-- "The word fetched (0 if none, as at an interrupt or where the fetch itself raises the access exception)", from the
-- step's rule and from record and memory before the step.
unfoldable pub fetched_word_by : Edition → Rule → Machine → List ℕ → ℕ
fetched_word_by e rule m mem = cond (is_interrupt rule) 0 (cond (denied_by e m.psr m.pc) 0 (get_or mem m.pc 0))

abbrev pub fetched_word : Rule → Machine → List ℕ → ℕ
fetched_word = fetched_word_by third

-- ---- what the two words mean, in the terms of `Outcome`

-- The reason tells the two kinds of entry apart, as the secrecy rule does: 1 to 4 a trap or exception, from 5 on an
-- interrupt.
pub record ReasonTells (c : Cause) : Type 0 where
  pub trap_or_exception : meets_trap_or_exception c
      ≡ (leb 1 (rule_number (rule_of c)) && ltb (rule_number (rule_of c)) 5)
  pub an_interrupt : takes_interrupt c ≡ leb 5 (rule_number (rule_of c))

-- The word logged is the first that the step takes from memory. A step logged with 0 for none takes its vector word
-- alone.
pub record WordIsFetched (keys : List ℕ) (m : Machine) (mem : List ℕ) : Type 0 where
  pub fetched : takes_interrupt (step_of keys m mem).cause ≡ false → denied m.psr m.pc ≡ false
      → (rest : List ℕ) × ((step_of keys m mem).reads ≡ m.pc ∷ rest)
  pub none_where_denied : takes_interrupt (step_of keys m mem).cause ≡ false → denied m.psr m.pc ≡ true
      → (step_of keys m mem).reads ≡ 0x0102 ∷ []
  pub none_at_interrupt : takes_interrupt (step_of keys m mem).cause ≡ true
      → (vector : ℕ) × ((step_of keys m mem).reads ≡ vector ∷ [])

pub record LogTells : Type 0 where
  pub by_reason : (c : Cause) → ReasonTells c
  pub by_word : (keys : List ℕ) (m : Machine) (mem : List ℕ) → WordIsFetched keys m mem
