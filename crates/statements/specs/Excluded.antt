-- The exclusions of M27.7, from above: each that a step meets is one that the rule names, and is met for no other
-- reason. A longer list would make `EndsAsNewerRun` say less, and be proved as gladly.
use Rattle.std.specs.Prelude.{None}
use Rattle.std.specs.Prelude.{ℕ, ◌%◌, ◌≡◌, true, List, [], ◌∷◌, ℤ, get_or}
use Rattle.word.specs.Reading.{read_of}
use Rattle.word.specs.declared.Instruction.{Instruction}
use Rattle.word.specs.declared.Instruction.TheVariants.{Jsrr, Lea, Trap}
use Rattle.machine.specs.declared.Machine.{Machine}
use Rattle.machine.specs.Edition.{second}
use Rattle.machine.specs.Interrupts.{pending_interrupt}
use Rattle.machine.specs.Protection.{denied}
use Rattle.machine.specs.Plan.{plan_by}
use Rattle.machine.specs.Step.{after_start}
use Rattle.machine.specs.Exclusions.{Exclusion, lea, trap, jsrr_r7, privileged_address, psr_address, accesses_of}
use Rattle.machine.specs.Exclusions.{exclusions_of}
use Rattle.footprint.specs.Altered.{is_among}

-- The instruction at PC, and the addresses of its pointer and data accesses.
abbrev pub instruction_at : Machine → List ℕ → Instruction
instruction_at m mem = read_of (get_or mem m.pc 0)

abbrev pub accesses_at : Machine → List ℕ → List ℕ
accesses_at m mem = accesses_of (plan_by second m.regs m.pc m.psr (instruction_at m mem)) m mem

-- What each exclusion says of the instruction that is obeyed.
abbrev pub Named : Machine → List ℕ → Exclusion → Type 0
Named m mem lea = (d : ℕ) × (n : ℤ) × (instruction_at m mem ≡ Lea d n)
Named m mem trap = (vector : ℕ) × (instruction_at m mem ≡ Trap vector)
Named m mem jsrr_r7 = (b : ℕ) × (instruction_at m mem ≡ Jsrr b) × (b % 8 ≡ 7)
-- "a privileged address in User mode, fetches included"
Named m mem privileged_address = (a : ℕ) × (is_among a (m.pc ∷ accesses_at m mem) ≡ true) × (denied m.psr a ≡ true)
-- "xFFFC by a data or pointer access"
Named m mem psr_address = is_among 0xFFFC (accesses_at m mem) ≡ true

unfoldable pub EachNamed : Machine → List ℕ → List Exclusion → Type 0
EachNamed m mem [] = Unit {0}
EachNamed m mem (x ∷ exclusions) = Named m mem x × EachNamed m mem exclusions

pub record OnlyNamed (keys : List ℕ) (m : Machine) (mem : List ℕ) : Type 0 where
  pub named : EachNamed (after_start keys m) mem (exclusions_of keys m mem)
  -- a step that takes an interrupt meets none
  pub none_at_interrupt : (pending_interrupt (after_start keys m) ≡ None → ⊥) → exclusions_of keys m mem ≡ []

abbrev pub ExclusionsAreNamed : Type 0
ExclusionsAreNamed = (keys : List ℕ) (m : Machine) (mem : List ℕ) → OnlyNamed keys m mem
