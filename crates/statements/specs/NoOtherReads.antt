-- What a step reads, from above: `StepReads` (crates/footprint) would stay true of a step that claimed to read more.
-- M28.2 names the reads: a step "fetches, loads, pops or takes a vector or pointer".
use Rattle.std.specs.Prelude.{ℕ, ◌≡◌, true, List, [], ◌∷◌, ◌++◌, get_or}
use Rattle.word.specs.Reading.{read_of}
use Rattle.machine.specs.declared.Machine.{Machine}
use Rattle.machine.specs.declared.Plan.{Plan}
use Rattle.machine.specs.declared.Plan.TheVariants.{Move, Put, Jump, Load, LoadBy, Store, StoreBy}
use Rattle.machine.specs.declared.Plan.TheVariants.{Call, Illegal, Return}
use Rattle.machine.specs.Edition.{Edition}
use Rattle.machine.specs.Words.{next}
use Rattle.machine.specs.Outcome.{vector_of, Cause, instruction, entered, Outcome}
use Rattle.machine.specs.Devices.{loaded_value_by}
use Rattle.machine.specs.Plan.{plan_by}
use Rattle.machine.specs.Step.{after_start, step_by}
use Rattle.footprint.specs.Footprint.{Each}
use Rattle.footprint.specs.Altered.{is_among}

-- What an instruction may read, by its plan: a datum, a pointer and what it points to, the word at TRAP's vector, or
-- what RTI pops. A store reads at most its pointer.
abbrev pub reads_of_plan : Edition → Plan → Machine → List ℕ → List ℕ
reads_of_plan e (Move r v pc) m mem = []
reads_of_plan e (Put r v pc) m mem = []
reads_of_plan e (Jump pc) m mem = []
reads_of_plan e (Load r a) m mem = a ∷ []
reads_of_plan e (LoadBy r a) m mem = a ∷ loaded_value_by e a m mem ∷ []
reads_of_plan e (Store v a) m mem = []
reads_of_plan e (StoreBy v a) m mem = a ∷ []
reads_of_plan e (Call vector) m mem = vector ∷ []
reads_of_plan e Illegal m mem = []
reads_of_plan e Return m mem = get_or m.regs 6 0 ∷ next (get_or m.regs 6 0) ∷ []

-- The vector word of an entry.
abbrev pub vectors_of : Cause → List ℕ
vectors_of instruction = []
vectors_of (entered reason psr pc) = vector_of reason ∷ []

-- All that a step may read: the word at PC, what its instruction names, and the vector of its entry.
abbrev pub may_read : Edition → Machine → List ℕ → Cause → List ℕ
may_read e m mem c =
    m.pc ∷ reads_of_plan e (plan_by e m.regs m.pc m.psr (read_of (get_or mem m.pc 0))) m mem ++ vectors_of c

-- Each word that a step reads is one of these, by either edition.
abbrev pub StepReadsNoOther : Type 0
StepReadsNoOther = (e : Edition) (keys : List ℕ) (m : Machine) (mem : List ℕ)
    → Each (λ a. is_among a (may_read e (after_start keys m) mem (step_by e keys m mem).cause) ≡ true)
    (step_by e keys m mem).reads
