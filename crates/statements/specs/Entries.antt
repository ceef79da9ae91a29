-- What the cause of a step means. Where it is an entry, the values named are those pushed, the old PSR first, and PC is
-- the word at the vector after the pushes: "push old PSR, then PC; only then load PC from the vector word".
use Rattle.std.specs.Prelude.{ℕ, ◌≡◌, List, get_or}
use Rattle.machine.specs.declared.Machine.{Machine}
use Rattle.machine.specs.Edition.{Edition}
use Rattle.machine.specs.Outcome.{Reason, vector_of, Cause, instruction, entered, Outcome}
use Rattle.machine.specs.Entry.{stack_pointer_on_entry, pushed}
use Rattle.machine.specs.Step.{step_by}

-- An entry from a record with this PSR, with the supervisor stack at sp.
pub record EntryMade (sp old : ℕ) (mem : List ℕ) (o : Outcome) (reason : Reason) (psr pc : ℕ) : Type 0 where
  pub old_psr : psr ≡ old
  pub pushes : o.memory ≡ pushed mem sp psr pc
  pub by_vector : o.machine.pc ≡ get_or o.memory (vector_of reason) 0

unfoldable pub CauseMeans : ℕ → ℕ → List ℕ → Outcome → Cause → Type 0
CauseMeans sp old mem o instruction = Unit {0}
CauseMeans sp old mem o (entered reason psr pc) = EntryMade sp old mem o reason psr pc

-- It holds of every step, by either edition.
abbrev pub EntriesByCause : Type 0
EntriesByCause = (e : Edition) (keys : List ℕ) (m : Machine) (mem : List ℕ)
    → CauseMeans (stack_pointer_on_entry m) m.psr mem (step_by e keys m mem) (step_by e keys m mem).cause
