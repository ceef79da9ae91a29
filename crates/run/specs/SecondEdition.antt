-- The run by the second edition's rules beside the newer run: one that, "counting also the step it stopped before, has
-- no LEA, TRAP or JSRR R7, touches no privileged address in User mode, fetches included, and no xFFFC by a data or
-- pointer access must end as the newer run does".
use Rattle.std.specs.Prelude.{ℕ, ◌<◌, ◌≡◌, List, []}
use Rattle.machine.specs.Exclusions.{Exclusion, exclusions_of}
use Rattle.run.specs.declared.Ending.TheVariants.{OutputFull}
use Rattle.run.specs.Run.{Start, End, arriving}
use Rattle.run.specs.Call.{call_of, second_call_of}

-- What step number k of the second edition's run meets of the five, counted from 0: that step is made from the record
-- that the same call with k in place of n answers, and from the memory that it leaves.
unfoldable pub exclusions_at : Start → ℕ → List Exclusion
exclusions_at s k = let e : End = second_call_of s k in exclusions_of (arriving s e) e.machine e.memory

pub record MeetsNoExclusion (s : Start) (n : ℕ) : Type 0 where
  -- no step that the call of n steps makes meets one,
  pub made : (k : ℕ) → k < (second_call_of s n).steps → exclusions_at s k ≡ []
  -- "counting also the step it stopped before": the one for which the output is full. A call that is done, halted or
  -- turned down looks at no further step, and nothing is asked of what would come next.
  pub stopped_before : (second_call_of s n).ending ≡ OutputFull → exclusions_at s (second_call_of s n).steps ≡ []

-- Record, memory, output, counts and stop are those of the newer run, refused calls included.
abbrev pub EndsAsNewerRun : Type 0
EndsAsNewerRun = (s : Start) (n : ℕ) → MeetsNoExclusion s n → second_call_of s n ≡ call_of s n
