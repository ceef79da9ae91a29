-- Buffers that a caller lends: how one is written, and the two refusals that are about their sizes alone.
use Rattle.std.specs.Prelude.{ℕ, zero, suc, Bool, Result, Ok, Err, cond, not, List, ◌++◌, ltb, eqb, length, drop}
use Rattle.lent.specs.declared.Refusal.{Refusal}
use Rattle.lent.specs.declared.Refusal.TheVariants.{MemorySize, NoRoom, BrokenFile, PastMemory}
use Rattle.lent.specs.declared.Refusal.TheVariants.{RangePastMemory, OutsideUserWords}
use Rattle.lent.specs.declared.Lc3Counted.{Lc3Counted}

-- 11: "memory is not 65,536 words".
unfoldable pub wrong_size : List ℕ → Bool
wrong_size memory = not (eqb (length memory) 65536)

-- 16: "an output that is too short".
unfoldable pub too_short : List ℕ → List ℕ → Bool
too_short output words = ltb (length output) (length words)

-- "A lent output .. is written from its start, the rest stays as lent."
abbrev pub written_over : List ℕ → List ℕ → List ℕ
written_over words lent = words ++ drop (length words) lent

-- What a call answers that writes to a lent output, and the output that it leaves: the number of items written, with 0;
-- or 0 and the number of the refusal, with the output "untouched".
pub record Written : Type 0 where
  pub count : ℕ
  pub refusal : ℕ
  pub output : List ℕ

abbrev pub written : List ℕ → List ℕ → Written
written words output = record { count = length words; refusal = 0; output = written_over words output }

abbrev pub written_by : ℕ → List ℕ → List ℕ → Written
written_by zero words output = written words output
written_by (suc n) words output = record { count = 0; refusal = suc n; output = output }

-- Where only the output can be at fault.
abbrev pub written_whole : List ℕ → List ℕ → Written
written_whole words output = written_by (cond (too_short output words) 16 0) words output

-- The number that a host knows a refusal by.
abbrev pub refusal_number : Refusal → ℕ
refusal_number MemorySize = 11
refusal_number NoRoom = 16
refusal_number BrokenFile = 17
refusal_number PastMemory = 18
refusal_number RangePastMemory = 20
refusal_number OutsideUserWords = 21

-- The number in an answer: 0, or that of the refusal.
abbrev pub refusal_of : {A : Type 0} → Result A Refusal → ℕ
refusal_of (Ok a) = 0
refusal_of (Err r) = refusal_number r

-- What the functions answer and leave, as one value.
abbrev pub counted : Result ℕ Refusal → List ℕ → Written
counted (Ok n) output = record { count = n; refusal = 0; output = output }
counted (Err r) output = record { count = 0; refusal = refusal_number r; output = output }

abbrev pub host_counted : Lc3Counted → List ℕ → Written
host_counted r output = record { count = r.count; refusal = r.refusal; output = output }
