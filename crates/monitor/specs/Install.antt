-- The calls: the generator's table written to a lent buffer, and the monitor put into lent memory.
use Rattle.std.specs.Prelude.{ℕ, cond, List}
use Rattle.lent.specs.Lent.{wrong_size, Written, written_by, written_whole}
use Rattle.monitor.specs.declared.Routines.{Routines}
use Rattle.monitor.specs.Vectors.{vector_table}
use Rattle.monitor.specs.Routines.{monitor_words}

-- What a call answers, 0 or the number of the refusal, and the words that it leaves.
pub record Filling : Type 0 where
  pub refusal : ℕ
  pub words : List ℕ

abbrev pub filling : ℕ → List ℕ → Filling
filling refusal words = record { refusal = refusal; words = words }

abbrev pub filled : Written → Filling
filled w = filling w.refusal w.output

-- 16: the table does not fit the lent buffer, "which is then untouched".
unfoldable pub vectors_of : Routines → List ℕ → Filling
vectors_of r lent = filled (written_whole (vector_table r) lent)

-- 11: memory of another size is untouched too.
unfoldable pub install_of : List ℕ → Filling
install_of memory = filled (written_by (cond (wrong_size memory) 11 0) monitor_words memory)
