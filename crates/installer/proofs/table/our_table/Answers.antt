-- `installer::table::our_table` meets its contract: the vector rule is computed at each of the 512 words.
use mathlib.Core.Path.{refl}
use Rattle.monitor.specs.Vectors.{vector_word, vectors_from, vector_table}
use Rattle.installer.proofs.table.our_table.Goals as goal

pub returns : goal.returns
unfolding vector_table vectors_from vector_word
returns c = refl
