-- `installer::table::table_for` meets its contract: the vector rule is computed at each of the 512 words.
use Rattle.std.proofs.Common.{refl}
use Rattle.monitor.specs.Vectors.{vector_word, vectors_from, vector_table}
use Rattle.installer.proofs.table.table_for.Goals as goal

pub returns : goal.returns
unfolding vector_table vectors_from vector_word
returns c =
    rw (
      c.fill-2.ensures.after (λ y e. e),
      c.fill.ensures.after (λ y e. e),
      c.copy_from_slice.ensures.after,
    )
    refl
