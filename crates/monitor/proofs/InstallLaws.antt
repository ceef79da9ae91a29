-- The table copied to the start of a buffer, and the routines after it: so the monitor is written.
use Prim.Native.Nat.{ℕ, ◌≤◌, ◌<◌}
use mathlib.Core.Path.{◌≡◌, refl}
use mathlib.Core.List.{List, ◌++◌, append_assoc}
use borrow.Author.Tests.{eq-eqb, ne_eqb, lt-ltb, le-ltb}
use borrow.Rule.Slice.PartMut.{put_mid}
use lib.ListN.{length, drop, length-append}
use lib.Seq.{take_at, drop_at, take-append_seam, drop-drop}
use Rattle.lent.specs.Lent.{wrong_size, too_short}
use Rattle.monitor.specs.declared.Routines.{Routines}
use Rattle.monitor.specs.Vectors.{vector_table, ours}
use Rattle.monitor.specs.Routines.{routine_words, monitor_words}
use Rattle.monitor.specs.Install.{filling, vectors_of, install_of}
use Rattle.monitor.specs.Out.{InstalledIsIntact}
use Rattle.monitor.proofs.VectorLaws.{table_length}

-- ---- the generator

pub vectors_written : (r : Routines) (m : List ℕ) → 512 ≤ length m
    → filling 0 (vector_table r ++ drop 512 m) ≡ vectors_of r m
unfolding vectors_of too_short
vectors_written r m h =
    rw (le-ltb (length m) (length (vector_table r)) (rw (table_length r) h), table_length r)

pub vectors_refused : (r : Routines) (m : List ℕ) → length m < 512 → filling 16 m ≡ vectors_of r m
unfolding vectors_of too_short
vectors_refused r m h = rw (lt-ltb (length m) (length (vector_table r)) (rw (table_length r) h))

-- ---- the monitor

routines_length : length routine_words ≡ 165
unfolding routine_words
routines_length = refl

pub installed : (m : List ℕ) → length m ≡ 65536
    → filling 0 (put_mid 512 165 (vector_table ours ++ drop 512 m) routine_words) ≡ install_of m
unfolding install_of monitor_words wrong_size
installed m h =
    rw (
      eq-eqb (length m) 65536 h,
      take_at (vector_table ours) (drop 512 m) 512 (table_length ours),
      drop_at (vector_table ours) (drop 512 m) 512 (table_length ours),
      drop-drop 165 512 m,
      length-append (vector_table ours) routine_words,
      table_length ours,
      append_assoc,
      routines_length,
    )

pub install_refused : (m : List ℕ) → (length m ≡ 65536 → ⊥) → filling 11 m ≡ install_of m
unfolding install_of wrong_size
install_refused m h = rw (ne_eqb (length m) 65536 h)

pub installed_is_intact : InstalledIsIntact
unfolding install_of wrong_size
installed_is_intact memory h =
    rw (eq-eqb (length memory) 65536 h, take-append_seam monitor_words (drop (length monitor_words) memory))
