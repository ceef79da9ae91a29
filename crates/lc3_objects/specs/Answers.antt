-- What a call that starts a file answers and leaves, as one value of the crate `start`: a host's record has the same
-- numbers in other places.
use Rattle.std.specs.Prelude.{ℕ, List}
use Rattle.start.specs.Start.{Starting}
use Rattle.lc3_objects.specs.declared.Lc3Started.{Lc3Started}

abbrev pub host_starting : Lc3Started → List ℕ → Starting
host_starting r memory = record { machine = r.machine; words = r.words; refusal = r.refusal; memory = memory }
