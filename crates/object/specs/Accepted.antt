-- What is handed to a call that is accepted.
use Rattle.std.specs.Prelude.{ℕ, ◌+◌, ◌-◌, ◌*◌, ◌/◌, ◌%◌, ◌≤◌, ◌≡◌, List, length}
use Rattle.object.specs.File.{origin_in}

pub record Readable (file memory : List ℕ) : Type 0 where
  pub size : length memory ≡ 65536
  pub even : length file % 2 ≡ 0
  pub least : 2 ≤ length file
  pub fits : origin_in file + (length file / 2 - 1) ≤ 65536

pub record Writable (memory : List ℕ) (origin count : ℕ) (output : List ℕ) : Type 0 where
  pub size : length memory ≡ 65536
  pub fits : origin + count ≤ 65536
  pub room : 2 + 2 * count ≤ length output
