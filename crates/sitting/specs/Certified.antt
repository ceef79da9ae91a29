-- Any monitor: where the test of a claim answers true, a whole sitting beside that monitor tells nothing of the secret
-- words and leaves them alone. Our own monitor is one that passes.
use Rattle.std.specs.Prelude.{ℕ, ◌≡◌, Bool, true, cond, List, leb, ltb, get_or}
use Rattle.machine.specs.declared.Devices.{Devices}
use Rattle.sitting.specs.Sitting.{stack_from, SecrecyBeside}
use Rattle.sitting.specs.Test.{Cell, fixed, cell_at, is_hidden, Claim, passes}

-- The secret words beside it: every word below the stack but the monitor's, and the lent words from xFE00 on.
unfoldable pub is_secret_in : List Cell → ℕ → ℕ → Bool
is_secret_in cells stack a = cond (ltb a stack) (is_hidden (cell_at cells a)) (leb 0xFE00 a)

abbrev pub is_secret_beside : Claim → Devices → ℕ → Bool
is_secret_beside c d = is_secret_in c.cells (stack_from c.lowest d)

-- The monitor is in memory. Of its own words nothing is asked.
abbrev pub Loaded : List Cell → List ℕ → Type 0
Loaded cells memory = (a w : ℕ) → cell_at cells a ≡ fixed w → get_or memory a 0 ≡ w

abbrev pub CertifiedTellsNothing : Type 0
CertifiedTellsNothing = (c : Claim) → passes c ≡ true → SecrecyBeside (Loaded c.cells) (is_secret_beside c)
