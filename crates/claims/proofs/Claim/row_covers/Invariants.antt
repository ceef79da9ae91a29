-- `claims::Claim::row_covers` meets its contract.
use Rattle.std.proofs.Common.{◌≡◌, ◌-◌, ◌*◌, drop}
use Rattle.sitting.specs.Test.{one_covers}
use Rattle.claims.specs.Encoding.{states_of}
use Rattle.claims.specs.Decoded.{known_state}
use Rattle.claims.proofs.Claim.row_covers.Given as goal

abbrev pub invariant-loop-k : goal.invariant-loop-k
invariant-loop-k l =
    one_covers (known_state l.s) (states_of (l.end - l.start) (drop (l.start * 17) l.self.table.now))
    ≡ one_covers (known_state l.s) (states_of (l.end - l.k) (drop (l.k * 17) l.self.table.now))
