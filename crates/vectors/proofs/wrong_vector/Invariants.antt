-- `vectors::wrong_vector` meets its contract.
use Rattle.std.proofs.Common.{ℕ, ◌≡◌, List, length}
use Rattle.claims.specs.Decoded.{claim_watching}
use Rattle.findings.specs.Finding.{nothing_wrong, wrong_vector}
use Rattle.vectors.proofs.wrong_vector.Given as goal

abbrev pub invariant-loop-a : goal.invariant-loop-a
invariant-loop-a l = (lowest : ℕ) (watched : List ℕ) → length watched ≡ length l.c.watched.now
    → nothing_wrong ≡ wrong_vector (claim_watching l.c lowest watched) l.a
