-- `certify::rows::wrong_in_row` meets its contract.
use Rattle.std.proofs.Common.{◌≡◌, ◌-◌, ◌*◌, drop}
use Rattle.claims.specs.Encoding.{states_of}
use Rattle.claims.specs.Decoded.{claim_in}
use Rattle.findings.specs.Finding.{wrong_in_row}
use Rattle.certify.proofs.rows.wrong_in_row.Given as goal

-- Nothing is wrong up to state k.
abbrev pub invariant-loop-k : goal.invariant-loop-k
invariant-loop-k l =
    wrong_in_row (claim_in l.c) l.pc l.i l.start (states_of (l.end - l.start) (drop (l.start * 17) l.c.table.now))
    ≡ wrong_in_row (claim_in l.c) l.pc l.i l.k (states_of (l.end - l.k) (drop (l.k * 17) l.c.table.now))
