-- `certify::rows::wrong_in_rows` meets its contract.
use Rattle.std.proofs.Common.{◌≡◌, ◌+◌, drop}
use Rattle.claims.specs.Encoding.{start_of}
use Rattle.claims.specs.Decoded.{claim_in}
use Rattle.findings.specs.Finding.{wrong_in_rows}
use Rattle.certify.proofs.rows.wrong_in_rows.Given as goal

-- Nothing is wrong before row j.
abbrev pub invariant-loop-j : goal.invariant-loop-j
invariant-loop-j l =
    wrong_in_rows (claim_in l.c) l.c.table.now 0x0200 0 l.c.ends.now
    ≡ wrong_in_rows (claim_in l.c) l.c.table.now (0x0200 + l.j) (start_of 0 l.c.ends.now l.j) (drop l.j l.c.ends.now)
