-- `certify::rows::wrong_at` meets its contract.
use Rattle.std.proofs.Common.{arith}
use Rattle.claims.specs.Decoded.{claim_in}
use Rattle.findings.specs.Finding.{wrong_at}
use Rattle.findings.proofs.FindingLaws.{row_fetched, row_empty}
use Rattle.certify.proofs.rows.wrong_at.Goals as goal

pub returns-in-Fixed : goal.returns-in-Fixed
unfolding wrong_at
returns-in-Fixed c =
    rw (
      ← c.in-Fixed.ensures.cell,
      ← c.read.ensures,
      ← c.start_of-start.ensures,
      ← c.end_in-end.ensures,
    ) c.wrong_in_row.ensures

pub returns-in_default : goal.returns-in_default
returns-in_default c =
    let a = c.args in
    rw (← c.cell_of_row.ensures.cell, ← c.start_of-start.ensures, ← c.end_in-end.ensures)
    (row_fetched (claim_in a.c.now) _ _ _ _ c.cell_of_row.result c.in_default.not-Fixed (omega arith))

pub returns-in_default-2 : goal.returns-in_default-2
returns-in_default-2 c =
    let a = c.args in
    rw (← c.cell_of_row.ensures.cell, ← c.start_of-start.ensures, ← c.end_in-end.ensures)
    (row_empty (claim_in a.c.now) _ _ _ _ c.cell_of_row.result c.in_default-2.not-Fixed (omega arith))
