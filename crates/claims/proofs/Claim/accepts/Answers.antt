-- `claims::Claim::accepts` meets its contract.
use Rattle.std.proofs.Common.{◌≡◌, ◌-◌, refl, ◌∙◌, arith}
use Rattle.claims.specs.Decoded.{known_state, claim_in}
use Rattle.claims.proofs.StateLaws.{accepted_of, not_accepted_below, not_accepted_past}
use Rattle.claims.proofs.Claim.accepts.Goals as goal

pub returns-then-pc-lt512 : goal.returns-then-pc-lt512
returns-then-pc-lt512 c =
    let a = c.args in not_accepted_below (known_state a.s.now) (claim_in a.self.now) a.pc (omega arith)

pub returns-then-j-self : goal.returns-then-j-self
returns-then-j-self c =
    let a = c.args in
    not_accepted_past (known_state a.s.now) (claim_in a.self.now) a.self.now.table.now a.self.now.ends.now a.pc refl
    (omega arith)

pub returns : goal.returns
returns c =
    let a = c.args in
    let j : c.from-j.result ≡ a.pc - 0x0200 = omega arith in
    c.row_covers.ensures
    ∙ accepted_of (known_state a.s.now) (claim_in a.self.now) a.self.now.table.now a.self.now.ends.now a.pc _ _ refl
    (omega arith) (omega arith) (rw j at c.end_in.ensures) (rw j at c.start_of.ensures)
