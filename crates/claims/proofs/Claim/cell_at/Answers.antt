-- `claims::Claim::cell_at` meets its contract.
use Rattle.std.proofs.Common.{refl, arith, sym}
use borrow.Author.Tests.{ne_eqb}
use lib.ListN.{get_or}
use Rattle.claims.specs.Encoding.{cell_of}
use Rattle.claims.proofs.StateLaws.{cell_listed, cell_past_kinds, cell_past_memory}
use Rattle.claims.proofs.Claim.cell_at.Goals as goal

pub returns-then-at-self : goal.returns-then-at-self
returns-then-at-self c =
    let a = c.args in sym (cell_past_kinds a.self.now.kinds.now a.self.now.memory.now a.a (omega arith))

pub returns-then-at-self-2 : goal.returns-then-at-self-2
returns-then-at-self-2 c =
    let a = c.args in sym (cell_past_memory a.self.now.kinds.now a.self.now.memory.now a.a (omega arith))

pub returns-in-1 : goal.returns-in-1
unfolding cell_of
returns-in-1 c =
    let a = c.args in
    rw (cell_listed a.self.now.kinds.now a.self.now.memory.now a.a (omega arith) (omega arith), c.in-1.is) refl

pub returns-in-2 : goal.returns-in-2
unfolding cell_of
returns-in-2 c =
    let a = c.args in
    rw (cell_listed a.self.now.kinds.now a.self.now.memory.now a.a (omega arith) (omega arith), c.in-2.is) refl

pub returns-in_default : goal.returns-in_default
unfolding cell_of
returns-in_default c =
    let a = c.args in
    rw (
      cell_listed a.self.now.kinds.now a.self.now.memory.now a.a (omega arith) (omega arith),
      ne_eqb (get_or a.self.now.kinds.now a.a 0) 1 (λ e. omega arith),
      ne_eqb (get_or a.self.now.kinds.now a.a 0) 2 (λ e. omega arith),
    ) refl
