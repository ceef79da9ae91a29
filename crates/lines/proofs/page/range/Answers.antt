-- `lines::page::range` meets its contract: each test is the definition's, in the same order.
use Rattle.std.proofs.Common.{◌≡◌, ◌+◌, ◌-◌, arith}
use borrow.Author.Tests.{eq-eqb, ne_eqb, lt-ltb, le-ltb}
use Rattle.lent.specs.Lent.{wrong_size}
use Rattle.lines.proofs.page.range.Goals as goal

pub returns-then-memory-ne65536 : goal.returns-then-memory-ne65536
unfolding wrong_size
returns-then-memory-ne65536 c = rw (ne_eqb _ _ c.if-memory-ne65536.true)

pub returns-then-start-count : goal.returns-then-start-count
unfolding wrong_size
returns-then-start-count c =
    let a = c.args in
    rw (eq-eqb _ _ c.if-memory-ne65536.false, lt-ltb 65536 (a.first + a.count) (omega arith))

pub returns : goal.returns
unfolding wrong_size
returns c =
    let a = c.args in
    let same : a.first + a.count - a.first ≡ a.count = omega arith in
    rw (eq-eqb _ _ c.if-memory-ne65536.false, le-ltb 65536 (a.first + a.count) (omega arith), same)
