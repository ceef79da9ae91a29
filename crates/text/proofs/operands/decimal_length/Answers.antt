-- `text::operands::decimal_length` meets its contract: each test that fails is one digit more.
use Prim.Native.Nat.{ℕ, ◌/◌, ◌≤◌, ◌<◌}
use native.Mathlib.Omega.{arith}
use mathlib.Core.Path.{◌≡◌, sym}
use lib.ListN.{length}
use Rattle.text.specs.Operands.{decimal}
use Rattle.text.proofs.Decimal.{one_digit, one_more}
use Rattle.text.proofs.operands.decimal_length.Goals as goal

two : (n : ℕ) → 10 ≤ n → n < 100 → length (decimal n) ≡ 2
two n p q = one_more n 1 p (one_digit (n / 10) (omega arith))

three : (n : ℕ) → 100 ≤ n → n < 1000 → length (decimal n) ≡ 3
three n p q = one_more n 2 (omega arith) (two (n / 10) (omega arith) (omega arith))

pub returns-then-n-lt10 : goal.returns-then-n-lt10
returns-then-n-lt10 c = sym (one_digit c.args.n c.if-n-lt10.true)

pub returns-then-n-lt100 : goal.returns-then-n-lt100
returns-then-n-lt100 c =
    let n = c.args.n in
    sym (two n (omega arith) (omega arith))

pub returns-then-n-lt1000 : goal.returns-then-n-lt1000
returns-then-n-lt1000 c =
    let n = c.args.n in
    sym (three n (omega arith) (omega arith))

pub returns-then-n-lt10000 : goal.returns-then-n-lt10000
returns-then-n-lt10000 c =
    let n = c.args.n in
    sym (one_more n 3 (omega arith) (three (n / 10) (omega arith) (omega arith)))

pub returns : goal.returns
returns c =
    let n = c.args.n in
    let four = one_more (n / 10) 3 (omega arith) (three (n / 10 / 10) (omega arith) (omega arith)) in
    sym (one_more n 4 (omega arith) four)
