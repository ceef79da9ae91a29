-- `text::operands::put_digits` meets its contract: the last digit goes behind the digits before it.
use Rattle.std.proofs.Common.{◌%◌, ◌/◌, [], ◌∷◌, length, ap, length-append, arith}
use Rattle.text.specs.Operands.{digit, decimal}
use Rattle.text.proofs.Placing.{put_one, then}
use Rattle.text.proofs.Decimal.{last_digit, digits_before}
use Rattle.text.proofs.operands.+put_digits.Goals as goal

pub bounds-output-at : goal.bounds-output-at
bounds-output-at t c = omega (arith, c.requires, ap length (last_digit c.args.n c.if-n-lt10.true))

pub put_digits-last-requires : goal.put_digits-last-requires
put_digits-last-requires t c =
    let n = c.args.n in (
      omega (arith, c.if-n-lt10.false),
      omega (
        arith,
        ap length (digits_before n c.if-n-lt10.false),
        length-append (decimal (n / 10)) (digit (n % 10) ∷ []),
      ),
    )

pub bounds-output-last : goal.bounds-output-last
bounds-output-last t c =
    let n = c.args.n in
    omega (
      arith,
      c.put_digits-last.ensures.place,
      ap length (digits_before n c.if-n-lt10.false),
      length-append (decimal (n / 10)) (digit (n % 10) ∷ []),
    )

pub returns-then-n-lt10 : goal.returns-then-n-lt10
returns-then-n-lt10 t c =
    rw (last_digit c.args.n c.if-n-lt10.true)
    (put_one c.args.at _ _ (omega (arith, c.requires, ap length (last_digit c.args.n c.if-n-lt10.true))))

pub returns-else-n-lt10 : goal.returns-else-n-lt10
returns-else-n-lt10 t c =
    let n = c.args.n in
    let all = ap length (digits_before n c.if-n-lt10.false) in
    let last = length-append (decimal (n / 10)) (digit (n % 10) ∷ []) in
    rw (digits_before n c.if-n-lt10.false)
    (then c.put_digits-last.ensures (put_one _ _ _ (omega (arith, c.put_digits-last.ensures.place, all, last)))
    (omega (arith, c.requires)))
