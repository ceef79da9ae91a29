-- `refusals::admission` meets its contract: each test fails or holds as the definition's does, in the same
-- order.
use Prim.Native.Nat.{◌+◌, ◌^◌}
use native.Mathlib.Omega.{arith}
use borrow.Author.Tests.{eq-eqb, ne_eqb, lt-ltb, le-ltb}
use Rattle.run.specs.Refusals.{wrong_size, too_many_steps, unequal_lists, admission_of}
use borrow.Author.Rules.{rules}
use Rattle.refusals.proofs.admission.Goals as goal

pub returns-then-memory-ne65536 : goal.returns-then-memory-ne65536
unfolding admission_of wrong_size too_many_steps unequal_lists
returns-then-memory-ne65536 c =
    λ output.
    let a = c.args in
    rw (ne_eqb _ _ c.if-memory-ne65536.true)

pub returns-then-undefined_record : goal.returns-then-undefined_record
unfolding admission_of wrong_size too_many_steps unequal_lists
returns-then-undefined_record c =
    λ output.
    let a = c.args in
    rw (eq-eqb _ _ c.if-memory-ne65536.false, ← c.undefined_record.ensures, c.if-undefined_record.true)

pub returns-then-n-gt1048576 : goal.returns-then-n-gt1048576
unfolding admission_of wrong_size too_many_steps unequal_lists
returns-then-n-gt1048576 c =
    λ output.
    let a = c.args in
    rw (
      eq-eqb _ _ c.if-memory-ne65536.false,
      ← c.undefined_record.ensures,
      c.if-undefined_record.false,
      lt-ltb 1048576 a.n c.if-n-gt1048576.true,
    )

pub returns-then-n-m : goal.returns-then-n-m
unfolding admission_of wrong_size too_many_steps unequal_lists
returns-then-n-m c =
    λ output.
    let a = c.args in
    rw (
      eq-eqb _ _ c.if-memory-ne65536.false,
      ← c.undefined_record.ensures,
      c.if-undefined_record.false,
      le-ltb 1048576
          a.n c.if-n-gt1048576.false,
      lt-ltb (2 ^ 48) (a.m.clock + a.n)
          (omega (arith, c.if-n-gt1048576.false, c.if-n-m.true)),
    )

pub returns-then-times-bytes : goal.returns-then-times-bytes
unfolding admission_of wrong_size too_many_steps unequal_lists
returns-then-times-bytes c =
    λ output.
    let a = c.args in
    rw (
      eq-eqb _ _ c.if-memory-ne65536.false,
      ← c.undefined_record.ensures,
      c.if-undefined_record.false,
      le-ltb 1048576 a.n c.if-n-gt1048576.false,
      le-ltb
          (2 ^ 48) (a.m.clock + a.n) (omega (arith, c.if-n-gt1048576.false, c.if-n-m.false)),
      ne_eqb _
          _ c.if-times-bytes.true,
    )

pub returns : goal.returns
unfolding admission_of wrong_size too_many_steps unequal_lists
returns c =
    λ output.
    let a = c.args in
    rw (eq-eqb _ _ c.if-memory-ne65536.false, ← c.undefined_record.ensures, c.if-undefined_record.false)
    (rw (le-ltb 1048576 a.n c.if-n-gt1048576.false)
    (rw (le-ltb (2 ^ 48) (a.m.clock + a.n) (omega (arith, c.if-n-gt1048576.false, c.if-n-m.false)))
    (rw (eq-eqb _ _ c.if-times-bytes.false) c.times_admission.ensures)))
