-- `claims::states::State::put_in` meets its contract.
use Rattle.std.proofs.Common.{◌≡◌, refl, arith, ap, ◌%◌}
use borrow.Author.Tests.{eq-eqb, ne_eqb}
use Rattle.sitting.specs.Values.{taking, besides, all_besides}
use Rattle.sitting.specs.Test.{State, put}
use Rattle.claims.proofs.StateLaws.{known_set}
use Rattle.claims.proofs.states.State.put_in.Goals as goal

pub returns-then-r-eq0 : goal.returns-then-r-eq0
unfolding put taking besides all_besides
returns-then-r-eq0 c =
    let a = c.args in
    rw (
      known_set c.forget.new.self.regs 0 c.from.result,
      c.from.ensures,
      c.forgotten.ensures,
      ap (λ (s : State). s.regs) c.forget.ensures,
      ap (λ (s : State). s.codes) c.forget.ensures,
      ap (λ (s : State). s.words) c.forget.ensures,
      eq-eqb (a.r % 8) 0 (omega arith),
    ) refl

pub returns-else-r-eq0 : goal.returns-else-r-eq0
unfolding put taking besides all_besides
returns-else-r-eq0 c =
    let a = c.args in
    let e : c.from-r.result ≡ a.r % 8 = omega arith in
    rw (
      known_set a.self.now.regs c.from-r.result c.from-else-r-eq0.result,
      c.from-else-r-eq0.ensures,
      e,
      ne_eqb (a.r % 8) 0 (λ z. omega arith),
    ) refl
