-- A state of the table is taken as the specification takes it.
use borrow.Author.Rules.{rules}
use Rattle.std.proofs.Common.{◌≡◌, refl, arith, take, drop}
use Rattle.claims.specs.Encoding.{state_of}
use Rattle.claims.proofs.StateLaws.{values_mapped, last_words}
use Rattle.claims.proofs.states.StateFromRefArrayU3217.from.Goals as goal

pub returns : goal.returns
unfolding state_of
returns c =
    let n = c.args.numbers.now in
    let r : c.unwrap.result ≡ take 8 n = search rules in
    let w : c.unwrap-2.result ≡ take 8 (drop 9 n) = search rules in
    rw (values_mapped c.unwrap.result, values_mapped c.unwrap-2.result, r, w, last_words n (omega arith)) refl
