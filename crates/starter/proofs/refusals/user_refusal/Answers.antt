-- `starter::refusals::user_refusal` meets its contract: loading's tests are a callee's, and a file that they accept has
-- its origin.
use Rattle.std.proofs.Common.{arith}
use Rattle.object.proofs.Acceptance.{words_in_lem}
use Rattle.start.specs.Start.{user_refusal_after, user_refusal}
use Rattle.start.proofs.UserLaws.{two_bytes, user_refused_by_loading}
use Rattle.starter.proofs.refusals.user_refusal.Goals as goal

pub returns-in_err-load_refusal : goal.returns-in_err-load_refusal
returns-in_err-load_refusal c = grind (arith, user_refused_by_loading)

pub bounds-file-0 : goal.bounds-file-0
bounds-file-0 c = omega (arith, two_bytes _ _ c.in_ok-load_refusal.ensures)

pub bounds-file-1 : goal.bounds-file-1
bounds-file-1 c = omega (arith, two_bytes _ _ c.in_ok-load_refusal.ensures)

pub overflow_sub-file : goal.overflow_sub-file
overflow_sub-file c = omega (arith, two_bytes _ _ c.in_ok-load_refusal.ensures)

pub returns-then-is_outside : goal.returns-then-is_outside
unfolding user_refusal user_refusal_after
returns-then-is_outside c =
    rw (← c.in_ok-load_refusal.ensures, words_in_lem, ← c.from_be_bytes-origin.ensures)
    (rw (← c.is_outside.ensures, c.if-is_outside.true))

pub returns : goal.returns
unfolding user_refusal user_refusal_after
returns c =
    rw (← c.in_ok-load_refusal.ensures, words_in_lem, ← c.from_be_bytes-origin.ensures)
    (rw (← c.is_outside.ensures, c.if-is_outside.false))
