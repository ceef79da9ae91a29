-- `starter::start_user` meets its contract: by the refusal, which is a callee's.
use Rattle.std.proofs.Common.{sym, ◌∙◌, arith}
use Rattle.start.proofs.UserLaws.{user_starting_refused}
use Rattle.start.proofs.UserStart.{user_start_is_start}
use Rattle.starter.proofs.start_user.Goals as goal

pub returns-in_err-user_refusal : goal.returns-in_err-user_refusal
returns-in_err-user_refusal c = grind (arith, user_starting_refused)

pub returns : goal.returns
returns c =
    let a = c.args in
    c.start.ensures
    ∙ sym (user_start_is_start a.file.now a.memory.now a.stack (sym c.in_ok-user_refusal.ensures))
