-- `loader::save` meets its contract: the tests answer as the definition does, and an accepted range is a callee's.
use Rattle.std.proofs.Common.{sym, ◌∙◌, arith}
use Rattle.object.proofs.Acceptance.{accepted_is_writable, writable_is_saved}
use Rattle.object.proofs.CallLaws.{writing_refused}
use Rattle.loader.proofs.save.Goals as goal

pub returns-in_err-save_refusal : goal.returns-in_err-save_refusal
returns-in_err-save_refusal c = grind (arith, writing_refused)

pub save_accepted-requires : goal.save_accepted-requires
save_accepted-requires c = accepted_is_writable _ _ _ _ (sym c.in_ok-save_refusal.ensures)

pub returns : goal.returns
returns c =
    let a = c.args in
    c.save_accepted.ensures
    ∙ sym (writable_is_saved a.memory.now a.origin a.words a.output.now
    (accepted_is_writable _ _ _ _ (sym c.in_ok-save_refusal.ensures)))
