-- `loader::load` meets its contract: the tests answer as the definition does, and an accepted file is a callee's.
use Rattle.std.proofs.Common.{sym, ◌∙◌, arith}
use Rattle.object.proofs.Acceptance.{accepted_is_readable, readable_is_loaded}
use Rattle.object.proofs.CallLaws.{loading_refused}
use Rattle.loader.proofs.load.Goals as goal

pub returns-in_err-load_refusal : goal.returns-in_err-load_refusal
returns-in_err-load_refusal c = grind (arith, loading_refused)

pub load_accepted-requires : goal.load_accepted-requires
load_accepted-requires c = accepted_is_readable _ _ (sym c.in_ok-load_refusal.ensures)

pub returns : goal.returns
returns c =
    let a = c.args in
    c.load_accepted.ensures
    ∙ sym (readable_is_loaded a.file.now a.memory.now (accepted_is_readable _ _ (sym c.in_ok-load_refusal.ensures)))
