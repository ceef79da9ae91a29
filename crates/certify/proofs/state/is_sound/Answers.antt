-- `certify::state::is_sound` meets its contract.
use Rattle.std.proofs.Common.{◌∙◌, arith}
use Rattle.claims.specs.Decoded.{known_state, claim_in}
use Rattle.findings.proofs.Laws.{kept_by, sound_of}
use Rattle.certify.proofs.state.is_sound.Goals as goal

pub returns-then-sp-le12286-clause-value : goal.returns-then-sp-le12286-clause-value
returns-then-sp-le12286-clause-value c =
    let a = c.args in
    let k = c.all_kept.ensures in
    let claim = claim_in a.c.now in
    rw (← c.in-Is.ensures)
    (k.value ∙ (kept_by claim c.in-Is.sp a.c.now.watched.now a.s.now.words k.same_len
    ∙ sound_of claim c.in-Is.sp (known_state a.s.now).words (omega arith) (omega arith)))
