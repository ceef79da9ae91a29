-- No step makes one of the mistakes that invite: each of the steps is computed.
use mathlib.Core.Path.{refl}
use Rattle.machine.specs.Mistakes.{NoTypicalMistake}
use Rattle.machine.proofs.Opened.{opened}

pub no_typical_mistake : NoTypicalMistake
unfolding opened
no_typical_mistake = record {
  vector_after_pushes = refl;
  both_pops_from_supervisor_stack = refl;
  check_before_read = refl;
  lea_keeps_codes = refl;
  ready_kept_at_entry = refl;
}
