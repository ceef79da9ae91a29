-- Refused calls touch nothing, and which calls are refused.
use mathlib.Core.Path.{sym, ap}
use Rattle.lent.specs.Lent.{Written}
use Rattle.object.specs.Calls.{Loading, load_refusal, load_accepted, load_of, save_refusal, save_accepted}
use Rattle.object.specs.Calls.{save_of}
use Rattle.object.specs.RefusedCalls.{RefusedLoadTouchesNothing, RefusedSaveTouchesNothing, AcceptedExactly}
use Rattle.object.proofs.Acceptance.{loaded_is_readable, readable_is_loaded, saved_is_writable}
use Rattle.object.proofs.Acceptance.{writable_is_saved}
use Rattle.object.proofs.CallLaws.{loading_turned_away, writing_turned_away}

pub refused_load_touches_nothing : RefusedLoadTouchesNothing
unfolding load_of
refused_load_touches_nothing file memory h = sym (loading_turned_away (load_refusal file memory) file memory h)

pub refused_save_touches_nothing : RefusedSaveTouchesNothing
unfolding save_of
refused_save_touches_nothing memory origin count output h =
    sym (writing_turned_away (save_refusal memory origin count output) _ output h)

pub accepted_exactly : AcceptedExactly
unfolding load_accepted save_accepted
accepted_exactly = record {
  readable = loaded_is_readable;
  read = λ file memory r. ap (λ (l : Loading). l.refusal) (readable_is_loaded file memory r);
  writable = saved_is_writable;
  wrote = λ memory origin count output w. ap (λ (s : Written). s.refusal)
      (writable_is_saved memory origin count output w);
}
