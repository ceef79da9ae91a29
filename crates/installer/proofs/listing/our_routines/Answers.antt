-- `installer::listing::our_routines` meets its contract.
use mathlib.Core.Path.{refl}
use Rattle.monitor.specs.Routines.{routine_words}
use Rattle.installer.proofs.listing.our_routines.Goals as goal

pub returns : goal.returns
unfolding routine_words
returns c = refl
