-- What the functions of the logged loop answer and leave, each packed in one value: the form of their contracts.
use Rattle.std.specs.Prelude.{ℕ, ◌*◌, Bool, cond, List, ltb}
use Rattle.run.specs.declared.Ending.{Ending}
use Rattle.run.specs.declared.Ending.TheVariants.{Done, Halted, OutputFull, Refused}
use Rattle.run.specs.Run.{End}
use Rattle.logging.specs.declared.LoggedEnding.{LoggedEnding}
use Rattle.logging.specs.declared.LoggedEnding.TheVariants.{Run, LogFull}
use Rattle.logging.specs.LoggedRun.{Logged, with_log}

-- A run that has logged each of its steps, and that no full log has stopped.
abbrev pub logging : End → List ℕ → Logged
logging e log = with_log (Run e.ending) e log (3 * e.steps)

-- The ending of a run that has made the steps for which its log has room, or has stopped before; `more` tells whether
-- more steps are asked for. Halted comes before log full.
unfoldable pub stop_at_room : Ending → Bool → ℕ → LoggedEnding
stop_at_room Done more mcr = cond more (cond (ltb mcr 0x8000) (Run Halted) LogFull) (Run Done)
stop_at_room Halted more mcr = Run Halted
stop_at_room OutputFull more mcr = Run OutputFull
stop_at_room (Refused r) more mcr = Run (Refused r)
