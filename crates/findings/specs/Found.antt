-- What the code finds wrong, as `certify` answers it.
use Rattle.std.specs.Prelude.{Result, Ok, Err}
use Rattle.findings.specs.declared.Certified.{Certified}
use Rattle.findings.specs.declared.Fault.{Fault}
use Rattle.findings.specs.declared.Fault.TheVariants.{NotEightWatched, NoRoom, NoEntry, NoReturn, NotFixed, NotSound}
use Rattle.findings.specs.declared.Fault.TheVariants.{NotHarmless}
use Rattle.findings.specs.Finding.{nothing_wrong, wrong}

abbrev pub finding_of : Fault → Certified
finding_of NotEightWatched = wrong 1 0 0
finding_of NoRoom = wrong 2 0 0
finding_of (NoEntry a) = wrong 3 a 0
finding_of (NoReturn a) = wrong 4 a 0
finding_of (NotFixed a k) = wrong 5 a k
finding_of (NotSound a k) = wrong 6 a k
finding_of (NotHarmless a k) = wrong 7 a k

abbrev pub certified : Result (Unit {0}) Fault → Certified
certified (Ok _) = nothing_wrong
certified (Err w) = finding_of w
