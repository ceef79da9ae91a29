-- The version of the host interface, LC3_VERSION in include/fanthrig/lc3.h. It rises by 1 whenever the layout of what
-- crosses to a host or the meaning of a call changes.
use Rattle.std.specs.Prelude.{ℕ}

abbrev pub interface_version : ℕ
interface_version = 7
