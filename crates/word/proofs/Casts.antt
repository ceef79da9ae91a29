-- What the cast of an i16 is.
use Rattle.std.proofs.Common.{◌≡◌, ◌<◌, ℤ, ◌∙◌, to_z-of_z, w16, to_z, of_z}
use lib.Signed.{mag}

-- a signed number that a call gave, put into an instruction
pub kept : (r n : ℤ) → mag r < 32768 → r ≡ n → to_z w16 (of_z w16 r) ≡ n
kept r n p e = to_z-of_z {w = w16} (record { sfits = p }) ∙ e
