-- Values of 32 bits in fields of 16.
use Prim.Native.Nat.{◌<◌, ◌≤◌}
use mathlib.Core.Path.{◌≡◌}
use lib.IntN.{ℤ, pos}
use lib.Signed.{mag}
use Rattle.word.proofs.SignedFields.{size_within, size_not_within}
use Rattle.lc3_words.specs.Clamping.{clamp_signed}

-- the signed clamp, by the size of the value
pub clamped_beyond : (v : ℤ) → 32768 ≤ mag v → clamp_signed v ≡ pos 32767
clamped_beyond v p = simp (size_not_within 32768 v p)

pub clamped_within : (v : ℤ) → mag v < 32768 → clamp_signed v ≡ v
clamped_within v p = simp (size_within 32768 v p)
