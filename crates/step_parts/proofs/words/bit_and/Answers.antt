-- `step_parts::words::bit_and` meets its contract: the law of the bitwise and at 16 bits.
use Rattle.machine.proofs.WordLaws.{and_bits_lem}
use Rattle.step_parts.proofs.words.bit_and.Goals as goal

pub returns : goal.returns
returns c =
    and_bits_lem 16 c.args.a c.args.b c.ranges.a.fits
