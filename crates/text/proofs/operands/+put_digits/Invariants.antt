-- The measure of the recursion of `text::operands::put_digits`, which follows the division by ten: the number.
use Rattle.text.proofs.operands.+put_digits.Given as goal

abbrev pub decreases-put_digits : goal.decreases-put_digits
decreases-put_digits l = l.n
