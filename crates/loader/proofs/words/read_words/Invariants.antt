-- `loader::words::read_words` meets its contract: between two turns of the loop, the words read and the bytes still to
-- come make the whole.
use Rattle.std.proofs.Common.{◌≡◌, ◌*◌, ◌++◌, take, drop}
use Rattle.object.specs.File.{words_of}
use Rattle.loader.proofs.words.read_words.Given as goal

abbrev pub invariant-loop-k : goal.invariant-loop-k
invariant-loop-k l = take l.k l.words ++ words_of (drop (2 * l.k) l.bytes) ≡ words_of l.bytes
