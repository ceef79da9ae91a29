-- `loader::words::write_words` meets its contract: between two turns of the loop, the bytes written and the words still
-- to come make the whole.
use Rattle.std.proofs.Common.{◌≡◌, ◌*◌, ◌++◌, take, drop}
use Rattle.object.specs.File.{bytes_of}
use Rattle.loader.proofs.words.write_words.Given as goal

abbrev pub invariant-loop-k : goal.invariant-loop-k
invariant-loop-k l = take (2 * l.k) l.bytes ++ bytes_of (drop l.k l.words) ≡ bytes_of l.words
