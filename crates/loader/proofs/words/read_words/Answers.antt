-- `loader::words::read_words` meets its contract: between two turns of the loop, the words read and the bytes still to
-- come make the whole.
use Rattle.std.proofs.Common.{◌≡◌, ◌+◌, ◌*◌, ◌∙◌, rules, arith, get_or}
use Rattle.object.specs.File.{word}
use Rattle.object.proofs.WordLaws.{one_word_read, all_words_read}
use Rattle.loader.proofs.words.read_words.Goals as goal

pub loop-k-preserved : goal.loop-k-preserved
loop-k-preserved c =
    let a = c.args in
    let l = c.loop-k in
    let x = c.from_be_bytes.ensures in
    let w : c.from_be_bytes.result ≡ word (get_or a.bytes.now (2 * l.k) 0) (get_or a.bytes.now (2 * l.k + 1) 0) =
    omega arith in
    rw w (one_word_read a.bytes.now l.words l.k (search rules) (search rules) ∙ l.invariant)

pub returns : goal.returns
returns c =
    let l = c.loop-k in
    all_words_read c.args.bytes.now l.words l.k (search rules) (search rules) ∙ l.invariant
