-- `loader::words::write_words` meets its contract: between two turns of the loop, the bytes written and the words still
-- to come make the whole.
use Rattle.std.proofs.Common.{◌≡◌, ◌/◌, ◌%◌, ◌∙◌, rules, arith, get_or}
use Rattle.object.proofs.WordLaws.{one_word_written, all_words_written}
use Rattle.loader.proofs.words.write_words.Goals as goal

pub loop-k-preserved : goal.loop-k-preserved
loop-k-preserved c =
    let l = c.loop-k in
    let words = c.args.words.now in
    let high : get_or words l.k 0 / 256 % 256 ≡ get_or words l.k 0 / 256 = omega (arith, c.type_inv.words l.k) in
    rw (c.copy_from_slice.ensures.after, c.to_be_bytes.ensures, high)
    (one_word_written l.bytes words l.k (search rules) _ (search rules) ∙ l.invariant)

pub returns : goal.returns
returns c =
    let l = c.loop-k in
    all_words_written l.bytes c.args.words.now l.k (search rules) (search rules) ∙ l.invariant
