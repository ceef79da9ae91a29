-- `loader::load_accepted` meets its contract: the words are read into their part of memory, which comes back in its
-- place.
use Rattle.object.proofs.CallLaws.{words_in_place}
use Rattle.loader.proofs.load_accepted.Goals as goal

pub returns : goal.returns
returns c =
    let a = c.args in
    let origin = c.from_be_bytes-origin in
    words_in_place a.file.now a.memory.now c.read_words.new.words origin.result origin.ensures c.read_words.ensures
