-- `loader::save_accepted` meets its contract: the bytes are written to their part of the output, which comes back in
-- its place.
use Rattle.std.proofs.Common.{◌≡◌, ◌/◌, ◌%◌, arith}
use Rattle.object.proofs.CallLaws.{file_in_place}
use Rattle.loader.proofs.save_accepted.Goals as goal

pub returns : goal.returns
returns c =
    let a = c.args in
    let high : a.origin / 256 % 256 ≡ a.origin / 256 = omega arith in
    rw (c.copy_from_slice.ensures.after, c.to_be_bytes.ensures, high)
    (file_in_place a.memory.now a.output.now c.write_words.new.bytes a.origin a.words c.requires c.write_words.ensures)
