-- `text::characters::Writer::put_text` meets its contract: after each turn of the loop the characters passed
-- are written.
use Rattle.std.proofs.Common.{take}
use Rattle.text.specs.Writing.{Wrote}
use Rattle.text.proofs.characters.Writer.put_text.Given as goal

abbrev pub invariant-loop-character : goal.invariant-loop-character
invariant-loop-character l = Wrote l.initial.self (take l.character-index l.text) l.self
