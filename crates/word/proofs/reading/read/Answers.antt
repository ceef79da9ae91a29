-- A word's last form is that of opcode 15.
use Rattle.std.proofs.Common.{◌≡◌, ◌/◌, sym, arith}
use Rattle.word.proofs.Opcodes.{read_as}
use Rattle.word.proofs.reading.read.Goals as goal

pub returns-in_default : goal.returns-in_default
returns-in_default c = let e : c.args.word / 4096 ≡ 15 = omega arith in sym (read_as c.args.word 15 e)
