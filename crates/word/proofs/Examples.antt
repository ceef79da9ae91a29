-- Single words, by computation.
use Rattle.std.proofs.Common.{refl}
use Rattle.word.specs.Reading.{read_of}
use Rattle.word.specs.Writing.{write_of}
use Rattle.word.specs.Theorems.{Example1, RetIsJmpR7}

pub example_1 : Example1
unfolding read_of
example_1 = refl

pub ret_is_jmp_r7 : RetIsJmpR7
unfolding read_of write_of
ret_is_jmp_r7 = (refl, refl)
