-- The tests of a call: the definitions that they are made of, all unfolded by `opened`, and the laws that decide them.
use Rattle.std.proofs.lemmas.Bool.Decides.{nat_tests}
use Rattle.object.specs.Calls.{wrong_size, wrong_length, beyond_memory, too_short, load_refusal, save_refusal}
use Rattle.object.proofs.Acceptance.{words_in_lem, file_length}

pub ruleset tests = (nat_tests, words_in_lem, file_length)

unfoldable pub opened : Unit {0}
unfolding wrong_size wrong_length beyond_memory too_short load_refusal save_refusal
opened = tt
