-- To unfold `opened` is to unfold every definition that a start is made of: so a worked start is proved by computing
-- it.
use Rattle.object.specs.File.{words_of}
use Rattle.object.specs.Calls.{wrong_size, wrong_length, beyond_memory, load_refusal, load_accepted, load_by, load_of}
use Rattle.run.specs.Fresh.{fresh_of}
use Rattle.machine.specs.Protection.{privileged}
use Rattle.start.specs.Start.{record_by, started_from, started_of, outside_user_words, user_refusal_after, user_refusal}
use Rattle.start.specs.Start.{user_started_by, user_started_of}

unfoldable pub opened : Unit {0}
unfolding words_of wrong_size wrong_length beyond_memory load_refusal load_accepted load_by load_of fresh_of
    record_by started_from
    started_of privileged outside_user_words user_refusal_after user_refusal user_started_by user_started_of
opened = tt
