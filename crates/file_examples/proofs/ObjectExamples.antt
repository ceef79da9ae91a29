-- The table of files and ranges, by computation.
use mathlib.Core.Path.{refl}
use Rattle.object.specs.File.{words_of, bytes_of}
use Rattle.object.specs.Calls.{wrong_size, wrong_length, beyond_memory, too_short, load_refusal, load_accepted, load_by}
use Rattle.object.specs.Calls.{load_of}
use Rattle.object.specs.Calls.{save_refusal, save_accepted, save_of}
use Rattle.file_examples.specs.ObjectExamples.{ExamplesHold}

pub examples_hold : ExamplesHold
unfolding words_of bytes_of wrong_size wrong_length beyond_memory too_short load_refusal load_accepted load_by
    load_of save_refusal
    save_accepted save_of
examples_hold = refl
