-- The claims on the words, from the law of the table and by computing.
use Prim.Native.Nat.{ℕ}
use native.Mathlib.Omega.{arith}
use mathlib.Core.Path.{◌≡◌, refl, sym, ap, ◌∙◌}
use mathlib.Core.Bool.{true}
use lib.ListN.{get_or}
use Rattle.word.specs.Reading.{read_of}
use Rattle.word.specs.declared.Instruction.TheVariants.{Rti}
use Rattle.monitor.specs.Vectors.{vector_word, vectors_from, vector_table, ours}
use Rattle.monitor.specs.Routines.{routine_words, monitor_words}
use Rattle.monitor.specs.Words.{wait_from, WordsHold}
use Rattle.monitor.proofs.VectorLaws.{other_trap, interrupt_word}
use Rattle.monitor.proofs.Intact.{monitor_length, monitor_vector}

back_word : read_of (get_or monitor_words 0x027F 0) ≡ Rti
unfolding monitor_words vector_table vectors_from vector_word routine_words read_of
back_word = refl

wait : wait_from 0x0200 128 ≡ true
unfolding wait_from routine_words
wait = refl

pub words_hold : WordsHold
words_hold = record {
  waits = wait;
  lone_rti = λ a least most.
      ap (λ (w : ℕ). read_of (get_or monitor_words w 0)) (monitor_vector a most ∙ sym (interrupt_word ours a least))
      ∙ back_word;
  one_routine = λ a b other-a other_b.
      monitor_vector a (omega (arith, other-a.below))
      ∙ sym (other_trap ours a other-a.no_service other-a.below)
      ∙ other_trap ours b other_b.no_service other_b.below
      ∙ sym (monitor_vector b (omega (arith, other_b.below)));
  fits = omega (arith, monitor_length);
}
