-- The examples: by computing them.
use Prim.Native.Nat.{ℕ, zero, suc}
use mathlib.Core.Path.{◌≡◌, refl, sym, ap, ◌∙◌}
use mathlib.Core.Bool.{true, false, true≢false}
use mathlib.Core.List.{List, [], ◌∷◌}
use lib.ListN.{get_or, set, replicate, length-set}
use lib.Seq.{get_or-set_other}
use Rattle.machine.specs.Rows.{with_word}
use Rattle.footprint.specs.Altered.{SameOutside}
use Rattle.run.specs.declared.Ending.TheVariants.{Halted}
use Rattle.run.specs.Fresh.{fresh_of}
use Rattle.run.proofs.Opened.{opened}
use Rattle.machine.specs.Rules.{fetched_word_by}
use Rattle.logging.specs.declared.LoggedEnding.TheVariants.{Run}
use Rattle.logging.specs.Log.{next_rule_by, entry_by, lacks_room}
use Rattle.logging.specs.LoggedRun.{begin_logged, stopped_by, step_logged_by, one_more_logged_by, logged_run_by}
use Rattle.logging.specs.LoggedCall.{logged_admitted_by, logged_call_by}
use Rattle.monitor.specs.Vectors.{vector_word, vectors_from, vector_table}
use Rattle.monitor.specs.Routines.{routine_words, monitor_words}
use Rattle.monitor.specs.Install.{install_of}
use Rattle.sitting.specs.Sitting.{is_enabled, stack_from, is_secret_above, is_secret, start_at, answer_to, answer_after}
use Rattle.sitting.specs.Sitting.{Begins, HasMonitor}
use Rattle.sitting_examples.specs.Examples.{used, stack_elsewhere, supervisor, showing, secret_with, fresh}
use Rattle.sitting_examples.specs.Examples.{monitored, prying, unguarded, plain_call, logged_call, restarting_call}
use Rattle.sitting_examples.specs.Examples.{interruptible}
use Rattle.sitting_examples.specs.Examples.{packing, key_in_third_step, ExamplesHold}

-- ---- the premises

with_word_is_set : (mem : List ℕ) (a v : ℕ) → with_word mem a v ≡ set mem a v
with_word_is_set [] a v = refl
with_word_is_set (x ∷ mem) zero v = refl
with_word_is_set (x ∷ mem) (suc a) v = ap {B = List ℕ} (λ l. x ∷ l) (with_word_is_set mem a v)

-- Two memories that differ at x0400 alone.
differ_at_answer : (mem : List ℕ) (v w : ℕ) → SameOutside (is_secret_above 0x2FFA) (with_word mem 0x0400 v)
    (with_word mem 0x0400 w)
unfolding is_secret_above
differ_at_answer mem v w =
    rw (with_word_is_set mem 0x0400 v, with_word_is_set mem 0x0400 w)
    (record {
      size = length-set mem 0x0400 v ∙ sym (length-set mem 0x0400 w);
      words = λ a h.
          get_or-set_other mem 0x0400 a v 0 (λ e. absurd (true≢false (rw e at h)))
          ∙ sym (get_or-set_other mem 0x0400 a w 0 (λ e. absurd (true≢false (rw e at h))));
    })

prying_alike : (v w : ℕ) → SameOutside (is_secret fresh.devices) (prying monitored v) (prying monitored w)
unfolding prying fresh fresh_of stack_from is_enabled
prying_alike v w =
    differ_at_answer (with_word (with_word (with_word monitored 0x3000 0x2001) 0x3001 0xF022) 0x3002 0x0400) v w

-- To unfold this is to compute with the monitor in memory.
unfoldable pub computing : Unit {0}
unfolding opened fetched_word_by next_rule_by entry_by lacks_room begin_logged stopped_by step_logged_by
    one_more_logged_by
    logged_run_by logged_admitted_by logged_call_by fresh used stack_elsewhere supervisor monitored prying
    showing unguarded interruptible packing vector_word vectors_from
    vector_table routine_words monitor_words install_of start_at answer_to answer_after
computing = tt

prying_begins : (answer : ℕ) → Begins HasMonitor fresh (prying monitored answer)
unfolding computing
prying_begins answer = record { registers = refl; size = refl; user_mode_lem = refl; intact = refl; stack = refl }

used_begins : (answer : ℕ) → Begins HasMonitor used (prying monitored answer)
unfolding computing
used_begins answer = record { registers = refl; size = refl; user_mode_lem = refl; intact = refl; stack = refl }

six_words : secret_with 0 0 ∷ secret_with 0x8000 0x8000 ∷ []
    ≡ replicate 2 (true ∷ true ∷ true ∷ true ∷ true ∷ false ∷ [])
unfolding is_secret_above stack_from is_enabled
six_words = refl

eight_words : secret_with 0x4000 0 ∷ secret_with 0xC000 0x8000 ∷ secret_with 0 0x4000 ∷ secret_with 0x8000 0xC000 ∷ []
    ≡ replicate 4 (true ∷ true ∷ true ∷ false ∷ false ∷ false ∷ [])
unfolding is_secret_above stack_from is_enabled
eight_words = refl

ten_words : secret_with 0x4000 0xC000 ≡ true ∷ false ∷ false ∷ false ∷ false ∷ false ∷ []
unfolding is_secret_above stack_from is_enabled
ten_words = refl

answer_is_there : (answer : ℕ) → get_or (prying monitored answer) 0x0400 0 ≡ answer
unfolding computing
answer_is_there answer = refl

-- ---- the sittings

halted : (answer_to (plain_call 100) fresh (prying monitored 0x41)).ending ≡ Run Halted
unfolding computing
halted = refl

nothing_shown : (answer_to (plain_call 100) fresh (prying monitored 0x41)).shown ≡ 0
unfolding computing
nothing_shown = refl

still_halted : (answer_after (plain_call 100 ∷ []) (plain_call 100) fresh (prying monitored 0x41)).steps ≡ 0
unfolding computing
still_halted = refl

halted_again : (answer_after (plain_call 100 ∷ []) (restarting_call 100) fresh (prying monitored 0x41)).steps ≡ 3
unfolding computing
halted_again = refl

told : ((answer_to (plain_call 13) fresh (prying unguarded 0x41)).output ≡ 0x41 ∷ [])
    × ((answer_to (plain_call 13) fresh (prying unguarded 0x42)).output ≡ 0x42 ∷ [])
unfolding computing
told = (refl, refl)

told_by_log : (get_or (answer_to (logged_call 11 33) fresh (prying unguarded 0x41)).log 30 0 ≡ 0x021A)
    × (get_or (answer_to (logged_call 11 33) fresh (prying unguarded 0)).log 30 0 ≡ 0x021F)
unfolding computing
told_by_log = (refl, refl)

shown_in_supervisor_mode : (answer_to (plain_call 2) supervisor (showing 0x41)).output ≡ 0x41 ∷ []
unfolding computing
shown_in_supervisor_mode = refl

replaced_by_stack : get_or (answer_to (plain_call 2) stack_elsewhere (prying monitored 0x41)).memory 0x0400 0 ≡ 0x3002
unfolding computing
replaced_by_stack = refl

interruptible_begins : Begins HasMonitor interruptible packing
unfolding computing
interruptible_begins = record { registers = refl; size = refl; user_mode_lem = refl; intact = refl; stack = refl }

before : (get_or packing 0x2FF7 0 ≡ 0) × (get_or packing 0x2FF6 0 ≡ 0)
unfolding computing
before = (refl, refl)

after : (get_or (answer_to key_in_third_step interruptible packing).memory 0x2FF7 0 ≡ 0x0401)
    × (get_or (answer_to key_in_third_step interruptible packing).memory 0x2FF6 0 ≡ 0x027F)
unfolding computing
after = (refl, refl)

pub examples_hold : ExamplesHold
examples_hold = record {
  begins = prying_begins;
  alike = prying_alike;
  answers = answer_is_there;
  begins_used = used_begins;
  six_words = six_words;
  eight_words = eight_words;
  ten_words = ten_words;
  halted = halted;
  nothing_shown = nothing_shown;
  still_halted = still_halted;
  halted_again = halted_again;
  told = told;
  told_by_log = told_by_log;
  shown_in_supervisor_mode = shown_in_supervisor_mode;
  replaced_by_stack = replaced_by_stack;
  begins_too = interruptible_begins;
  ninth_and_tenth_before = before;
  ninth_and_tenth_after = after;
}
