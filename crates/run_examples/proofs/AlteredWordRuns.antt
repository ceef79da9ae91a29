-- Runs that meet the premises of each clause on one altered word: by computing their steps.
use Prim.Native.Nat.{ℕ, ◌<◌, ◌≤◌}
use mathlib.Core.Path.{◌≡◌, refl}
use mathlib.Core.Bool.{Bool, true, false}
use native.Mathlib.Omega.{arith}
use native.Mathlib.Decide.{dec_le}
use Rattle.machine.specs.Step.{Step, step_of}
use Rattle.footprint.specs.Altered.{is_among}
use Rattle.run.specs.Run.{Start}
use Rattle.run.specs.Call.{call_of}
use Rattle.run.specs.AlteredWords.{reads_at, writes_at}
use Rattle.run.specs.OneAlteredWord.{with_word, takes, replaces, NotTaken}
use Rattle.run_examples.specs.TwoStarts.{start₁}
use Rattle.run_examples.specs.AlteredWordRuns.{EachClauseCanBeMet}
use Rattle.run.proofs.Opened.{opened}

-- To unfold this is to compute what a step of a run takes and replaces.
touches_opened : Unit {0}
unfolding opened is_among reads_at writes_at takes replaces with_word
touches_opened = tt

not_in_one : (w : ℕ) (s : Start) → takes step_of w s 0 ≡ false → NotTaken step_of w s 1
not_in_one w s e = record { none = λ j l. let z : j ≡ 0 = omega arith in rw z e }

not_in_two : (w : ℕ) (s : Start) → takes step_of w s 0 ≡ false → takes step_of w s 1 ≡ false → NotTaken step_of w s 2
not_in_two w s e f = record {
  none = λ j l. elim (dec_le j 0) [
    | yes h ↦ (let z : j ≡ 0 = omega arith in rw z e)
    | no h ↦ (let z : j ≡ 1 = omega arith in rw z f)
  ];
}

two_steps : (call_of start₁ 2).steps ≡ 2
unfolding opened
two_steps = refl

pub each_clause_can_be_met : EachClauseCanBeMet
unfolding touches_opened
each_clause_can_be_met = record {
  accepted = refl;
  not_taken_in_step_0 = record { made = omega (arith, two_steps); not_taken = not_in_one 0x0025 start₁ refl };
  taken_in_step_1 = refl;
  vector_0 = refl;
  vector_x0400 = refl;
  never_taken = rw two_steps (not_in_two 0x4000 start₁ refl refl);
  done = refl;
  word_stays = refl;
  other_word_stays = refl;
  not_taken_at_all = record { made = omega (arith, two_steps); not_taken = not_in_two 0x2FFF start₁ refl refl };
  replaced_in_step_1 = refl;
  not_yet_replaced = refl;
  replaced = refl;
  stopped = refl;
  would_take = refl;
  not_stopped = refl;
}
