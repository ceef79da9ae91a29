-- The examples of files: by computing them.
use Prim.Native.Nat.{ℕ, ◌+◌, ◌*◌, ◌/◌, ◌%◌}
use native.Mathlib.Omega.{arith}
use mathlib.Core.Path.{◌≡◌, refl, sym, ap, ◌∙◌}
use mathlib.Core.Bool.{true, false}
use mathlib.Core.List.{List, [], ◌∷◌, map}
use lib.ListN.{get_or, replicate, length-replicate}
use Rattle.object.specs.File.{bytes_of}
use Rattle.start.specs.Start.{started_of, user_started_of}
use Rattle.start.proofs.Opened.{opened as start-opened}
use Rattle.sitting.specs.Sitting.{is_secret_above, answer_after}
use Rattle.sitting.specs.HandedIn.{is_marking_word, MarkingWordsStay, Prepared, FilesLearnNothingBy}
use Rattle.sitting.specs.HandedIn.{LiesInMarkingWords, loaded_with}
use Rattle.sitting_examples.specs.Examples.{plain_call}
use Rattle.sitting_examples.specs.FileExamples.{answer_file, mark_file, with_answer, stealing, asking, first_answer}
use Rattle.sitting_examples.specs.FileExamples.{FileExamplesHold}
use Rattle.sitting.proofs.HandedIn.{files_prepare}
use Rattle.sitting_examples.proofs.Examples.{computing as sitting-computing}

-- To unfold this is to compute with the monitor and a file in memory.
unfoldable computing : Unit {0}
unfolding sitting-computing start-opened bytes_of loaded_with answer_file mark_file with_answer stealing asking
computing = tt

borders :
    map is_marking_word
    (0x0000 ∷ 0x02A4 ∷ 0x02A5 ∷ 0x2FF9 ∷ 0x2FFA ∷ 0x2FFF ∷ 0x3000 ∷ 0xFDFF ∷ 0xFE00 ∷ 0xFFFF ∷ [])
    ≡ false ∷ false ∷ true ∷ true ∷ false ∷ false ∷ false ∷ false ∷ true ∷ true ∷ []
unfolding is_secret_above
borders = refl

answer_file_lem : (answer : ℕ) → LiesInMarkingWords (answer_file answer)
unfolding computing is_secret_above
answer_file_lem answer a l u = let e : a ≡ 0x2000 = omega arith in rw e

mark_file_lem : LiesInMarkingWords mark_file
unfolding computing is_secret_above
mark_file_lem a l u = let e : a ≡ 0x2100 = omega arith in rw e

answer_there : (answer : ℕ) → get_or (with_answer answer) 0x2000 0 ≡ answer
unfolding computing
answer_there answer = let e : answer / 256 * 256 + answer % 256 ≡ answer = omega arith in e

mark_there : (answer : ℕ) → get_or (with_answer answer) 0x2100 0 ≡ 7
unfolding computing
mark_there answer = refl

replaced : get_or (started_of (answer_file 0x42) (with_answer 0x41) true 0xFDFF).memory 0x2000 0 ≡ 0x42
unfolding computing
replaced = refl

start_would_change :
    MarkingWordsStay (with_answer 0x41) (started_of (answer_file 0x42) (with_answer 0x41) true 0xFDFF).memory → ⊥
start_would_change f =
    omega (arith, sym replaced ∙ f 0x2000 (unfold is_secret_above in refl) ∙ answer_there 0x41)

stolen : ((first_answer 3 (started_of stealing (with_answer 0x41) true 0xFDFF)).output ≡ 0x41 ∷ [])
    × ((first_answer 3 (started_of stealing (with_answer 0x42) true 0xFDFF)).output ≡ 0x42 ∷ [])
unfolding computing
stolen = (refl, refl)

stealing_accepted : (started_of stealing (with_answer 0x41) true 0xFDFF).refusal ≡ 0
unfolding computing
stealing_accepted = refl

prepared : Prepared (with_answer 0x41) (with_answer 0x42)
unfolding with_answer
prepared =
    files_prepare (replicate 65536 0) (answer_file 0x41 ∷ mark_file ∷ []) (answer_file 0x42 ∷ mark_file ∷ [])
    (length-replicate {A = ℕ} 65536 0) (answer_file_lem 0x41, (mark_file_lem, tt))
    (answer_file_lem 0x42, (mark_file_lem, tt))

start_would_tell : FilesLearnNothingBy (λ file memory userStack. started_of file memory true userStack) → ⊥
unfolding answer_after
start_would_tell f =
    let learns = f (with_answer 0x41) (with_answer 0x42) prepared stealing 0xFDFF in
    let same = (learns.sittings stealing_accepted [] (plain_call 3)).same.run.output in
    let e : ◌≡◌ {A = List ℕ} (0x41 ∷ []) (0x42 ∷ []) = sym stolen.0 ∙ same ∙ stolen.1 in
    omega (arith, ap (λ (l : List ℕ). get_or l 0 0) e)

turned_away : (user_started_of stealing (with_answer 0x41) 0xFDFF).refusal ≡ 21
unfolding computing
turned_away = refl

accepted : (user_started_of asking (with_answer 0x41) 0xFDFF).refusal ≡ 0
unfolding computing
accepted = refl

nothing_shown : (first_answer 100 (user_started_of asking (with_answer 0x41) 0xFDFF)).shown ≡ 0
unfolding computing
nothing_shown = refl

pub file_examples_hold : FileExamplesHold
file_examples_hold = record {
  borders = borders;
  answer_file_lem = answer_file_lem;
  mark_file_lem = mark_file_lem;
  answer_there = answer_there;
  mark_there = mark_there;
  start_would_change = start_would_change;
  stolen = stolen;
  start_would_tell = start_would_tell;
  turned_away = turned_away;
  accepted = accepted;
  nothing_shown = nothing_shown;
}
