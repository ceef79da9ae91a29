-- Files that are handed in: one that steals an answer where `start` loads it, and that `start_user` turns away; and one
-- that is accepted, and learns nothing.
use Rattle.std.specs.Prelude.{ℕ, ◌≡◌, true, false, List, [], ◌∷◌, map, get_or, replicate}
use Rattle.object.specs.File.{file_of}
use Rattle.start.specs.Start.{Starting, started_of, user_started_of}
use Rattle.logging.specs.LoggedRun.{Logged}
use Rattle.sitting.specs.Sitting.{answer_to}
use Rattle.sitting.specs.HandedIn.{is_marking_word, MarkingWordsStay, FilesLearnNothingBy, LiesInMarkingWords}
use Rattle.sitting.specs.HandedIn.{prepared_of}
use Rattle.sitting_examples.specs.Examples.{plain_call}

-- The examiner's file: an answer at x2000.
unfoldable pub answer_file : ℕ → List ℕ
answer_file answer = file_of 0x2000 (answer ∷ [])

-- Another: a mark at x2100.
unfoldable pub mark_file : List ℕ
mark_file = file_of 0x2100 (7 ∷ [])

-- The monitor, the answer and the mark, in a memory of zeros.
unfoldable pub with_answer : ℕ → List ℕ
with_answer answer = prepared_of (replicate 65536 0) (answer_file answer ∷ mark_file ∷ [])

-- A file from x0102 on, the word that says where the access exception leads: to x0103, where stand LDI R0, #2;
-- STI R0, #2; BRnzp #2; .FILL x2000; .FILL xFE06 (DDR); AND R1, R1, #0; STI R1, #1; BRnzp #-1; .FILL xFFFE (MCR). PC is
-- x0102, which is privileged: the first step raises the exception.
unfoldable pub stealing : List ℕ
stealing = file_of 0x0102
    (0x0103 ∷ 0xA002 ∷ 0xB002 ∷ 0x0E02 ∷ 0x2000 ∷ 0xFE06 ∷ 0x5260 ∷ 0xB201 ∷ 0x0FFF ∷ 0xFFFE ∷ [])

-- A file from x3000 on that asks PUTS for the answer: LD R0, #1; TRAP x22; .FILL x2000.
unfoldable pub asking : List ℕ
asking = file_of 0x3000 (0x2001 ∷ 0xF022 ∷ 0x2000 ∷ [])

-- What a call of so many steps answers that is made once the file is started.
abbrev pub first_answer : ℕ → Starting → Logged
first_answer steps s = answer_to (plain_call steps) s.machine s.memory

pub record FileExamplesHold : Type 0 where
  -- which words are marking words, at the borders
  pub borders :
      map is_marking_word
      (0x0000 ∷ 0x02A4 ∷ 0x02A5 ∷ 0x2FF9 ∷ 0x2FFA ∷ 0x2FFF ∷ 0x3000 ∷ 0xFDFF ∷ 0xFE00 ∷ 0xFFFF ∷ [])
      ≡ false ∷ false ∷ true ∷ true ∷ false ∷ false ∷ false ∷ false ∷ true ∷ true ∷ []
  -- the examiner's files may be loaded, and the answer and the mark are there
  pub answer_file_lem : (answer : ℕ) → LiesInMarkingWords (answer_file answer)
  pub mark_file_lem : LiesInMarkingWords mark_file
  pub answer_there : (answer : ℕ) → get_or (with_answer answer) 0x2000 0 ≡ answer
  pub mark_there : (answer : ℕ) → get_or (with_answer answer) 0x2100 0 ≡ 7
  -- `start` lets a file replace an answer, so that marking words do not stay
  pub start_would_change :
      MarkingWordsStay (with_answer 0x41) (started_of (answer_file 0x42) (with_answer 0x41) true 0xFDFF).memory → ⊥
  -- `start` accepts the file that steals; within three steps the answer is shown
  pub stolen : ((first_answer 3 (started_of stealing (with_answer 0x41) true 0xFDFF)).output ≡ 0x41 ∷ [])
      × ((first_answer 3 (started_of stealing (with_answer 0x42) true 0xFDFF)).output ≡ 0x42 ∷ [])
  -- so what is proved of `start_user` is false of `start` in User mode
  pub start_would_tell : FilesLearnNothingBy (λ file memory userStack. started_of file memory true userStack) → ⊥
  -- `start_user` turns it away
  pub turned_away : (user_started_of stealing (with_answer 0x41) 0xFDFF).refusal ≡ 21
  -- another file is accepted: PUTS halts, and shows nothing
  pub accepted : (user_started_of asking (with_answer 0x41) 0xFDFF).refusal ≡ 0
  pub nothing_shown : (first_answer 100 (user_started_of asking (with_answer 0x41) 0xFDFF)).shown ≡ 0
