-- What a candidate can do by the file that is handed in. Our monitor and the examiner's words are in memory; the host
-- starts the file by `start_user` and runs it, in one call or many. No program, whatever the file's bytes are, learns
-- or changes one of the examiner's words.
use Rattle.std.specs.Prelude.{ℕ, ◌+◌, ◌≤◌, ◌<◌, ◌≡◌, Bool, true, false, List, [], ◌∷◌, length}
use Rattle.machine.specs.Protection.{privileged}
use Rattle.footprint.specs.Footprint.{SameWordAt}
use Rattle.footprint.specs.Altered.{SameOutside}
use Rattle.object.specs.File.{origin_in, words_in}
use Rattle.start.specs.Start.{Starting, started_of, user_started_of}
use Rattle.logging.specs.LoggedRun.{Logged}
use Rattle.monitor.specs.Install.{install_of}
use Rattle.sitting.specs.Sitting.{lowest_stack_word, is_secret_above, Call, answer_after, HasMonitor, Begins}
use Rattle.sitting.specs.Sitting.{SameAnswers}

-- The words that an examiner can keep from candidates: x02A5 to x2FF9, and xFE00 to xFFFF. (No device of a machine that
-- was just started may interrupt, so the monitor's stack is six words.)
abbrev pub is_marking_word : ℕ → Bool
is_marking_word = is_secret_above 0x2FFA

-- ---- one candidate

-- What is started in this memory meets the premises of `SittingTellsNothing`, with no device that may interrupt, and
-- with every privileged word as it was lent.
pub record BeginsIn (memory : List ℕ) (s : Starting) : Type 0 where
  pub begins : Begins HasMonitor s.machine s.memory
  pub no_interrupts : lowest_stack_word s.machine.devices ≡ 0x2FFA
  pub stay : (a : ℕ) → privileged a ≡ true → SameWordAt s.memory memory a

abbrev pub AcceptedFileBegins : Type 0
AcceptedFileBegins = (file memory : List ℕ) (userStack : ℕ) → HasMonitor memory
    → (user_started_of file memory userStack).refusal ≡ 0 → BeginsIn memory (user_started_of file memory userStack)

-- ---- two memories, in which the examiner's words differ

-- Our monitor is in both, and they are equal but for marking words.
pub record Prepared (memory₁ memory₂ : List ℕ) : Type 0 where
  pub monitor : HasMonitor memory₁
  pub alike : SameOutside is_marking_word memory₁ memory₂

-- Every marking word is as in the memory that was lent.
abbrev pub MarkingWordsStay : List ℕ → List ℕ → Type 0
MarkingWordsStay lent memory = (a : ℕ) → is_marking_word a ≡ true → SameWordAt memory lent a

-- The starts answer alike, and leave memories that are equal but for marking words.
pub record SameStarts (s₁ s₂ : Starting) : Type 0 where
  pub machine : s₁.machine ≡ s₂.machine
  pub words : s₁.words ≡ s₂.words
  pub refusal : s₁.refusal ≡ s₂.refusal
  pub memory : SameOutside is_marking_word s₁.memory s₂.memory

-- Calls answer alike, and no marking word has changed. So the same holds of what is started next in these memories.
-- (User mode's words are as this sitting leaves them.)
pub record SameSittings (memory₁ memory₂ : List ℕ) (a₁ a₂ : Logged) : Type 0 where
  pub same : SameAnswers is_marking_word a₁ a₂
  pub stay₁ : MarkingWordsStay memory₁ a₁.memory
  pub stay₂ : MarkingWordsStay memory₂ a₂.memory
  pub prepared : Prepared a₁.memory a₂.memory

-- A file is accepted in both memories or in neither, and more files may be started after it. Where it is accepted,
-- every call of the sittings answers alike.
pub record LearnsNothing (memory₁ memory₂ : List ℕ) (s₁ s₂ : Starting) : Type 0 where
  pub same : SameStarts s₁ s₂
  pub stay₁ : MarkingWordsStay memory₁ s₁.memory
  pub stay₂ : MarkingWordsStay memory₂ s₂.memory
  pub prepared : Prepared s₁.memory s₂.memory
  pub sittings : s₁.refusal ≡ 0 → (earlier : List Call) (call : Call)
      → SameSittings memory₁ memory₂
      (answer_after earlier call s₁.machine s₁.memory)
      (answer_after earlier call s₂.machine s₂.memory)

-- Whatever file is started so.
abbrev pub FilesLearnNothingBy : (List ℕ → List ℕ → ℕ → Starting) → Type 0
FilesLearnNothingBy start = (memory₁ memory₂ : List ℕ) → Prepared memory₁ memory₂ → (file : List ℕ) (userStack : ℕ)
    → LearnsNothing memory₁ memory₂ (start file memory₁ userStack) (start file memory₂ userStack)

abbrev pub FilesLearnNothing : Type 0
FilesLearnNothing = FilesLearnNothingBy user_started_of

-- ---- from any memory on

-- The range of an examiner's file lies in marking words.
abbrev pub LiesInMarkingWords : List ℕ → Type 0
LiesInMarkingWords file =
    (a : ℕ) → origin_in file ≤ a → a < origin_in file + length (words_in file) → is_marking_word a ≡ true

abbrev pub AllLieInMarkingWords : List (List ℕ) → Type 0
AllLieInMarkingWords [] = Unit {0}
AllLieInMarkingWords (file ∷ files) = LiesInMarkingWords file × AllLieInMarkingWords files

-- Memory after files were loaded, one after the other. (By `start`: of its record nothing is used.)
unfoldable pub loaded_with : List ℕ → List (List ℕ) → List ℕ
loaded_with memory [] = memory
loaded_with memory (file ∷ files) = loaded_with (started_of file memory false 0).memory files

-- The monitor is put into memory, and the examiner's files are loaded.
abbrev pub prepared_of : List ℕ → List (List ℕ) → List ℕ
prepared_of memory files = loaded_with (install_of memory).words files

-- Whatever the memory was, no candidate can tell by any file which files an examiner has loaded.
abbrev pub CandidateLearnsNothing : Type 0
CandidateLearnsNothing = (memory : List ℕ) (files₁ files₂ : List (List ℕ)) → length memory ≡ 65536
    → AllLieInMarkingWords files₁ → AllLieInMarkingWords files₂
    → (file : List ℕ) (userStack : ℕ)
    → LearnsNothing (prepared_of memory files₁) (prepared_of memory files₂)
    (user_started_of file (prepared_of memory files₁) userStack)
    (user_started_of file (prepared_of memory files₂) userStack)
