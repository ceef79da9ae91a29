-- "One call loads the file and answers the word count and a fresh record whose PC is its origin." It is made of what
-- loading a file leaves (`load_of` in crates/object) and what a fresh record is (`fresh_of` in crates/run).
use Rattle.std.specs.Prelude.{ℕ, zero, suc, ◌+◌, Bool, true, Result, Ok, Err, cond, ◌||◌, List, [], ◌∷◌, ltb, length}
use Rattle.lent.specs.declared.Refusal.{Refusal}
use Rattle.lent.specs.Lent.{refusal_number}
use Rattle.machine.specs.declared.Machine.{Machine}
use Rattle.machine.specs.Protection.{privileged}
use Rattle.machine.specs.Record.{zero_devices}
use Rattle.object.specs.File.{origin_in, words_in}
use Rattle.object.specs.Calls.{Loading, load_refusal, load_of}
use Rattle.run.specs.Fresh.{fresh_of}
use Rattle.start.specs.declared.Started.{Started}

-- A record that is all zero.
abbrev pub zero_machine : Machine
zero_machine = record {
  regs = 0 ∷ 0 ∷ 0 ∷ 0 ∷ 0 ∷ 0 ∷ 0 ∷ 0 ∷ [];
  pc = 0;
  psr = 0;
  saved_ssp = 0;
  saved_usp = 0;
  devices = zero_devices;
  clock = 0;
}

-- The record by the refusal of loading: "a fresh record whose PC is its origin. Mode and user stack are still inputs";
-- "on refusal the record and count answered are all zero".
unfoldable pub record_by : ℕ → ℕ → Bool → ℕ → Machine
record_by zero origin user userStack = fresh_of origin user userStack
record_by (suc n) origin user userStack = zero_machine

-- What starting answers, and the memory that it leaves.
pub record Starting : Type 0 where
  pub machine : Machine
  pub words : ℕ
  pub refusal : ℕ
  pub memory : List ℕ

-- The word count, the refusal and the memory are those of loading: "the numbers and their order are those of loading".
unfoldable pub started_from : Loading → Bool → ℕ → Starting
started_from l user userStack = record {
  machine = record_by l.refusal l.origin user userStack;
  words = l.words;
  refusal = l.refusal;
  memory = l.memory;
}

unfoldable pub started_of : List ℕ → List ℕ → Bool → ℕ → Starting
started_of file memory user userStack = started_from (load_of file memory) user userStack

-- ---- a candidate's file

-- 21: the origin, where the machine stands, or a word of the file lies outside x3000 to xFDFF, User mode's words.
unfoldable pub outside_user_words : ℕ → ℕ → Bool
outside_user_words origin count = privileged origin || ltb 0xFE00 (origin + count)

-- The number of the first that applies, or 0: those of loading, in their order, and then 21.
unfoldable pub user_refusal_after : ℕ → List ℕ → ℕ
user_refusal_after zero file = cond (outside_user_words (origin_in file) (length (words_in file))) 21 0
user_refusal_after (suc n) file = suc n

unfoldable pub user_refusal : List ℕ → List ℕ → ℕ
user_refusal file memory = user_refusal_after (load_refusal file memory) file

-- A file that is accepted is started in User mode; a refused one leaves zeros, and memory as lent.
unfoldable pub user_started_by : ℕ → List ℕ → List ℕ → ℕ → Starting
user_started_by zero file memory userStack = started_of file memory true userStack
user_started_by (suc n) file memory userStack =
    record { machine = zero_machine; words = 0; refusal = suc n; memory = memory }

unfoldable pub user_started_of : List ℕ → List ℕ → ℕ → Starting
user_started_of file memory userStack = user_started_by (user_refusal file memory) file memory userStack

-- What either function answers and leaves, as one value.
abbrev pub starting : Result Started Refusal → List ℕ → Starting
starting (Ok s) memory = record { machine = s.machine; words = s.words; refusal = 0; memory = memory }
starting (Err r) memory = record { machine = zero_machine; words = 0; refusal = refusal_number r; memory = memory }
