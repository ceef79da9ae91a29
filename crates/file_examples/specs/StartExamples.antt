-- Files that are started, each rule with a call that would be answered otherwise without it.
use Rattle.std.specs.Prelude.{ℕ, ◌≡◌, Bool, true, false, List, [], ◌∷◌, map, get_or, replicate}
use Rattle.machine.specs.declared.Machine.{Machine}
use Rattle.start.specs.Start.{Starting, started_of, user_started_of}

-- The record with this R6, PC, PSR, Saved_SSP, Saved_USP and MCR, and all else 0.
abbrev pub record_with : ℕ → ℕ → ℕ → ℕ → ℕ → ℕ → Machine
record_with r6 pc psr savedSsp savedUsp mcr = record {
  regs = 0 ∷ 0 ∷ 0 ∷ 0 ∷ 0 ∷ 0 ∷ r6 ∷ 0 ∷ [];
  pc = pc;
  psr = psr;
  saved_ssp = savedSsp;
  saved_usp = savedUsp;
  devices = record {
    kbsr = 0;
    kbdr = 0;
    mcr = mcr;
    busy = 0;
    timer_status = 0;
    timer_interval = 0;
    timer_count = 0;
  };
  clock = 0;
}

abbrev pub zeros : Machine
zeros = record_with 0 0 0 0 0 0

-- A file, the mode (true for User mode) and the user stack; then what is answered, record, word count and refusal, and
-- the last word of memory.
pub data Example : Type 0 where
  starts : List ℕ → Bool → ℕ → Machine → ℕ → ℕ → ℕ → Example

abbrev pub examples : List Example
examples =
    -- "a fresh record whose PC is its origin. Mode and user stack are still inputs."
    starts (0x30 ∷ 0x00 ∷ 0xF0 ∷ 0x25 ∷ []) true 0xFDFF (record_with 0xFDFF 0x3000 0x8002 0x3000 0 0x8000) 1 0 7
    ∷ starts (0x30 ∷ 0x00 ∷ 0xF0 ∷ 0x25 ∷ []) false 0xFDFF (record_with 0x3000 0x3000 0x0002 0 0xFDFF 0x8000) 1 0 7
    ∷ starts (0xFF ∷ 0xFF ∷ 0x12 ∷ 0x34 ∷ []) true 0x4000 (record_with 0x4000 0xFFFF 0x8002 0x3000 0 0x8000) 1 0 0x1234
    -- a file of two bytes starts a machine with nothing loaded
    ∷ starts (0xFF ∷ 0xFF ∷ []) false 0x4000 (record_with 0x3000 0xFFFF 0x0002 0 0x4000 0x8000) 0 0 7
    -- "On refusal the record and count answered are all zero and memory is untouched": 17 and 18
    ∷ starts [] true 0xFDFF zeros 0 17 7
    ∷ starts (0x30 ∷ 0x00 ∷ 0xF0 ∷ []) true 0xFDFF zeros 0 17 7
    ∷ starts (0xFF ∷ 0xFF ∷ 0x12 ∷ 0x34 ∷ 0x56 ∷ 0x78 ∷ []) false 0xFDFF zeros 0 18 7
    -- "the numbers and their order are those of loading": 17 before 18
    ∷ starts (0xFF ∷ 0xFF ∷ 0x12 ∷ 0x34 ∷ 0x56 ∷ 0x78 ∷ 0x9A ∷ []) true 0xFDFF zeros 0 17 7
    ∷ []

-- The row with this answer.
abbrev pub with_answer : Starting → Example → Example
with_answer s (starts file user userStack machine words refusal last) =
    starts file user userStack s.machine s.words s.refusal (get_or s.memory 0xFFFF 0)

-- The row with the answer that starting its file in a memory of sevens comes to.
abbrev pub answered : Example → Example
answered (starts file user userStack machine words refusal last) =
    with_answer (started_of file (replicate 65536 7) user userStack)
    (starts file user userStack machine words refusal last)

abbrev pub ExamplesHold : Type 0
ExamplesHold = map answered examples ≡ examples

-- ---- a candidate's file

-- A file; then what a start in User mode answers, and the words x2FFF, x3000, xFDFF and xFE00 of memory.
pub data UserExample : Type 0 where
  starts_user : List ℕ → Machine → ℕ → ℕ → List ℕ → UserExample

abbrev pub fresh_at : ℕ → Machine
fresh_at origin = record_with 0xFDFF origin 0x8002 0x3000 0 0x8000

abbrev pub sevens : List ℕ
sevens = 7 ∷ 7 ∷ 7 ∷ 7 ∷ []

abbrev pub user_examples : List UserExample
user_examples =
    -- the first word of User mode's, and the last
    starts_user (0x30 ∷ 0x00 ∷ 0xF0 ∷ 0x25 ∷ []) (fresh_at 0x3000) 1 0 (7 ∷ 0xF025 ∷ 7 ∷ 7 ∷ [])
    ∷ starts_user (0xFD ∷ 0xFF ∷ 0xF0 ∷ 0x25 ∷ []) (fresh_at 0xFDFF) 1 0 (7 ∷ 7 ∷ 0xF025 ∷ 7 ∷ [])
    -- the word before the first, and the word after the last
    ∷ starts_user (0x2F ∷ 0xFF ∷ 0xF0 ∷ 0x25 ∷ []) zeros 0 21 sevens
    ∷ starts_user (0xFE ∷ 0x00 ∷ 0xF0 ∷ 0x25 ∷ []) zeros 0 21 sevens
    -- a file that begins or ends inside, and does not lie inside
    ∷ starts_user (0x2F ∷ 0xFF ∷ 0xF0 ∷ 0x25 ∷ 0xF0 ∷ 0x25 ∷ []) zeros 0 21 sevens
    ∷ starts_user (0xFD ∷ 0xFF ∷ 0xF0 ∷ 0x25 ∷ 0xF0 ∷ 0x25 ∷ []) zeros 0 21 sevens
    -- without words: by the origin, which is PC
    ∷ starts_user (0x30 ∷ 0x00 ∷ []) (fresh_at 0x3000) 0 0 sevens
    ∷ starts_user (0xFD ∷ 0xFF ∷ []) (fresh_at 0xFDFF) 0 0 sevens
    ∷ starts_user (0x2F ∷ 0xFF ∷ []) zeros 0 21 sevens
    ∷ starts_user (0xFE ∷ 0x00 ∷ []) zeros 0 21 sevens
    -- 17 and 18 before 21
    ∷ starts_user (0x01 ∷ 0x02 ∷ 0xF0 ∷ []) zeros 0 17 sevens
    ∷ starts_user (0xFF ∷ 0xFF ∷ 0x12 ∷ 0x34 ∷ 0x56 ∷ 0x78 ∷ []) zeros 0 18 sevens
    ∷ []

-- The row with this answer.
abbrev pub with_user_answer : Starting → UserExample → UserExample
with_user_answer s (starts_user file machine words refusal borders) =
    starts_user file s.machine s.words s.refusal
    (map (λ a. get_or s.memory a 0) (0x2FFF ∷ 0x3000 ∷ 0xFDFF ∷ 0xFE00 ∷ []))

-- The row with the answer that starting its file in a memory of sevens comes to.
abbrev pub user_answered : UserExample → UserExample
user_answered (starts_user file machine words refusal borders) =
    with_user_answer (user_started_of file (replicate 65536 7) 0xFDFF) (starts_user file machine words refusal borders)

abbrev pub UserExamplesHold : Type 0
UserExamplesHold = map user_answered user_examples ≡ user_examples
