-- Files that are read and ranges that are written, at their limits: each rule of a refusal with a call that would be
-- answered otherwise without it.
use Rattle.std.specs.Prelude.{ℕ, ◌≡◌, Bool, true, ◌&&◌, List, [], ◌∷◌, eqb, get_or, replicate}
use Rattle.object.specs.Calls.{load_of, save_of}

pub data Example : Type 0 where
  -- a file; the origin, word count and refusal that reading it answers, and the last word of memory then
  reads : List ℕ → ℕ → ℕ → ℕ → ℕ → Example
  -- an origin, a word count and the length of the output; the byte count and refusal that writing answers
  writes : ℕ → ℕ → ℕ → ℕ → ℕ → Example

abbrev pub examples : List Example
examples =
    reads [] 0 0 17 0
    ∷ reads (0x30 ∷ []) 0 0 17 0
    ∷ reads (0x30 ∷ 0x00 ∷ []) 0x3000 0 0 0
    ∷ reads (0x30 ∷ 0x00 ∷ 0x12 ∷ []) 0 0 17 0
    ∷ reads (0xFF ∷ 0xFF ∷ []) 0xFFFF 0 0 0
    ∷ reads (0xFF ∷ 0xFF ∷ 0x12 ∷ 0x34 ∷ []) 0xFFFF 1 0 0x1234
    ∷ reads (0xFF ∷ 0xFF ∷ 0x12 ∷ 0x34 ∷ 0x56 ∷ 0x78 ∷ []) 0 0 18 0
    -- an odd length and too many words: 17 before 18
    ∷ reads (0xFF ∷ 0xFF ∷ 0x12 ∷ 0x34 ∷ 0x56 ∷ 0x78 ∷ 0x9A ∷ []) 0 0 17 0
    ∷ reads (0xFF ∷ 0xFE ∷ 0x12 ∷ 0x34 ∷ 0x56 ∷ 0x78 ∷ []) 0xFFFE 2 0 0x5678
    ∷ writes 0xFFFF 0 2 2 0
    ∷ writes 0xFFFF 1 4 4 0
    ∷ writes 0xFFFF 1 3 0 16
    ∷ writes 0xFFFF 2 6 0 18
    ∷ writes 0xFFFF 2 0 0 18
    ∷ writes 0x0000 65537 0 0 18
    ∷ writes 0x3000 0 1 0 16
    ∷ []

-- What an example says holds of a memory of zeros.
abbrev pub holds : Example → Bool
holds (reads file origin words refusal last) =
    eqb (load_of file (replicate 65536 0)).origin origin && eqb (load_of file (replicate 65536 0)).words words
    && eqb (load_of file (replicate 65536 0)).refusal refusal
    && eqb (get_or (load_of file (replicate 65536 0)).memory 0xFFFF 0) last
holds (writes origin count room bytes refusal) =
    eqb (save_of (replicate 65536 0) origin count (replicate room 0)).count bytes
    && eqb (save_of (replicate 65536 0) origin count (replicate room 0)).refusal refusal

abbrev pub all_hold : List Example → Bool
all_hold [] = true
all_hold (e ∷ rest) = holds e && all_hold rest

abbrev pub ExamplesHold : Type 0
ExamplesHold = all_hold examples ≡ true
