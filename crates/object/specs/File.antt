-- The object file: "origin, then words, high byte first in each".
use Rattle.std.specs.Prelude.{ℕ, ◌+◌, ◌*◌, ◌/◌, ◌%◌, List, [], ◌∷◌, ◌++◌, length, get_or, take, drop}

abbrev pub word : ℕ → ℕ → ℕ
word high low = high * 256 + low

-- A word from each two bytes.
unfoldable pub words_of : List ℕ → List ℕ
words_of [] = []
words_of (byte ∷ []) = []
words_of (high ∷ low ∷ bytes) = word high low ∷ words_of bytes

-- Each word as two bytes.
unfoldable pub bytes_of : List ℕ → List ℕ
bytes_of [] = []
bytes_of (w ∷ words) = w / 256 ∷ w % 256 ∷ bytes_of words

abbrev pub file_of : ℕ → List ℕ → List ℕ
file_of origin words = bytes_of (origin ∷ words)

-- The origin of a file, and the words that follow it.
abbrev pub origin_in : List ℕ → ℕ
origin_in file = word (get_or file 0 0) (get_or file 1 0)

abbrev pub words_in : List ℕ → List ℕ
words_in file = words_of (drop 2 file)

-- A range of memory, and memory with words in place of a range. "Only the words in the file's range may change."
abbrev pub range : ℕ → ℕ → List ℕ → List ℕ
range origin count memory = take count (drop origin memory)

abbrev pub placed : ℕ → List ℕ → List ℕ → List ℕ
placed origin words memory = take origin memory ++ (words ++ drop (origin + length words) memory)
