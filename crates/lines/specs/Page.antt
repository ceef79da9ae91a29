-- A whole page of lines (M19): "what asking for the lines singly and joining them gives".
use Rattle.std.specs.Prelude.{ℕ, ◌+◌, cond, Result, Ok, Err, List, [], ◌∷◌, ◌++◌, ltb, take, drop}
use Rattle.lent.specs.declared.Refusal.{Refusal}
use Rattle.lent.specs.declared.Refusal.TheVariants.{MemorySize, RangePastMemory}
use Rattle.lent.specs.Lent.{wrong_size, too_short, Written, written_by}
use Rattle.line.specs.Line.{line_of}

-- the lines of words, one after the other
unfoldable pub lines_of : List ℕ → List ℕ
lines_of [] = []
lines_of (w ∷ words) = line_of w ++ lines_of words

-- the words of a range of memory, or why it is refused
abbrev pub range_of : List ℕ → ℕ → ℕ → Result (List ℕ) Refusal
range_of memory first count =
    cond (wrong_size memory) (Err MemorySize)
    (cond (ltb 65536 (first + count)) (Err RangePastMemory) (Ok (take count (drop first memory))))

-- the lines of the given number of words from the first address on
abbrev pub page_text : List ℕ → ℕ → ℕ → List ℕ
page_text memory first count = lines_of (take count (drop first memory))

-- "Turned away, after 11: 20, first address plus count above 65,536; then 16 if the whole page doesn't fit"
unfoldable pub page_of : List ℕ → ℕ → ℕ → List ℕ → Written
page_of memory first count output =
    written_by
    (cond (wrong_size memory) 11
    (cond (ltb 65536 (first + count)) 20
    (cond (too_short output (page_text memory first count)) 16 0)))
    (page_text memory first count) output
