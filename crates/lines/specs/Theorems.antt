-- What is proved of pages. Each statement is a type; its proof, of the same name in small letters, is in proofs/.
use Rattle.std.specs.Prelude.{ℕ, ◌+◌, ◌<◌, ◌≤◌, ◌≡◌, List, ◌++◌, length, get_or}
use Rattle.lent.specs.Lent.{written_whole}
use Rattle.line.specs.Line.{line_of}
use Rattle.lines.specs.Page.{page_text, page_of}

-- A page of a + b lines is the page of a and then the page of b.
abbrev pub PageSplits : Type 0
PageSplits =
    (memory : List ℕ) (first a b : ℕ)
    → page_text memory first (a + b) ≡ page_text memory first a ++ page_text memory (first + a) b

-- A page of one line is the line: the same answer and the same output.
abbrev pub PageOfOne : Type 0
PageOfOne =
    (memory : List ℕ) (first : ℕ) (output : List ℕ) → length memory ≡ 65536 → first < 65536
    → page_of memory first 1 output ≡ written_whole (line_of (get_or memory first 0)) output

-- A page of no lines is accepted, with count 0 and nothing written.
abbrev pub PageOfNone : Type 0
PageOfNone =
    (memory : List ℕ) (first : ℕ) (output : List ℕ) → length memory ≡ 65536 → first ≤ 65536
    → page_of memory first 0 output ≡ record { count = 0; refusal = 0; output = output }
