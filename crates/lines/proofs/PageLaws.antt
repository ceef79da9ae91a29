-- The lines of two lists of words are joined, so a page splits anywhere; and pages of one line and of none.
use Prim.Native.Nat.{ℕ, suc, zero-le, ◌+◌, ◌*◌, ◌≤◌, ◌<◌}
use native.Mathlib.Omega.{arith}
use mathlib.Core.Path.{◌≡◌, refl, sym, ap, ◌∙◌}
use mathlib.Core.Bool.{Bool, true, false, cond}
use mathlib.Core.List.{List, [], ◌∷◌, ◌++◌, append-nil, append_assoc}
use lib.Dec.{ltb}
use lib.ListN.{length, get_or, take, drop, length-append, take-append-drop}
use lib.Seq.{take-add, take-suc, drop-drop, drop-cons}
use borrow.Author.Tests.{eq-eqb, le-ltb}
use Rattle.std.specs.Prelude.{Result, Ok, Err}
use Rattle.lent.specs.declared.Refusal.{Refusal}
use Rattle.lent.specs.declared.Refusal.TheVariants.{MemorySize, RangePastMemory}
use Rattle.lent.specs.Lent.{wrong_size, too_short, written_by, written_whole, counted}
use Rattle.std.specs.List.{sum_by}
use Rattle.std.proofs.lemmas.List.Recursion.{is_sum_by}
use Rattle.line.specs.Line.{line_of}
use Rattle.line.proofs.LongestLine.{longest_line}
use Rattle.lines.specs.Page.{lines_of, range_of, page_text, page_of}
use Rattle.lines.specs.Theorems.{PageSplits, PageOfOne, PageOfNone}

pub lines_append : (a b : List ℕ) → lines_of (a ++ b) ≡ lines_of a ++ lines_of b
unfolding lines_of
lines_append [] b = refl
lines_append (w ∷ a) b =
    ap (λ (l : List ℕ). line_of w ++ l) (lines_append a b) ∙ sym (append_assoc (line_of w) (lines_of a) (lines_of b))

pub no_lines : lines_of [] ≡ []
unfolding lines_of
no_lines = refl

pub one_line : (w : ℕ) → lines_of (w ∷ []) ≡ line_of w
unfolding lines_of
one_line w = append-nil (line_of w)

-- one word more
pub line_more : (words : List ℕ) (k : ℕ) → k < length words
    → lines_of (take (suc k) words) ≡ lines_of (take k words) ++ line_of (get_or words k 0)
line_more words k p =
    ap lines_of (take-suc words k 0 p)
    ∙ (lines_append (take k words) (get_or words k 0 ∷ [])
    ∙ ap (λ (l : List ℕ). lines_of (take k words) ++ l) (one_line (get_or words k 0)))

pub lines_within : (words : List ℕ) (k : ℕ) → length (lines_of (take k words)) ≤ length (lines_of words)
lines_within words k =
    let whole = ap (λ (l : List ℕ). length (lines_of l)) (take-append-drop k words) in
    let parts = ap length (lines_append (take k words) (drop k words)) in
    omega (arith, length-append (lines_of (take k words)) (lines_of (drop k words)))

-- the length of all lines is the sum of their lengths, and each has at most 17 bytes
pub lengths_added : (words : List ℕ) → sum_by (λ w. length (line_of w)) words ≡ length (lines_of words)
unfolding lines_of
lengths_added words =
    sym (is_sum_by (λ l. length (lines_of l)) (λ w. length (line_of w)) refl
    (λ w l. length-append (line_of w) (lines_of l)) words)

pub short_lines : (words : List ℕ) → ((i : ℕ) → get_or words i 0 < 65536)
    → length (lines_of words) ≤ 17 * length words
unfolding lines_of
short_lines [] fits = zero-le
short_lines (w ∷ words) fits =
    omega (
      arith,
      longest_line w (fits 0),
      short_lines words (λ i. fits (suc i)),
      length-append (line_of w) (lines_of words),
    )

pub page_splits : PageSplits
page_splits memory first a b =
    ap lines_of (take-add a b (drop first memory))
    ∙ (lines_append (take a (drop first memory)) (take b (drop a (drop first memory)))
    ∙ ap (λ (l : List ℕ). page_text memory first a ++ lines_of (take b l)) (drop-drop a first memory))

-- ---- the call, by what is tested
module _ (memory : List ℕ) (first count : ℕ) (output : List ℕ) (size : length memory ≡ 65536) where
  pub in_memory : first + count ≤ 65536
      → page_of memory first count output ≡ written_whole (page_text memory first count) output
  unfolding page_of wrong_size
  in_memory p = rw (eq-eqb (length memory) 65536 size, le-ltb 65536 (first + count) p)

-- ---- the call, by what its range is
refusals : (s t u : Bool) (words text output : List ℕ) (r : Refusal)
    → cond s (Err MemorySize) (cond t (Err RangePastMemory) (Ok words)) ≡ Err r
    → counted (Err r) output ≡ written_by (cond s 11 (cond t 20 (cond u 16 0))) text output
refusals true t u words text output r e = let same : r ≡ MemorySize = cc in rw same refl
refusals false true u words text output r e = let same : r ≡ RangePastMemory = cc in rw same refl
refusals false false u words text output r e = cc

pub refused : (memory : List ℕ) (first count : ℕ) (output : List ℕ) (r : Refusal) → range_of memory first count ≡ Err r
    → counted (Err r) output ≡ page_of memory first count output
unfolding page_of
refused memory first count output r e =
    refusals (wrong_size memory) (ltb 65536 (first + count)) _ (take count (drop first memory)) _ output r e

acceptance : (s t : Bool) (words found output : List ℕ)
    → cond {A = Result (List ℕ) Refusal} s (Err MemorySize) (cond t (Err RangePastMemory) (Ok words)) ≡ Ok found
    → written_by (cond s 11 (cond t 20 (cond (too_short output (lines_of words)) 16 0))) (lines_of words) output
    ≡ written_whole (lines_of found) output
acceptance true t words found output e = cc
acceptance false true words found output e = cc
acceptance false false words found output e = let same : words ≡ found = cc in rw same refl

pub accepted : (memory : List ℕ) (first count : ℕ) (output words : List ℕ) → range_of memory first count ≡ Ok words
    → page_of memory first count output ≡ written_whole (lines_of words) output
unfolding page_of
accepted memory first count output words e =
    acceptance (wrong_size memory) (ltb 65536 (first + count)) (take count (drop first memory)) words output e

pub page_of_one : PageOfOne
page_of_one memory first output size p =
    let one : page_text memory first 1 ≡ line_of (get_or memory first 0) =
    ap (λ (l : List ℕ). lines_of (take 1 l)) (drop-cons memory first 0 (omega arith))
    ∙ one_line (get_or memory first 0) in
    in_memory memory first 1 output size (omega arith) ∙ ap (λ (l : List ℕ). written_whole l output) one

pub page_of_none : PageOfNone
unfolding lines_of too_short
page_of_none memory first output size p =
    in_memory memory first 0 output size (omega arith) ∙ rw (le-ltb (length output) 0 zero-le)
