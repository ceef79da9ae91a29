-- What a file that is loaded does to each word of memory: a word of its range is the file's, every other one stays.
use Prim.Native.Nat.{ℕ, zero, suc, ◌+◌, ◌-◌, ◌≤◌, ◌<◌}
use native.Mathlib.Omega.{arith}
use mathlib.Core.Path.{◌≡◌, refl, sym, ap, ◌∙◌}
use mathlib.Core.Bool.{Bool, true, false}
use mathlib.Core.List.{List}
use borrow.Author.Tests.{ltb-true, ltb-false}
use lib.Dec.{ltb}
use lib.ListN.{length, get_or, drop}
use lib.Seq.{get_or-take, get_or-drop}
use Rattle.object.specs.File.{origin_in, words_in, placed}
use Rattle.object.specs.Calls.{load_refusal, load_accepted, load_of}
use Rattle.object.specs.Accepted.{Readable}
use Rattle.object.proofs.Acceptance.{words_in_lem, accepted_is_readable, readable_is_loaded}
use Rattle.object.proofs.PlacedLaws.{placed_before, placed_range, placed_after, placed_length}
use Rattle.object.proofs.RefusedCalls.{refused_load_touches_nothing}

-- An address is before a range, in it, or after it.
pub data Place (origin count a : ℕ) : Type 0 where
  before : a < origin → Place origin count a
  within : origin ≤ a → a < origin + count → Place origin count a
  after : origin + count ≤ a → Place origin count a

pub place : (origin count a : ℕ) → Place origin count a
place origin count a = go (ltb a origin) refl (ltb a (origin + count)) refl
  where
    go : (x : Bool) → ltb a origin ≡ x → (y : Bool) → ltb a (origin + count) ≡ y → Place origin count a
    go true e y f = before (ltb-true a origin e)
    go false e true f = within (ltb-false a origin e) (ltb-true a (origin + count) f)
    go false e false f = after (ltb-false a (origin + count) f)

module _ (origin : ℕ) (words memory : List ℕ) (h : origin + length words ≤ length memory) (a : ℕ) where
  word_before : a < origin → get_or (placed origin words memory) a 0 ≡ get_or memory a 0
  word_before l =
      sym (get_or-take origin (placed origin words memory) a 0 l)
      ∙ ap (λ (t : List ℕ). get_or t a 0) (placed_before origin words memory h) ∙ get_or-take origin memory a 0 l

  word_within : origin ≤ a → a < origin + length words
      → get_or (placed origin words memory) a 0 ≡ get_or words (a - origin) 0
  word_within l u =
      let i : ℕ = a - origin in
      let e : origin + i ≡ a = omega arith in
      ap (λ (k : ℕ). get_or (placed origin words memory) k 0) (sym e)
      ∙ sym (get_or-drop origin (placed origin words memory) i 0)
      ∙ sym (get_or-take (length words) (drop origin (placed origin words memory)) i 0 (omega arith))
      ∙ ap (λ (t : List ℕ). get_or t i 0) (placed_range origin words memory h)

  word_after : origin + length words ≤ a → get_or (placed origin words memory) a 0 ≡ get_or memory a 0
  word_after l =
      let k : ℕ = origin + length words in
      let e : k + (a - k) ≡ a = omega arith in
      ap (λ (j : ℕ). get_or (placed origin words memory) j 0) (sym e)
      ∙ sym (get_or-drop k (placed origin words memory) (a - k) 0)
      ∙ ap (λ (t : List ℕ). get_or t (a - k) 0) (placed_after origin words memory h)
      ∙ get_or-drop k memory (a - k) 0 ∙ ap (λ (j : ℕ). get_or memory j 0) e

-- ---- loading

-- It is refused, and memory stays; or the file's words are in their place.
data Load (file memory : List ℕ) : Type 0 where
  refused : (load_refusal file memory ≡ 0 → ⊥) → (load_of file memory).memory ≡ memory → Load file memory
  loaded : origin_in file + length (words_in file) ≤ length memory
      → (load_of file memory).memory ≡ placed (origin_in file) (words_in file) memory → Load file memory

load : (file memory : List ℕ) → Load file memory
unfolding load_accepted
load file memory = go (load_refusal file memory) refl
  where
    go : (n : ℕ) → load_refusal file memory ≡ n → Load file memory
    go zero e =
        let r : Readable file memory = accepted_is_readable file memory e in
        loaded (omega (arith, words_in_lem file, r.fits, r.size)) (rw (readable_is_loaded file memory r))
    go (suc n) e =
        let h : load_refusal file memory ≡ 0 → ⊥ = λ z. omega (arith, e, z) in
        refused h (rw (refused_load_touches_nothing file memory h))

pub loaded_length : (file memory : List ℕ) → length (load_of file memory).memory ≡ length memory
loaded_length file memory = go (load file memory)
  where
    go : Load file memory → length (load_of file memory).memory ≡ length memory
    go (refused r e) = rw e
    go (loaded h e) = rw e (placed_length (origin_in file) (words_in file) memory h)

pub loaded_within : (file memory : List ℕ) (a : ℕ) → load_refusal file memory ≡ 0
    → origin_in file ≤ a → a < origin_in file + length (words_in file)
    → get_or (load_of file memory).memory a 0 ≡ get_or (words_in file) (a - origin_in file) 0
loaded_within file memory a accepted l u = go (load file memory)
  where
    go : Load file memory → get_or (load_of file memory).memory a 0 ≡ get_or (words_in file) (a - origin_in file) 0
    go (refused r e) = absurd (r accepted)
    go (loaded h e) = rw e (word_within (origin_in file) (words_in file) memory h a l u)

pub loaded_elsewhere : (file memory : List ℕ) (a : ℕ)
    → (origin_in file ≤ a → a < origin_in file + length (words_in file) → ⊥)
    → get_or (load_of file memory).memory a 0 ≡ get_or memory a 0
loaded_elsewhere file memory a out = go (load file memory) (place (origin_in file) (length (words_in file)) a)
  where
    go : Load file memory → Place (origin_in file) (length (words_in file)) a
        → get_or (load_of file memory).memory a 0 ≡ get_or memory a 0
    go (refused r e) p = rw e
    go (loaded h e) (before l) = rw e (word_before (origin_in file) (words_in file) memory h a l)
    go (loaded h e) (within l u) = absurd (out l u)
    go (loaded h e) (after l) = rw e (word_after (origin_in file) (words_in file) memory h a l)
