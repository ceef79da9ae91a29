-- The two round trips: two bytes of a word make the word again, and the two bytes of a word are those it was made of.
use Prim.Native.Nat.{ℕ, ◌+◌, ◌-◌, ◌*◌, ◌/◌, ◌%◌, ◌≤◌, ◌<◌}
use native.Mathlib.Nat.{div-add-mod'}
use native.Mathlib.Omega.{arith}
use mathlib.Core.Path.{◌≡◌, refl, ap, ap₂, ◌∙◌}
use mathlib.Core.Bool.{Bool, true, false, ◌&&◌}
use mathlib.Core.List.{List, [], ◌∷◌}
use lib.Dec.{ltb}
use lib.ListN.{length, length-drop, length-take}
use lib.Seq.{take-append_seam}
use lib.Pow.{are_bytes}
use borrow.Author.Tests.{ltb-true}
use Rattle.lent.specs.Lent.{written}
use Rattle.object.specs.File.{word, words_of, bytes_of, file_of, origin_in, words_in, range, placed}
use Rattle.object.specs.Calls.{load_accepted, load_of, save_accepted}
use Rattle.object.specs.Accepted.{Readable, Writable}
use Rattle.object.specs.RoundTrip.{Reproduced, SavedFileLoads, LoadedFileSaves}
use Rattle.object.proofs.Acceptance.{words_in_lem, file_length, loaded_is_readable, readable_is_loaded}
use Rattle.object.proofs.Acceptance.{saved_is_writable, writable_is_saved}
use Rattle.object.proofs.PlacedLaws.{placed_before, placed_range, placed_after, placed_length}

word_again : (w : ℕ) → word (w / 256) (w % 256) ≡ w
word_again w = div-add-mod' w 256

words_again : (words : List ℕ) → words_of (bytes_of words) ≡ words
unfolding words_of bytes_of
words_again [] = refl
words_again (w ∷ words) = ap₂ (λ (x : ℕ) (xs : List ℕ). x ∷ xs) (word_again w) (words_again words)

both : (a b : Bool) → (a && b) ≡ true → (a ≡ true) × (b ≡ true)
both true b h = (refl, h)
both false b h = absurd (let z : ◌≡◌ {A = ℕ} 0 1 = cc in omega arith)

bytes_again : (bytes : List ℕ) → are_bytes bytes ≡ true → length bytes % 2 ≡ 0 → bytes_of (words_of bytes) ≡ bytes
unfolding words_of bytes_of
bytes_again [] t h = refl
bytes_again (byte ∷ []) t h = absurd (omega arith)
bytes_again (high ∷ low ∷ bytes) t h =
    let t₁ = both (ltb high 256) (ltb low 256 && are_bytes bytes) t in
    let t₂ = both (ltb low 256) (are_bytes bytes) t₁.1 in
    let l : low < 256 = ltb-true low 256 t₂.0 in
    let q : (high * 256 + low) / 256 ≡ high = omega arith in
    let r : (high * 256 + low) % 256 ≡ low = omega arith in
    rw (q, r, bytes_again bytes t₂.1 (omega arith))

file_again : (file : List ℕ) → are_bytes file ≡ true → length file % 2 ≡ 0 → 2 ≤ length file
    → file_of (origin_in file) (words_in file) ≡ file
unfolding words_of bytes_of
file_again [] t e h = absurd (omega arith)
file_again (byte ∷ []) t e h = absurd (omega arith)
file_again (high ∷ low ∷ bytes) t e h = bytes_again (high ∷ low ∷ bytes) t e

-- The file of a range is accepted, and its words are placed at its origin.
module _ (memory : List ℕ) (origin count : ℕ) (other : List ℕ) (s : length memory ≡ 65536) (f : origin + count ≤ 65536)
    (o : length other ≡ 65536) where
  range_length : length (range origin count memory) ≡ count
  range_length = simp (length-take, length-drop) (omega arith)

  origin_again : origin_in (file_of origin (range origin count memory)) ≡ origin
  unfolding bytes_of
  origin_again = word_again origin

  range_again : words_in (file_of origin (range origin count memory)) ≡ range origin count memory
  unfolding bytes_of
  range_again = words_again (range origin count memory)

  file_of_range_loads : Reproduced origin count memory other
      (load_of (file_of origin (range origin count memory)) other)
  unfolding load_accepted
  file_of_range_loads =
      let l : length (file_of origin (range origin count memory))
      ≡ 2 + 2 * count = file_length origin count memory (omega arith) in
      let r : Readable (file_of origin (range origin count memory)) other = (record {
        size = o;
        even = rw l (omega arith);
        least = rw l (omega arith);
        fits = rw (l, origin_again) (omega arith);
      }) in
      let fits : origin + length (range origin count memory) ≤ length other = rw range_length (omega arith) in
      rw (readable_is_loaded (file_of origin (range origin count memory)) other r, origin_again, range_again)
      (record {
        accepted = refl;
        at_origin = refl;
        all_words = range_length;
        range_there = rw range_length (rw range_length at (placed_range origin (range origin count memory) other fits));
        before_range = placed_before origin (range origin count memory) other fits;
        after_range = rw range_length (rw range_length at (placed_after origin (range origin count memory) other fits));
      })

pub saved_file_loads : SavedFileLoads
unfolding save_accepted
saved_file_loads memory origin count output other h o =
    let w = saved_is_writable memory origin count output h in
    rw (writable_is_saved memory origin count output w, take-append_seam)
    (file_of_range_loads memory origin count other w.size w.fits o)

pub loaded_file_saves : LoadedFileSaves
unfolding load_accepted save_accepted
loaded_file_saves file memory output t h room =
    let r = loaded_is_readable file memory h in
    let n : length (words_in file) ≡ length file / 2 - 1 = words_in_lem file in
    let fits : origin_in file + length (words_in file) ≤ length memory = omega (arith, r.size, r.fits) in
    let w : Writable (placed (origin_in file) (words_in file) memory) (origin_in file) (length (words_in file)) output =
    (record {
      size = placed_length (origin_in file) (words_in file) memory fits ∙ r.size;
      fits = omega (arith, r.size);
      room = omega (arith, r.even, r.least);
    }) in
    rw (
      readable_is_loaded file memory r,
      writable_is_saved (placed (origin_in file) (words_in file) memory)
          (origin_in file) (length (words_in file)) output w,
    )
    (ap (λ (f : List ℕ). written f output)
    (ap (file_of (origin_in file)) (placed_range (origin_in file) (words_in file) memory fits)
    ∙ file_again file t r.even r.least))
