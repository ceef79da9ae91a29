-- Which calls are accepted: what holds of a call that no test refuses, and the other way round; and what an accepted
-- call is.
use Prim.Native.Nat.{ℕ, zero, suc, ◌+◌, ◌-◌, ◌*◌, ◌/◌, ◌%◌, ◌≤◌}
use native.Mathlib.Omega.{arith}
use mathlib.Core.Path.{◌≡◌, refl, ◌∙◌}
use mathlib.Core.Bool.{Bool, true, false, cond, ◌||◌, not}
use mathlib.Core.List.{List}
use lib.Dec.{ltb, eqb}
use lib.ListN.{length, drop, length-drop, length-take}
use borrow.Author.Tests.{ltb-false, eqb-true, not-false, le-ltb, eq-eqb}
use Rattle.lent.specs.Lent.{written_by}
use Rattle.object.specs.File.{file_of, origin_in, words_in, range}
use Rattle.object.specs.Calls.{wrong_size, wrong_length, beyond_memory, too_short, load_refusal, load_accepted, load_by}
use Rattle.object.specs.Calls.{load_of, save_refusal, save_accepted, save_of}
use Rattle.object.specs.Accepted.{Readable, Writable}
use Rattle.object.proofs.WordLaws.{length_of_words, length_of_bytes}

test_passed : (b : Bool) (n a : ℕ) → cond b (suc n) a ≡ 0 → (b ≡ false) × (a ≡ 0)
test_passed true n a h = absurd (omega arith)
test_passed false n a h = (refl, h)

neither : (a b : Bool) → (a || b) ≡ false → (a ≡ false) × (b ≡ false)
neither true b h = absurd (let z : ◌≡◌ {A = ℕ} 0 1 = cc in omega arith)
neither false b h = (refl, h)

pub words_in_lem : (file : List ℕ) → length (words_in file) ≡ length file / 2 - 1
words_in_lem file = length_of_words (drop 2 file) ∙ rw (length-drop 2 file) (omega arith)

pub file_length : (origin count : ℕ) (memory : List ℕ) → origin + count ≤ length memory
    → length (file_of origin (range origin count memory)) ≡ 2 + 2 * count
file_length origin count memory h = simp (length_of_bytes, length-take, length-drop) (omega arith)

pub accepted_is_readable : (file memory : List ℕ) → load_refusal file memory ≡ 0 → Readable file memory
unfolding load_refusal wrong_size wrong_length beyond_memory
accepted_is_readable file memory h =
    let t₁ = test_passed (wrong_size memory) 10 _ h in
    let t₂ = test_passed (wrong_length file) 16 _ t₁.1 in
    let t₃ = test_passed (beyond_memory (origin_in file) (length (words_in file))) 17 _ t₂.1 in
    let n = neither (not (eqb (length file % 2) 0)) (ltb (length file) 2) t₂.0 in
    record {
      size = eqb-true _ _ (not-false _ t₁.0);
      even = eqb-true _ _ (not-false _ n.0);
      least = ltb-false _ _ n.1;
      fits = rw (words_in_lem file) at (ltb-false 65536 (origin_in file + length (words_in file)) t₃.0);
    }

pub readable_is_accepted : (file memory : List ℕ) → Readable file memory → load_refusal file memory ≡ 0
unfolding load_refusal wrong_size wrong_length beyond_memory
readable_is_accepted file memory a =
    rw (eq-eqb (length memory) 65536 a.size, eq-eqb (length file % 2) 0 a.even, le-ltb (length file) 2 a.least)
    (rw (words_in_lem, le-ltb 65536 (origin_in file + (length file / 2 - 1)) a.fits))

pub accepted_is_writable : (memory : List ℕ) (origin count : ℕ) (output : List ℕ)
    → save_refusal memory origin count output ≡ 0 → Writable memory origin count output
unfolding save_refusal wrong_size beyond_memory too_short
accepted_is_writable memory origin count output h =
    let t₁ = test_passed (wrong_size memory) 10 _ h in
    let t₂ = test_passed (beyond_memory origin count) 17 _ t₁.1 in
    let t₃ = test_passed (too_short output (file_of origin (range origin count memory))) 15 _ t₂.1 in
    let size : length memory ≡ 65536 = eqb-true _ _ (not-false _ t₁.0) in
    let fits : origin + count ≤ 65536 = ltb-false 65536 (origin + count) t₂.0 in
    record {
      size = size;
      fits = fits;
      room = rw (file_length origin count memory (omega arith)) at (ltb-false (length output) _ t₃.0);
    }

pub writable_is_accepted : (memory : List ℕ) (origin count : ℕ) (output : List ℕ)
    → Writable memory origin count output → save_refusal memory origin count output ≡ 0
unfolding save_refusal wrong_size beyond_memory too_short
writable_is_accepted memory origin count output a =
    rw (
      eq-eqb (length memory) 65536 a.size,
      le-ltb 65536 (origin + count) a.fits,
      file_length origin count memory
          (omega (arith, a.size, a.fits)),
    )
    (rw (le-ltb (length output) (2 + 2 * count) a.room))

-- The answered refusal is 0 exactly where no test refuses.
load_refusal_answered : (n : ℕ) (file memory : List ℕ) → (load_by n file memory).refusal ≡ 0 → n ≡ 0
unfolding load_by
load_refusal_answered zero file memory h = refl
load_refusal_answered (suc n) file memory h = h

save_refusal_answered : (n : ℕ) (words output : List ℕ) → (written_by n words output).refusal ≡ 0 → n ≡ 0
save_refusal_answered zero words output h = refl
save_refusal_answered (suc n) words output h = h

pub loaded_is_readable : (file memory : List ℕ) → (load_of file memory).refusal ≡ 0 → Readable file memory
unfolding load_of
loaded_is_readable file memory h = accepted_is_readable file memory
    (load_refusal_answered (load_refusal file memory) file memory h)

pub readable_is_loaded : (file memory : List ℕ) → Readable file memory → load_of file memory ≡ load_accepted file memory
unfolding load_of load_by
readable_is_loaded file memory r = rw (readable_is_accepted file memory r)

pub saved_is_writable : (memory : List ℕ) (origin count : ℕ) (output : List ℕ)
    → (save_of memory origin count output).refusal ≡ 0 → Writable memory origin count output
unfolding save_of
saved_is_writable memory origin count output h =
    accepted_is_writable memory origin count output
    (save_refusal_answered (save_refusal memory origin count output) _ output h)

pub writable_is_saved : (memory : List ℕ) (origin count : ℕ) (output : List ℕ)
    → Writable memory origin count output → save_of memory origin count output
    ≡ save_accepted memory origin count output
unfolding save_of save_accepted
writable_is_saved memory origin count output w = rw (writable_is_accepted memory origin count output w)
