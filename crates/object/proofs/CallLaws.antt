-- The calls over plain lists. Accepted: the part of memory or output that is lent to a loop comes back in its place.
-- Turned away: all stays as it is.
use Prim.Native.Nat.{ℕ, zero, suc, ◌+◌, ◌-◌, ◌*◌, ◌/◌, ◌%◌}
use native.Mathlib.Omega.{arith}
use mathlib.Core.Path.{◌≡◌, refl, ap, ◌∙◌}
use mathlib.Core.List.{List, ◌∷◌, ◌++◌}
use lib.ListN.{length, take, drop, length-drop}
use lib.Seq.{take_all, drop-drop}
use Rattle.std.specs.Prelude.{Err}
use Rattle.lent.specs.declared.Refusal.{Refusal}
use Rattle.lent.specs.declared.Refusal.TheVariants.{MemorySize, NoRoom, BrokenFile, PastMemory}
use Rattle.lent.specs.declared.Refusal.TheVariants.{RangePastMemory, OutsideUserWords}
use Rattle.lent.specs.Lent.{Written, written_by, refusal_number, counted}
use Rattle.object.specs.File.{bytes_of, words_of, origin_in, words_in, range}
use Rattle.object.specs.Calls.{Loading, load_refusal, load_accepted, load_by, load_of, loading}
use Rattle.object.specs.Calls.{save_refusal, save_accepted, save_of}
use Rattle.object.specs.Accepted.{Writable}
use Rattle.object.proofs.Acceptance.{words_in_lem, file_length}

-- The words of a file, read into the part of memory that begins at its origin.
module _ (file memory part : List ℕ) (origin : ℕ) (o : origin ≡ origin_in file)
    (p : part ≡ words_of (take (length file - 2) (drop 2 file))) where
  pub words_in_place :
      ◌≡◌ {A = Loading}
      (record {
        origin = origin;
        words = length file / 2 - 1;
        refusal = 0;
        memory = take origin memory ++ (part ++ drop (origin + (length file / 2 - 1) - origin) (drop origin memory));
      })
      (load_accepted file memory)
  unfolding load_accepted
  words_in_place =
      let n : origin + (length file / 2 - 1) - origin ≡ length file / 2 - 1 = omega arith in
      let w : part ≡ words_in file =
      (p ∙ ap words_of (take_all (length file - 2) (drop 2 file) (simp length-drop (omega arith)))) in
      rw (n, drop-drop, ← words_in_lem file, w, o)

-- A file, whose origin is written first and whose words follow.
module _ (memory output part : List ℕ) (origin count : ℕ) (a : Writable memory origin count output)
    (p : part ≡ bytes_of (take (origin + count - origin) (drop origin memory)))
  where
    pub file_in_place :
        ◌≡◌ {A = Written}
        (record {
          count = 2 + 2 * count;
          refusal = 0;
          output = take 2 (origin / 256 ∷ origin % 256 ∷ drop 2 output)
              ++ (part ++ drop (2 + 2 * count - 2) (drop 2 (origin / 256 ∷ origin % 256 ∷ drop 2 output)));
        })
        (save_accepted memory origin count output)
    unfolding save_accepted bytes_of
    file_in_place =
        let n : origin + count - origin ≡ count = omega arith in
        let m : 2 + 2 * count - 2 ≡ 2 * count = omega arith in
        let w : part ≡ bytes_of (range origin count memory) = (rw n at p) in
        rw (
          m,
          drop-drop (2 * count) 2 output,
          w,
          ← file_length origin count memory
              (omega (arith, a.size, a.fits)),
        )

pub loading_turned_away : (n : ℕ) (file memory : List ℕ) → (n ≡ 0 → ⊥) →
    ◌≡◌ {A = Loading} (record { origin = 0; words = 0; refusal = n; memory = memory }) (load_by n file memory)
unfolding load_by
loading_turned_away zero file memory h = absurd (h refl)
loading_turned_away (suc n) file memory h = refl

pub writing_turned_away : (n : ℕ) (words output : List ℕ) → (n ≡ 0 → ⊥) →
    ◌≡◌ {A = Written} (record { count = 0; refusal = n; output = output }) (written_by n words output)
writing_turned_away zero words output h = absurd (h refl)
writing_turned_away (suc n) words output h = refl

-- The number of a refusal is never 0, by which a call is accepted.
pub not_zero : (r : Refusal) → refusal_number r ≡ 0 → ⊥
not_zero MemorySize h = omega arith
not_zero NoRoom h = omega arith
not_zero BrokenFile h = omega arith
not_zero PastMemory h = omega arith
not_zero RangePastMemory h = omega arith
not_zero OutsideUserWords h = omega arith

pub loading_refused : (r : Refusal) (file memory : List ℕ) → refusal_number r ≡ load_refusal file memory
    → loading (Err r) memory ≡ load_of file memory
unfolding load_of
loading_refused r file memory e = rw (← e) (loading_turned_away (refusal_number r) file memory (not_zero r))

pub writing_refused : (r : Refusal) (memory : List ℕ) (origin count : ℕ) (output : List ℕ)
    → refusal_number r ≡ save_refusal memory origin count output
    → counted (Err r) output ≡ save_of memory origin count output
unfolding save_of
writing_refused r memory origin count output e =
    rw (← e) (writing_turned_away (refusal_number r) _ output (not_zero r))
