-- The limits of files and ranges, by the conditions of acceptance.
use Prim.Native.Nat.{◌+◌, ◌%◌}
use native.Mathlib.Nat.{add-zero}
use native.Mathlib.Omega.{arith}
use mathlib.Core.Path.{refl, ap}
use mathlib.Core.List.{[], ◌∷◌}
use lib.ListN.{length, take-append-drop}
use borrow.Author.Tests.{eq-eqb, ne_eqb, lt-ltb, le-ltb}
use Rattle.lent.specs.Lent.{Written}
use Rattle.object.specs.File.{word, words_of, bytes_of, origin_in, words_in}
use Rattle.object.specs.Calls.{wrong_size, wrong_length, beyond_memory, load_refusal, save_refusal, Loading}
use Rattle.object.specs.Calls.{load_accepted, load_by, load_of, save_accepted, save_of}
use Rattle.object.specs.Edges.{FileWithoutWords, RangeWithoutWords, RangeToTheEnd, FileToTheEnd}
use Rattle.object.specs.Edges.{WrongSizeFirst}
use Rattle.object.proofs.Acceptance.{words_in_lem, readable_is_loaded, writable_is_saved}

pub file_without_words : FileWithoutWords
unfolding load_accepted words_of
file_without_words high low memory h l size =
    rw (
      readable_is_loaded (high ∷ low ∷ []) memory
          (record { size = size; even = refl; least = omega arith; fits = omega arith }),
      add-zero (word high low),
      take-append-drop (word high low) memory,
    )

pub range_without_words : RangeWithoutWords
unfolding save_accepted bytes_of
range_without_words memory origin output size h room =
    rw (writable_is_saved memory origin 0 output (record { size = size; fits = omega arith; room = omega arith }))

pub range_to_the_end : RangeToTheEnd
unfolding save_accepted save_of save_refusal wrong_size beyond_memory
range_to_the_end memory origin count output size room = (
  λ e. ap (λ (s : Written). s.refusal)
      (writable_is_saved memory origin count output (record { size = size; fits = omega arith; room = room })),
  λ e. rw (eq-eqb (length memory) 65536 size, lt-ltb 65536 (origin + count) (omega arith)),
)

pub file_to_the_end : FileToTheEnd
unfolding load_accepted load_of load_by load_refusal wrong_size wrong_length beyond_memory
file_to_the_end file memory size even least = (
  λ e. ap (λ (l : Loading). l.refusal)
      (readable_is_loaded file memory (record {
        size = size;
        even = even;
        least = least;
        fits = omega
            (arith, words_in_lem file);
      })),
  λ e.
      rw (
        eq-eqb (length memory) 65536 size,
        eq-eqb (length file % 2) 0 even,
        le-ltb (length file) 2 least,
        lt-ltb 65536
            (origin_in file + length (words_in file)) (omega arith),
      ),
)

pub wrong_size_first : WrongSizeFirst
unfolding load_of load_by load_refusal save_of save_refusal wrong_size
wrong_size_first memory h = (
  λ file. rw (ne_eqb (length memory) 65536 h),
  λ origin count output. rw (ne_eqb (length memory) 65536 h),
)
