-- Words and their bytes: how many there are, and what the two loops add at each turn and at their end.
use Prim.Native.Nat.{ℕ, suc, ◌+◌, ◌*◌, ◌/◌, ◌%◌, ◌≤◌, ◌<◌}
use native.Mathlib.Numerals.{add-one}
use native.Mathlib.Omega.{arith}
use mathlib.Core.Path.{◌≡◌, refl}
use mathlib.Core.List.{List, [], ◌∷◌, ◌++◌, append-nil, append_assoc}
use lib.ListN.{length, get_or, take, drop, set, length-append, drop_of_length-le}
use lib.Seq.{drop-cons, take_all, take_at, take-suc-set, length-take-le}
use Rattle.object.specs.File.{word, words_of, bytes_of}

pub length_of_words : (bytes : List ℕ) → length (words_of bytes) ≡ length bytes / 2
unfolding words_of
length_of_words [] = refl
length_of_words (byte ∷ []) = refl
length_of_words (high ∷ low ∷ bytes) = let e = length_of_words bytes in omega arith

pub length_of_bytes : (words : List ℕ) → length (bytes_of words) ≡ 2 * length words
unfolding bytes_of
length_of_bytes [] = refl
length_of_bytes (w ∷ words) = let e = length_of_bytes words in omega arith

module _ (bytes words : List ℕ) (k : ℕ) (l : length bytes ≡ 2 * length words) where
  next_word : k < length words → words_of (drop (2 * k) bytes)
      ≡ word (get_or bytes (2 * k) 0) (get_or bytes (2 * k + 1) 0)
      ∷ words_of (drop (2 * (k + 1)) bytes)
  unfolding words_of
  next_word h =
      let e : 2 * (k + 1) ≡ suc (suc (2 * k)) = omega arith in
      rw (e, add-one (2 * k), drop-cons bytes (2 * k) 0 (omega arith), drop-cons bytes (suc (2 * k)) 0 (omega arith))

  pub one_word_read : k < length words →
      take (k + 1) (set words k (word (get_or bytes (2 * k) 0) (get_or bytes (2 * k + 1) 0)))
      ++ words_of (drop (2 * (k + 1)) bytes)
      ≡ take k words ++ words_of (drop (2 * k) bytes)
  one_word_read h = rw (next_word h, add-one k, take-suc-set words k _ h, append_assoc)

  pub all_words_read : length words ≤ k → words ≡ take k words ++ words_of (drop (2 * k) bytes)
  unfolding words_of
  all_words_read h = rw (drop_of_length-le bytes {i = 2 * k} (omega arith), take_all k words h, append-nil)

  -- The word's two bytes stand between the bytes before it and any others.
  pub one_word_written : (rest : List ℕ) → k < length words →
      take (2 * (k + 1)) (take (2 * k) bytes ++ ((get_or words k 0 / 256 ∷ get_or words k 0 % 256 ∷ []) ++ rest))
      ++ bytes_of (drop (k + 1) words)
      ≡ take (2 * k) bytes ++ bytes_of (drop k words)
  unfolding bytes_of
  one_word_written rest h =
      let front = take (2 * k) bytes ++ (get_or words k 0 / 256 ∷ get_or words k 0 % 256 ∷ []) in
      let n : length front ≡ 2 * (k + 1) =
      simp length-append (omega (arith, length-take-le (2 * k) bytes (omega arith))) in
      rw (← append_assoc, take_at front rest (2 * (k + 1)) n, add-one k, drop-cons words k 0 h) (simp append_assoc)

  pub all_words_written : length words ≤ k → bytes ≡ take (2 * k) bytes ++ bytes_of (drop k words)
  unfolding bytes_of
  all_words_written h = rw (drop_of_length-le words {i = k} h, take_all (2 * k) bytes (omega arith), append-nil)
