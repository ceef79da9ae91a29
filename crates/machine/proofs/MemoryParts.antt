-- The three parts of memory make up all of it, and a word of User mode's is read from the middle part and stored to it
-- alone: by the laws of take, drop and set.
use Prim.Native.Nat.{ℕ, ◌+◌, ◌-◌, ◌≤◌, ◌<◌}
use mathlib.Core.Path.{◌≡◌}
use mathlib.Core.List.{List, ◌++◌}
use native.Mathlib.Omega.{arith}
use lib.ListN.{get_or, set, drop, take-append-drop}
use lib.Seq.{get_or-take, get_or-drop, take-set-lt, drop-set-add, take-set-le, drop-set-lt, drop-drop}
use Rattle.machine.specs.Visible.{words_below, user_words, words_above}

pub three_parts_make_memory : (mem : List ℕ) → words_below mem ++ (user_words mem ++ words_above mem) ≡ mem
unfolding words_below user_words words_above
three_parts_make_memory mem =
    rw (← drop-drop 0xCE00 0x3000 mem, take-append-drop 0xCE00 (drop 0x3000 mem)) (take-append-drop 0x3000 mem)

-- An address that User mode may touch.
pub record UserAddress (a : ℕ) : Type 0 where
  pub low : 0x3000 ≤ a
  pub high : a < 0xFE00

pub user_word_is_in_user_words : (mem : List ℕ) (a : ℕ) → UserAddress a → get_or mem a 0
    ≡ get_or (user_words mem) (a - 0x3000) 0
unfolding user_words
user_word_is_in_user_words mem a u =
    let h : 0x3000 + (a - 0x3000) ≡ a = omega arith in
    let k : a - 0x3000 < 0xCE00 = omega arith in
    cc (get_or-take 0xCE00 (drop 0x3000 mem) (a - 0x3000) 0 k, get_or-drop 0x3000 mem (a - 0x3000) 0)

pub store_changes_user_words : (mem : List ℕ) (a v : ℕ) → UserAddress a
    → user_words (set mem a v) ≡ set (user_words mem) (a - 0x3000) v
unfolding user_words
store_changes_user_words mem a v u =
    let h : 0x3000 + (a - 0x3000) ≡ a = omega arith in
    let k : a - 0x3000 < 0xCE00 = omega arith in
    cc (take-set-lt 0xCE00 (drop 0x3000 mem) (a - 0x3000) v k, drop-set-add 0x3000 mem (a - 0x3000) v)

pub store_leaves_words_below : (mem : List ℕ) (a v : ℕ) → UserAddress a → words_below (set mem a v) ≡ words_below mem
unfolding words_below
store_leaves_words_below mem a v u = take-set-le 0x3000 mem a v u.low

pub store_leaves_words_above : (mem : List ℕ) (a v : ℕ) → UserAddress a → words_above (set mem a v) ≡ words_above mem
unfolding words_above
store_leaves_words_above mem a v u = drop-set-lt 0xFE00 mem a v u.high

-- A word below x3000 is none of User mode's.
pub word_below_is_not_visible : (mem : List ℕ) (a v : ℕ) → a < 0x3000 → user_words (set mem a v) ≡ user_words mem
unfolding user_words
word_below_is_not_visible mem a v h = rw (drop-set-lt 0x3000 mem a v h)
