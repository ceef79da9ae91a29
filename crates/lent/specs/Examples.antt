-- The rules of lent buffers, by examples that would be false without them.
use Rattle.std.specs.Prelude.{ℕ, ◌≡◌, Ok, Err, true, false, List, [], ◌∷◌, length}
use Rattle.lent.specs.declared.Refusal.TheVariants.{MemorySize, NoRoom, BrokenFile, PastMemory}
use Rattle.lent.specs.declared.Refusal.TheVariants.{RangePastMemory, OutsideUserWords}
use Rattle.lent.specs.Lent.{Written, wrong_size, written_by, written_whole, refusal_number, counted, host_counted}

abbrev answer : ℕ → ℕ → List ℕ → Written
answer count refusal output = record { count = count; refusal = refusal; output = output }

pub record LentHolds : Type 0 where
  -- 11: "memory is not 65,536 words"
  pub whole_memory : (memory : List ℕ) → length memory ≡ 65536 → wrong_size memory ≡ false
  pub a_word_less : (memory : List ℕ) → length memory ≡ 65535 → wrong_size memory ≡ true
  pub a_word_more : (memory : List ℕ) → length memory ≡ 65537 → wrong_size memory ≡ true
  -- 16: "an output that is too short", and the output "untouched"
  pub too_short : written_whole (1 ∷ 2 ∷ []) (7 ∷ []) ≡ answer 0 16 (7 ∷ [])
  pub fits_exactly : written_whole (1 ∷ 2 ∷ []) (7 ∷ 8 ∷ []) ≡ answer 2 0 (1 ∷ 2 ∷ [])
  pub nothing_to_write : written_whole [] [] ≡ answer 0 0 []
  -- "A lent output .. is written from its start, the rest stays as lent."
  pub rest_as_lent : written_whole (1 ∷ 2 ∷ []) (7 ∷ 8 ∷ 9 ∷ 9 ∷ []) ≡ answer 2 0 (1 ∷ 2 ∷ 9 ∷ 9 ∷ [])
  -- a refusal before 16
  pub refused_before_lem : written_by 11 (1 ∷ 2 ∷ []) (7 ∷ []) ≡ answer 0 11 (7 ∷ [])
  -- what a function answers, beside the output that it leaves
  pub answered : counted (Ok 2) (7 ∷ []) ≡ answer 2 0 (7 ∷ [])
  pub refused : counted (Err NoRoom) (7 ∷ []) ≡ answer 0 16 (7 ∷ [])
  pub host_answered : host_counted (record { count = 2; refusal = 16 }) (7 ∷ []) ≡ answer 2 16 (7 ∷ [])
  -- the numbers of the refusals
  pub memory_size : refusal_number MemorySize ≡ 11
  pub no_room : refusal_number NoRoom ≡ 16
  pub broken_file : refusal_number BrokenFile ≡ 17
  pub past_memory : refusal_number PastMemory ≡ 18
  pub range_past_memory : refusal_number RangePastMemory ≡ 20
  pub outside_user_words : refusal_number OutsideUserWords ≡ 21
