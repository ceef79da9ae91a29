-- The word that a log tells of a step is the one at PC, and no other: here 0 stands where PSR, Saved_SSP, Saved_USP,
-- the clock or R0 would point to.
use Rattle.std.specs.Prelude.{ℕ, ◌≡◌, List, [], ◌∷◌, map}
use Rattle.machine.specs.declared.Rule.{Rule}
use Rattle.machine.specs.declared.Rule.TheVariants.{Instruction, Trap, Privilege, Illegal, Access, Keyboard, Timer}
use Rattle.machine.specs.Rules.{fetched_word}
use Rattle.machine.specs.Rows.{Fact, PC, word, applied, record_of, memory_with, user_mode}
use Rattle.rows.specs.OtherRecords.{elsewhere}

abbrev pub elsewhere_zero : List Fact
elsewhere_zero = word 0x8505 0 ∷ word 0x0280 0 ∷ word 0x5E00 0 ∷ word 41 0 ∷ word 0x0F1E 0 ∷ []

-- The word logged of a step by this rule, in User mode, where x1021 stands at PC.
abbrev pub logged_word : List Fact → Rule → ℕ
logged_word facts rule =
    let s = applied facts user_mode in
    fetched_word rule (record_of s.numbers) (memory_with 0x1021 s.words)

abbrev pub rules : List Rule
rules = Instruction ∷ Trap ∷ Privilege ∷ Illegal ∷ Access ∷ Keyboard ∷ Timer ∷ []

-- The same in another record, where 0 stands everywhere but at PC, a high and odd address.
abbrev pub logged_elsewhere : Rule → ℕ
logged_elsewhere rule =
    fetched_word rule (record_of elsewhere.numbers) (memory_with 0 (applied (word 0xB455 0x9021 ∷ []) elsewhere).words)

pub record LoggedHold : Type 0 where
  -- "The word fetched (0 if none, as at an interrupt or where the fetch itself raises the access exception)."
  pub word_at_pc : map (logged_word elsewhere_zero) rules
      ≡ 0x1021 ∷ 0x1021 ∷ 0x1021 ∷ 0x1021 ∷ 0x1021 ∷ 0 ∷ 0 ∷ []
  pub none_where_denied : map (logged_word (PC 0x2FFF ∷ elsewhere_zero)) rules ≡ 0 ∷ 0 ∷ 0 ∷ 0 ∷ 0 ∷ 0 ∷ 0 ∷ []
  pub in_another_record : map logged_elsewhere rules ≡ 0x9021 ∷ 0x9021 ∷ 0x9021 ∷ 0x9021 ∷ 0x9021 ∷ 0 ∷ 0 ∷ []
