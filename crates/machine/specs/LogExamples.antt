-- What a log tells of a step, with steps for which it would tell otherwise without its rule. The steps begin as those
-- of Rows.antt do.
use Rattle.std.specs.Prelude.{ℕ, ◌≡◌, List, [], ◌∷◌}
use Rattle.machine.specs.Step.{step_of}
use Rattle.machine.specs.Rules.{rule_of, rule_number, fetched_word}
use Rattle.machine.specs.Rows.{Moment, Fact, R, PC, PSR, KBSR, TSR, TIR, key, word, record_of, applied, user_mode}
use Rattle.machine.specs.Rows.{timer_count, supervisor_mode, memory_with}

-- The word fetched and the reason, of the step from this moment with this word at PC.
abbrev pub told : ℕ → Moment → List ℕ
told w s =
    let m = record_of s.numbers in
    let mem = memory_with w s.words in
    let rule = rule_of (step_of s.keys m mem).cause in
    fetched_word rule m mem ∷ rule_number rule ∷ []

abbrev pub user : ℕ → List Fact → List ℕ
user w facts = told w (applied facts user_mode)

abbrev pub supervisor : ℕ → List Fact → List ℕ
supervisor w facts = told w (applied facts supervisor_mode)

pub record LogExamplesHold : Type 0 where
  -- "0 instruction": BR and RTI. ADD, and a store over the instruction itself, with 2 and 4 in UserMode (crate
  -- machine_examples)
  pub zero_fetched : user 0x0000 [] ≡ 0x0000 ∷ 0 ∷ []
  pub return_0 : supervisor 0x8000 [] ≡ 0x8000 ∷ 0 ∷ []
  -- "1 trap, .. 3 illegal"
  pub trap_1 : supervisor 0xF025 [] ≡ 0xF025 ∷ 1 ∷ []
  pub illegal_3 : supervisor 0xD123 [] ≡ 0xD123 ∷ 3 ∷ []
  -- "0 if none, as .. where the fetch itself raises the access exception": at both ends
  pub fetch_4 : user 0x1021 (PC 0x2FFF ∷ []) ≡ 0 ∷ 4 ∷ []
  pub fetch_4_above : user 0x1021 (PC 0xFE00 ∷ []) ≡ 0 ∷ 4 ∷ []
  -- "5 keyboard", and "0 if none, as at an interrupt": by a key that arrives in the step, and before the fetch is
  -- checked
  pub keyboard_5 : user 0x1021 (PSR 0x8305 ∷ []) ≡ 0 ∷ 5 ∷ []
  pub keyboard_5_by_key : supervisor 0x1021 (PSR 0x0305 ∷ KBSR 0x4000 ∷ key 0x61 ∷ []) ≡ 0 ∷ 5 ∷ []
  pub keyboard_5_unchecked : user 0x1021 (PC 0x2FFF ∷ PSR 0x8305 ∷ []) ≡ 0 ∷ 5 ∷ []
  -- "6 timer": at a priority where the keyboard may not interrupt, and where it may; in the step in which the count
  -- comes to zero; and before the fetch is checked
  pub timer_6 : user 0x1021 (TSR 0xC000 ∷ []) ≡ 0 ∷ 6 ∷ []
  pub timer_6_first : supervisor 0x1021 (PSR 0x0305 ∷ TSR 0xC000 ∷ []) ≡ 0 ∷ 6 ∷ []
  pub timer_6_by_count : supervisor 0x1021 (TIR 5 ∷ timer_count 1 ∷ []) ≡ 0 ∷ 6 ∷ []
  pub timer_6_unchecked : user 0x1021 (PC 0x2FFF ∷ TSR 0xC000 ∷ []) ≡ 0 ∷ 6 ∷ []
