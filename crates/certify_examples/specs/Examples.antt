-- What `certify` answers of the class's monitor; of the same with a word altered so that it leaks, alters what it must
-- not, or cannot be followed; and of claims that do not hold: a row for each clause of the test and for each finding.
use Rattle.std.specs.Prelude.{ℕ, ◌+◌, ◌≡◌, List, [], ◌∷◌, ◌++◌, replicate, take}
use Rattle.machine.specs.Rows.{with_word}
use Rattle.sitting.specs.Test.{own, hidden, Claim}
use Rattle.claims.specs.Encoding.{claim_with}
use Rattle.findings.specs.declared.Certified.{Certified}
use Rattle.findings.specs.Finding.{nothing_wrong, wrong, wrong_vectors, wrong_at, wrong_in_rows, wrong_with, certify_of}
use Rattle.certify_examples.specs.Monitor.{class_words, class_kinds, class_watched, state_with, entry, class_rows}
use Rattle.certify_examples.specs.Monitor.{ends_from, joined}

-- The answer of words with what they are, of a stack, of watched words, and of rows.
unfoldable pub answer_of : List ℕ → List ℕ → ℕ → List ℕ → List (List (List ℕ)) → Certified
answer_of words kinds lowest watched rows =
    certify_of words kinds lowest watched (ends_from 0 rows) (joined (joined rows))

-- Of these words, and of the class's with another at an address, by the class's table.
abbrev pub answer_for : List ℕ → Certified
answer_for words = answer_of words class_kinds 0x2FFC class_watched class_rows

abbrev pub answer_with : ℕ → ℕ → Certified
answer_with a w = answer_for (with_word class_words a w)

-- The table with more states for x0226, BACK, and with rows for the words after it.
unfoldable pub rows_with : List (List ℕ) → List (List (List ℕ)) → List (List (List ℕ))
rows_with states more = take 38 class_rows ++ ((entry ∷ states) ∷ more)

-- R6 is not known; and a word of the stack below R6 is, which an interrupt may change.
abbrev pub unknown_stack : List ℕ
unknown_stack = state_with 0x10000 0x10000 0x10000 0x10000 0 0x10000 0x10000 0x10000

abbrev pub known_below : List ℕ
known_below = state_with 0x10000 0x10000 0x22FFE 0x10000 0 0x10000 0x20005 0x10000

-- What would tell of the answer, or of other words that the caller names.
pub record LeaksAreFound : Type 0 where
  -- BUMP loads the answer: LD R0, ANSWER; and by a pointer: LDI R0, TABLE
  pub loads_answer : answer_with 0x020C 0x2024 ≡ wrong 7 0x020C 22
  pub loads_by_pointer : answer_for (with_word (with_word class_words 0x022C 0x0231) 0x020C 0xA01F) ≡ wrong 7 0x020C 22
  -- by a pointer in a word that routines write: LDI R0, SAVE1
  pub loads_by_own_pointer : answer_with 0x020C 0xA021 ≡ wrong 7 0x020C 22
  -- COUNT returns the word at R0, whatever that is: LDR R0, R0, #0
  pub peeks : answer_with 0x0206 0x6000 ≡ wrong 7 0x0206 12
  -- TOUCH without its look: BR never; with another bound; with R0 changed after it: ADD R0, R0, #1; one word further
  pub no_look : answer_with 0x0214 0x0002 ≡ wrong 7 0x0214 34
  pub other_bound : answer_with 0x022A 0x5001 ≡ wrong 7 0x0212 32
  pub changed_after_look : answer_with 0x0214 0x1021 ≡ wrong 7 0x0214 34
  pub beside : answer_with 0x0215 0x6201 ≡ wrong 7 0x0215 35

-- What would alter code, the answer, the caller's mode or a device.
pub record StoresAreFound : Type 0 where
  -- COUNT stores at R0, to OUT's first word, to the answer, to the caller's PSR: STR R1, R0, #0; ST R1; STR R1, R6, #1
  pub pokes : answer_with 0x0206 0x7200 ≡ wrong 7 0x0206 12
  pub alters_code : answer_with 0x0206 0x33F9 ≡ wrong 7 0x0206 12
  pub alters_answer : answer_with 0x0206 0x322A ≡ wrong 7 0x0206 12
  pub makes_privileged : answer_with 0x0206 0x7381 ≡ wrong 7 0x0206 12
  -- OUT stores to KBSR, and not to DDR
  pub enables_keyboard : answer_with 0x0228 0xFE00 ≡ wrong 7 0x0203 6

-- What cannot be followed.
pub record UnfollowedIsFound : Type 0 where
  -- NEXT keeps R7 elsewhere, and jumps by R0: ST R7, SAVE1; JMP R0
  pub keeps_elsewhere : answer_with 0x0208 0x3E25 ≡ wrong 7 0x0208 14
  pub jumps_by_r0 : answer_with 0x020B 0xC000 ≡ wrong 7 0x020B 20
  -- the table of pointers leads to SAVE1
  pub to_own_word : answer_with 0x022D 0x022E ≡ wrong 7 0x021B 41
  -- COUNT pops a word too many; SERVE returns with its own word on the stack; what is no instruction
  pub pops : answer_with 0x0207 0x1DA1 ≡ wrong 7 0x0207 13
  pub returns_deeper : answer_with 0x021D 0x8000 ≡ wrong 7 0x021D 43
  pub reserved : answer_with 0x0206 0xD000 ≡ wrong 7 0x0206 12

-- The findings 1 to 6.
pub record OtherFindings : Type 0 where
  pub seven_watched : answer_of class_words class_kinds 0x2FFC (take 7 class_watched) class_rows ≡ wrong 1 0 0
  -- the stack has room for a trap's two words, and the words are four below it
  pub no_stack : answer_of class_words class_kinds 0x2FFF class_watched class_rows ≡ wrong 2 0 0
  pub least_stack : answer_of class_words class_kinds 0x2FFE class_watched class_rows ≡ wrong 6 0x0200 1
  pub three_words : answer_of class_words class_kinds 0x0235 class_watched class_rows ≡ wrong 2 0 0
  pub four_words : answer_of class_words class_kinds 0x0236 class_watched class_rows ≡ nothing_wrong
  -- the last vector of an exception leads to a word without a row; a trap's below x0200; one is secret
  pub no_row : answer_with 0x0102 0x0227 ≡ wrong 3 0x0102 0
  pub too_low : answer_with 0x00FF 0x0100 ≡ wrong 3 0x00FF 0
  pub secret_vector : answer_of class_words (with_word class_kinds 0x0030 0) 0x2FFC class_watched class_rows
      ≡ wrong 3 0x0030 0
  -- an interrupt leads to more than an RTI
  pub keyboard : answer_with 0x0180 0x0200 ≡ wrong 4 0x0180 0
  pub timer : answer_with 0x0181 0x0222 ≡ wrong 4 0x0181 0
  -- an instruction in a word that routines may write; a state for SAVE1; one past xFFFF, of no word
  pub own_code : answer_of class_words (with_word class_kinds 0x0205 2) 0x2FFC class_watched class_rows
      ≡ wrong 5 0x0205 10
  pub own_state :
      answer_of class_words class_kinds 0x2FFC class_watched (rows_with [] (replicate 7 [] ++ ((entry ∷ []) ∷ [])))
      ≡ wrong 5 0x022E 53
  pub of_no_word : wrong_in_rows (claim_with [] [] 0x2FFC class_watched []) entry 0x20000 0 (1 ∷ [])
      ≡ record { finding = 5; address = 65536; state = 0 }
  -- the stack is one word less; R6 is not known; a word below R6 is
  pub shallow : answer_of class_words class_kinds 0x2FFD class_watched class_rows ≡ wrong 6 0x0200 1
  pub stack_not_known : answer_of class_words class_kinds 0x2FFC class_watched (rows_with (unknown_stack ∷ []) [])
      ≡ wrong 6 0x0226 53
  pub known_below_lem : answer_of class_words class_kinds 0x2FFC class_watched (rows_with (known_below ∷ []) [])
      ≡ wrong 6 0x0226 53

-- A claim about no words: all of them are secret.
abbrev pub all_secret : Claim
all_secret = claim_with [] [] 0x2FFC class_watched []

-- Each number in its place, and which of two findings is answered.
pub record FindingsInOrder : Type 0 where
  pub nothing : nothing_wrong ≡ record { finding = 0; address = 0; state = 0 }
  pub in_place : wrong 3 0x0102 5 ≡ record { finding = 3; address = 0x0102; state = 5 }
  -- the first of the vectors; a vector before a state
  pub first_vector : wrong_vectors all_secret ≡ wrong 3 0 0
  pub vector_first : wrong_with all_secret (1 ∷ []) entry ≡ wrong 3 0 0
  -- the keyboard before the timer; x0103 is no vector of these
  pub keyboard_first : answer_for (with_word (with_word class_words 0x0180 0x0200) 0x0181 0x0222) ≡ wrong 4 0x0180 0
  pub x0103_is_free : answer_of class_words (with_word class_kinds 0x0103 0) 0x2FFC class_watched class_rows
      ≡ nothing_wrong
  -- a word that may change, or is secret, has no state, and so nothing is wrong with it
  pub own_without : wrong_at all_secret 0x0205 own 3 [] ≡ nothing_wrong
  pub secret_without : wrong_at all_secret 0x0205 hidden 3 [] ≡ nothing_wrong
  -- the first state has number 0: what stands at x0200 is no instruction
  pub first_state : answer_with 0x0200 0xD000 ≡ wrong 7 0x0200 0

-- It is certified, and so it is with BUMP that counts by two; others are not.
pub record ExamplesHold : Type 0 where
  pub certified : answer_for class_words ≡ nothing_wrong
  pub by_two : answer_with 0x020D 0x1022 ≡ nothing_wrong
  pub leaks : LeaksAreFound
  pub stores : StoresAreFound
  pub unfollowed : UnfollowedIsFound
  pub others : OtherFindings
  pub in_order : FindingsInOrder
