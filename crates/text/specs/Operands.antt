-- Operands as text: registers, signed fields in decimal, and numbers in hexadecimal.
use Rattle.std.specs.Prelude.{ℕ, zero, suc, ◌+◌, ◌-◌, ◌/◌, ◌%◌, cond, List, [], ◌∷◌, ◌++◌, ltb, ℤ, pos, negsuc}
use Rattle.text.specs.Characters.{hash, minus, digit0, A, R, lower_x}

abbrev pub digit : ℕ → ℕ
digit d = digit0 + d

-- R0 to R7
abbrev pub register : ℕ → List ℕ
register r = R ∷ digit r ∷ []

-- the digits of n / 10, then that of n % 10; a number below 10 is one digit. `steps` bounds the recursion
unfoldable pub digits : ℕ → ℕ → List ℕ
digits zero n = []
digits (suc steps) n = cond (ltb n 10) (digit n ∷ []) (digits steps (n / 10) ++ digit (n % 10) ∷ [])

-- most significant digit first, no leading zeros
unfoldable pub decimal : ℕ → List ℕ
decimal n = digits (suc n) n

-- a minus sign below zero; negsuc n is -(n + 1)
abbrev pub signed_digits : ℤ → List ℕ
signed_digits (pos n) = decimal n
signed_digits (negsuc n) = minus ∷ decimal (n + 1)

abbrev pub signed_number : ℤ → List ℕ
signed_number n = hash ∷ signed_digits n

-- 0 to 9, then A to F
abbrev pub hex_digit : ℕ → ℕ
hex_digit d = cond (ltb d 10) (digit d) (A + (d - 10))

-- two digits, of a number below 256
abbrev pub hex_byte : ℕ → List ℕ
hex_byte n = hex_digit (n / 16) ∷ hex_digit (n % 16) ∷ []

-- x and two digits; x and the four of a word
abbrev pub hex2 : ℕ → List ℕ
hex2 n = lower_x ∷ hex_byte n

abbrev pub hex4 : ℕ → List ℕ
hex4 n = lower_x ∷ hex_byte (n / 256) ++ hex_byte (n % 256)
