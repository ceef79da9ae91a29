-- What can be known of a value while a routine runs, as a test of a monitor uses it. Some of it is relative to what R0
-- holds.
use Rattle.std.specs.Prelude.{ℕ, ◌+◌, ◌%◌, Bool, true, false, cond, ◌&&◌, not, List, [], ◌∷◌, map, eqb, set}
use Rattle.machine.specs.Words.{wrap, word_and, complement}

pub data Value : Type 0 where
  -- nothing at all: the codes may have been set from no value
  unset : Value
  -- some value
  any : Value
  -- this number
  is : ℕ → Value
  -- x8000 or more, and less
  high : Value
  low : Value
  -- R0 plus this number
  sum : ℕ → Value
  -- an address that User mode may touch
  allowed : Value

-- A value as two numbers.
unfoldable pub kind_of : Value → ℕ
kind_of unset = 0
kind_of any = 1
kind_of (is c) = 2
kind_of high = 3
kind_of low = 4
kind_of (sum c) = 5
kind_of allowed = 6

unfoldable pub number_of : Value → ℕ
number_of unset = 0
number_of any = 0
number_of (is c) = c
number_of high = 0
number_of low = 0
number_of (sum c) = c
number_of allowed = 0

-- And back.
unfoldable pub value_by : ℕ → ℕ → Value
value_by k n =
    cond (eqb k 0) unset
    (cond (eqb k 1) any (cond (eqb k 2) (is n) (cond (eqb k 3) high (cond (eqb k 4) low (cond (eqb k 5) (sum n)
    allowed)))))

-- What is left where R0 changes.
unfoldable pub forget : Value → Value
forget unset = unset
forget any = any
forget (is c) = is c
forget high = high
forget low = low
forget (sum c) = any
forget allowed = allowed

-- ---- what says more than another

unfoldable pub same : Value → Value → Bool
same v w = eqb (kind_of v) (kind_of w) && eqb (number_of v) (number_of w)

-- The first says all that the second says.
unfoldable pub implies : Value → Value → Bool
implies v w = cond (eqb (kind_of w) 0) true (cond (eqb (kind_of w) 1) (not (eqb (kind_of v) 0)) (same v w))

unfoldable pub all_imply : List Value → List Value → Bool
all_imply [] [] = true
all_imply [] (w ∷ ws) = false
all_imply (v ∷ vs) [] = false
all_imply (v ∷ vs) (w ∷ ws) = implies v w && all_imply vs ws

-- ---- ADD, AND, NOT

-- A value plus a number; `first` where it is R0's.
unfoldable pub sum_with : Bool → Value → ℕ → Value
sum_with first unset d = cond first (sum d) any
sum_with first any d = cond first (sum d) any
sum_with first (is c) d = is (wrap (c + d))
sum_with first high d = cond first (sum d) any
sum_with first low d = cond first (sum d) any
sum_with first (sum c) d = sum (wrap (c + d))
sum_with first allowed d = cond first (sum d) any

-- The sum of two values: known where the second is.
unfoldable pub sum_of : Bool → Value → Value → Value
sum_of first v unset = any
sum_of first v any = any
sum_of first v (is d) = sum_with first v d
sum_of first v high = any
sum_of first v low = any
sum_of first v (sum d) = any
sum_of first v allowed = any

-- A value and a number, bit by bit.
unfoldable pub and_with : Value → ℕ → Value
and_with unset d = cond (eqb d 0) (is 0) any
and_with any d = cond (eqb d 0) (is 0) any
and_with (is c) d = is (word_and c d)
and_with high d = cond (eqb d 0) (is 0) any
and_with low d = cond (eqb d 0) (is 0) any
and_with (sum c) d = cond (eqb d 0) (is 0) any
and_with allowed d = cond (eqb d 0) (is 0) any

unfoldable pub and_of : Value → Value → Value
and_of v unset = any
and_of v any = any
and_of v (is d) = and_with v d
and_of v high = any
and_of v low = any
and_of v (sum d) = any
and_of v allowed = any

unfoldable pub not_of : Value → Value
not_of unset = any
not_of any = any
not_of (is c) = is (complement c)
not_of high = any
not_of low = any
not_of (sum c) = any
not_of allowed = any

-- ---- the registers

-- A register takes a value.
unfoldable pub taking : ℕ → Value → List Value → List Value
taking r v vs = cond (eqb (r % 8) 0) (set (map forget vs) 0 (forget v)) (set vs (r % 8) v)

-- And what is known of another value, and of others, then.
unfoldable pub besides : ℕ → Value → Value
besides r v = cond (eqb (r % 8) 0) (forget v) v

unfoldable pub all_besides : ℕ → List Value → List Value
all_besides r vs = cond (eqb (r % 8) 0) (map forget vs) vs
