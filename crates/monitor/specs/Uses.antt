-- The words of the monitor that each routine uses: its vector, its code, and the constants and texts that it loads.
-- What is proved of a routine asks for these words and no others; so it stays proved beside routines of a class's own.
use Rattle.std.specs.Prelude.{ℕ, ◌≡◌, Bool, true, ◌&&◌, ◌||◌, List, leb, eqb, get_or}
use Rattle.monitor.specs.Routines.{monitor_words}

-- "With the monitor's words intact", as far as these words go.
abbrev pub HasWords : (ℕ → Bool) → List ℕ → Type 0
HasWords uses memory = (a : ℕ) → uses a ≡ true → get_or memory a 0 ≡ get_or monitor_words a 0

-- A vector word, and what else the routine uses.
abbrev pub with_vector : ℕ → (ℕ → Bool) → ℕ → Bool
with_vector vector code a = code a || eqb a vector

-- The words from the first address to the last.
abbrev pub between : ℕ → ℕ → ℕ → Bool
between first last a = leb first a && leb a last

-- The addresses of the device registers, and the other constants.
abbrev pub constants : ℕ → Bool
constants a = between 0x0280 0x0288 a

abbrev pub getc_code : ℕ → Bool
getc_code a = between 0x0200 0x0203 a || constants a

abbrev pub out_code : ℕ → Bool
out_code a = between 0x0204 0x020B a || constants a

abbrev pub stop_code : ℕ → Bool
stop_code a = between 0x027C 0x027E a || constants a

-- PUTS and PUTSP go to STOP where they are refused a word.
abbrev pub puts_code : ℕ → Bool
puts_code a = between 0x020C 0x0227 a || stop_code a

abbrev pub putsp_code : ℕ → Bool
putsp_code a = between 0x023D 0x026C a || stop_code a

-- The constants and, behind them, the prompt.
abbrev pub in_code : ℕ → Bool
in_code a = between 0x0228 0x023C a || between 0x0280 0x029C a

-- HALT runs into STOP; its message stands behind the prompt.
abbrev pub halt_code : ℕ → Bool
halt_code a = between 0x026D 0x027E a || (constants a || between 0x029D 0x02A4 a)

-- The vector words of keyboard and timer, and BACK.
abbrev pub back_uses : ℕ → Bool
back_uses a = between 0x0180 0x0181 a || eqb a 0x027F
