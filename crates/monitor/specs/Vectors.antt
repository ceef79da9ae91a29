-- The vector words x0000 to x01FF: "Trap vectors x20 to x25 lead to GETC, OUT, PUTS, IN, PUTSP and HALT ..; all other
-- trap vectors lead to one routine that halts. The three exception words lead to a routine that halts, and every other
-- word of x0100 to x01FF to a lone RTI."
use Rattle.std.specs.Prelude.{ℕ, zero, suc, ◌<◌, ◌≡◌, cond, List, [], ◌∷◌, ltb, eqb, length, get_or}
use Rattle.monitor.specs.declared.Routines.{Routines}

-- The address that stands in the word at a, for any routines.
unfoldable pub vector_word : Routines → ℕ → ℕ
vector_word r a =
    cond (eqb a 0x0020) r.getc
    (cond (eqb a 0x0021) r.out
    (cond (eqb a 0x0022) r.puts
    (cond (eqb a 0x0023) r.input
    (cond (eqb a 0x0024) r.putsp
    (cond (eqb a 0x0025) r.halt
    (cond (ltb a 0x0100) r.trap
    (cond (ltb a 0x0103) r.exception r.interrupt)))))))

-- n vector words from a on.
unfoldable pub vectors_from : Routines → ℕ → ℕ → List ℕ
vectors_from r a zero = []
vectors_from r a (suc n) = vector_word r a ∷ vectors_from r (suc a) n

-- The words x0000 to x01FF.
unfoldable pub vector_table : Routines → List ℕ
vector_table r = vectors_from r 0 512

-- Which address stands in which of its words.
pub record TableHolds : Type 0 where
  pub size : (r : Routines) → length (vector_table r) ≡ 512
  pub words : (r : Routines) (a : ℕ) → a < 512 → get_or (vector_table r) a 0 ≡ vector_word r a

-- Where our routines are: the two that halt and show nothing are one.
abbrev pub ours : Routines
ours = record {
  getc = 0x0200;
  out = 0x0204;
  puts = 0x020C;
  input = 0x0228;
  putsp = 0x023D;
  halt = 0x026D;
  trap = 0x027C;
  exception = 0x027C;
  interrupt = 0x027F;
}
