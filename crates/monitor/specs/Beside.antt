-- Which routines have the words that they use: all of them where the whole monitor is intact; and beside routines of a
-- class's own those that the table still leads to, where their code is intact.
use Rattle.std.specs.Prelude.{ℕ, ◌≤◌, ◌<◌, ◌≡◌, List, length, get_or, take}
use Rattle.monitor.specs.declared.Routines.{Routines}
use Rattle.monitor.specs.Vectors.{vector_table, ours}
use Rattle.monitor.specs.Routines.{monitor_words}
use Rattle.monitor.specs.Uses.{HasWords, with_vector, getc_code, out_code, puts_code, in_code, putsp_code, halt_code}
use Rattle.monitor.specs.Uses.{stop_code, back_uses}
use Rattle.monitor.specs.Stop.{OtherTrap}

-- All of ours.
pub record HasAll (memory : List ℕ) : Type 0 where
  pub getc : HasWords (with_vector 0x20 getc_code) memory
  pub out : HasWords (with_vector 0x21 out_code) memory
  pub puts : HasWords (with_vector 0x22 puts_code) memory
  pub input : HasWords (with_vector 0x23 in_code) memory
  pub putsp : HasWords (with_vector 0x24 putsp_code) memory
  pub halt : HasWords (with_vector 0x25 halt_code) memory
  pub stop : (vector : ℕ) → vector < 0x0200 → HasWords (with_vector vector stop_code) memory
  pub back : HasWords back_uses memory

-- Those whose addresses are ours, in a table for these routines.
pub record HasOurs (r : Routines) (memory : List ℕ) : Type 0 where
  pub getc : r.getc ≡ ours.getc → HasWords getc_code memory → HasWords (with_vector 0x20 getc_code) memory
  pub out : r.out ≡ ours.out → HasWords out_code memory → HasWords (with_vector 0x21 out_code) memory
  pub puts : r.puts ≡ ours.puts → HasWords puts_code memory → HasWords (with_vector 0x22 puts_code) memory
  pub input : r.input ≡ ours.input → HasWords in_code memory → HasWords (with_vector 0x23 in_code) memory
  pub putsp : r.putsp ≡ ours.putsp → HasWords putsp_code memory → HasWords (with_vector 0x24 putsp_code) memory
  pub halt : r.halt ≡ ours.halt → HasWords halt_code memory → HasWords (with_vector 0x25 halt_code) memory
  pub other_trap : r.trap ≡ ours.trap → HasWords stop_code memory → (vector : ℕ) → OtherTrap vector
      → HasWords (with_vector vector stop_code) memory
  pub exception : r.exception ≡ ours.exception → HasWords stop_code memory → (vector : ℕ) → 0x0100 ≤ vector
      → vector < 0x0103 → HasWords (with_vector vector stop_code) memory
  pub back : r.interrupt ≡ ours.interrupt → get_or memory 0x027F 0 ≡ get_or monitor_words 0x027F 0
      → HasWords back_uses memory

pub record OursStay : Type 0 where
  pub whole : (memory : List ℕ) → take (length monitor_words) memory ≡ monitor_words → HasAll memory
  -- the table that `lc3_vectors` makes for these routines
  pub beside : (r : Routines) (memory : List ℕ) → take 512 memory ≡ vector_table r → HasOurs r memory
