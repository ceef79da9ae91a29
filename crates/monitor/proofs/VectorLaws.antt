-- Laws of the vector words: those that lead to none of the six services, and the table as its words.
use Prim.Native.Nat.{ℕ, zero, suc, ◌+◌, ◌≤◌, ◌<◌}
use native.Mathlib.Nat.{add-zero, add-suc, suc-add, zero-add}
use native.Mathlib.Omega.{arith}
use mathlib.Core.Path.{◌≡◌, refl, sym, ap, ◌∙◌}
use mathlib.Core.Bool.{false, cond}
use borrow.Author.Tests.{ne_eqb, lt-ltb, le-ltb}
use lib.Dec.{ltb, eqb}
use lib.ListN.{length, get_or}
use Rattle.monitor.specs.declared.Routines.{Routines}
use Rattle.monitor.specs.Vectors.{vector_word, vectors_from, vector_table, TableHolds}

-- An address outside x0020 to x0025 is none of the six.
no_service : (r : Routines) (a : ℕ) → (0x0020 ≤ a → 0x0026 ≤ a)
    → vector_word r a ≡ cond (ltb a 0x0100) r.trap (cond (ltb a 0x0103) r.exception r.interrupt)
unfolding vector_word
no_service r a outside =
    rw (differs 0 (omega arith), differs 1 (omega arith), differs 2 (omega arith))
    (rw (differs 3 (omega arith), differs 4 (omega arith), differs 5 (omega arith)))
  where
    differs : (k : ℕ) → k < 6 → eqb a (0x0020 + k) ≡ false
    differs k h = ne_eqb a (0x0020 + k) (λ e. let l : 0x0026 ≤ a = outside (omega arith) in omega arith)

pub other_trap : (r : Routines) (a : ℕ) → (0x0020 ≤ a → 0x0026 ≤ a) → a < 0x0100 → r.trap ≡ vector_word r a
other_trap r a outside h = rw (no_service r a outside, lt-ltb a 0x0100 h)

pub exception_word : (r : Routines) (a : ℕ) → 0x0100 ≤ a → a < 0x0103 → r.exception ≡ vector_word r a
exception_word r a l h = rw (no_service r a (λ h. omega arith), le-ltb a 0x0100 l, lt-ltb a 0x0103 h)

pub interrupt_word : (r : Routines) (a : ℕ) → 0x0103 ≤ a → r.interrupt ≡ vector_word r a
interrupt_word r a l = rw (no_service r a (λ h. omega arith), le-ltb a 0x0100 (omega arith), le-ltb a 0x0103 l)

length_vectors : (r : Routines) (a n : ℕ) → length (vectors_from r a n) ≡ n
unfolding vectors_from
length_vectors r a zero = refl
length_vectors r a (suc n) = ap suc (length_vectors r (suc a) n)

vectors_at : (r : Routines) (a n i : ℕ) → i < n → get_or (vectors_from r a n) i 0 ≡ vector_word r (a + i)
unfolding vectors_from
vectors_at r a zero i h = absurd (omega arith)
vectors_at r a (suc n) zero h = rw (add-zero a)
vectors_at r a (suc n) (suc i) h =
    vectors_at r (suc a) n i (omega arith) ∙ ap (vector_word r) (suc-add a i ∙ sym (add-suc a i))

-- The table has 512 words, and the vector word of each address there.
pub table_length : (r : Routines) → length (vector_table r) ≡ 512
unfolding vector_table
table_length r = length_vectors r 0 512

pub table_at : (r : Routines) (a : ℕ) → a < 512 → get_or (vector_table r) a 0 ≡ vector_word r a
unfolding vector_table
table_at r a h = vectors_at r 0 512 a h ∙ ap (vector_word r) (zero-add a)

pub table_holds : TableHolds
table_holds = record { size = table_length; words = table_at }
