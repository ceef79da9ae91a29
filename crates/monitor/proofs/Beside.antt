-- The words that the routines use are there: those of the whole monitor, and those behind a table of other routines.
use Prim.Native.Nat.{ℕ, ◌≤◌, ◌<◌}
use native.Mathlib.Omega.{arith}
use mathlib.Core.Path.{◌≡◌, sym, ap, ◌∙◌}
use mathlib.Core.Bool.{Bool, true}
use mathlib.Core.List.{List}
use borrow.Author.Tests.{leb-true, eqb-true}
use lib.Dec.{leb, eqb}
use lib.ListN.{length, get_or, take}
use lib.Seq.{get_or-take}
use Rattle.machine.proofs.Tests.{both_true}
use Rattle.monitor.specs.declared.Routines.{Routines}
use Rattle.monitor.specs.Vectors.{vector_word, vector_table, ours}
use Rattle.monitor.specs.Routines.{monitor_words}
use Rattle.monitor.specs.Uses.{HasWords, with_vector, between, getc_code, out_code, puts_code, in_code, putsp_code}
use Rattle.monitor.specs.Uses.{halt_code, stop_code, back_uses}
use Rattle.monitor.specs.Beside.{HasAll, HasOurs, OursStay}
use Rattle.monitor.proofs.VectorLaws.{table_holds, other_trap, exception_word, interrupt_word}
use Rattle.monitor.proofs.Intact.{monitor_word, monitor_vector}
use Rattle.monitor.proofs.UseLaws.{either, getc_below, out_below, stop_below, puts_below, putsp_below, in_below}
use Rattle.monitor.proofs.UseLaws.{halt_below, back_below, with_vector_below}

module _ (memory : List ℕ) (whole : take (length monitor_words) memory ≡ monitor_words) where
  has : (vector : ℕ) (code : ℕ → Bool) → vector < 0x0200 → ((a : ℕ) → code a ≡ true → a < 0x02A5)
      → HasWords (with_vector vector code) memory
  has vector code h below a used = monitor_word memory whole a (with_vector_below vector code h below a used)

  has_all : HasAll memory
  has_all = record {
    getc = has 0x20 getc_code (omega arith) getc_below;
    out = has 0x21 out_code (omega arith) out_below;
    puts = has 0x22 puts_code (omega arith) puts_below;
    input = has 0x23 in_code (omega arith) in_below;
    putsp = has 0x24 putsp_code (omega arith) putsp_below;
    halt = has 0x25 halt_code (omega arith) halt_below;
    stop = λ vector h. has vector stop_code h stop_below;
    back = λ a used. monitor_word memory whole a (back_below a used);
  }

module _ (r : Routines) (memory : List ℕ) (table : take 512 memory ≡ vector_table r) where
  -- A vector word of this table that is the same in ours.
  same_vector : (a : ℕ) → a < 0x0200 → vector_word r a ≡ vector_word ours a → get_or memory a 0
      ≡ get_or monitor_words a 0
  same_vector a h same =
      sym (get_or-take 512 memory a 0 h)
      ∙ ap (λ (words : List ℕ). get_or words a 0) table
      ∙ table_holds.words r a h
      ∙ same
      ∙ sym (monitor_vector a h)

  stays : (vector : ℕ) (code : ℕ → Bool) → vector < 0x0200 → vector_word r vector ≡ vector_word ours vector
      → HasWords code memory → HasWords (with_vector vector code) memory
  stays vector code h same words a used =
      either (code a) (eqb a vector) used (words a)
      (λ e. let z : a ≡ vector = eqb-true a vector e in rw z (same_vector vector h same))

  back_stays : r.interrupt ≡ ours.interrupt → get_or memory 0x027F 0 ≡ get_or monitor_words 0x027F 0
      → HasWords back_uses memory
  back_stays same word a used =
      either (between 0x0180 0x0181 a) (eqb a 0x027F) used
      (λ e.
      let both = both_true (leb 0x0180 a) (leb a 0x0181) e in
      let least : 0x0180 ≤ a = leb-true 0x0180 a both.0 in
      let most : a ≤ 0x0181 = leb-true a 0x0181 both.1 in
      same_vector a (omega arith)
      (sym (interrupt_word r a (omega arith)) ∙ same ∙ interrupt_word ours a (omega arith)))
      (λ e. let z : a ≡ 0x027F = eqb-true a 0x027F e in rw z word)

  has_ours : HasOurs r memory
  unfolding vector_word
  has_ours = record {
    getc = λ same. stays 0x20 getc_code (omega arith) same;
    out = λ same. stays 0x21 out_code (omega arith) same;
    puts = λ same. stays 0x22 puts_code (omega arith) same;
    input = λ same. stays 0x23 in_code (omega arith) same;
    putsp = λ same. stays 0x24 putsp_code (omega arith) same;
    halt = λ same. stays 0x25 halt_code (omega arith) same;
    other_trap = λ same words vector other.
        stays vector stop_code (omega (arith, other.below))
        (sym (other_trap r vector other.no_service other.below)
        ∙ same
        ∙ other_trap ours vector other.no_service other.below)
        words;
    exception = λ same words vector least most.
        stays vector stop_code (omega arith)
        (sym (exception_word r vector least most) ∙ same ∙ exception_word ours vector least most) words;
    back = back_stays;
  }

pub ours_stay : OursStay
ours_stay = record { whole = has_all; beside = has_ours }
