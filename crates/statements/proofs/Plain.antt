-- Demand 3 in plain terms: from the theorem on two runs, by the laws of take and drop.
use Prim.Native.Nat.{ℕ, ◌+◌, ◌-◌, ◌≤◌, ◌<◌}
use mathlib.Core.Path.{◌≡◌, refl, sym, ap, ◌∙◌}
use mathlib.Core.Bool.{true, false}
use mathlib.Core.List.{List}
use native.Mathlib.Omega.{arith}
use borrow.Author.Tests.{le-leb}
use lib.ListN.{length, get_or, take, drop, length-take, length-drop}
use lib.Seq.{get_or-take, get_or-drop, ext_get_or}
use Rattle.machine.specs.Psr.{in_user_mode}
use Rattle.machine.specs.Outcome.{Reason, vector_of, entered}
use Rattle.machine.specs.Causes.{is_trap_or_exception}
use Rattle.machine.specs.Visible.{SameVisible, Hidden, words_below, user_words, words_above, hidden_of}
use Rattle.machine.proofs.MemoryParts.{UserAddress, user_word_is_in_user_words}
use Rattle.run.specs.Run.{Start, End, next_step}
use Rattle.run.specs.Refusals.{admission_of}
use Rattle.run.specs.Call.{call_of}
use Rattle.run.specs.Noninterference.{cause_at, NoneBefore, First, NoInterrupt, UpToFirst, Undisturbed, Premises}
use Rattle.run.specs.Noninterference.{Agreement}
use Rattle.run.proofs.Acceptance.{accepted_is_acceptable}
use Rattle.run.proofs.Noninterference.{noninterference}
use Rattle.statements.specs.Plain.{NoneUpTo, PlainPremises, EqualInBoth, AsAtStart, Follows, PlainAgreement}
use Rattle.statements.specs.Plain.{PlainDemand3}

-- ---- the parts of memory, word by word

user_words_length : (mem : List ℕ) → length mem ≡ 65536 → length (user_words mem) ≡ 0xCE00
unfolding user_words
user_words_length mem h = rw (length-take 0xCE00 (drop 0x3000 mem), length-drop 0x3000 mem, h)

-- Words that are equal one by one are equal as a part of memory.
same_user_words : (m₁ m₂ : List ℕ) → length m₁ ≡ 65536 → length m₂ ≡ 65536
    → ((a : ℕ) → 0x3000 ≤ a → a ≤ 0xFDFF → get_or m₁ a 0 ≡ get_or m₂ a 0) → user_words m₁ ≡ user_words m₂
same_user_words m₁ m₂ h₁ h₂ e =
    ext_get_or 0 (user_words m₁) (user_words m₂) (user_words_length m₁ h₁ ∙ sym (user_words_length m₂ h₂))
    (λ i l. word i (omega (arith, l, user_words_length m₁ h₁)))
  where
    word : (i : ℕ) → i < 0xCE00 → get_or (user_words m₁) i 0 ≡ get_or (user_words m₂) i 0
    word i l =
        let u : UserAddress (0x3000 + i) = record { low = omega arith; high = omega arith } in
        let z : 0x3000 + i - 0x3000 ≡ i = omega arith in
        rw z at
        (sym (user_word_is_in_user_words m₁ (0x3000 + i) u)
        ∙ e (0x3000 + i) (omega arith) (omega arith)
        ∙ user_word_is_in_user_words m₂ (0x3000 + i) u)

word_of_user : (m₁ m₂ : List ℕ) → user_words m₁ ≡ user_words m₂ → (a : ℕ) → 0x3000 ≤ a → a ≤ 0xFDFF
    → get_or m₁ a 0 ≡ get_or m₂ a 0
word_of_user m₁ m₂ e a low high =
    let u : UserAddress a = record { low = low; high = omega (arith, high) } in
    user_word_is_in_user_words m₁ a u
    ∙ ap (λ (words : List ℕ). get_or words (a - 0x3000) 0) e
    ∙ sym (user_word_is_in_user_words m₂ a u)

word_below : (m₁ m₂ : List ℕ) → words_below m₁ ≡ words_below m₂ → (a : ℕ) → a ≤ 0x2FFF → get_or m₁ a 0 ≡ get_or m₂ a 0
unfolding words_below
word_below m₁ m₂ e a h =
    let l : a < 0x3000 = omega (arith, h) in
    sym (get_or-take 0x3000 m₁ a 0 l) ∙ ap (λ (words : List ℕ). get_or words a 0) e ∙ get_or-take 0x3000 m₂ a 0 l

word_above : (m₁ m₂ : List ℕ) → words_above m₁ ≡ words_above m₂ → (a : ℕ) → 0xFE00 ≤ a → get_or m₁ a 0 ≡ get_or m₂ a 0
unfolding words_above
word_above m₁ m₂ e a h =
    let z : 0xFE00 + (a - 0xFE00) ≡ a = omega (arith, h) in
    rw z at
    (sym (get_or-drop 0xFE00 m₁ (a - 0xFE00) 0)
    ∙ ap (λ (words : List ℕ). get_or words (a - 0xFE00) 0) e
    ∙ get_or-drop 0xFE00 m₂ (a - 0xFE00) 0)

-- ---- the notions, opened

none_before : (s : Start) (k : ℕ) → NoneUpTo s k → NoneBefore s k
unfolding cause_at
none_before s k b = record { none = b }

none_up_to : (s : Start) (k : ℕ) → NoneBefore s k → NoneUpTo s k
unfolding cause_at
none_up_to s k b = b.none

premises : (s₁ s₂ : Start) (n : ℕ) → PlainPremises s₁ s₂ n → Premises s₁ s₂ n
unfolding cause_at in_user_mode
premises s₁ s₂ n p = record {
  accepted₁ = p.accepted₁;
  accepted₂ = p.accepted₂;
  user_mode_lem = le-leb 0x8000 s₁.machine.psr p.user_mode_lem;
  same_visible = record {
    regs = p.regs;
    pc = p.pc;
    psr = p.psr;
    mcr = p.mcr;
    words =
        same_user_words s₁.memory s₂.memory
        (accepted_is_acceptable s₁ n p.accepted₁).size
        (accepted_is_acceptable s₂ n p.accepted₂).size
        p.words;
  };
  no_interrupt₁ = record { never = λ j l b. p.no_interrupt₁ j l (none_up_to s₁ j b) };
  no_interrupt₂ = record { never = λ j l b. p.no_interrupt₂ j l (none_up_to s₂ j b) };
}

up_to : (s : Start) (n k : ℕ) → k ≤ (call_of s n).steps → NoneUpTo s k → UpToFirst s n k
up_to s n k l b = record { made = l; none_before = none_before s k b }

equal_in_both : (s₁ s₂ : Start) (k : ℕ)
    → SameVisible (call_of s₁ k).machine (call_of s₂ k).machine (call_of s₁ k).memory (call_of s₂ k).memory
    → EqualInBoth s₁ s₂ k
equal_in_both s₁ s₂ k v = record {
  regs = v.regs;
  pc = v.pc;
  psr = v.psr;
  mcr = v.mcr;
  words = word_of_user (call_of s₁ k).memory (call_of s₂ k).memory v.words;
}

as_at_start : (s : Start) (k : ℕ) → Undisturbed s (call_of s k) → AsAtStart s k
as_at_start s k u = record {
  shown = u.none_shown;
  output = u.output_kept;
  below = word_below (call_of s k).memory s.memory (ap (λ (h : Hidden). h.below) u.hidden_kept);
  above = λ a l h. word_above (call_of s k).memory s.memory (ap (λ (h : Hidden). h.above) u.hidden_kept) a l;
  mcr = ap (λ (h : Hidden). h.mcr) u.hidden_kept;
  saved_ssp_lem = ap (λ (h : Hidden). h.saved_ssp) u.hidden_kept;
  saved_usp_lem = ap (λ (h : Hidden). h.saved_usp) u.hidden_kept;
}

-- ---- one run from the other

-- What the theorem says of one of the two runs.
record OneSide (s₁ s₂ : Start) (n : ℕ) : Type 0 where
  reached : (k : ℕ) → UpToFirst s₁ n k → UpToFirst s₂ n k
  same : (k : ℕ) → UpToFirst s₁ n k
      → SameVisible (call_of s₁ k).machine (call_of s₂ k).machine (call_of s₁ k).memory (call_of s₂ k).memory
  undisturbed : (k : ℕ) → UpToFirst s₁ n k → Undisturbed s₁ (call_of s₁ k)
  met : (k vector psr pc : ℕ) → First s₁ n k vector psr pc → First s₂ n k vector psr pc

follows : (s₁ s₂ : Start) (n : ℕ) → OneSide s₁ s₂ n → Follows s₁ s₂ n
unfolding cause_at
follows s₁ s₂ n o = record {
  reached = λ k l b.
      let u : UpToFirst s₂ n k = o.reached k (up_to s₁ n k l b) in
      (u.made, none_up_to s₂ k u.none_before);
  equal = λ k l b. equal_in_both s₁ s₂ k (o.same k (up_to s₁ n k l b));
  as_at_start = λ k l b. as_at_start s₁ k (o.undisturbed k (up_to s₁ n k l b));
  first = λ k reason psr pc l b t c.
      let f : First s₂ n k (vector_of reason) psr pc =
      o.met k (vector_of reason) psr pc
      (record {
        reason = reason;
        made = l;
        enters = c;
        is_trap_or_exception_lem = t;
        by_vector = refl;
        none_before = none_before s₁ k b;
      }) in (
        f.made,
        none_up_to s₂ k f.none_before,
        (f.reason, f.is_trap_or_exception_lem, f.by_vector, f.enters),
      );
}

swapped : (m₁ m₂ : End) → SameVisible m₁.machine m₂.machine m₁.memory m₂.memory
    → SameVisible m₂.machine m₁.machine m₂.memory m₁.memory
swapped m₁ m₂ v = record {
  regs = sym v.regs;
  pc = sym v.pc;
  psr = sym v.psr;
  mcr = sym v.mcr;
  words = sym v.words;
}

pub plain_demand_3 : PlainDemand3
plain_demand_3 s₁ s₂ n p =
    let a : Agreement s₁ s₂ n = noninterference s₁ s₂ n (premises s₁ s₂ n p) in
    record {
      by_second =
          follows s₁ s₂ n
          (record {
            reached = a.reached_by_second;
            same = a.same_visible;
            undisturbed = a.undisturbed₁;
            met = a.met_by_second;
          });
      by_first =
          follows s₂ s₁ n
          (record {
            reached = a.reached_by_first;
            same = λ k u. swapped (call_of s₁ k) (call_of s₂ k) (a.same_visible k (a.reached_by_first k u));
            undisturbed = a.undisturbed₂;
            met = a.met_by_first;
          });
      same_steps = λ b₁ b₂.
          a.same_steps (none_before s₁ (call_of s₁ n).steps b₁) (none_before s₂ (call_of s₂ n).steps b₂);
      same_stop = λ b₁ b₂.
          a.same_ending (none_before s₁ (call_of s₁ n).steps b₁) (none_before s₂ (call_of s₂ n).steps b₂);
    }
