-- M27.7 and M28 in plain terms: from the theorems on runs; what is among a list is tested by `is_among` there.
use Rattle.machine.specs.declared.Interrupt.{Interrupt}
use Rattle.std.specs.Prelude.{Option, None, Some}
use Prim.Native.Nat.{ℕ, suc, ◌%◌, ◌≤◌, ◌<◌}
use mathlib.Core.Path.{◌≡◌, refl, sym, ap, ◌∙◌}
use mathlib.Core.Bool.{Bool, true, false, true≢false, ◌||◌}
use mathlib.Core.List.{List, [], ◌∷◌}
use native.Mathlib.Omega.{arith}
use borrow.Author.Tests.{eqb-true, eqb-false, ne_eqb, lt-leb, leb-true}
use lib.Dec.{eqb, leb}
use lib.ListN.{get_or}
use Rattle.word.specs.Reading.{read_of}
use Rattle.word.specs.declared.Instruction.{Instruction}
use Rattle.word.specs.declared.Instruction.TheVariants.{Br, AddRegister, AddImmediate, Ld, St, Jsr, Jsrr, AndRegister}
use Rattle.word.specs.declared.Instruction.TheVariants.{AndImmediate, Ldr, Str, Rti, Not, Ldi, Sti, Jmp, Reserved, Lea}
use Rattle.word.specs.declared.Instruction.TheVariants.{Trap}
use Rattle.machine.specs.declared.Machine.{Machine}
use Rattle.machine.specs.Edition.{Edition, second}
use Rattle.machine.specs.Psr.{in_user_mode}
use Rattle.machine.specs.Protection.{privileged, denied_by, denied}
use Rattle.machine.specs.Interrupts.{pending_interrupt}
use Rattle.machine.specs.Plan.{plan_by}
use Rattle.machine.specs.Exclusions.{Exclusion, lea, trap, jsrr_r7, privileged_address, psr_address, accesses_of}
use Rattle.machine.specs.Exclusions.{exclusions_of}
use Rattle.machine.specs.Step.{Step, after_start, step_by}
use Rattle.footprint.specs.Footprint.{Each, NoneOf}
use Rattle.footprint.specs.Altered.{is_among}
use Rattle.run.specs.Run.{Start, End, arriving, next_step_by}
use Rattle.run.specs.Refusals.{admission_of}
use Rattle.run.specs.Call.{start_of, call_by, second_call_of}
use Rattle.run.specs.SecondEdition.{exclusions_at}
use Rattle.run.specs.AlteredWords.{reads_at, writes_at, SameEnds}
use Rattle.run.specs.OneAlteredWord.{with_word, only, takes, replaces, NotTaken, NotTakenUpTo, Reach}
use Rattle.run.proofs.SecondEdition.{ends_as_newer_run}
use Rattle.run.proofs.OneAlteredWord.{one_altered_word}
use Rattle.statements.specs.Excluded.{instruction_at, accesses_at, Named, EachNamed}
use Rattle.statements.specs.PlainRequests.{addresses_of, Common, CommonNext, PlainRequest10, NoneTakes, AllBut}
use Rattle.statements.specs.PlainRequests.{TellsOf, PlainRequest14}
use Rattle.statements.proofs.Excluded.{exclusions_are_named}

-- ---- what is among a list

among_each : (P : ℕ → Type 0) (a : ℕ) (l : List ℕ) → Each P l → is_among a l ≡ true → P a
unfolding is_among
among_each P a [] h t = absurd (true≢false (sym t))
among_each P a (b ∷ l) h t = go (eqb a b) refl (λ r. among_each P a l h.1 r)
  where
    go : (c : Bool) → eqb a b ≡ c → (is_among a l ≡ true → P a) → P a
    go true e rest = rw (eqb-true a b e) h.0
    go false e rest = rest (rw e at t)

none_is_not_among : (a : ℕ) (l : List ℕ) → NoneOf a l → is_among a l ≡ false
unfolding is_among
none_is_not_among a [] h = refl
none_is_not_among a (b ∷ l) h = rw (ne_eqb a b h.0) (none_is_not_among a l h.1)

not_among_is_none : (a : ℕ) (l : List ℕ) → is_among a l ≡ false → NoneOf a l
unfolding is_among
not_among_is_none a [] h = tt
not_among_is_none a (b ∷ l) h = go (eqb a b) refl (λ r. not_among_is_none a l r)
  where
    go : (c : Bool) → eqb a b ≡ c → (is_among a l ≡ false → NoneOf a l) → NoneOf a (b ∷ l)
    go true e rest = absurd (true≢false (rw e at h))
    go false e rest = (eqb-false a b e, rest (rw e at h))

-- ---- M27.7

same_addresses : (i : Instruction) (m : Machine) (mem : List ℕ)
    → accesses_of (plan_by second m.regs m.pc m.psr i) m mem ≡ addresses_of i m mem
unfolding plan_by accesses_of
same_addresses (Br mask n) m mem = refl
same_addresses (AddRegister d a b) m mem = refl
same_addresses (AddImmediate d a n) m mem = refl
same_addresses (Ld d n) m mem = refl
same_addresses (St s n) m mem = refl
same_addresses (Jsr n) m mem = refl
same_addresses (Jsrr b) m mem = refl
same_addresses (AndRegister d a b) m mem = refl
same_addresses (AndImmediate d a n) m mem = refl
same_addresses (Ldr d b n) m mem = refl
same_addresses (Str s b n) m mem = refl
same_addresses Rti m mem = refl
same_addresses (Not d a) m mem = refl
same_addresses (Ldi d n) m mem = refl
same_addresses (Sti s n) m mem = refl
same_addresses (Jmp b) m mem = refl
same_addresses (Reserved low) m mem = refl
same_addresses (Lea d n) m mem = refl
same_addresses (Trap vector) m mem = refl

-- An address of User mode's is not denied.
open_is_not_denied : (psr a : ℕ) → (0x8000 ≤ psr → (0x3000 ≤ a) × (a ≤ 0xFDFF)) → denied psr a ≡ true → ⊥
unfolding denied_by in_user_mode privileged
open_is_not_denied psr a h t = go (leb 0x8000 psr) refl
  where
    go : (c : Bool) → leb 0x8000 psr ≡ c → ⊥
    go false e = true≢false (sym (rw e at t))
    go true e =
        let u = h (leb-true 0x8000 psr e) in
        true≢false
        (sym (rw (e, lt-leb (suc a) 0x3000 (omega (arith, u.0)), lt-leb 0xFE00 a (omega (arith, u.1))) at t))

not_named : (m : Machine) (mem : List ℕ) → Common (instruction_at m mem) m mem → (x : Exclusion) → Named m mem x → ⊥
not_named m mem c lea (d, n, e) = c.no_lea d n e
not_named m mem c trap (vector, e) = c.no_trap vector e
not_named m mem c jsrr_r7 (b, e, r) = c.no_jsrr_r7 b e r
not_named m mem c privileged_address (a, h, t) =
    open_is_not_denied m.psr a
    (λ u. among_each (λ (b : ℕ). (0x3000 ≤ b) × (b ≤ 0xFDFF)) a (m.pc ∷ addresses_of (instruction_at m mem) m mem)
    (c.none_privileged u)
    (rw (same_addresses (instruction_at m mem) m mem) at h))
    t
not_named m mem c psr_address h =
    true≢false
    (sym h ∙ ap (is_among 0xFFFC) (same_addresses (instruction_at m mem) m mem)
    ∙ none_is_not_among 0xFFFC (addresses_of (instruction_at m mem) m mem) c.no_psr)

none_named : (m : Machine) (mem : List ℕ) → Common (instruction_at m mem) m mem → (l : List Exclusion)
    → EachNamed m mem l → l ≡ []
unfolding EachNamed
none_named m mem c [] h = refl
none_named m mem c (x ∷ l) h = absurd (not_named m mem c x h.0)

is_nothing : Option Interrupt → Bool
is_nothing None = true
is_nothing (Some q) = false

interrupt_is_not_nothing : (q : Interrupt) → ◌≡◌ {A = Option Interrupt} (Some q) None → ⊥
unfolding is_nothing
interrupt_is_not_nothing q h = true≢false (sym (ap is_nothing h))

common_meets_none : (s : Start) (e : End) → CommonNext s e → exclusions_of (arriving s e) e.machine e.memory ≡ []
common_meets_none s e c = go (pending_interrupt (after_start (arriving s e) e.machine)) refl
  where
    go : (p : Option Interrupt) → pending_interrupt (after_start (arriving s e) e.machine) ≡ p
        → exclusions_of (arriving s e) e.machine e.memory ≡ []
    go None z =
        none_named (after_start (arriving s e) e.machine) e.memory (c z)
        (exclusions_of (arriving s e) e.machine e.memory)
        (exclusions_are_named (arriving s e) e.machine e.memory).named
    go (Some q) z =
        (exclusions_are_named (arriving s e) e.machine e.memory).none_at_interrupt
        (λ n. interrupt_is_not_nothing q (sym z ∙ n))

pub plain_request_10 : PlainRequest10
unfolding exclusions_at
plain_request_10 s n made stopped =
    ends_as_newer_run s n
    (record {
      made = λ k l. common_meets_none s (second_call_of s k) (made k l);
      stopped_before = λ f. common_meets_none s (second_call_of s (second_call_of s n).steps) (stopped f);
    })

-- ---- M28

not_taken : (step : Step) (w : ℕ) (s : Start) (k : ℕ) → NoneTakes step w s k → NotTaken step w s k
unfolding takes reads_at
not_taken step w s k h = record {
  none = λ j l. none_is_not_among w (next_step_by step s (call_by step s j)).reads (h j l);
}

none_takes : (step : Step) (w : ℕ) (s : Start) (k : ℕ) → NotTaken step w s k → NoneTakes step w s k
unfolding takes reads_at
none_takes step w s k h = λ j l. not_among_is_none w (next_step_by step s (call_by step s j)).reads (h.none j l)

up_to : (step : Step) (w : ℕ) (s : Start) (n k : ℕ) → k ≤ (call_by step s n).steps → NoneTakes step w s k
    → NotTakenUpTo step w s n k
up_to step w s n k l h = record { made = l; not_taken = not_taken step w s k h }

all_but : (w : ℕ) (e₁ e₂ : End) → SameEnds (only w) e₁ e₂ → AllBut w e₁ e₂
unfolding only
all_but w e₁ e₂ h = record {
  machine = h.machine;
  output = h.output;
  size = h.memory.size;
  words = λ a z. h.memory.words a (ne_eqb a w z);
  steps = h.steps;
  keys = h.keys;
  shown = h.shown;
  ending = h.ending;
}

replaced : (step : Step) (w : ℕ) (s : Start) (j : ℕ)
    → (NoneOf w (next_step_by step s (call_by step s j)).writes → ⊥) → replaces step w s j ≡ true
unfolding replaces writes_at
replaced step w s j h = go (is_among w (next_step_by step s (call_by step s j)).writes) refl
  where
    go : (c : Bool) → is_among w (next_step_by step s (call_by step s j)).writes ≡ c
        → is_among w (next_step_by step s (call_by step s j)).writes ≡ true
    go true e = e
    go false e = absurd (h (not_among_is_none w (next_step_by step s (call_by step s j)).writes e))

tells : (step : Step) (w : ℕ) (s₁ s₂ : Start) (n : ℕ) → Reach step w s₁ s₂ n → TellsOf step w s₁ s₂ n
tells step w s₁ s₂ n r = record {
  reached_by_second = λ k l h.
      let u : NotTakenUpTo step w s₂ n k = r.reached_by_second k (up_to step w s₁ n k l h) in
      (u.made, none_takes step w s₂ k u.not_taken);
  reached_by_first = λ k l h.
      let u : NotTakenUpTo step w s₁ n k = r.reached_by_first k (up_to step w s₂ n k l h) in
      (u.made, none_takes step w s₁ k u.not_taken);
  same = λ k l h. all_but w (call_by step s₁ k) (call_by step s₂ k) (r.same k (up_to step w s₁ n k l h));
  same_to_the_end = λ h₁ h₂.
      all_but w (call_by step s₁ n) (call_by step s₂ n)
      (r.same_to_the_end
      (not_taken step w s₁ (call_by step s₁ n).steps h₁) (not_taken step w s₂ (call_by step s₂ n).steps h₂));
  equal = λ k j l h b z. r.equal_once_replaced k j (up_to step w s₁ n k l h) b (replaced step w s₁ j z);
}

pub plain_request_14 : PlainRequest14
unfolding with_word
plain_request_14 edition w v s n a =
    tells (step_by edition) w s
    (with_word w v s) n (one_altered_word edition w v s n a)
