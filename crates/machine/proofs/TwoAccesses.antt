-- Two accesses side by side, in User mode: from records and memories that look the same to User mode, both are denied
-- and make the same entry, or both are made at an address of User mode's; so what they give and what they leave looks
-- the same again.
use Prim.Native.Nat.{ℕ, ◌+◌, ◌*◌, ◌/◌, ◌≤◌}
use mathlib.Core.Path.{◌≡◌, refl}
use mathlib.Core.Bool.{true, false}
use mathlib.Core.List.{List, []}
use native.Mathlib.Omega.{arith}
use lib.Dec.{ltb, leb}
use lib.ListN.{get_or}
use borrow.Author.Tests.{ltb-false, leb-true, leb-false, le-leb, lt-leb}
use Rattle.machine.specs.declared.Machine.{Machine}
use Rattle.machine.specs.Words.{next}
use Rattle.machine.specs.Psr.{in_user_mode, Codes, kept, set_from, codes_of, recoded}
use Rattle.machine.specs.Outcome.{Reason, access, instruction, entered, Outcome, with_reads, after_instruction}
use Rattle.machine.specs.Protection.{privileged, denied_by, denied}
use Rattle.machine.specs.Entry.{entry, raised}
use Rattle.machine.specs.Devices.{is_device_by, loaded_value_by, loaded_value, after_load, stored_by, stored}
use Rattle.machine.specs.Access.{checked, load_to_by, load_to, store_at_by, store_at, by_pointer_by, by_pointer}
use Rattle.machine.specs.Visible.{user_words, SameVisible, Hidden, hidden_of}
use Rattle.machine.specs.Causes.{is_trap_or_exception}
use Rattle.machine.specs.TwoSteps.{SameOutcome, both_obey, both_enter}
use Rattle.machine.proofs.Tests.{or_is_false, same_test_same_branch}
use Rattle.machine.proofs.MemoryParts.{UserAddress, user_word_is_in_user_words, store_changes_user_words}
use Rattle.machine.proofs.MemoryParts.{store_leaves_words_below, store_leaves_words_above}

-- ---- tests

pub allowed_in_user_mode : (psr a : ℕ) → in_user_mode psr ≡ true → denied psr a ≡ false → UserAddress a
unfolding denied_by privileged
allowed_in_user_mode psr a u e =
    let h : (ltb a 0x3000 ≡ false) × (leb 0xFE00 a ≡ false) = or_is_false (ltb a 0x3000) (leb 0xFE00 a) (rw u at e) in
    record { low = ltb-false a 0x3000 h.0; high = leb-false 0xFE00 a h.1 }

codes_leave_user_mode : (c : Codes) (psr : ℕ) → in_user_mode psr ≡ true → in_user_mode (recoded c psr) ≡ true
unfolding in_user_mode recoded
codes_leave_user_mode kept psr u = u
codes_leave_user_mode (set_from v) psr u =
    let h : 0x8000 ≤ psr = leb-true 0x8000 psr u in
    le-leb 0x8000 (psr / 8 * 8 + codes_of v) (omega arith)

-- ---- two outcomes

-- Words read before change nothing of this.
pub reads_do_not_matter : (reads₁ reads₂ : List ℕ) (h₁ h₂ : Hidden) (o₁ o₂ : Outcome) → SameOutcome h₁ h₂ o₁ o₂
    → SameOutcome h₁ h₂ (with_reads reads₁ o₁) (with_reads reads₂ o₂)
unfolding with_reads
reads_do_not_matter reads₁ reads₂ h₁ h₂ o₁ o₂ (both_obey g c₁ c₂) =
    both_obey g
    (record { user = c₁.user; hidden_kept = c₁.hidden_kept; shows_nothing = c₁.shows_nothing; obeys = c₁.obeys })
    (record { user = c₂.user; hidden_kept = c₂.hidden_kept; shows_nothing = c₂.shows_nothing; obeys = c₂.obeys })
reads_do_not_matter reads₁ reads₂ h₁ h₂ o₁ o₂ (both_enter r x y t e₁ e₂ z₁ z₂) = both_enter r x y t e₁ e₂ z₁ z₂

-- ---- from one pair of records and memories

module _ (m₁ m₂ : Machine) (mem₁ mem₂ : List ℕ) (g : SameVisible m₁ m₂ mem₁ mem₂) (u : in_user_mode m₁.psr ≡ true)
  where
    pub second_in_user_mode : in_user_mode m₂.psr ≡ true
    second_in_user_mode = rw g.psr at u

    pub entries_agree : (reason : Reason) {pc₁ pc₂ : ℕ} → is_trap_or_exception reason ≡ true → pc₁ ≡ pc₂
        → SameOutcome (hidden_of m₁ mem₁) (hidden_of m₂ mem₂) (raised reason pc₁ m₁ mem₁) (raised reason pc₂ m₂ mem₂)
    unfolding raised entry
    entries_agree reason {pc₁} {pc₂} t e = both_enter reason m₁.psr pc₁ t refl (cc) refl refl

    -- Every access goes through here: both are denied, or the address is User mode's.
    pub checks_agree : (a₁ a₂ : ℕ) {o₁ o₂ : Outcome} → a₁ ≡ a₂
        → (UserAddress a₁ → SameOutcome (hidden_of m₁ mem₁) (hidden_of m₂ mem₂) o₁ o₂)
        → SameOutcome (hidden_of m₁ mem₁) (hidden_of m₂ mem₂) (checked a₁ m₁ mem₁ o₁) (checked a₂ m₂ mem₂ o₂)
    checks_agree a₁ a₂ q f =
        same_test_same_branch (SameOutcome (hidden_of m₁ mem₁) (hidden_of m₂ mem₂)) (denied m₁.psr a₁)
        (denied m₂.psr a₂) (cc)
        (λ e. entries_agree access refl g.pc)
        (λ e. f (allowed_in_user_mode m₁.psr a₁ u e))

    pub user_words_agree : (a₁ a₂ : ℕ) → a₁ ≡ a₂ → UserAddress a₁ → get_or mem₁ a₁ 0 ≡ get_or mem₂ a₂ 0
    user_words_agree a₁ a₂ q w =
        let e : user_words mem₁ ≡ user_words mem₂ = g.words in
        rw (← q) (cc (user_word_is_in_user_words mem₁ a₁ w, user_word_is_in_user_words mem₂ a₁ w))

    -- No device register is at an address of User mode's.
    pub loaded_values_agree : (a : ℕ) → UserAddress a → loaded_value a m₁ mem₁ ≡ loaded_value a m₂ mem₂
    unfolding loaded_value_by is_device_by
    loaded_values_agree a w = rw (lt-leb 0xFE00 a w.high) (user_words_agree a a refl w)

    -- The end of every instruction that stores nothing.
    pub instructions_end_alike : {regs₁ regs₂ : List ℕ} {pc₁ pc₂ : ℕ} {c₁ c₂ : Codes} {reads₁ reads₂ : List ℕ} → regs₁
        ≡ regs₂
        → pc₁ ≡ pc₂ → c₁ ≡ c₂
        → SameOutcome (hidden_of m₁ mem₁) (hidden_of m₂ mem₂)
        (record {
          machine = after_instruction regs₁ pc₁ c₁ m₁;
          memory = mem₁;
          shown = [];
          cause = instruction;
          reads =
              reads₁;
          writes = [];
        })
        (record {
          machine = after_instruction regs₂ pc₂ c₂ m₂;
          memory = mem₂;
          shown = [];
          cause = instruction;
          reads =
              reads₂;
          writes = [];
        })
    unfolding after_instruction
    instructions_end_alike {c₁} {c₂} r p c =
        both_obey (record { regs = r; pc = p; psr = cc; mcr = g.mcr; words = g.words })
        (record { user = codes_leave_user_mode c₁ m₁.psr u; hidden_kept = refl; shows_nothing = refl; obeys = refl })
        (record {
          user = codes_leave_user_mode c₂ m₂.psr second_in_user_mode;
          hidden_kept = refl;
          shows_nothing = refl;
          obeys = refl;
        })

    pub load_leaves_visible : (a : ℕ) → SameVisible (after_load a m₁) (after_load a m₂) mem₁ mem₂
    unfolding after_load
    load_leaves_visible a = record { regs = g.regs; pc = g.pc; psr = g.psr; mcr = g.mcr; words = g.words }

    pub stores_agree : (v a : ℕ) → UserAddress a
        → SameOutcome (hidden_of m₁ mem₁) (hidden_of m₂ mem₂) (stored v a m₁ mem₁) (stored v a m₂ mem₂)
    unfolding stored_by is_device_by
    stores_agree v a w =
        rw (lt-leb 0xFE00 a w.high)
        (both_obey
        (record {
          regs = g.regs;
          pc = g.pc;
          psr = g.psr;
          mcr = g.mcr;
          words = cc (store_changes_user_words mem₁ a v w, store_changes_user_words mem₂ a v w);
        })
        (record {
          user = u;
          hidden_kept = cc (store_leaves_words_below mem₁ a v w, store_leaves_words_above mem₁ a v w);
          shows_nothing = refl;
          obeys = refl;
        })
        (record {
          user = second_in_user_mode;
          hidden_kept = cc (store_leaves_words_below mem₂ a v w, store_leaves_words_above mem₂ a v w);
          shows_nothing = refl;
          obeys = refl;
        }))

-- ---- the accesses of LD, LDR, LDI, ST, STR, STI

module _ (m₁ m₂ : Machine) (mem₁ mem₂ : List ℕ) (g : SameVisible m₁ m₂ mem₁ mem₂) (u : in_user_mode m₁.psr ≡ true)
  where
    pub next_agrees : next m₁.pc ≡ next m₂.pc
    next_agrees = cc

    pub loads_to_register_agree : (r a₁ a₂ : ℕ) → a₁ ≡ a₂
        → SameOutcome (hidden_of m₁ mem₁) (hidden_of m₂ mem₂) (load_to r a₁ m₁ mem₁) (load_to r a₂ m₂ mem₂)
    unfolding load_to_by after_load
    loads_to_register_agree r a₁ a₂ q =
        rw (← q)
        (checks_agree m₁ m₂ mem₁ mem₂ g u a₁ a₁ refl
        (λ w.
        let v : loaded_value a₁ m₁ mem₁ ≡ loaded_value a₁ m₂ mem₂ = loaded_values_agree m₁ m₂ mem₁ mem₂ g u a₁ w in
        instructions_end_alike (after_load a₁ m₁) (after_load a₁ m₂) mem₁ mem₂ (load_leaves_visible m₁ m₂ mem₁ mem₂ g u
        a₁)
        u (cc)
        next_agrees (cc)))

    pub stores_of_value_agree : (v a₁ a₂ : ℕ) → a₁ ≡ a₂
        → SameOutcome (hidden_of m₁ mem₁) (hidden_of m₂ mem₂) (store_at v a₁ m₁ mem₁) (store_at v a₂ m₂ mem₂)
    unfolding store_at_by after_instruction recoded
    stores_of_value_agree v a₁ a₂ q =
        rw (← q)
        (checks_agree m₁ m₂ mem₁ mem₂ g u a₁ a₁ refl
        (λ w.
        stores_agree (after_instruction m₁.regs (next m₁.pc) kept m₁)
        (after_instruction m₂.regs (next m₂.pc) kept m₂) mem₁
        mem₂ (record { regs = g.regs; pc = next_agrees; psr = g.psr; mcr = g.mcr; words = g.words }) u v a₁ w))

-- What holds of a data access from any two records that look the same.
abbrev pub AccessesAgree : List ℕ → List ℕ → (ℕ → Machine → List ℕ → Outcome) → Type 0
AccessesAgree mem₁ mem₂ data-access = (m₁ m₂ : Machine) → SameVisible m₁ m₂ mem₁ mem₂ → in_user_mode m₁.psr ≡ true
    → (a₁ a₂ : ℕ)
    → a₁ ≡ a₂ → SameOutcome (hidden_of m₁ mem₁) (hidden_of m₂ mem₂) (data-access a₁ m₁ mem₁) (data-access a₂ m₂ mem₂)

module _ (m₁ m₂ : Machine) (mem₁ mem₂ : List ℕ) (g : SameVisible m₁ m₂ mem₁ mem₂) (u : in_user_mode m₁.psr ≡ true)
  where
    pub accesses_by_pointer_agree : (a : ℕ) (data-access : ℕ → Machine → List ℕ → Outcome)
        → AccessesAgree mem₁ mem₂ data-access
        → SameOutcome (hidden_of m₁ mem₁) (hidden_of m₂ mem₂) (by_pointer a data-access m₁ mem₁)
        (by_pointer a data-access m₂ mem₂)
    unfolding by_pointer_by after_load
    accesses_by_pointer_agree a data-access agree =
        checks_agree m₁ m₂ mem₁ mem₂ g u a a refl
        (λ w.
        reads_do_not_matter _ _ _ _ _ _
        (agree (after_load a m₁) (after_load a m₂) (load_leaves_visible m₁ m₂ mem₁ mem₂ g u a) u _ _
        (loaded_values_agree m₁ m₂ mem₁ mem₂ g u a w)))
