-- The theorems on a start in User mode: the tests, and that a file whose words lie in User mode's leaves all others.
use Prim.Native.Nat.{ℕ, zero, suc, ◌+◌, ◌≤◌, ◌<◌}
use native.Mathlib.Omega.{arith}
use mathlib.Core.Path.{◌≡◌, refl, sym, ap, ◌∙◌}
use mathlib.Core.Bool.{Bool, true, false, cond, ◌||◌, true≢false}
use mathlib.Core.List.{List}
use borrow.Author.Tests.{ltb-false, leb-false, le-ltb, lt-leb}
use lib.Dec.{ltb, leb}
use lib.ListN.{length, get_or}
use Rattle.machine.specs.Protection.{privileged}
use Rattle.object.specs.File.{origin_in, words_in}
use Rattle.object.specs.Calls.{load_refusal}
use Rattle.start.specs.Start.{Starting, started_from, started_of, outside_user_words, user_refusal_after, user_refusal}
use Rattle.start.specs.Start.{user_started_by, user_started_of}
use Rattle.start.specs.UserStart.{RefusedUserStartTouchesNothing, InUserWords, AcceptedUserStart, UserRefusals}
use Rattle.start.specs.UserStart.{PrivilegedWordsStay}
use Rattle.start.proofs.UserLaws.{loading_refused_first, user_start_refused}
use Rattle.start.proofs.LoadedWords.{loaded_elsewhere}
use Rattle.start.proofs.Theorems.{accepted_start}

pub refused_user_start_touches_nothing : RefusedUserStartTouchesNothing
unfolding user_started_of
refused_user_start_touches_nothing file memory userStack h =
    sym (user_start_refused (user_refusal file memory) file memory userStack h)

-- ---- the tests

inside_is_accepted : (file : List ℕ) → InUserWords file
    → outside_user_words (origin_in file) (length (words_in file)) ≡ false
unfolding outside_user_words privileged
inside_is_accepted file i =
    rw (
      le-ltb (origin_in file) 0x3000 i.from,
      lt-leb 0xFE00 (origin_in file) i.below,
      le-ltb 0xFE00 (origin_in file + length (words_in file)) i.fits,
    )

accepted_is_inside : (file : List ℕ) → outside_user_words (origin_in file) (length (words_in file)) ≡ false
    → InUserWords file
unfolding outside_user_words privileged
accepted_is_inside file h =
    go (ltb (origin_in file) 0x3000) refl (leb 0xFE00 (origin_in file)) refl
    (ltb 0xFE00 (origin_in file + length (words_in file))) refl h
  where
    go : (x : Bool) → ltb (origin_in file) 0x3000 ≡ x → (y : Bool) → leb 0xFE00 (origin_in file) ≡ y
        → (z : Bool) → ltb 0xFE00 (origin_in file + length (words_in file)) ≡ z → ((x || y) || z) ≡ false
        → InUserWords file
    go true e y f z g h = absurd (true≢false h)
    go false e true f z g h = absurd (true≢false h)
    go false e false f true g h = absurd (true≢false h)
    go false e false f false g h = record {
      from = ltb-false (origin_in file) 0x3000 e;
      below = leb-false 0xFE00 (origin_in file) f;
      fits = ltb-false 0xFE00 (origin_in file + length (words_in file)) g;
    }

loading_accepted : (n : ℕ) (file : List ℕ) → user_refusal_after n file ≡ 0 → n ≡ 0
unfolding user_refusal_after
loading_accepted zero file h = refl
loading_accepted (suc n) file h = h

no_21 : (b : Bool) → ◌≡◌ {A = ℕ} (cond b 21 0) 0 → b ≡ false
no_21 true h = absurd (omega arith)
no_21 false h = refl

pub user_start_loads : (file memory : List ℕ) → user_refusal file memory ≡ 0 → load_refusal file memory ≡ 0
unfolding user_refusal
user_start_loads file memory h = loading_accepted (load_refusal file memory) file h

pub user_start_inside : (file memory : List ℕ) → user_refusal file memory ≡ 0 → InUserWords file
unfolding user_refusal user_refusal_after
user_start_inside file memory h =
    accepted_is_inside file
    (no_21 (outside_user_words (origin_in file) (length (words_in file))) (rw (user_start_loads file memory h) at h))

user_start_accepted : (file memory : List ℕ) → load_refusal file memory ≡ 0 → InUserWords file
    → user_refusal file memory ≡ 0
unfolding user_refusal user_refusal_after
user_start_accepted file memory h i = rw (h, inside_is_accepted file i)

pub user_start_is_start : (file memory : List ℕ) (userStack : ℕ) → user_refusal file memory ≡ 0
    → user_started_of file memory userStack ≡ started_of file memory true userStack
unfolding user_started_of user_started_by
user_start_is_start file memory userStack h = rw h

pub accepted_user_start : AcceptedUserStart
accepted_user_start = record {
  loads = user_start_loads;
  inside = user_start_inside;
  accepted = user_start_accepted;
  started = user_start_is_start;
}

-- ---- the number

pub user_refusal_answered : (file memory : List ℕ) (userStack : ℕ)
    → (user_started_of file memory userStack).refusal ≡ user_refusal file memory
user_refusal_answered file memory userStack = go (user_refusal file memory) refl
  where
    go : (n : ℕ) → user_refusal file memory ≡ n
        → (user_started_of file memory userStack).refusal ≡ user_refusal file memory
    go zero e =
        ap (λ (s : Starting). s.refusal)
        (user_start_is_start file memory userStack e
        ∙ accepted_start file memory true userStack (user_start_loads file memory e))
        ∙ sym e
    go (suc n) e =
        ap (λ (s : Starting). s.refusal)
        (refused_user_start_touches_nothing file memory userStack (λ z. omega (arith, e, z)))

then_21 : (file memory : List ℕ) → load_refusal file memory ≡ 0 → (InUserWords file → ⊥)
    → user_refusal file memory ≡ 21
unfolding user_refusal user_refusal_after
then_21 file memory h out = rw h (go (outside_user_words (origin_in file) (length (words_in file))) refl)
  where
    go : (b : Bool) → outside_user_words (origin_in file) (length (words_in file)) ≡ b → ◌≡◌ {A = ℕ} (cond b 21 0) 21
    go true e = refl
    go false e = absurd (out (accepted_is_inside file e))

loading_first : (file memory : List ℕ) → (load_refusal file memory ≡ 0 → ⊥)
    → user_refusal file memory ≡ load_refusal file memory
unfolding user_refusal
loading_first file memory h = sym (loading_refused_first (load_refusal file memory) file h)

pub user_refusals : UserRefusals
user_refusals = record { answered = user_refusal_answered; loading_first = loading_first; then_21 = then_21 }

-- ---- memory

user_word : (a : ℕ) → 0x3000 ≤ a → a < 0xFE00 → privileged a ≡ false
unfolding privileged
user_word a l h = rw (le-ltb a 0x3000 l, lt-leb 0xFE00 a h)

kept_from_users : (file memory : List ℕ) (userStack a : ℕ) → InUserWords file → privileged a ≡ true
    → get_or (started_of file memory true userStack).memory a 0 ≡ get_or memory a 0
unfolding started_of started_from
kept_from_users file memory userStack a i p =
    loaded_elsewhere file memory a
    (λ l h. absurd (true≢false (sym p ∙ user_word a (omega (arith, i.from)) (omega (arith, i.fits)))))

pub privileged_words_stay : PrivilegedWordsStay
privileged_words_stay file memory userStack a p = go (user_refusal file memory) refl
  where
    go : (n : ℕ) → user_refusal file memory ≡ n
        → get_or (user_started_of file memory userStack).memory a 0 ≡ get_or memory a 0
    go zero e = rw (user_start_is_start file memory userStack e)
        (kept_from_users file memory userStack a (user_start_inside file memory e) p)
    go (suc n) e =
        rw (refused_user_start_touches_nothing file memory userStack (λ z. omega (arith, e, z)))
