-- A file that `start_user` accepts: it leaves privileged words as they are, so that the claim stays the same.
use Prim.Native.Nat.{ℕ, suc, ◌≤◌, ◌<◌}
use native.Mathlib.Omega.{arith}
use mathlib.Core.Path.{◌≡◌, refl, sym, ap, ◌∙◌}
use mathlib.Core.Bool.{true}
use mathlib.Core.List.{List, [], ◌∷◌}
use borrow.Author.Tests.{lt-ltb}
use lib.ListN.{length, get_or}
use Rattle.machine.specs.declared.Machine.{Machine}
use Rattle.machine.specs.Psr.{in_user_mode}
use Rattle.machine.specs.Protection.{privileged}
use Rattle.run.specs.Fresh.{fresh_of}
use Rattle.object.specs.Calls.{load_refusal, load_of}
use Rattle.object.proofs.Acceptance.{accepted_is_readable}
use Rattle.start.specs.Start.{Starting, user_refusal, user_started_of}
use Rattle.start.proofs.Theorems.{accepted_start}
use Rattle.start.proofs.LoadedWords.{loaded_length}
use Rattle.start.proofs.UserStart.{user_start_loads, user_start_is_start, user_refusal_answered, privileged_words_stay}
use Rattle.sitting.specs.Test.{Claim, passes}
use Rattle.claims.specs.Encoding.{cells_of, claim_of}
use Rattle.findings.specs.Finding.{certify_of}
use Rattle.findings.specs.Answer.{SitsOn, AcceptedFileSits}
use Rattle.findings.proofs.Claimed.{cells_below, short_kinds}
use Rattle.findings.proofs.Answer.{passed}

-- Cells are of the words that are listed alone.
cells_same : (kinds memory₁ memory₂ : List ℕ) → length memory₁ ≡ length memory₂
    → ((a : ℕ) → a < length kinds → get_or memory₁ a 0 ≡ get_or memory₂ a 0) → cells_of kinds memory₁
    ≡ cells_of kinds memory₂
unfolding cells_of
cells_same [] memory₁ memory₂ e h = refl
cells_same (k ∷ kinds) [] [] e h = refl
cells_same (k ∷ kinds) [] (w ∷ memory₂) e h = absurd (omega arith)
cells_same (k ∷ kinds) (w ∷ memory₁) [] e h = absurd (omega arith)
cells_same (k ∷ kinds) (v ∷ memory₁) (w ∷ memory₂) e h =
    rw (h 0 (omega arith), cells_same kinds memory₁ memory₂ (omega arith) (λ a l. h (suc a) (omega arith))) refl

low_is_privileged : (a : ℕ) → a < 0x3000 → privileged a ≡ true
unfolding privileged
low_is_privileged a h = rw (lt-ltb a 0x3000 h)

-- What an accepted file starts, and the sizes of memory.
record Started (file memory : List ℕ) (userStack : ℕ) : Type 0 where
  pc : ℕ
  machine : (user_started_of file memory userStack).machine ≡ fresh_of pc true userStack
  before : length memory ≡ 65536
  after : length (user_started_of file memory userStack).memory ≡ 65536

started_as : (file memory : List ℕ) (userStack : ℕ) → user_refusal file memory ≡ 0 → Started file memory userStack
started_as file memory userStack h =
    let l : load_refusal file memory ≡ 0 = user_start_loads file memory h in
    let r = accepted_is_readable file memory l in
    let s = user_start_is_start file memory userStack h ∙ accepted_start file memory true userStack l in
    record {
      pc = (load_of file memory).origin;
      machine = ap (λ (x : Starting). x.machine) s;
      before = r.size;
      after = ap (λ (x : Starting). length x.memory) s ∙ (loaded_length file memory ∙ r.size);
    }

fresh_sits : (pc userStack : ℕ) (memory : List ℕ) (m : Machine) → m ≡ fresh_of pc true userStack
    → length memory ≡ 65536 → SitsOn memory m
unfolding fresh_of in_user_mode
fresh_sits pc userStack memory m e size =
    rw e (record { registers = refl; size = size; user_mode_lem = refl; stack = refl })

pub accepted_file_sits : AcceptedFileSits
unfolding certify_of
accepted_file_sits memory kinds lowest watched ends table h file userStack e =
    let s : Started file memory userStack =
    started_as file memory userStack (sym (user_refusal_answered file memory userStack) ∙ e) in
    let c : Claim = claim_of memory kinds lowest watched ends table in
    let p : passes c ≡ true = passed memory kinds lowest watched ends table h in
    let n : length kinds ≤ 0x2FFE = short_kinds memory kinds s.before (cells_below c p) in
    let same : cells_of kinds (user_started_of file memory userStack).memory ≡ cells_of kinds memory =
    cells_same kinds (user_started_of file memory userStack).memory memory (s.after ∙ sym s.before)
    (λ a l. privileged_words_stay file memory userStack a (low_is_privileged a (omega arith))) in
    (fresh_sits s.pc userStack _ _ s.machine s.after, rw same h)
