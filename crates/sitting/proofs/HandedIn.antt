-- The theorems on files that are handed in: `start_user` leaves privileged words as they are, so that what it accepts
-- begins a sitting beside the monitor.
use Prim.Native.Nat.{ℕ, zero, suc, ◌+◌, ◌≤◌, ◌<◌}
use native.Mathlib.Omega.{arith}
use mathlib.Core.Path.{◌≡◌, refl, sym, ap, ◌∙◌}
use mathlib.Core.Bool.{Bool, true, false, ◌&&◌, ◌||◌, or-true, true≢false}
use mathlib.Core.List.{List, [], ◌∷◌}
use borrow.Author.Tests.{ltb-true, lt-ltb, eq-eqb}
use lib.Dec.{leb, ltb}
use lib.ListN.{length, length-append, length-drop}
use Rattle.machine.specs.Psr.{in_user_mode}
use Rattle.machine.specs.Protection.{privileged}
use Rattle.footprint.specs.Footprint.{SameWordAt}
use Rattle.footprint.specs.Altered.{SameOutside}
use Rattle.object.specs.File.{origin_in, words_in}
use Rattle.object.specs.Calls.{wrong_size, load_refusal, load_accepted, load_of}
use Rattle.object.proofs.Acceptance.{accepted_is_readable, readable_is_loaded}
use Rattle.start.specs.Start.{Starting, started_from, started_of, user_refusal, user_started_of}
use Rattle.start.proofs.Theorems.{accepted_start}
use Rattle.start.proofs.LoadedWords.{Place, before, within, after, place, loaded_length, loaded_within}
use Rattle.start.proofs.LoadedWords.{loaded_elsewhere}
use Rattle.start.proofs.UserStart.{refused_user_start_touches_nothing, user_start_loads, user_start_is_start}
use Rattle.start.proofs.UserStart.{user_refusal_answered, privileged_words_stay}
use Rattle.run.specs.Fresh.{fresh_of}
use Rattle.monitor.specs.Install.{install_of}
use Rattle.monitor.proofs.Intact.{monitor_length, monitor_word}
use Rattle.monitor.proofs.InstallLaws.{installed_is_intact}
use Rattle.sitting.specs.Sitting.{is_enabled, stack_from, lowest_stack_word, is_secret_above, Call, answer_after}
use Rattle.sitting.specs.Sitting.{Begins}
use Rattle.sitting.specs.Sitting.{TellsNothing, HasMonitor}
use Rattle.sitting.specs.HandedIn.{is_marking_word, BeginsIn, AcceptedFileBegins, Prepared, SameStarts}
use Rattle.sitting.specs.HandedIn.{SameSittings, FilesLearnNothing, LiesInMarkingWords, AllLieInMarkingWords}
use Rattle.sitting.specs.HandedIn.{loaded_with, prepared_of, CandidateLearnsNothing}
use Rattle.sitting.proofs.MonitorWords.{has_monitor, monitor_word_is_open}
use Rattle.sitting.proofs.Ours.{sitting_tells_nothing}

-- ---- addresses

secret_is_privileged : (stack a : ℕ) → is_secret_above stack a ≡ true → stack ≤ 0x3000 → privileged a ≡ true
unfolding is_secret_above privileged
secret_is_privileged stack a h low = go (leb 0x02A5 a) (ltb a stack) refl (leb 0xFE00 a) h
  where
    go : (x y : Bool) → ltb a stack ≡ y → (z : Bool) → (x && y || z) ≡ true → (ltb a 0x3000 || z) ≡ true
    go true true e z h = rw (lt-ltb a 0x3000 (omega (arith, ltb-true a stack e)))
    go true false e z h = rw h (or-true (ltb a 0x3000))
    go false y e z h = rw h (or-true (ltb a 0x3000))

marking_is_privileged : (a : ℕ) → is_marking_word a ≡ true → privileged a ≡ true
marking_is_privileged a h = secret_is_privileged _ a h (omega arith)

monitor_is_privileged : (a : ℕ) → a < 0x02A5 → privileged a ≡ true
unfolding privileged
monitor_is_privileged a h = rw (lt-ltb a 0x3000 (omega arith))

-- ---- an accepted file

-- What is answered then, and that memory has its size.
pub record Accepted (file memory : List ℕ) (userStack : ℕ) : Type 0 where
  pub is : user_started_of file memory userStack ≡ record {
    machine = fresh_of (origin_in file) true userStack;
    words = length (words_in file);
    refusal = 0;
    memory = (load_of file memory).memory;
  }
  pub size : length memory ≡ 65536
  pub size_after : length (user_started_of file memory userStack).memory ≡ 65536

accepted_as : (file memory : List ℕ) (userStack : ℕ) → user_refusal file memory ≡ 0 → Accepted file memory userStack
unfolding load_accepted
accepted_as file memory userStack h =
    let l : load_refusal file memory ≡ 0 = user_start_loads file memory h in
    let r = accepted_is_readable file memory l in
    let started : user_started_of file memory userStack ≡ record {
      machine = fresh_of (load_of file memory).origin true userStack;
      words = (load_of file memory).words;
      refusal = 0;
      memory = (load_of file memory).memory;
    } =
    user_start_is_start file memory userStack h ∙ accepted_start file memory true userStack l in
    record {
      is = started ∙ rw (readable_is_loaded file memory r);
      size = r.size;
      size_after = ap (λ (s : Starting). length s.memory) started ∙ loaded_length file memory ∙ r.size;
    }

-- The monitor's words are privileged, so they stay.
monitor_stays : (file memory : List ℕ) (userStack : ℕ) → HasMonitor memory
    → HasMonitor (user_started_of file memory userStack).memory
monitor_stays file memory userStack m = go (user_refusal file memory) refl
  where
    go : (n : ℕ) → user_refusal file memory ≡ n → HasMonitor (user_started_of file memory userStack).memory
    go zero e =
        let a : Accepted file memory userStack = accepted_as file memory userStack e in
        has_monitor (user_started_of file memory userStack).memory a.size_after
        (λ i h.
        privileged_words_stay file memory userStack i (monitor_is_privileged i h) ∙ monitor_word memory m i h)
    go (suc n) e =
        rw (refused_user_start_touches_nothing file memory userStack (λ z. omega (arith, e, z))) m

fresh_begins : (pc userStack : ℕ) (memory : List ℕ) → length memory ≡ 65536 → HasMonitor memory
    → Begins HasMonitor (fresh_of pc true userStack) memory
unfolding fresh_of in_user_mode
fresh_begins pc userStack memory size m =
    record { registers = refl; size = size; user_mode_lem = refl; intact = m; stack = refl }

no_interrupts : (pc userStack : ℕ) → lowest_stack_word (fresh_of pc true userStack).devices ≡ 0x2FFA
unfolding fresh_of stack_from is_enabled
no_interrupts pc userStack = refl

pub accepted_file_begins : AcceptedFileBegins
accepted_file_begins file memory userStack m h =
    let a : Accepted file memory userStack =
    accepted_as file memory userStack (sym (user_refusal_answered file memory userStack) ∙ h) in
    let machine : (user_started_of file memory userStack).machine ≡ fresh_of (origin_in file) true userStack =
    ap (λ (s : Starting). s.machine) a.is in
    record {
      begins = rw machine
          (fresh_begins (origin_in file) userStack (user_started_of file memory userStack).memory a.size_after
          (monitor_stays file memory userStack m));
      no_interrupts = rw machine (no_interrupts (origin_in file) userStack);
      stay = privileged_words_stay file memory userStack;
    }

-- ---- two memories

-- Loading looks at memory's size alone.
refused_by_size : (file memory₁ memory₂ : List ℕ) → length memory₁ ≡ length memory₂
    → user_refusal file memory₁ ≡ user_refusal file memory₂
unfolding user_refusal load_refusal wrong_size
refused_by_size file memory₁ memory₂ e = rw e

-- Memories that a file is loaded into stay as alike as they were.
loaded_alike : (altered : ℕ → Bool) (file memory₁ memory₂ : List ℕ)
    → load_refusal file memory₁ ≡ 0 → load_refusal file memory₂ ≡ 0 → SameOutside altered memory₁ memory₂
    → SameOutside altered (load_of file memory₁).memory (load_of file memory₂).memory
loaded_alike altered file memory₁ memory₂ r₁ r₂ g = record {
  size = loaded_length file memory₁ ∙ g.size ∙ sym (loaded_length file memory₂);
  words = λ a h. go a h (place (origin_in file) (length (words_in file)) a);
}
  where
    elsewhere : (a : ℕ) → altered a ≡ false
        → (origin_in file ≤ a → a < origin_in file + length (words_in file) → ⊥)
        → SameWordAt (load_of file memory₁).memory (load_of file memory₂).memory a
    elsewhere a h out =
        loaded_elsewhere file memory₁ a out ∙ g.words a h ∙ sym (loaded_elsewhere file memory₂ a out)

    go : (a : ℕ) → altered a ≡ false → Place (origin_in file) (length (words_in file)) a
        → SameWordAt (load_of file memory₁).memory (load_of file memory₂).memory a
    go a h (before l) = elsewhere a h (λ p q. omega arith)
    go a h (within l u) = loaded_within file memory₁ a r₁ l u ∙ sym (loaded_within file memory₂ a r₂ l u)
    go a h (after l) = elsewhere a h (λ p q. omega arith)

starts_alike : (file memory₁ memory₂ : List ℕ) (userStack : ℕ) → SameOutside is_marking_word memory₁ memory₂
    → SameStarts (user_started_of file memory₁ userStack) (user_started_of file memory₂ userStack)
starts_alike file memory₁ memory₂ userStack g = go (user_refusal file memory₁) refl
  where
    go : (n : ℕ) → user_refusal file memory₁ ≡ n
        → SameStarts (user_started_of file memory₁ userStack) (user_started_of file memory₂ userStack)
    go zero e =
        let f : user_refusal file memory₂ ≡ 0 = sym (refused_by_size file memory₁ memory₂ g.size) ∙ e in
        rw ((accepted_as file memory₁ userStack e).is, (accepted_as file memory₂ userStack f).is)
        (record {
          machine = refl;
          words = refl;
          refusal = refl;
          memory = loaded_alike is_marking_word file memory₁ memory₂ (user_start_loads file memory₁ e)
              (user_start_loads file memory₂ f) g;
        })
    go (suc n) e =
        let s = refused_by_size file memory₁ memory₂ g.size in
        rw (
          refused_user_start_touches_nothing file memory₁ userStack (λ z. omega (arith, e, z)),
          refused_user_start_touches_nothing file memory₂ userStack (λ z. omega (arith, e, s, z)),
        )
        (record { machine = refl; words = refl; refusal = s; memory = g })

-- Sittings that begin alike are answered alike.
module _ (memory₁ memory₂ : List ℕ) (s₁ s₂ : Starting) where
  sittings_alike : BeginsIn memory₁ s₁ → ((a : ℕ) → privileged a ≡ true → SameWordAt s₂.memory memory₂ a)
      → SameStarts s₁ s₂ → (earlier : List Call) (call : Call)
      → SameSittings memory₁ memory₂ (answer_after earlier call s₁.machine s₁.memory)
      (answer_after earlier call s₂.machine s₂.memory)
  sittings_alike p stay₂ e earlier call =
      let t : TellsNothing HasMonitor is_marking_word s₁.memory s₂.memory
      (answer_after earlier call s₁.machine s₁.memory) (answer_after earlier call s₁.machine s₂.memory) =
      rw p.no_interrupts at
      (sitting_tells_nothing s₁.machine s₁.memory s₂.memory p.begins
      (rw p.no_interrupts e.memory) earlier call) in
      rw (← e.machine)
      (record {
        same = t.same;
        stay₁ = λ a h. t.guarded₁.secrets a h ∙ p.stay a (marking_is_privileged a h);
        stay₂ = λ a h. t.guarded₂.secrets a h ∙ stay₂ a (marking_is_privileged a h);
        prepared = record { monitor = t.guarded₁.intact; alike = t.same.run.memory };
      })

pub files_learn_nothing : FilesLearnNothing
files_learn_nothing memory₁ memory₂ r file userStack =
    let e = starts_alike file memory₁ memory₂ userStack r.alike in
    record {
      same = e;
      stay₁ = λ a h. privileged_words_stay file memory₁ userStack a (marking_is_privileged a h);
      stay₂ = λ a h. privileged_words_stay file memory₂ userStack a (marking_is_privileged a h);
      prepared = record { monitor = monitor_stays file memory₁ userStack r.monitor; alike = e.memory };
      sittings = λ h.
          sittings_alike memory₁ memory₂ (user_started_of file memory₁ userStack)
          (user_started_of file memory₂ userStack)
          (accepted_file_begins file memory₁ userStack r.monitor h)
          (privileged_words_stay file memory₂ userStack) e;
    }

-- ---- the memories before a candidate comes

alike_trans : (altered : ℕ → Bool) (m₁ m₂ m₃ : List ℕ) → SameOutside altered m₁ m₂ → SameOutside altered m₂ m₃
    → SameOutside altered m₁ m₃
alike_trans altered m₁ m₂ m₃ p q =
    record { size = p.size ∙ q.size; words = λ a h. p.words a h ∙ q.words a h }

alike_sym : (altered : ℕ → Bool) (m₁ m₂ : List ℕ) → SameOutside altered m₁ m₂ → SameOutside altered m₂ m₁
alike_sym altered m₁ m₂ p = record { size = sym p.size; words = λ a h. sym (p.words a h) }

-- A file that lies in marking words changes no other word, and so do several.
marking_file_loaded : (memory file : List ℕ) → LiesInMarkingWords file
    → SameOutside is_marking_word memory (started_of file memory false 0).memory
unfolding started_of started_from
marking_file_loaded memory file there = record {
  size = sym (loaded_length file memory);
  words = λ a h. sym (loaded_elsewhere file memory a (λ l u. absurd (true≢false (sym (there a l u) ∙ h))));
}

marking_files_loaded : (memory : List ℕ) (files : List (List ℕ)) → AllLieInMarkingWords files
    → SameOutside is_marking_word memory (loaded_with memory files)
unfolding loaded_with
marking_files_loaded memory [] there = record { size = refl; words = λ a h. refl }
marking_files_loaded memory (file ∷ files) there =
    alike_trans is_marking_word memory (started_of file memory false 0).memory
    (loaded_with (started_of file memory false 0).memory files) (marking_file_loaded memory file there.0)
    (marking_files_loaded (started_of file memory false 0).memory files there.1)

installed_length : (memory : List ℕ) → length memory ≡ 65536 → length (install_of memory).words ≡ 65536
unfolding install_of wrong_size
installed_length memory h =
    rw (eq-eqb (length memory) 65536 h)
    (simp (length-append, length-drop) (omega (arith, monitor_length)))

-- The monitor's words are no marking words.
monitor_still_there : (memory₁ memory₂ : List ℕ) → length memory₁ ≡ 65536 → HasMonitor memory₁
    → SameOutside is_marking_word memory₁ memory₂ → HasMonitor memory₂
monitor_still_there memory₁ memory₂ size m g =
    has_monitor memory₂ (sym g.size ∙ size)
    (λ a h. sym (g.words a (monitor_word_is_open _ a h)) ∙ monitor_word memory₁ m a h)

pub files_prepare : (memory : List ℕ) (files₁ files₂ : List (List ℕ)) → length memory ≡ 65536
    → AllLieInMarkingWords files₁ → AllLieInMarkingWords files₂
    → Prepared (prepared_of memory files₁) (prepared_of memory files₂)
files_prepare memory files₁ files₂ size there₁ there₂ =
    let installed : List ℕ = (install_of memory).words in
    let g₁ = marking_files_loaded installed files₁ there₁ in
    let g₂ = marking_files_loaded installed files₂ there₂ in
    record {
      monitor = monitor_still_there installed (prepared_of memory files₁) (installed_length memory size)
          (installed_is_intact memory size) g₁;
      alike = alike_trans is_marking_word (prepared_of memory files₁) installed (prepared_of memory files₂)
          (alike_sym is_marking_word installed (prepared_of memory files₁) g₁) g₂;
    }

pub candidate_learns_nothing : CandidateLearnsNothing
candidate_learns_nothing memory files₁ files₂ size there₁ there₂ =
    files_learn_nothing (prepared_of memory files₁) (prepared_of memory files₂)
    (files_prepare memory files₁ files₂ size there₁ there₂)
