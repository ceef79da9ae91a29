-- From one step to whole calls: an invariant of record and memory that every step keeps, where no step reads or writes
-- a secret word. Two calls that begin alike but for secret words are then answered alike, by induction on the steps of
-- the logged run. A run without a log is the logged run whose log has room for all its steps.
use Rattle.std.specs.Prelude.{Ok, Err}
use Prim.Native.Nat.{ℕ, zero, suc, ◌*◌}
use mathlib.Core.Path.{◌≡◌, refl, sym, ap, subst, ◌∙◌}
use mathlib.Core.Bool.{Bool, true, false, cond, true≢false}
use mathlib.Core.List.{List, [], ◌∷◌}
use native.Mathlib.Omega.{arith}
use lib.ListN.{length, get_or, replicate, length-replicate}
use Rattle.machine.specs.declared.Machine.{Machine}
use Rattle.machine.specs.Edition.{third}
use Rattle.machine.specs.Outcome.{Outcome}
use Rattle.machine.specs.Protection.{denied}
use Rattle.machine.specs.Rules.{rule_of, is_interrupt, fetched_word_by, fetched_word}
use Rattle.machine.specs.Step.{step_of}
use Rattle.machine.proofs.Tests.{same_test_same_branch}
use Rattle.machine.proofs.RuleLaws.{interrupt_by_rule, log_tells}
use Rattle.footprint.specs.Footprint.{Each, NoneOf, SameWordAt}
use Rattle.footprint.specs.Altered.{still_altered, NoneAltered, SameButAltered}
use Rattle.footprint.proofs.AlteredWords.{altered_words_unread}
use Rattle.footprint.proofs.FootprintLaws.{step_writes}
use Rattle.run.specs.declared.Ending.TheVariants.{Done, Halted, OutputFull, Refused}
use Rattle.run.specs.Run.{Start, End, begin, ended_by, arriving, next_step_by, next_step, step_made_by, step_made}
use Rattle.run.specs.Run.{is_halted}
use Rattle.run.specs.Run.{is_full, run_of}
use Rattle.run.specs.Refusals.{wrong_size, admission_of, Admission}
use Rattle.run.specs.Call.{call_of}
use Rattle.run.specs.AlteredWords.{Variants, SameEnds}
use Rattle.run.proofs.AlteredWords.{wider_ends, halts_alike, ended_alike, begin_alike, steps_alike, full_alike}
use Rattle.run.proofs.AlteredWords.{made_alike}
use Rattle.run.proofs.RunKeeps.{every_run_keeps}
use Rattle.logging.specs.Log.{next_rule, next_rule_by, entry_of, entry_by, lacks_room}
use Rattle.logging.specs.declared.LoggedEnding.{LoggedEnding}
use Rattle.logging.specs.declared.LoggedEnding.TheVariants.{Run, LogFull}
use Rattle.logging.specs.LoggedRun.{Logged, run_ending, run_in, begin_logged, stopped_by, step_logged}
use Rattle.logging.specs.LoggedRun.{step_logged_by, one_more_logged, one_more_logged_by, logged_run_of, logged_run_by}
use Rattle.logging.specs.LoggedCall.{logged_admitted_by, logged_call_of, logged_call_by}
use Rattle.logging.specs.BesideTheRun.{AsTheRun}
use Rattle.logging.proofs.BesideTheRun.{logged_run_is_the_run}
use Rattle.logging.proofs.LoggedLaws.{Tracks, goes_with, was_full, tracks}
use Rattle.sitting.specs.Sitting.{SameAnswers}

-- ---- a run is a logged run

-- Its log has room for an entry of each step.
pub run_is_logged : (s : Start) (n : ℕ) → call_of s n ≡ run_in (logged_call_of s (replicate (3 * n) 0) n)
run_is_logged s n =
    sym (t.unless_full (λ f.
    omega (
      arith,
      t.full_before_done f,
      t.full_without_room f,
      t.three_a_step,
      length-replicate {A = ℕ} (3 * n) 0,
    )))
  where
    t : AsTheRun third s (replicate (3 * n) 0) n (logged_call_of s (replicate (3 * n) 0) n)
    t = logged_run_is_the_run third s (replicate (3 * n) 0) n

-- ---- sets of words

each_by : (P Q : ℕ → Type 0) (addresses : List ℕ) → ((a : ℕ) → P a → Q a) → Each P addresses → Each Q addresses
each_by P Q [] f e = tt
each_by P Q (a ∷ addresses) f e = (f a e.0, each_by P Q addresses f e.1)

first_of : (altered : ℕ → Bool) (a : ℕ) (addresses : List ℕ) → (rest : List ℕ) × (addresses ≡ a ∷ rest)
    → NoneAltered altered addresses → altered a ≡ false
first_of altered a addresses (rest, e) n = (subst (NoneAltered altered) e n).0

never_still_altered : (writes : List ℕ) (altered : ℕ → Bool) (a : ℕ) → altered a ≡ false
    → still_altered writes altered a ≡ false
unfolding still_altered
never_still_altered writes altered a h = rw h

module _ (secret : ℕ → Bool) (Invariant : Machine → List ℕ → Type 0) where
  -- An outcome that reads and writes no secret word, and keeps the invariant.
  pub record KeepsSecrets (o : Outcome) : Type 0 where
    pub reads : NoneAltered secret o.reads
    pub writes : NoneAltered secret o.writes
    pub invariant : Invariant o.machine o.memory

  -- The invariant holds, and every secret word is as it was before.
  pub record Kept (before : List ℕ) (e : End) : Type 0 where
    pub invariant : Invariant e.machine e.memory
    pub kept : (a : ℕ) → secret a ≡ true → SameWordAt e.memory before a

  module _
      (step : (keys : List ℕ) (m : Machine) (mem : List ℕ) → Invariant m mem → KeepsSecrets (step_of keys m mem)) where
    -- ---- one run

    secret_is_not_among : (a : ℕ) (addresses : List ℕ) → secret a ≡ true → NoneAltered secret addresses
        → NoneOf a addresses
    secret_is_not_among a addresses h n =
        each_by (λ b. secret b ≡ false) (λ b. a ≡ b → ⊥) addresses (λ b f q. true≢false (sym h ∙ (ap secret q ∙ f))) n

    step_stands : (s : Start) (e : End) → Kept s.memory e → Kept s.memory (step_made s e)
    unfolding step_made_by next_step_by
    step_stands s e i =
        let g = step (arriving s e) e.machine e.memory i.invariant in
        record {
          invariant = g.invariant;
          kept = λ a h.
              (step_writes third (arriving s e) e.machine e.memory).others a
              (secret_is_not_among a (next_step s e).writes h g.writes) ∙ i.kept a h;
        }

    run_stands : (s : Start) → Invariant s.machine s.memory → (n : ℕ) → Kept s.memory (run_of s n)
    unfolding begin ended_by
    run_stands s i =
        every_run_keeps step_of s (λ n. Kept s.memory) (record { invariant = i; kept = λ a h. refl }) (λ n e p. p)
        (λ n w e p. record { invariant = p.invariant; kept = p.kept }) (λ n e free p. step_stands s e p)

    logged_run_stands : (s : Start) → Invariant s.machine s.memory → (log : List ℕ) (n : ℕ)
        → Kept s.memory (run_in (logged_run_of s log n))
    logged_run_stands s i log n = go (tracks third s log n)
      where
        go : Tracks third s n (logged_run_of s log n) → Kept s.memory (run_in (logged_run_of s log n))
        go (goes_with w f e) = subst (Kept s.memory) (sym e) (run_stands s i n)
        go (was_full f e l h r) = subst (Kept s.memory) (sym e) (run_stands s i (logged_run_of s log n).steps)

    -- Where a call is turned down, it keeps everything.
    pub logged_call_keeps : (s : Start) → Invariant s.machine s.memory → (log : List ℕ) (n : ℕ)
        → Kept s.memory (run_in (logged_call_of s log n))
    unfolding logged_call_by
    logged_call_keeps s i log n = go (admission_of s n)
      where
        go : (a : Admission) → Kept s.memory (run_in (logged_admitted_by third a s log n))
        go (Ok _) = unfold logged_admitted_by in logged_run_stands s i log n
        go (Err r) = unfold logged_admitted_by begin in record { invariant = i; kept = λ a h. refl }

    pub call_keeps : (s : Start) → Invariant s.machine s.memory → (n : ℕ) → Kept s.memory (call_of s n)
    call_keeps s i n =
        subst (Kept s.memory) (sym (run_is_logged s n)) (logged_call_keeps s i (replicate (3 * n) 0) n)

    -- ---- two runs side by side

    module _ (s₁ s₂ : Start) (v : Variants secret s₁ s₂) where
      module _ (e₁ e₂ : End) (a : SameEnds secret e₁ e₂) (i : Invariant e₁.machine e₁.memory) where
        first_is_keeps : KeepsSecrets (next_step s₁ e₁)
        unfolding next_step_by
        first_is_keeps = step (arriving s₁ e₁) e₁.machine e₁.memory i

        next_alike : SameButAltered secret (next_step s₁ e₁) (next_step s₂ e₂)
        next_alike = steps_alike step_of (altered_words_unread third) v a first_is_keeps.reads

        pc_is_read : is_interrupt (rule_of (next_step s₁ e₁).cause) ≡ false
            → denied e₁.machine.psr e₁.machine.pc ≡ false
            → (rest : List ℕ) × ((next_step s₁ e₁).reads ≡ e₁.machine.pc ∷ rest)
        unfolding next_step_by
        pc_is_read x d =
            (log_tells.by_word (arriving s₁ e₁) e₁.machine e₁.memory).fetched
            (sym (interrupt_by_rule (next_step s₁ e₁).cause) ∙ x) d

        made_steps_alike : SameEnds secret (step_made s₁ e₁) (step_made s₂ e₂)
        made_steps_alike =
            wider_ends (never_still_altered (next_step s₁ e₁).writes secret)
            (made_alike step_of (altered_words_unread third) v a next_alike)

        full_steps_alike : is_full s₁ e₁ ≡ is_full s₂ e₂
        full_steps_alike = full_alike step_of (altered_words_unread third) v a next_alike

        -- The word fetched is one that the step reads.
        fetched_alike :
            fetched_word (next_rule s₁ e₁) e₁.machine e₁.memory
            ≡ fetched_word (next_rule s₁ e₁) e₁.machine e₂.memory
        unfolding fetched_word_by next_rule_by
        fetched_alike =
            go (is_interrupt (rule_of (next_step s₁ e₁).cause)) refl (denied e₁.machine.psr e₁.machine.pc) refl
          where
            go : (x : Bool) → is_interrupt (rule_of (next_step s₁ e₁).cause) ≡ x
                → (y : Bool) → denied e₁.machine.psr e₁.machine.pc ≡ y
                → cond x 0 (cond y 0 (get_or e₁.memory e₁.machine.pc 0))
                ≡ cond x 0 (cond y 0 (get_or e₂.memory e₁.machine.pc 0))
            go true x y d = refl
            go false x true d = refl
            go false x false d =
                a.memory.words e₁.machine.pc
                (first_of secret e₁.machine.pc (next_step s₁ e₁).reads (pc_is_read x d) first_is_keeps.reads)

        entries_alike : entry_of s₁ e₁ ≡ entry_of s₂ e₂
        unfolding entry_by next_rule_by
        entries_alike =
            let rule : rule_of (next_step s₁ e₁).cause ≡ rule_of (next_step s₂ e₂).cause =
            ap rule_of next_alike.cause in
            let word = fetched_alike in
            let m : e₁.machine ≡ e₂.machine = a.machine in
            cc

      -- ---- the stops before each step

      module _ (l₁ l₂ : Logged) (a : SameAnswers secret l₁ l₂) where
        stopped_alike : (w : LoggedEnding) → SameAnswers secret (stopped_by w l₁) (stopped_by w l₂)
        unfolding stopped_by ended_by
        stopped_alike w =
            record { run = ended_alike a.run (run_ending w); log = a.log; words = a.words; ending = refl }

        logged_step_alike : Invariant l₁.machine l₁.memory
            → SameAnswers secret (step_logged s₁ l₁) (step_logged s₂ l₂)
        unfolding step_logged_by step_made_by
        logged_step_alike i =
            let log : l₁.log ≡ l₂.log = a.log in
            let words : l₁.words ≡ l₂.words = a.words in
            let entry : entry_of s₁ (run_in l₁) ≡ entry_of s₂ (run_in l₂) =
            entries_alike (run_in l₁) (run_in l₂) a.run i in
            record { run = made_steps_alike (run_in l₁) (run_in l₂) a.run i; log = cc; words = cc; ending = refl }

        -- Where the run is done, and has not stopped.
        goes_on_alike : Invariant l₁.machine l₁.memory
            → SameAnswers secret (one_more_logged (Run Done) s₁ l₁) (one_more_logged (Run Done) s₂ l₂)
        unfolding one_more_logged_by
        goes_on_alike i =
            same_test_same_branch (SameAnswers secret) (is_halted (run_in l₁)) (is_halted (run_in l₂))
            (halts_alike a.run) (λ h. stopped_alike (Run Halted))
            (λ h.
            same_test_same_branch (SameAnswers secret) (lacks_room l₁.log l₁.words)
            (lacks_room l₂.log l₂.words)
            (cc (a.log, a.words)) (λ r. stopped_alike LogFull)
            (λ r.
            same_test_same_branch (SameAnswers secret) (is_full s₁ (run_in l₁)) (is_full s₂ (run_in l₂))
            (full_steps_alike (run_in l₁) (run_in l₂) a.run i) (λ f. stopped_alike (Run OutputFull))
            (λ f. logged_step_alike i)))

        by_stops : (w : LoggedEnding) → Invariant l₁.machine l₁.memory
            → SameAnswers secret (one_more_logged w s₁ l₁) (one_more_logged w s₂ l₂)
        by_stops (Run Done) i = goes_on_alike i
        by_stops (Run Halted) i = unfold one_more_logged_by in a
        by_stops (Run OutputFull) i = unfold one_more_logged_by in a
        by_stops (Run (Refused r)) i = unfold one_more_logged_by in a
        by_stops LogFull i = unfold one_more_logged_by in a

        one_more_alike : Invariant l₁.machine l₁.memory
            → SameAnswers secret (one_more_logged l₁.ending s₁ l₁) (one_more_logged l₂.ending s₂ l₂)
        one_more_alike i = go l₁.ending l₂.ending a.ending
          where
            go : (w₁ w₂ : LoggedEnding) → w₁ ≡ w₂
                → SameAnswers secret (one_more_logged w₁ s₁ l₁) (one_more_logged w₂ s₂ l₂)
            go w₁ w₂ w = rw (← w) (by_stops w₁ i)

      logged_runs_alike : Invariant s₁.machine s₁.memory → (log : List ℕ) (n : ℕ)
          → SameAnswers secret (logged_run_of s₁ log n) (logged_run_of s₂ log n)
      unfolding logged_run_by
      logged_runs_alike i log zero = unfold begin_logged begin in
          record { run = begin_alike v; log = refl; words = refl; ending = refl }
      logged_runs_alike i log (suc n) =
          one_more_alike (logged_run_of s₁ log n) (logged_run_of s₂ log n) (logged_runs_alike i log n)
          (logged_run_stands s₁ i log n).invariant

      -- ---- the calls

      -- The second call is turned down exactly where the first is, and for the same reason.
      same_admission : (n : ℕ) → admission_of s₁ n ≡ admission_of s₂ n
      unfolding admission_of wrong_size
      same_admission n =
          let size : length s₁.memory ≡ length s₂.memory = v.memory.size in
          let m : s₁.machine ≡ s₂.machine = v.machine in
          let t : s₁.times ≡ s₂.times = v.times in
          let b : s₁.bytes ≡ s₂.bytes = v.bytes in
          rw (size, m, t, b)

      pub logged_calls_alike : Invariant s₁.machine s₁.memory → (log : List ℕ) (n : ℕ)
          → SameAnswers secret (logged_call_of s₁ log n) (logged_call_of s₂ log n)
      unfolding logged_call_by
      logged_calls_alike i log n = rw (← same_admission n) (go (admission_of s₁ n))
        where
          go : (a : Admission)
              → SameAnswers secret (logged_admitted_by third a s₁ log n) (logged_admitted_by third a s₂ log n)
          go (Ok _) = unfold logged_admitted_by in logged_runs_alike i log n
          go (Err r) = unfold logged_admitted_by begin ended_by in
              record { run = ended_alike (begin_alike v) (Refused r); log = refl; words = refl; ending = refl }

      pub calls_alike : Invariant s₁.machine s₁.memory → (n : ℕ) → SameEnds secret (call_of s₁ n) (call_of s₂ n)
      calls_alike i n =
          rw (run_is_logged s₁ n, run_is_logged s₂ n) (logged_calls_alike i (replicate (3 * n) 0) n).run
