-- PUTS: four steps, the words one after the other, and the way back, or to STOP.
use Prim.Native.Nat.{ℕ, suc, ◌+◌, ◌-◌, ◌*◌, ◌/◌, ◌%◌, ◌≤◌, ◌<◌}
use native.Mathlib.Omega.{arith}
use native.Mathlib.Decide.{dec_le}
use mathlib.Core.Path.{◌≡◌, refl, ap, ◌∙◌}
use mathlib.Core.Bool.{Bool, true}
use mathlib.Core.List.{List, [], ◌∷◌, ◌++◌, append-nil}
use borrow.Author.Tests.{lt-ltb, leb-true}
use lib.ListN.{length, get_or, set, length-append}
use lib.Seq.{append_snoc}
use Rattle.machine.specs.Words.{next, wrap}
use Rattle.machine.specs.Psr.{in_user_mode}
use Rattle.machine.specs.Protection.{privileged}
use Rattle.run.specs.Run.{Start}
use Rattle.run.proofs.Acceptance.{accepted_is_acceptable}
use Rattle.monitor.specs.Vectors.{vector_word}
use Rattle.monitor.specs.Uses.{with_vector, puts_code}
use Rattle.monitor.specs.Out.{wait_steps}
use Rattle.monitor.specs.Calls.{stack_of, Begins, Calls, NoInterrupt, not_read, Resumes, Halts}
use Rattle.monitor.specs.Puts.{may_read_of, StringFrom, low_bytes, look_steps, word_steps, r0, puts_steps}
use Rattle.monitor.specs.Puts.{refused_steps, PutsShows}
use Rattle.monitor.proofs.Execution.{Frame, Known, from, codes_number, cell, View, psr_at, At, Quiet}
use Rattle.monitor.proofs.Intact.{cells_fine}
use Rattle.monitor.proofs.Instructions.{kept, stepped_by, computing}
use Rattle.monitor.proofs.Entries.{called_frame, Polls}
use Rattle.monitor.proofs.Calls.{begins_sound, quiet_steps, Eight, eight, begun, routine_begins, halts}
use Rattle.monitor.proofs.Calls.{as_before, comes_back, none_read}
use Rattle.monitor.proofs.Strings.{readable, in_user_mode_lem, negative, positive, Looks, Comes, look_at}
use Rattle.monitor.proofs.Strings.{look_refused, below_two}
use Rattle.monitor.proofs.Paths.{calm, calmly, Ends, Path, fetches, attends, no_step_more, then, knowing, treads}
use Rattle.monitor.proofs.Paths.{walks}

abbrev pub uses : ℕ → Bool
uses = with_vector 0x22 puts_code

module _ (user : Bool) (s : Start) (x : Eight s.machine.regs) where
  abbrev f : Frame
  f = called_frame uses 5 user s

  abbrev psr : ℕ
  psr = s.machine.psr

  -- R0, R1, R2, PC, codes, bytes shown and busy count are all that changes.
  abbrev W : ℕ → ℕ → ℕ → ℕ → Known → List ℕ → ℕ → View
  W a r₁ r₂ pc c bytes busy = record {
    regs = a ∷ r₁ ∷ r₂ ∷ x.r₃ ∷ x.r₄ ∷ x.r₅ ∷ (stack_of s.machine - 5) ∷ x.r₇ ∷ [];
    pc = pc;
    codes = c;
    cells = cell 3 x.r₂
        ∷ cell 4 x.r₁
        ∷ cell 5 x.r₀
        ∷ cell 2 (next s.machine.pc)
        ∷ cell 1 psr
        ∷ [];
    depth = 5;
    bytes = bytes;
    busy = busy;
    mcr = 0x8000;
    read = 0;
    status = s.machine.devices.kbsr;
  }

  module _ (may : ℕ → Bool) (allowed : (a : ℕ) → may a ≡ true → may_read_of user 5 s a ≡ true) where
    begins : Path f may (begun s x 0x020C (next s.machine.pc)) 4
        (W x.r₀ x.r₁ x.r₂ 0x0210 (from (stack_of s.machine - 5)) []
        (s.machine.devices.busy - 1 - 1 - 1 - 1 - 1))
    unfolding computing calm calmly
    begins = treads f may 0 (omega arith) 4 (begun s x 0x020C (next s.machine.pc)) (kept refl refl refl) refl refl

    known : (a r₁ r₂ pc : ℕ) (c c' : Known) (bytes : List ℕ) (busy : ℕ) → codes_number c ≡ codes_number c'
        → Path f may (W a r₁ r₂ pc c bytes busy) 0 (W a r₁ r₂ pc c' bytes busy)
    known a r₁ r₂ pc c c' bytes busy e = knowing (W a r₁ r₂ pc c bytes busy) c c' e

    looks : Looks f may W psr 0x0210 0x0211 0x0214 0x0217 0x0218 0x0224
    unfolding computing calm calmly
    looks = record {
      loads_psr = λ a r₁ r₂ c bytes busy. treads f may 0 (omega arith) 1 (W a r₁ r₂ 0x0210 c bytes busy)
          (kept refl refl refl) refl refl;
      skips = λ a r₁ r₂ x l bytes busy.
          below_two
          (λ (x : ℕ). Path f may (W a r₁ r₂ 0x0211 (from x) bytes busy) 1 (W a r₁ r₂ 0x0218 (from x) bytes (busy - 1)))
          (treads f may 0 (omega arith) 1 (W a r₁ r₂ 0x0211 (from 0) bytes busy) (kept refl refl refl) refl refl)
          (treads f may 0 (omega arith) 1 (W a r₁ r₂ 0x0211 (from 1) bytes busy) (kept refl refl refl) refl refl) x l;
      adds_above = λ a r₁ r₂ bytes busy.
          treads f may 0 (omega arith) 3 (W a r₁ r₂ 0x0211 (from 0x8000) bytes busy) (kept refl refl refl) refl refl;
      goes_on = λ a r₁ r₂ bytes busy.
          treads f may 0 (omega arith) 1 (W a r₁ r₂ 0x0214 (from 0x8000) bytes busy) (kept refl refl refl) refl refl;
      adds_below = λ a r₁ r₂ x l bytes busy.
          below_two
          (λ (x : ℕ). Path f may (W a r₁ r₂ 0x0214 (from x) bytes busy) 3
          (W a (wrap (r₁ + 0xCE00)) 0xCE00 0x0217 (from (wrap (r₁ + 0xCE00))) bytes (busy - 1 - 1 - 1)))
          (treads f may 0 (omega arith) 3 (W a r₁ r₂ 0x0214 (from 0) bytes busy) (kept refl refl refl) refl refl)
          (treads f may 0 (omega arith) 3 (W a r₁ r₂ 0x0214 (from 1) bytes busy) (kept refl refl refl) refl refl) x l;
      gets = λ a r₁ r₂ x l bytes busy.
          below_two
          (λ (x : ℕ). Path f may (W a r₁ r₂ 0x0217 (from x) bytes busy) 1 (W a r₁ r₂ 0x0218 (from x) bytes (busy - 1)))
          (treads f may 0 (omega arith) 1 (W a r₁ r₂ 0x0217 (from 0) bytes busy) (kept refl refl refl) refl refl)
          (treads f may 0 (omega arith) 1 (W a r₁ r₂ 0x0217 (from 1) bytes busy) (kept refl refl refl) refl refl) x l;
      refuses = λ a r₁ r₂ bytes busy.
          treads f may 0 (omega arith) 1 (W a r₁ r₂ 0x0217 (from 0x8000) bytes busy) (kept refl refl refl) refl refl;
      knows = known;
    }

    -- From the look to the word.
    gets : (a r₁ r₂ : ℕ) (c : Known) (bytes : List ℕ) (busy w : ℕ) → may a ≡ true
        → get_or s.memory a 0 ≡ w
        → Path f may (W a r₁ r₂ 0x0218 c bytes busy) 1 (W a w r₂ 0x0219 (from w) bytes (busy - 1))
    unfolding computing calm calmly
    gets a r₁ r₂ c bytes busy w ok is =
        fetches refl refl refl a w ok (readable user 5 (stack_of s.machine) a (allowed a ok)) refl is refl refl

    -- BRz is not taken.
    not_zero : (a w r₂ : ℕ) (bytes : List ℕ) (busy : ℕ) → 0 < w
        → (c : Known) × Path f may (W a w r₂ 0x0219 (from w) bytes busy) 1 (W a w r₂ 0x021A c bytes (busy - 1))
    unfolding computing calm calmly
    not_zero a w r₂ bytes busy some = elim (dec_le 0x8000 w) [
      | yes h ↦ (
        from 0x8000,
        then (known a w r₂ 0x0219 (from w) (from 0x8000) bytes busy (negative w h))
            (treads f may 0 (omega arith) 1 (W a w r₂ 0x0219 (from 0x8000) bytes busy) (kept refl refl refl) refl refl),
      )
      | no h ↦ (
        from 1,
        then (known a w r₂ 0x0219 (from w) (from 1) bytes busy (positive w some (omega arith)))
            (treads f may 0 (omega arith) 1 (W a w r₂ 0x0219 (from 1) bytes busy) (kept refl refl refl) refl refl),
      )
    ]

    polls : (a w r₂ : ℕ) (c : Known) (bytes : List ℕ) (busy : ℕ) → Polls f (W a w r₂ 0x021A c bytes busy) 2 0x021A
    unfolding computing calm calmly
    polls a w r₂ c bytes busy = record {
      pointer = 0x0282;
      loads = λ r c b. refl;
      display = refl;
      branches = λ r c b. refl;
      own = refl;
      other = refl;
    }

    -- STI, ADD, BRnzp.
    shows : (a w : ℕ) (bytes : List ℕ) → a < 0xFE00 → length bytes < length s.output
        → Path f may (W a w 0x8000 0x021C (from 0x8000) bytes 0) 3
        (W (suc a) w 0x8000 0x0210 (from (suc a)) (bytes ++ (w % 256) ∷ []) 6)
    shows a w bytes below free =
        let z : wrap (a + 1) ≡ suc a = omega arith in
        let l : Path f may (W a w 0x8000 0x021C (from 0x8000) bytes 0) 3
        (W (wrap (a + 1)) w 0x8000 0x0210 (from (wrap (a + 1))) (bytes ++ (w % 256) ∷ []) 6) =
        unfold computing calm calmly in
        treads f may (length s.output) (omega arith) 3 (W a w 0x8000 0x021C (from 0x8000) bytes 0)
        (kept refl refl refl) (rw (lt-ltb (length bytes) (length s.output) free)) refl in
        rw z at l

    shows_byte_lem : (a w r₂ : ℕ) (bytes : List ℕ) (busy : ℕ) → a < 0xFE00 → 0 < w → length bytes < length s.output
        → Path f may (W a w r₂ 0x0219 (from w) bytes busy) (1 + (wait_steps (busy - 1) + 3))
        (W (suc a) w 0x8000 0x0210 (from (suc a)) (bytes ++ (w % 256) ∷ []) 6)
    shows_byte_lem a w r₂ bytes busy below some free =
        let first = not_zero a w r₂ bytes busy some in
        let v : View = W a w r₂ 0x021A first.0 bytes (busy - 1) in
        let ready : Path f may v (wait_steps (busy - 1)) (W a w 0x8000 0x021C (from 0x8000) bytes 0) =
        attends v refl refl 2 0x021A (polls a w r₂ first.0 bytes (busy - 1)) (busy - 1) v.regs first.0 refl
        refl
        refl in
        then first.1 (then ready (shows a w bytes below free))

    module _ (mode : in_user_mode psr ≡ user) where
      look : (a r₁ r₂ : ℕ) (c : Known) (bytes : List ℕ) (busy : ℕ) → busy ≤ 6 → may a ≡ true
          → Comes f may W (W a r₁ r₂ 0x0210 c bytes busy) (look_steps user a) a 0x0218 bytes
          (busy - look_steps user a)
      look a r₁ r₂ c bytes busy few ok =
          look_at looks a r₁ r₂ c bytes busy user mode few 5 (stack_of s.machine) (allowed a ok)

      -- A word that is shown.
      shows_word : (a w r₁ r₂ : ℕ) (c : Known) (bytes : List ℕ) (busy : ℕ) → busy ≤ 6 → may a ≡ true
          → get_or s.memory a 0 ≡ w → 0 < w → length bytes < length s.output
          → Comes f may W (W a r₁ r₂ 0x0210 c bytes busy)
          (look_steps user a + (2 + (wait_steps (busy - look_steps user a - 2) + 3))) (suc a) 0x0210
          (bytes ++ (w % 256) ∷ []) 6
      shows_word a w r₁ r₂ c bytes busy few ok is some free =
          let l = look a r₁ r₂ c bytes busy few ok in
          let left : ℕ = busy - look_steps user a in
          let z : left - 1 - 1 ≡ left - 2 = two_less left in
          let y : look_steps user a + (1 + (1 + (wait_steps (left - 2) + 3)))
          ≡ look_steps user a + (2 + (wait_steps (left - 2) + 3)) = omega arith in
          record {
            r₁ = w;
            r₂ = 0x8000;
            codes = from (suc a);
            leads = rw (z, y) at (then l.leads
                (then (gets a l.r₁ l.r₂ l.codes bytes left w ok is)
                (shows_byte_lem a w l.r₂ bytes (left - 1)
                (readable user 5 (stack_of s.machine) a (allowed a ok)).plain some free)));
          }
        where
          two_less : (b : ℕ) → b - 1 - 1 ≡ b - 2
          two_less b = omega arith

      -- All of them, with some busy count at the end.
      record All (v : View) (n b : ℕ) (bytes : List ℕ) : Type 0 where
        busy : ℕ
        few : busy ≤ 6
        comes : Comes f may W v n b 0x0210 bytes busy

      abbrev ShowsAll : List ℕ → Type 0
      ShowsAll words = (a b r₁ r₂ : ℕ) (c : Known) (bytes : List ℕ) (busy : ℕ) → busy ≤ 6
          → StringFrom may s.memory a words b → length bytes + length words ≤ length s.output
          → All (W a r₁ r₂ 0x0210 c bytes busy) (word_steps user busy a words) b (bytes ++ low_bytes words)

      shows_none : ShowsAll []
      unfolding word_steps
      shows_none a b r₁ r₂ c bytes busy few string room = record {
        busy = busy;
        few = few;
        comes = record {
          r₁ = r₁;
          r₂ = r₂;
          codes = c;
          leads = rw (← string, append-nil bytes) (no_step_more (W a r₁ r₂ 0x0210 c bytes busy));
        };
      }

      shows_more : (w : ℕ) (words : List ℕ) → ShowsAll words → ShowsAll (w ∷ words)
      unfolding word_steps
      shows_more w words rest a b r₁ r₂ c bytes busy few string room =
          let first = shows_word a w r₁ r₂ c bytes busy few string.0 string.1 string.2 (omega arith) in
          let longer : length (bytes ++ (w % 256) ∷ []) ≡ length bytes + 1 = length-append bytes ((w % 256) ∷ []) in
          let others = rest (suc a) b first.r₁ first.r₂ first.codes (bytes ++ (w % 256) ∷ []) 6 (omega arith)
          string.3 (omega arith) in
          record {
            busy = others.busy;
            few = others.few;
            comes = record {
              r₁ = others.comes.r₁;
              r₂ = others.comes.r₂;
              codes = others.comes.codes;
              leads = rw (append_snoc bytes (w % 256) (low_bytes words)) at (then first.leads others.comes.leads);
            };
          }

      shows_all : (words : List ℕ) → ShowsAll words
      shows_all [] = shows_none
      shows_all (w ∷ words) = shows_more w words (shows_all words)

      -- The end: BRz is taken, and the registers are restored.
      restores : (b r₂ : ℕ) (bytes : List ℕ) (busy : ℕ)
          → Path f may (W b 0 r₂ 0x0219 (from 0) bytes busy) 5 (stepped_by 5 f (W b 0 r₂ 0x0219 (from 0) bytes busy))
      unfolding computing calm calmly
      restores b r₂ bytes busy = treads f may 0 (omega arith) 5 (W b 0 r₂ 0x0219 (from 0) bytes busy)
          (kept refl refl refl) refl refl

      -- The refusal: the registers are restored, and STOP halts.
      stops : (b r₁ r₂ : ℕ) (c : Known) (bytes : List ℕ)
          → Path f may (W b r₁ r₂ 0x0224 c bytes 0) 6 (stepped_by 6 f (W b r₁ r₂ 0x0224 c bytes 0))
      unfolding computing calm calmly
      stops b r₁ r₂ c bytes = treads f may 0 (omega arith) 6 (W b r₁ r₂ 0x0224 c bytes 0) (kept refl refl refl) refl
          refl

-- ---- the way

-- The display has got ready by the end.
runs_out : (busy look : ℕ) → busy ≤ 6 → busy - look - 1 - 1 - 1 - 1 - 1 - 1 - 1 ≡ 0
runs_out busy look few = last (busy - look - 1) (omega arith)
  where
    last : (left : ℕ) → left ≤ 6 → left - 1 - 1 - 1 - 1 - 1 - 1 ≡ 0
    last left few = omega arith

five_less : (busy : ℕ) → busy - 1 - 1 - 1 - 1 - 1 ≡ busy - 5
five_less busy = omega arith

-- The way, where the words of the string may be read.
module _ (user : Bool) (s : Start) (x : Eight s.machine.regs) (mode : in_user_mode s.machine.psr ≡ user)
    (few : s.machine.devices.busy ≤ 8) (may : ℕ → Bool)
    (allowed : (a : ℕ) → may a ≡ true → may_read_of user 5 s a ≡ true) (words : List ℕ) (b : ℕ)
    (string : StringFrom may s.memory (r0 s) words b) (room : length words ≤ length s.output) where
  abbrev left : ℕ
  left = s.machine.devices.busy - 5

  first : r0 s ≡ x.r₀
  first = rw x.are

  all : All user s x may allowed mode
      (W user s x x.r₀ x.r₁ x.r₂ 0x0210 (from (stack_of s.machine - 5)) [] left)
      (word_steps user left (r0 s) words) b (low_bytes words)
  all =
      rw first
      (shows_all user s x may allowed mode words x.r₀ b x.r₁ x.r₂ (from (stack_of s.machine - 5)) [] left
      (omega arith) (rw first at string) (omega arith))

  abbrev looking : View
  looking =
      W user s x b all.comes.r₁ all.comes.r₂ 0x0210 all.comes.codes (low_bytes words) all.busy

  to_look : Path (f user s x) may (begun s x 0x020C (next s.machine.pc)) (4 + word_steps user left (r0 s) words)
      looking
  to_look =
      then (rw (five_less s.machine.devices.busy) at (begins user s x may allowed)) all.comes.leads

  -- ---- a string that ends

  module _ (ends : may b ≡ true) (zero_word : get_or s.memory b 0 ≡ 0) where
    seen : Comes (f user s x) may (W user s x) looking (look_steps user b) b 0x0218 (low_bytes words)
        (all.busy - look_steps user b)
    seen =
        look user s x may allowed mode b all.comes.r₁ all.comes.r₂ all.comes.codes (low_bytes words)
        all.busy all.few ends

    pub returning : View
    returning =
        stepped_by 5 (f user s x)
        (W user s x b 0 seen.r₂ 0x0219 (from 0) (low_bytes words) (all.busy - look_steps user b - 1))

    pub ends_there : Ends uses 5 user s 0x0223 returning
    unfolding returning computing
    ends_there = record {
      there = refl;
      returns = record { plan = refl; six = refl; pc = refl; psr = refl; fine = refl; going = refl };
      own = refl;
      pc_stored = refl;
      psr_stored = refl;
      depth = refl;
    }

    restored : returning.regs
        ≡ x.r₀ ∷ x.r₁ ∷ x.r₂ ∷ x.r₃ ∷ x.r₄ ∷ x.r₅ ∷ (stack_of s.machine - 2) ∷ x.r₇ ∷ []
    unfolding returning computing
    restored = refl

    pub same_registers : set returning.regs 6 (get_or s.machine.regs 6 0) ≡ s.machine.regs
    same_registers =
        ap (λ (l : List ℕ). set l 6 (get_or s.machine.regs 6 0)) restored
        ∙ as_before s.machine.regs x (stack_of s.machine - 2)

    counted : returning.busy - 1 ≡ 0
    unfolding returning computing
    counted = runs_out all.busy (look_steps user b) all.few

    pub nothing_else : (returning.read ≡ 0) × (returning.status ≡ s.machine.devices.kbsr)
        × (returning.bytes ≡ low_bytes words)
    unfolding returning computing
    nothing_else = (refl, refl, refl)

    -- the steps between the trap and RTI
    abbrev pub between : ℕ
    between = 4 + word_steps user left (r0 s) words + (look_steps user b + 6)

    pub way : Path (f user s x) may (begun s x 0x020C (next s.machine.pc)) between returning
    unfolding returning
    way =
        then to_look
        (then seen.leads
        (then
        (gets user s x may allowed b seen.r₁ seen.r₂ seen.codes (low_bytes words)
        (all.busy - look_steps user b) 0 ends zero_word)
        (restores user s x may allowed mode b seen.r₂ (low_bytes words) (all.busy - look_steps user b - 1))))

-- One that comes to a privileged word.
module _ (s : Start) (x : Eight s.machine.regs) (mode : in_user_mode s.machine.psr ≡ true)
    (few : s.machine.devices.busy ≤ 8) (may : ℕ → Bool)
    (allowed : (a : ℕ) → may a ≡ true → may_read_of true 5 s a ≡ true) (words : List ℕ) (b : ℕ)
    (string : StringFrom may s.memory (r0 s) words b) (room : length words ≤ length s.output)
    (privileged-word : privileged b ≡ true) (below : b < 65536) where
  abbrev shown : All true s x may allowed mode
      (W true s x x.r₀ x.r₁ x.r₂ 0x0210 (from (stack_of s.machine - 5)) [] (s.machine.devices.busy - 5))
      (word_steps true (s.machine.devices.busy - 5) (r0 s) words) b (low_bytes words)
  shown = all true s x mode few may allowed words b string room

  bad : Comes (f true s x) may (W true s x) (looking true s x mode few may allowed words b string room) 8 b 0x0224
      (low_bytes words) 0
  bad =
      look_refused (looks true s x may allowed) b shown.comes.r₁ shown.comes.r₂ shown.comes.codes
      (low_bytes words) shown.busy (unfold in_user_mode in leb-true 0x8000 s.machine.psr mode) shown.few below
      privileged-word

  pub stopped : View
  stopped = stepped_by 6 (f true s x) (W true s x b bad.r₁ bad.r₂ 0x0224 bad.codes (low_bytes words) 0)

  -- In front of STOP, with the registers restored.
  pub refused_there : View
  refused_there = stepped_by 4 (f true s x) (W true s x b bad.r₁ bad.r₂ 0x0224 bad.codes (low_bytes words) 0)

  pub way_there : Path (f true s x) may (begun s x 0x020C (next s.machine.pc))
      (4 + word_steps true (s.machine.devices.busy - 5) (r0 s) words + (8 + 4)) refused_there
  unfolding refused_there computing calm calmly
  way_there =
      then (to_look true s x mode few may allowed words b string room)
      (then bad.leads
      (treads (f true s x) may 0 (omega arith) 4
      (W true s x b bad.r₁ bad.r₂ 0x0224 bad.codes (low_bytes words) 0) (kept refl refl refl) refl refl))

  pub to_stop : Path (f true s x) may refused_there 2 stopped
  unfolding refused_there stopped computing calm calmly
  to_stop = treads (f true s x) may 0 (omega arith) 2 refused_there (kept refl refl refl) refl refl

  pub in_front : (cells_fine 5 refused_there.cells ≡ true) × (refused_there.depth ≡ 5)
      × (refused_there.pc ≡ 0x027C)
  unfolding refused_there computing
  in_front = (refl, refl, refl)

  pub halts_then : (stopped.mcr ≡ 0) × (stopped.pc ≡ 0x027E)
      × (psr_at (f true s x) stopped ≡ s.machine.psr / 8 % 4096 * 8 + 1)
      × (stopped.bytes ≡ low_bytes words)
  unfolding stopped computing
  halts_then = (refl, refl, refl, refl)

  pub stopped_registers : stopped.regs ≡ set s.machine.regs 6 0x2FFE
  unfolding stopped computing
  stopped_registers = rw x.are

  abbrev until : ℕ
  until = 4 + word_steps true (s.machine.devices.busy - 5) (r0 s) words + (8 + 6)

  way_to_stop : Path (f true s x) may (begun s x 0x020C (next s.machine.pc)) until stopped
  unfolding stopped
  way_to_stop =
      then (to_look true s x mode few may allowed words b string room)
      (then bad.leads
      (stops true s x may allowed mode b bad.r₁ bad.r₂ bad.codes (low_bytes words)))

-- ---- the theorem

-- The display's count is eight at most.
pub few_of : {uses : ℕ → Bool} {words : ℕ} {user : Bool} (s : Start) (n : ℕ) → Begins uses words user s n
    → s.machine.devices.busy ≤ 8
few_of s n b = (accepted_is_acceptable s n b.accepted).defined.devices.busy

module _ (user : Bool) (s : Start) (n : ℕ) (c : Calls 0x22 puts_code 5 user s n) (words : List ℕ) (b : ℕ)
    (string : StringFrom (may_read_of user 5 s) s.memory (r0 s) words b) (room : length words ≤ length s.output)
    (ends : may_read_of user 5 s b ≡ true) (zero_word : get_or s.memory b 0 ≡ 0) where
  abbrev x : Eight s.machine.regs
  x = eight s.machine.regs c.begins.registers

  abbrev end : View
  end = returning user s x c.begins.mode (few_of s n c.begins) (may_read_of user 5 s) (λ a h. h) words b string
      room
      ends zero_word

  abbrev j : ℕ
  j = 1 + between user s x c.begins.mode (few_of s n c.begins) (may_read_of user 5 s) (λ a h. h) words b string
      room ends zero_word

  all_steps : j + 1 ≡ puts_steps user s words b
  all_steps = omega arith

  string_shown : puts_steps user s words b ≤ n → NoInterrupt s (puts_steps user s words b)
      → Resumes s n (puts_steps user s words b) (low_bytes words) 0 5 s.machine.regs (not_read s)
  unfolding vector_word
  string_shown le none =
      let quiet : Quiet s 0 (j + 1) =
      rw all_steps (quiet_steps s n (puts_steps user s words b) 0 c.begins.accepted le none) in
      let mode = c.begins.mode in
      let few = few_of s n c.begins in
      let rest = nothing_else user s x mode few (may_read_of user 5 s) (λ a h. h) words b string room ends zero_word in
      let a : At s 0 j (f user s x) end =
      (walks quiet (f user s x) (begins_sound s n c.begins)
      (way user s x mode few (may_read_of user 5 s) (λ a h. h) words b string room ends zero_word)).on (omega arith)
      (routine_begins puts_code 5 user s n (j + 1) x 0x22 0x020C c (omega arith) quiet (omega arith) (omega arith)
      refl) in
      rw (all_steps, rest.2) at (comes_back uses 5 user s n j end c.begins (omega arith) quiet a
      (ends_there user s x mode few (may_read_of user 5 s) (λ a h. h) words b string room ends zero_word).returns
      (rw all_steps le) s.machine.regs
      (same_registers user s x mode few (may_read_of user 5 s) (λ a h. h) words b string room ends zero_word) 0
      (counted user s x mode few (may_read_of user 5 s) (λ a h. h) words b string room ends zero_word) (not_read s)
      (none_read s end rest.0 rest.1))

module _ (s : Start) (n : ℕ) (c : Calls 0x22 puts_code 5 true s n) (words : List ℕ) (b : ℕ)
    (string : StringFrom (may_read_of true 5 s) s.memory (r0 s) words b) (room : length words ≤ length s.output)
    (privileged-word : privileged b ≡ true) (below : b < 65536) where
  abbrev e : Eight s.machine.regs
  e = eight s.machine.regs c.begins.registers

  refused : refused_steps s words < n → NoInterrupt s (refused_steps s words)
      → Halts s n (refused_steps s words) (low_bytes words) 0 5
  unfolding vector_word stopped computing
  refused more none =
      let quiet = quiet_steps s n (refused_steps s words) 0 c.begins.accepted (omega arith) none in
      let mode = c.begins.mode in
      let few = few_of s n c.begins in
      let z : 1 + until s e mode few (may_read_of true 5 s) (λ a h. h) words b string room privileged-word below
      ≡ refused_steps s words = omega arith in
      let a : At s 0 (refused_steps s words) (f true s e)
      (stopped s e mode few (may_read_of true 5 s) (λ a h. h) words b string room privileged-word below) =
      rw z at ((walks quiet (f true s e) (begins_sound s n c.begins)
      (way_to_stop s e mode few (may_read_of true 5 s) (λ a h. h) words b string room privileged-word below)
      ).on (omega arith)
      (routine_begins puts_code 5 true s n (refused_steps s words) e 0x22 0x020C c (omega arith) quiet (omega arith)
      (omega arith) refl)) in
      halts a n c.begins refl refl refl refl refl refl 0 refl more
      (stopped_registers s e mode few (may_read_of true 5 s) (λ a h. h) words b string room privileged-word below) refl
      refl refl refl
      refl

pub puts_shows : PutsShows
puts_shows = record {
  in_user_mode_lem = in_user_mode_lem;
  shows = λ user s n c words b string ends zero_word room le none.
      string_shown user s n c words b string room ends zero_word le none;
  is_refused = λ s n c words b string privileged-word below room more none.
      refused s n c words b string room privileged-word below more none;
}
