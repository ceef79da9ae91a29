-- PUTSP: five steps, the words one after the other, each with its shift of eight bits, and the way back, or to STOP.
use Prim.Native.Nat.{ℕ, zero, suc, ◌+◌, ◌-◌, ◌*◌, ◌/◌, ◌%◌, ◌≤◌, ◌<◌}
use native.Mathlib.Nat.{add-zero}
use native.Mathlib.Omega.{arith}
use native.Mathlib.Decide.{dec_le}
use mathlib.Core.Path.{◌≡◌, refl, sym, ap, ◌∙◌}
use mathlib.Core.Bool.{Bool, true, false, cond}
use mathlib.Core.List.{List, [], ◌∷◌, ◌++◌, append-nil, append_assoc}
use borrow.Author.Tests.{lt-ltb, leb-true, ne_eqb}
use lib.Dec.{leb}
use lib.Bits.{and_mask, and_zero_r}
use lib.ListN.{length, get_or, set, length-append}
use Rattle.machine.specs.Words.{next, wrap, word_and}
use Rattle.machine.specs.Psr.{in_user_mode, codes_of}
use Rattle.machine.specs.Protection.{privileged}
use Rattle.machine.proofs.WordLaws.{and_bits_lem}
use Rattle.run.specs.Run.{Start}
use Rattle.monitor.specs.Vectors.{vector_word}
use Rattle.monitor.specs.Uses.{with_vector, putsp_code}
use Rattle.monitor.specs.Calls.{stack_of, Calls, NoInterrupt, not_read, Resumes, Halts}
use Rattle.monitor.specs.Puts.{may_read_of, StringFrom, look_steps, r0}
use Rattle.monitor.specs.Putsp.{AreWords, unless_zero, pair_bytes, shift_steps, byte_steps, pair_steps, pairs_steps}
use Rattle.monitor.specs.Putsp.{putsp_steps, refused_pair_steps, PutspShows}
use Rattle.monitor.proofs.Execution.{Frame, Known, from, codes_number, cell, View, psr_at, At, Quiet}
use Rattle.monitor.proofs.Intact.{cells_fine}
use Rattle.monitor.proofs.Instructions.{kept, stepped_by, computing}
use Rattle.monitor.proofs.Entries.{called_frame}
use Rattle.monitor.proofs.Calls.{begins_sound, quiet_steps, Eight, eight, begun, routine_begins, halts}
use Rattle.monitor.proofs.Calls.{as_before, comes_back, none_read}
use Rattle.monitor.proofs.Strings.{readable, negative, positive, Looks, Comes, look_at, look_refused}
use Rattle.monitor.proofs.Strings.{below_two}
use Rattle.monitor.proofs.Paths.{calm, calmly, Ends, Path, fetches, no_step_more, then, knowing, treads, walks}
use Rattle.monitor.proofs.Puts.{few_of}

-- AND with x00FF.
low_byte : (w : ℕ) → w < 65536 → word_and w 0x00FF ≡ w % 256
low_byte w h = sym (and_bits_lem 16 w 0x00FF h) ∙ and_mask w 8

-- What R2 is once so many bits are shifted into it from R1, and how large it may be before that.
shifted : ℕ → ℕ → ℕ → ℕ
shifted zero r₁ r₂ = r₂
shifted (suc i) r₁ r₂ = shifted i (r₁ * 2 % 65536) (r₂ * 2 + r₁ / 0x8000)

limit : ℕ → ℕ
limit zero = 0x8000
limit (suc i) = limit i / 2

limit_below : (i : ℕ) → limit i ≤ 0x8000
unfolding limit
limit_below zero = omega arith
limit_below (suc i) = omega (arith, limit_below i)

-- R2 and R1, as one number of 32 bits, double with each bit; so eight bits are the high byte.
doubled : ℕ → ℕ → ℕ
doubled zero n = n
doubled (suc i) n = doubled i (n + n)

both_double : (i r₁ r₂ n : ℕ) → r₂ * 65536 + r₁ ≡ n → r₁ < 65536
    → (m : ℕ) × (m < 65536) × (shifted i r₁ r₂ * 65536 + m ≡ doubled i n)
unfolding shifted doubled
both_double zero r₁ r₂ n e h = (r₁, h, e)
both_double (suc i) r₁ r₂ n e h =
    both_double i (r₁ * 2 % 65536) (r₂ * 2 + r₁ / 0x8000) (n + n) (omega arith) (omega arith)

high_byte : (w : ℕ) → w < 65536 → shifted 8 w 0 ≡ w / 256
unfolding doubled
high_byte w h = go (shifted 8 w 0) (both_double 8 w 0 w (omega arith) h)
  where
    go : (r : ℕ) → (m : ℕ) × (m < 65536) × (r * 65536 + m ≡ doubled 8 w) → r ≡ w / 256
    go r (m, l, e) = omega arith

abbrev pub uses : ℕ → Bool
uses = with_vector 0x24 putsp_code

module _ (user : Bool) (s : Start) (x : Eight s.machine.regs) where
  abbrev f : Frame
  f = called_frame uses 6 user s

  abbrev psr : ℕ
  psr = s.machine.psr

  -- R0 to R3, PC, codes, bytes shown and busy count are all that changes.
  abbrev W : ℕ → ℕ → ℕ → ℕ → ℕ → Known → List ℕ → ℕ → View
  W r₃ a r₁ r₂ pc c bytes busy = record {
    regs = a ∷ r₁ ∷ r₂ ∷ r₃ ∷ x.r₄ ∷ x.r₅ ∷ (stack_of s.machine - 6) ∷ x.r₇ ∷ [];
    pc = pc;
    codes = c;
    cells = cell 3 x.r₃
        ∷ cell 4 x.r₂
        ∷ cell 5 x.r₁
        ∷ cell 6 x.r₀
        ∷ cell 2 (next s.machine.pc)
        ∷ cell 1 psr
        ∷ [];
    depth = 6;
    bytes = bytes;
    busy = busy;
    mcr = 0x8000;
    read = 0;
    status = s.machine.devices.kbsr;
  }

  module _ (may : ℕ → Bool) (allowed : (a : ℕ) → may a ≡ true → may_read_of user 6 s a ≡ true) where
    begins : Path f may (begun s x 0x023D (next s.machine.pc)) 5
        (W x.r₃ x.r₀ x.r₁ x.r₂ 0x0242 (from (stack_of s.machine - 6)) []
        (s.machine.devices.busy - 1 - 1 - 1 - 1 - 1 - 1))
    unfolding computing calm calmly
    begins = treads f may 0 (omega arith) 5 (begun s x 0x023D (next s.machine.pc)) (kept refl refl refl) refl refl

    known : (r₃ a r₁ r₂ pc : ℕ) (c c' : Known) (bytes : List ℕ) (busy : ℕ) → codes_number c ≡ codes_number c'
        → Path f may (W r₃ a r₁ r₂ pc c bytes busy) 0 (W r₃ a r₁ r₂ pc c' bytes busy)
    known r₃ a r₁ r₂ pc c c' bytes busy e = knowing (W r₃ a r₁ r₂ pc c bytes busy) c c' e

    looks : (r₃ : ℕ) → Looks f may (W r₃) psr 0x0242 0x0243 0x0246 0x0249 0x024A 0x0268
    unfolding computing calm calmly
    looks r₃ = record {
      loads_psr = λ a r₁ r₂ c bytes busy. treads f may 0 (omega arith) 1 (W r₃ a r₁ r₂ 0x0242 c bytes busy)
          (kept refl refl refl) refl refl;
      skips = λ a r₁ r₂ x l bytes busy.
          below_two
          (λ (x : ℕ). Path f may (W r₃ a r₁ r₂ 0x0243 (from x) bytes busy) 1
          (W r₃ a r₁ r₂ 0x024A (from x) bytes (busy - 1)))
          (treads f may 0 (omega arith) 1 (W r₃ a r₁ r₂ 0x0243 (from 0) bytes busy) (kept refl refl refl) refl refl)
          (treads f may 0 (omega arith) 1 (W r₃ a r₁ r₂ 0x0243 (from 1) bytes busy) (kept refl refl refl) refl refl) x
          l;
      adds_above = λ a r₁ r₂ bytes busy.
          treads f may 0 (omega arith) 3 (W r₃ a r₁ r₂ 0x0243 (from 0x8000) bytes busy) (kept refl refl refl) refl refl;
      goes_on = λ a r₁ r₂ bytes busy.
          treads f may 0 (omega arith) 1 (W r₃ a r₁ r₂ 0x0246 (from 0x8000) bytes busy) (kept refl refl refl) refl refl;
      adds_below = λ a r₁ r₂ x l bytes busy.
          below_two
          (λ (x : ℕ). Path f may (W r₃ a r₁ r₂ 0x0246 (from x) bytes busy) 3
          (W r₃ a (wrap (r₁ + 0xCE00)) 0xCE00 0x0249 (from (wrap (r₁ + 0xCE00))) bytes (busy - 1 - 1 - 1)))
          (treads f may 0 (omega arith) 3 (W r₃ a r₁ r₂ 0x0246 (from 0) bytes busy) (kept refl refl refl) refl refl)
          (treads f may 0 (omega arith) 3 (W r₃ a r₁ r₂ 0x0246 (from 1) bytes busy) (kept refl refl refl) refl refl) x
          l;
      gets = λ a r₁ r₂ x l bytes busy.
          below_two
          (λ (x : ℕ). Path f may (W r₃ a r₁ r₂ 0x0249 (from x) bytes busy) 1
          (W r₃ a r₁ r₂ 0x024A (from x) bytes (busy - 1)))
          (treads f may 0 (omega arith) 1 (W r₃ a r₁ r₂ 0x0249 (from 0) bytes busy) (kept refl refl refl) refl refl)
          (treads f may 0 (omega arith) 1 (W r₃ a r₁ r₂ 0x0249 (from 1) bytes busy) (kept refl refl refl) refl refl) x
          l;
      refuses = λ a r₁ r₂ bytes busy.
          treads f may 0 (omega arith) 1 (W r₃ a r₁ r₂ 0x0249 (from 0x8000) bytes busy) (kept refl refl refl) refl refl;
      knows = known r₃;
    }

    -- From the look to the word.
    gets : (r₃ a r₁ r₂ : ℕ) (c : Known) (bytes : List ℕ) (busy w : ℕ) → may a ≡ true
        → get_or s.memory a 0 ≡ w
        → Path f may (W r₃ a r₁ r₂ 0x024A c bytes busy) 1 (W r₃ a w r₂ 0x024B (from w) bytes (busy - 1))
    unfolding computing calm calmly
    gets r₃ a r₁ r₂ c bytes busy w ok is =
        fetches refl refl refl a w ok (readable user 6 (stack_of s.machine) a (allowed a ok)) refl is refl refl

    -- Codes of a value that is not zero: positive or negative.
    not_zero : (r₃ a r₁ r₂ pc w n : ℕ) (bytes : List ℕ) (busy : ℕ) (v : View) → 0 < w
        → Path f may (W r₃ a r₁ r₂ pc (from 1) bytes busy) n v
        → Path f may (W r₃ a r₁ r₂ pc (from 0x8000) bytes busy) n v
        → Path f may (W r₃ a r₁ r₂ pc (from w) bytes busy) n v
    unfolding codes_of
    not_zero r₃ a r₁ r₂ pc w n bytes busy v some p q =
        let z : 0 + n ≡ n = omega arith in
        elim (dec_le 0x8000 w) [
          | yes h ↦ rw z at (then (known r₃ a r₁ r₂ pc (from w) (from 0x8000) bytes busy (negative w h)) q)
          | no h ↦ rw z at (then (known r₃ a r₁ r₂ pc (from w) (from 1) bytes busy (positive w some (omega arith))) p)
        ]

    -- BRz is not taken; LD, AND. Then the display is ready.
    masks : (r₃ a w r₂ : ℕ) (bytes : List ℕ) (busy : ℕ) → busy ≤ 3 → 0 < w → w < 65536
        → Path f may (W r₃ a w r₂ 0x024B (from w) bytes busy) 3 (W r₃ a w (w % 256) 0x024E (from (w % 256)) bytes 0)
    masks r₃ a w r₂ bytes busy few some below =
        let z : busy - 1 - 1 - 1 ≡ 0 = omega arith in
        let l = not_zero r₃ a w r₂ 0x024B w 3 bytes busy
        (W r₃ a w (word_and w 0x00FF) 0x024E (from (word_and w 0x00FF)) bytes (busy - 1 - 1 - 1)) some
        (unfold computing calm calmly in treads f may 0 (omega arith) 3 (W r₃ a w r₂ 0x024B (from 1) bytes busy)
        (kept refl refl refl) refl refl)
        (unfold computing calm calmly in treads f may 0 (omega arith) 3 (W r₃ a w r₂ 0x024B (from 0x8000) bytes busy)
        (kept refl refl refl) refl refl)
        in
        rw (← (low_byte w below)) (rw z at l)

    -- ---- a byte that is shown unless it is zero

    -- R1 and R2 stay; R3 is whatever it is.
    record After (v : View) (n a r₁ r₂ pc : ℕ) (bytes : List ℕ) (most : ℕ) : Type 0 where
      r₃ : ℕ
      codes : Known
      busy : ℕ
      few : busy ≤ most
      leads : Path f may v n (W r₃ a r₁ r₂ pc codes bytes busy)

    shows_if : (r₃ a r₁ y p q : ℕ) (bytes : List ℕ) → y < 256
        → length bytes + length (unless_zero y) ≤ length s.output
        → Path f may (W r₃ a r₁ 0 p (from 0) bytes 0) 1 (W r₃ a r₁ 0 q (from 0) bytes 0)
        → (length bytes < length s.output
        → Path f may (W r₃ a r₁ y p (from 1) bytes 0) 4 (W 0x8000 a r₁ y q (from 0x8000) (bytes ++ (y % 256) ∷ []) 8))
        → After (W r₃ a r₁ y p (from y) bytes 0) (1 + byte_steps y) a r₁ y q (bytes ++ unless_zero y) 8
    unfolding codes_of
    shows_if r₃ a r₁ y p q bytes below room none some = elim (dec_le 1 y) [
      | yes h ↦ (
          let one : unless_zero y ≡ y ∷ [] =
          ap (λ (b : Bool). cond {A = List ℕ} b [] (y ∷ [])) (ne_eqb y 0 (λ e. absurd (omega arith))) in
          let z : y % 256 ≡ y = omega arith in
          let free : length bytes < length s.output = (let r = rw one at room in omega arith) in
          rw one (record {
            r₃ = 0x8000;
            codes = from 0x8000;
            busy = 8;
            few = omega arith;
            leads = rw z at
                (then (known r₃ a r₁ y p (from y) (from 1) bytes 0 (positive y h (omega arith))) (some free));
          })
          )
      | no h ↦ (
          let z : y ≡ 0 = omega arith in
          rw (z, append-nil bytes) (record {
            r₃ = r₃;
            codes = from 0;
            busy = 0;
            few = omega arith;
            leads = none;
          })
          )
    ]

    low_part : (r₃ a w y : ℕ) (bytes : List ℕ) → y < 256 → length bytes + length (unless_zero y) ≤ length s.output
        → After (W r₃ a w y 0x024E (from y) bytes 0) (1 + byte_steps y) a w y 0x0252 (bytes ++ unless_zero y) 8
    unfolding computing calm calmly
    low_part r₃ a w y bytes below room =
        shows_if r₃ a w y 0x024E 0x0252 bytes below room
        (treads f may 0 (omega arith) 1 (W r₃ a w 0 0x024E (from 0) bytes 0) (kept refl refl refl) refl refl)
        (λ free. treads f may (length s.output) (omega arith) 4 (W r₃ a w y 0x024E (from 1) bytes 0)
        (kept refl refl refl) (rw (lt-ltb (length bytes) (length s.output) free)) refl)

    high_part : (r₃ a r₁ y : ℕ) (bytes : List ℕ) → y < 256 → length bytes + length (unless_zero y) ≤ length s.output
        → After (W r₃ a r₁ y 0x025C (from y) bytes 0) (1 + byte_steps y) a r₁ y 0x0260 (bytes ++ unless_zero y) 8
    unfolding computing calm calmly
    high_part r₃ a r₁ y bytes below room =
        shows_if r₃ a r₁ y 0x025C 0x0260 bytes below room
        (treads f may 0 (omega arith) 1 (W r₃ a r₁ 0 0x025C (from 0) bytes 0) (kept refl refl refl) refl refl)
        (λ free. treads f may (length s.output) (omega arith) 4 (W r₃ a r₁ y 0x025C (from 1) bytes 0)
        (kept refl refl refl) (rw (lt-ltb (length bytes) (length s.output) free)) refl)

    -- ---- the shift

    clears : (r₃ a w y : ℕ) (c : Known) (bytes : List ℕ) (busy : ℕ) → y < 256
        → Path f may (W r₃ a w y 0x0252 c bytes busy) 2 (W 8 a w 0 0x0254 (from 8) bytes (busy - 1 - 1))
    clears r₃ a w y c bytes busy below =
        let z : word_and y 0 ≡ 0 = sym (and_bits_lem 16 y 0 (omega arith)) ∙ and_zero_r y in
        let first : Path f may (W r₃ a w y 0x0252 c bytes busy) 1
        (W r₃ a w (word_and y 0) 0x0253 (from (word_and y 0)) bytes (busy - 1)) =
        unfold computing calm calmly in treads f may 0 (omega arith) 1 (W r₃ a w y 0x0252 c bytes busy)
        (kept refl refl refl) refl refl in
        let second : Path f may (W r₃ a w 0 0x0253 (from 0) bytes (busy - 1)) 1
        (W 8 a w 0 0x0254 (from 8) bytes (busy - 1 - 1)) =
        unfold computing calm calmly in treads f may 0 (omega arith) 1 (W r₃ a w 0 0x0253 (from 0) bytes (busy - 1))
        (kept refl refl refl) refl refl in
        then (rw z at first) second

    -- ADD R2, R2, R2 and ADD R1, R1, #0.
    doubles : (r₃ a r₁ r₂ : ℕ) (c : Known) (bytes : List ℕ) (busy : ℕ) → r₁ < 65536 → r₂ < 0x4000
        → Path f may (W r₃ a r₁ r₂ 0x0254 c bytes busy) 2 (W r₃ a r₁ (r₂ * 2) 0x0256 (from r₁) bytes (busy - 1 - 1))
    doubles r₃ a r₁ r₂ c bytes busy below small =
        let y : wrap (r₂ + r₂) ≡ r₂ * 2 = omega arith in
        let z : wrap (r₁ + 0) ≡ r₁ = omega arith in
        let l : Path f may (W r₃ a r₁ r₂ 0x0254 c bytes busy) 2
        (W r₃ a (wrap (r₁ + 0)) (wrap (r₂ + r₂)) 0x0256 (from (wrap (r₁ + 0))) bytes (busy - 1 - 1)) =
        unfold computing calm calmly in treads f may 0 (omega arith) 2 (W r₃ a r₁ r₂ 0x0254 c bytes busy)
        (kept refl refl refl) refl refl in
        rw (y, z) at l

    -- BRzp is taken: ADD R1, R1, R1; ADD R3, R3, #-1.
    clear_bit : (r₃ a r₁ r₂ x : ℕ) → x < 2 → (bytes : List ℕ) (busy : ℕ) → 0 < r₃ → r₃ < 65536
        → Path f may (W r₃ a r₁ r₂ 0x0256 (from x) bytes busy) 3
        (W (r₃ - 1) a (r₁ * 2 % 65536) r₂ 0x025A (from (r₃ - 1)) bytes (busy - 1 - 1 - 1))
    clear_bit r₃ a r₁ r₂ x l bytes busy some fits =
        let y : wrap (r₁ + r₁) ≡ r₁ * 2 % 65536 = ap (λ (n : ℕ). n % 65536) (twice r₁) in
        let z : wrap (r₃ + 65535) ≡ r₃ - 1 = omega arith in
        rw (y, z) at (leads x l)
      where
        twice : (n : ℕ) → n + n ≡ n * 2
        twice n = omega arith

        leads : (x : ℕ) → x < 2
            → Path f may (W r₃ a r₁ r₂ 0x0256 (from x) bytes busy) 3
            (W (wrap (r₃ + 65535)) a (wrap (r₁ + r₁)) r₂ 0x025A (from (wrap (r₃ + 65535))) bytes (busy - 1 - 1 - 1))
        leads = unfold computing calm calmly in
            below_two
            (λ (x : ℕ). Path f may (W r₃ a r₁ r₂ 0x0256 (from x) bytes busy) 3
            (W (wrap (r₃ + 65535)) a (wrap (r₁ + r₁)) r₂ 0x025A (from (wrap (r₃ + 65535))) bytes
            (busy - 1 - 1 - 1)))
            (treads f may 0 (omega arith) 3 (W r₃ a r₁ r₂ 0x0256 (from 0) bytes busy) (kept refl refl refl) refl refl)
            (treads f may 0 (omega arith) 3 (W r₃ a r₁ r₂ 0x0256 (from 1) bytes busy) (kept refl refl refl) refl refl)

    -- It is not: ADD R2, R2, #1 too.
    set_bit : (r₃ a r₁ r₂ : ℕ) (bytes : List ℕ) (busy : ℕ) → r₂ < 0x8000 → 0 < r₃ → r₃ < 65536
        → Path f may (W r₃ a r₁ r₂ 0x0256 (from 0x8000) bytes busy) 4
        (W (r₃ - 1) a (r₁ * 2 % 65536) (r₂ + 1) 0x025A (from (r₃ - 1)) bytes (busy - 1 - 1 - 1 - 1))
    set_bit r₃ a r₁ r₂ bytes busy small some fits =
        let y : wrap (r₁ + r₁) ≡ r₁ * 2 % 65536 = ap (λ (n : ℕ). n % 65536) (twice r₁) in
        let z : wrap (r₃ + 65535) ≡ r₃ - 1 = omega arith in
        let u : wrap (r₂ + 1) ≡ r₂ + 1 = omega arith in
        let l : Path f may (W r₃ a r₁ r₂ 0x0256 (from 0x8000) bytes busy) 4
        (W (wrap (r₃ + 65535)) a (wrap (r₁ + r₁)) (wrap (r₂ + 1)) 0x025A (from (wrap (r₃ + 65535))) bytes
        (busy - 1 - 1 - 1 - 1)) =
        unfold computing calm calmly in treads f may 0 (omega arith) 4 (W r₃ a r₁ r₂ 0x0256 (from 0x8000) bytes busy)
        (kept refl refl refl) refl refl in
        rw (y, z, u) at l
      where
        twice : (n : ℕ) → n + n ≡ n * 2
        twice n = omega arith

    -- One bit, up to the branch on R3.
    record Bit (v : View) (n r₃ a r₁ r₂ : ℕ) (bytes : List ℕ) : Type 0 where
      busy : ℕ
      few : busy ≤ 1
      leads : Path f may v n (W r₃ a r₁ r₂ 0x025A (from r₃) bytes busy)

    one_bit : (r₃ a r₁ r₂ : ℕ) (c : Known) (bytes : List ℕ) (busy : ℕ) → busy ≤ 6 → r₁ < 65536 → r₂ < 0x4000 → 0 < r₃
        → r₃ < 65536
        → Bit (W r₃ a r₁ r₂ 0x0254 c bytes busy) (5 + r₁ / 0x8000) (r₃ - 1) a (r₁ * 2 % 65536)
        (r₂ * 2 + r₁ / 0x8000) bytes
    unfolding codes_of
    one_bit r₃ a r₁ r₂ c bytes busy few below small some fits = elim (dec_le 0x8000 r₁) [
      | yes h ↦ (
          let one : r₁ / 0x8000 ≡ 1 = omega arith in
          rw one (record {
            busy = busy - 1 - 1 - 1 - 1 - 1 - 1;
            few = spent (busy - 1 - 1) (omega arith);
            leads = then (doubles r₃ a r₁ r₂ c bytes busy below small)
                (then (known r₃ a r₁ (r₂ * 2) 0x0256 (from r₁) (from 0x8000) bytes (busy - 1 - 1) (negative r₁ h))
                (set_bit r₃ a r₁ (r₂ * 2) bytes (busy - 1 - 1) (omega arith) some fits));
          })
          )
      | no h ↦ (
          let none : r₁ / 0x8000 ≡ 0 = omega arith in
          rw (none, add-zero (r₂ * 2)) (record {
            busy = busy - 1 - 1 - 1 - 1 - 1;
            few = omega arith;
            leads = then {n = 3} (doubles r₃ a r₁ r₂ c bytes busy below small) (elim (dec_le 1 r₁) [
              | yes g ↦ then
                  (known r₃ a r₁ (r₂ * 2) 0x0256 (from r₁) (from 1) bytes (busy - 1 - 1)
                  (positive r₁ g (omega arith)))
                  (clear_bit r₃ a r₁ (r₂ * 2) 1 (omega arith) bytes (busy - 1 - 1) some fits)
              | no g ↦ then
                  (known r₃ a r₁ (r₂ * 2) 0x0256 (from r₁) (from 0) bytes (busy - 1 - 1)
                  (ap codes_of (let z : r₁ ≡ 0 = omega arith in z)))
                  (clear_bit r₃ a r₁ (r₂ * 2) 0 (omega arith) bytes (busy - 1 - 1) some fits)
            ]);
          })
          )
    ]
      where
        spent : (x : ℕ) → x ≤ 4 → x - 1 - 1 - 1 - 1 ≤ 1
        spent x l = omega arith

    -- ---- eight bits

    -- BRp, and the same for the other bits.
    abbrev Shifts : ℕ → Type 0
    Shifts i = (a r₁ r₂ : ℕ) (c : Known) (bytes : List ℕ) (busy : ℕ) → busy ≤ 6 → r₁ < 65536 → r₂ < limit (suc i)
        → i < 8
        → (r : ℕ) × Path f may (W (suc i) a r₁ r₂ 0x0254 c bytes busy) (shift_steps (suc i) r₁)
        (W 0 a r (shifted (suc i) r₁ r₂) 0x025B (from 0) bytes 0)

    last_bit : Shifts 0
    unfolding limit shifted shift_steps
    last_bit a r₁ r₂ c bytes busy few below small bits =
        let b = one_bit 1 a r₁ r₂ c bytes busy few below (omega arith) (omega arith) (omega arith) in
        let z : 6 + r₁ / 0x8000 + 0 ≡ 5 + r₁ / 0x8000 + 1 = omega arith in
        let n : b.busy - 1 ≡ 0 = omega (arith, b.few) in
        let branch : Path f may (W 0 a (r₁ * 2 % 65536) (r₂ * 2 + r₁ / 0x8000) 0x025A (from 0) bytes b.busy) 1
        (W 0 a (r₁ * 2 % 65536) (r₂ * 2 + r₁ / 0x8000) 0x025B (from 0) bytes (b.busy - 1)) =
        unfold computing calm calmly in
        treads f may 0 (omega arith) 1 (W 0 a (r₁ * 2 % 65536) (r₂ * 2 + r₁ / 0x8000) 0x025A (from 0) bytes b.busy)
        (kept refl refl refl) refl refl in
        (r₁ * 2 % 65536, rw z (then b.leads (rw n at branch)))

    more_bits : (i : ℕ) → Shifts i → Shifts (suc i)
    unfolding limit shifted shift_steps codes_of
    more_bits i rest a r₁ r₂ c bytes busy few below small bits =
        let l = limit_below i in
        let b = one_bit (suc (suc i)) a r₁ r₂ c bytes busy few below (omega arith) (omega arith) (omega arith) in
        let less : suc (suc i) - 1 ≡ suc i = omega arith in
        let z : 6 + r₁ / 0x8000 + shift_steps (suc i) (r₁ * 2 % 65536)
        ≡ 5 + r₁ / 0x8000 + (1 + shift_steps (suc i) (r₁ * 2 % 65536)) = omega arith in
        let n : b.busy - 1 ≡ 0 = omega (arith, b.few) in
        let r₁' : ℕ = r₁ * 2 % 65536 in
        let r₂' : ℕ = r₂ * 2 + r₁ / 0x8000 in
        let branch : Path f may (W (suc i) a r₁' r₂' 0x025A (from 1) bytes b.busy) 1
        (W (suc i) a r₁' r₂' 0x0254 (from 1) bytes (b.busy - 1)) =
        unfold computing calm calmly in
        treads f may 0 (omega arith) 1 (W (suc i) a r₁' r₂' 0x025A (from 1) bytes b.busy) (kept refl refl refl) refl
        refl in
        let known_branch : Path f may (W (suc i) a r₁' r₂' 0x025A (from (suc i)) bytes b.busy) 1
        (W (suc i) a r₁' r₂' 0x0254 (from 1) bytes 0) =
        then (known (suc i) a r₁' r₂' 0x025A (from (suc i)) (from 1) bytes b.busy
        (positive (suc i) (omega arith) (omega arith))) (rw n at branch) in
        let others = rest a r₁' r₂' (from 1) bytes 0 (omega arith) (omega arith) (omega arith) (omega arith) in
        (others.0, rw z (then (rw less at b.leads) (then known_branch others.1)))

    all_bits : (i : ℕ) → Shifts i
    all_bits zero = last_bit
    all_bits (suc i) = more_bits i (all_bits i)

    -- ---- a word

    -- ADD R2, R2, #0.
    tests : (a r y : ℕ) (bytes : List ℕ) → y < 256
        → Path f may (W 0 a r y 0x025B (from 0) bytes 0) 1 (W 0 a r y 0x025C (from y) bytes 0)
    tests a r y bytes below =
        let z : wrap (y + 0) ≡ y = omega arith in
        let l : Path f may (W 0 a r y 0x025B (from 0) bytes 0) 1
        (W 0 a r (wrap (y + 0)) 0x025C (from (wrap (y + 0))) bytes 0) =
        unfold computing calm calmly in treads f may 0 (omega arith) 1 (W 0 a r y 0x025B (from 0) bytes 0)
        (kept refl refl refl) refl refl in
        rw z at l

    -- ADD R0, R0, #1 and BRnzp.
    goes_on : (r₃ a r₁ r₂ : ℕ) (c : Known) (bytes : List ℕ) (busy : ℕ) → a < 0xFE00
        → Path f may (W r₃ a r₁ r₂ 0x0260 c bytes busy) 2
        (W r₃ (suc a) r₁ r₂ 0x0242 (from (suc a)) bytes (busy - 1 - 1))
    goes_on r₃ a r₁ r₂ c bytes busy below =
        let z : wrap (a + 1) ≡ suc a = omega arith in
        let l : Path f may (W r₃ a r₁ r₂ 0x0260 c bytes busy) 2
        (W r₃ (wrap (a + 1)) r₁ r₂ 0x0242 (from (wrap (a + 1))) bytes (busy - 1 - 1)) =
        unfold computing calm calmly in treads f may 0 (omega arith) 2 (W r₃ a r₁ r₂ 0x0260 c bytes busy)
        (kept refl refl refl) refl refl in
        rw z at l

    -- At the look, with these bytes shown.
    record Pairs (v : View) (n a : ℕ) (bytes : List ℕ) : Type 0 where
      r₁ : ℕ
      r₂ : ℕ
      r₃ : ℕ
      codes : Known
      busy : ℕ
      few : busy ≤ 6
      leads : Path f may v n (W r₃ a r₁ r₂ 0x0242 codes bytes busy)

    module _ (mode : in_user_mode psr ≡ user) where
      shows_pair : (a w r₁ r₂ r₃ : ℕ) (c : Known) (bytes : List ℕ) (busy : ℕ) → busy ≤ 6
          → may a ≡ true → get_or s.memory a 0 ≡ w → 0 < w → w < 65536
          → length bytes + (length (unless_zero (w % 256)) + length (unless_zero (w / 256))) ≤ length s.output
          → Pairs (W r₃ a r₁ r₂ 0x0242 c bytes busy) (pair_steps user a w) (suc a)
          (bytes ++ unless_zero (w % 256) ++ unless_zero (w / 256))
      shows_pair a w r₁ r₂ r₃ c bytes busy few ok is some fits room =
          let bytes' : List ℕ = bytes ++ unless_zero (w % 256) in
          let longer : length bytes' ≡ length bytes + length (unless_zero (w % 256)) =
          length-append bytes (unless_zero (w % 256)) in
          let l = look_at (looks r₃) a r₁ r₂ c bytes busy user mode few 6 (stack_of s.machine) (allowed a ok) in
          let left : ℕ = busy - look_steps user a in
          let ready : left - 1 ≤ 3 = soon user busy few in
          let low = low_part r₃ a w (w % 256) bytes (omega arith) (omega arith) in
          let first_four : low.busy - 1 - 1 ≤ 6 = omega (arith, low.few) in
          let bits = all_bits 7 a w 0 (from 8) bytes' (low.busy - 1 - 1) first_four fits
          (unfold limit in omega arith) (omega arith) in
          let high = high_part 0 a bits.0 (w / 256) bytes' (omega arith) (omega arith) in
          let z : look_steps user a
          + (1 + (3 + (1 + byte_steps (w % 256) + (2 + (shift_steps 8 w + (1 + (1 + byte_steps (w / 256) + 2)))))))
          ≡ pair_steps user a w = omega arith in
          record {
            r₁ = bits.0;
            r₂ = w / 256;
            r₃ = high.r₃;
            codes = from (suc a);
            busy = high.busy - 1 - 1;
            few = omega (arith, high.few);
            leads = rw z at (then l.leads
                (then (gets r₃ a l.r₁ l.r₂ l.codes bytes left w ok is)
                (then (masks r₃ a w l.r₂ bytes (left - 1) ready some fits)
                (then low.leads
                (then (clears low.r₃ a w (w % 256) low.codes bytes' low.busy (omega arith))
                (then (rw (high_byte w fits) at bits.1)
                (then (tests a bits.0 (w / 256) bytes' (omega arith))
                (then high.leads
                (goes_on high.r₃ a bits.0 (w / 256) high.codes (bytes' ++ unless_zero (w / 256)) high.busy
                (readable user 6 (stack_of s.machine) a (allowed a ok)).plain)))))))));
          }
        where
          -- The look takes two steps at least.
          soon : (b : Bool) (busy : ℕ) → busy ≤ 6 → busy - look_steps b a - 1 ≤ 3
          soon true busy h = go (leb 0x7E00 a)
            where
              go : (high : Bool) → busy - cond high 5 8 - 1 ≤ 3
              go true = omega arith
              go false = omega arith
          soon false busy h = omega arith

      -- All of them.
      abbrev ShowsAll : List ℕ → Type 0
      ShowsAll words = (a b r₁ r₂ r₃ : ℕ) (c : Known) (bytes : List ℕ) (busy : ℕ) → busy ≤ 6
          → StringFrom may s.memory a words b → AreWords words
          → length bytes + length (pair_bytes words) ≤ length s.output
          → Pairs (W r₃ a r₁ r₂ 0x0242 c bytes busy) (pairs_steps user a words) b (bytes ++ pair_bytes words)

      shows_none : ShowsAll []
      unfolding pairs_steps pair_bytes
      shows_none a b r₁ r₂ r₃ c bytes busy few string fit room = record {
        r₁ = r₁;
        r₂ = r₂;
        r₃ = r₃;
        codes = c;
        busy = busy;
        few = few;
        leads = rw (← string, append-nil bytes) (no_step_more (W r₃ a r₁ r₂ 0x0242 c bytes busy));
      }

      room_for_both : (w : ℕ) (words bytes : List ℕ)
          → length bytes + length (pair_bytes (w ∷ words)) ≤ length s.output
          → (length bytes + (length (unless_zero (w % 256)) + length (unless_zero (w / 256))) ≤ length s.output)
          × (length (bytes ++ unless_zero (w % 256) ++ unless_zero (w / 256)) + length (pair_bytes words)
          ≤ length s.output)
      unfolding pair_bytes
      room_for_both w words bytes h =
          let e₁ = length-append (unless_zero (w % 256)) (unless_zero (w / 256) ++ pair_bytes words) in
          let e₂ = length-append (unless_zero (w / 256)) (pair_bytes words) in
          let e₃ = length-append (bytes ++ unless_zero (w % 256)) (unless_zero (w / 256)) in
          let e₄ = length-append bytes (unless_zero (w % 256)) in
          (omega (arith, e₁, e₂), omega (arith, e₁, e₂, e₃, e₄))

      in_order : (w : ℕ) (words bytes : List ℕ)
          → bytes ++ unless_zero (w % 256) ++ unless_zero (w / 256) ++ pair_bytes words
          ≡ bytes ++ pair_bytes (w ∷ words)
      unfolding pair_bytes
      in_order w words bytes =
          append_assoc (bytes ++ unless_zero (w % 256)) (unless_zero (w / 256)) (pair_bytes words)
          ∙ append_assoc bytes (unless_zero (w % 256)) (unless_zero (w / 256) ++ pair_bytes words)

      shows_more : (w : ℕ) (words : List ℕ) → ShowsAll words → ShowsAll (w ∷ words)
      unfolding pairs_steps
      shows_more w words rest a b r₁ r₂ r₃ c bytes busy few string fit room =
          let both = room_for_both w words bytes room in
          let first = shows_pair a w r₁ r₂ r₃ c bytes busy few string.0 string.1 string.2 fit.0 both.0 in
          let others = rest (suc a) b first.r₁ first.r₂ first.r₃ first.codes
          (bytes ++ unless_zero (w % 256) ++ unless_zero (w / 256)) first.busy first.few string.3 fit.1
          both.1 in
          record {
            r₁ = others.r₁;
            r₂ = others.r₂;
            r₃ = others.r₃;
            codes = others.codes;
            busy = others.busy;
            few = others.few;
            leads = rw (in_order w words bytes) at (then first.leads others.leads);
          }

      shows_all : (words : List ℕ) → ShowsAll words
      shows_all [] = shows_none
      shows_all (w ∷ words) = shows_more w words (shows_all words)

      -- The end: BRz is taken, and the registers are restored.
      restores : (r₃ b r₂ : ℕ) (bytes : List ℕ) (busy : ℕ)
          → Path f may (W r₃ b 0 r₂ 0x024B (from 0) bytes busy) 6
          (stepped_by 6 f (W r₃ b 0 r₂ 0x024B (from 0) bytes busy))
      unfolding computing calm calmly
      restores r₃ b r₂ bytes busy =
          treads f may 0 (omega arith) 6 (W r₃ b 0 r₂ 0x024B (from 0) bytes busy) (kept refl refl refl) refl refl

      -- The refusal: the registers are restored, and STOP halts.
      stops : (r₃ b r₁ r₂ : ℕ) (c : Known) (bytes : List ℕ)
          → Path f may (W r₃ b r₁ r₂ 0x0268 c bytes 0) 7 (stepped_by 7 f (W r₃ b r₁ r₂ 0x0268 c bytes 0))
      unfolding computing calm calmly
      stops r₃ b r₁ r₂ c bytes = treads f may 0 (omega arith) 7 (W r₃ b r₁ r₂ 0x0268 c bytes 0) (kept refl refl refl)
          refl refl

-- ---- the way

-- The display has got ready by the end.
runs_out : (busy look : ℕ) → busy ≤ 6 → busy - look - 1 - 1 - 1 - 1 - 1 - 1 - 1 - 1 ≡ 0
runs_out busy look few = last (busy - look - 1 - 1) (omega arith)
  where
    last : (left : ℕ) → left ≤ 6 → left - 1 - 1 - 1 - 1 - 1 - 1 ≡ 0
    last left few = omega arith

six_less : (busy : ℕ) → busy ≤ 8 → busy - 1 - 1 - 1 - 1 - 1 - 1 ≤ 6
six_less busy h = five_less (busy - 1) (omega arith)
  where
    five_less : (b : ℕ) → b ≤ 7 → b - 1 - 1 - 1 - 1 - 1 ≤ 6
    five_less b h = omega arith

-- The way, where the words of the string may be read.
module _ (user : Bool) (s : Start) (x : Eight s.machine.regs) (mode : in_user_mode s.machine.psr ≡ user)
    (few : s.machine.devices.busy ≤ 8) (may : ℕ → Bool)
    (allowed : (a : ℕ) → may a ≡ true → may_read_of user 6 s a ≡ true) (words : List ℕ) (b : ℕ)
    (string : StringFrom may s.memory (r0 s) words b) (fit : AreWords words)
    (room : length (pair_bytes words) ≤ length s.output) where
  first : r0 s ≡ x.r₀
  first = rw x.are

  abbrev left : ℕ
  left = s.machine.devices.busy - 1 - 1 - 1 - 1 - 1 - 1

  all : Pairs user s x may allowed
      (W user s x x.r₃ x.r₀ x.r₁ x.r₂ 0x0242 (from (stack_of s.machine - 6)) [] left)
      (pairs_steps user (r0 s) words) b (pair_bytes words)
  all =
      rw first
      (shows_all user s x may allowed mode words x.r₀ b x.r₁ x.r₂ x.r₃ (from (stack_of s.machine - 6)) []
      left (six_less s.machine.devices.busy few) (rw first at string) fit (omega arith))

  abbrev looking : View
  looking = W user s x all.r₃ b all.r₁ all.r₂ 0x0242 all.codes (pair_bytes words) all.busy

  to_look : Path (f user s x) may (begun s x 0x023D (next s.machine.pc)) (5 + pairs_steps user (r0 s) words) looking
  to_look = then (begins user s x may allowed) all.leads

  -- ---- a string that ends

  module _ (ends : may b ≡ true) (zero_word : get_or s.memory b 0 ≡ 0) where
    abbrev spent : ℕ
    spent = all.busy - look_steps user b

    seen : Comes (f user s x) may (W user s x all.r₃) looking (look_steps user b) b 0x024A (pair_bytes words) spent
    seen =
        look_at (looks user s x may allowed all.r₃) b all.r₁ all.r₂ all.codes (pair_bytes words) all.busy
        user mode all.few 6 (stack_of s.machine) (allowed b ends)

    pub returning : View
    returning =
        stepped_by 6 (f user s x) (W user s x all.r₃ b 0 seen.r₂ 0x024B (from 0) (pair_bytes words) (spent - 1))

    pub ends_there : Ends uses 6 user s 0x0267 returning
    unfolding returning computing
    ends_there = record {
      there = refl;
      returns = record { plan = refl; six = refl; pc = refl; psr = refl; fine = refl; going = refl };
      own = refl;
      pc_stored = refl;
      psr_stored = refl;
      depth = refl;
    }

    restored : returning.regs
        ≡ x.r₀ ∷ x.r₁ ∷ x.r₂ ∷ x.r₃ ∷ x.r₄ ∷ x.r₅ ∷ (stack_of s.machine - 2) ∷ x.r₇ ∷ []
    unfolding returning computing
    restored = refl

    pub same_registers : set returning.regs 6 (get_or s.machine.regs 6 0) ≡ s.machine.regs
    same_registers =
        ap (λ (l : List ℕ). set l 6 (get_or s.machine.regs 6 0)) restored
        ∙ as_before s.machine.regs x (stack_of s.machine - 2)

    counted : returning.busy - 1 ≡ 0
    unfolding returning computing
    counted = runs_out all.busy (look_steps user b) all.few

    pub nothing_else : (returning.read ≡ 0) × (returning.status ≡ s.machine.devices.kbsr)
        × (returning.bytes ≡ pair_bytes words)
    unfolding returning computing
    nothing_else = (refl, refl, refl)

    -- the steps between the trap and RTI
    abbrev pub between : ℕ
    between = 5 + pairs_steps user (r0 s) words + (look_steps user b + 7)

    pub way : Path (f user s x) may (begun s x 0x023D (next s.machine.pc)) between returning
    unfolding returning
    way =
        then to_look
        (then seen.leads
        (then
        (gets user s x may allowed all.r₃ b seen.r₁ seen.r₂ seen.codes (pair_bytes words) spent 0 ends
        zero_word)
        (restores user s x may allowed mode all.r₃ b seen.r₂ (pair_bytes words) (spent - 1))))

-- One that comes to a privileged word.
module _ (s : Start) (x : Eight s.machine.regs) (mode : in_user_mode s.machine.psr ≡ true)
    (few : s.machine.devices.busy ≤ 8) (may : ℕ → Bool)
    (allowed : (a : ℕ) → may a ≡ true → may_read_of true 6 s a ≡ true) (words : List ℕ) (b : ℕ)
    (string : StringFrom may s.memory (r0 s) words b) (fit : AreWords words)
    (room : length (pair_bytes words) ≤ length s.output) (privileged-word : privileged b ≡ true)
    (below : b < 65536) where
  abbrev shown : Pairs true s x may allowed
      (W true s x x.r₃ x.r₀ x.r₁ x.r₂ 0x0242 (from (stack_of s.machine - 6)) []
      (left true s x mode few may allowed words b string fit room))
      (pairs_steps true (r0 s) words) b (pair_bytes words)
  shown = all true s x mode few may allowed words b string fit room

  bad : Comes (f true s x) may (W true s x shown.r₃)
      (looking true s x mode few may allowed words b string fit room) 8 b 0x0268 (pair_bytes words) 0
  bad =
      look_refused (looks true s x may allowed shown.r₃) b shown.r₁ shown.r₂ shown.codes (pair_bytes words)
      shown.busy (unfold in_user_mode in leb-true 0x8000 s.machine.psr mode) shown.few below privileged-word

  pub stopped : View
  stopped =
      stepped_by 7 (f true s x) (W true s x shown.r₃ b bad.r₁ bad.r₂ 0x0268 bad.codes (pair_bytes words) 0)

  -- In front of STOP, with the registers restored.
  pub refused_there : View
  refused_there = stepped_by 5 (f true s x)
      (W true s x shown.r₃ b bad.r₁ bad.r₂ 0x0268 bad.codes (pair_bytes words) 0)

  pub way_there : Path (f true s x) may (begun s x 0x023D (next s.machine.pc))
      (5 + pairs_steps true (r0 s) words + (8 + 5)) refused_there
  unfolding refused_there computing calm calmly
  way_there =
      then (to_look true s x mode few may allowed words b string fit room)
      (then bad.leads
      (treads (f true s x) may 0 (omega arith) 5
      (W true s x shown.r₃ b bad.r₁ bad.r₂ 0x0268 bad.codes (pair_bytes words) 0) (kept refl refl refl)
      refl refl))

  pub to_stop : Path (f true s x) may refused_there 2 stopped
  unfolding refused_there stopped computing calm calmly
  to_stop = treads (f true s x) may 0 (omega arith) 2 refused_there (kept refl refl refl) refl refl

  pub in_front : (cells_fine 6 refused_there.cells ≡ true) × (refused_there.depth ≡ 6)
      × (refused_there.pc ≡ 0x027C)
  unfolding refused_there computing
  in_front = (refl, refl, refl)

  pub halts_then : (stopped.mcr ≡ 0) × (stopped.pc ≡ 0x027E)
      × (psr_at (f true s x) stopped ≡ s.machine.psr / 8 % 4096 * 8 + 1)
      × (stopped.bytes ≡ pair_bytes words)
  unfolding stopped computing
  halts_then = (refl, refl, refl, refl)

  pub stopped_registers : stopped.regs ≡ set s.machine.regs 6 0x2FFE
  unfolding stopped computing
  stopped_registers = rw x.are

  abbrev until : ℕ
  until = 5 + pairs_steps true (r0 s) words + (8 + 7)

  way_to_stop : Path (f true s x) may (begun s x 0x023D (next s.machine.pc)) until stopped
  unfolding stopped
  way_to_stop =
      then (to_look true s x mode few may allowed words b string fit room)
      (then bad.leads
      (stops true s x may allowed mode shown.r₃ b bad.r₁ bad.r₂ bad.codes (pair_bytes words)))

-- ---- the theorem

module _ (user : Bool) (s : Start) (n : ℕ) (c : Calls 0x24 putsp_code 6 user s n) (words : List ℕ) (b : ℕ)
    (string : StringFrom (may_read_of user 6 s) s.memory (r0 s) words b) (fit : AreWords words)
    (room : length (pair_bytes words) ≤ length s.output) (ends : may_read_of user 6 s b ≡ true)
    (zero_word : get_or s.memory b 0 ≡ 0) where
  abbrev x : Eight s.machine.regs
  x = eight s.machine.regs c.begins.registers

  abbrev end : View
  end = returning user s x c.begins.mode (few_of s n c.begins) (may_read_of user 6 s) (λ a h. h) words b string fit
      room ends zero_word

  abbrev j : ℕ
  j = 1 + between user s x c.begins.mode (few_of s n c.begins) (may_read_of user 6 s) (λ a h. h) words b string
      fit room ends zero_word

  all_steps : j + 1 ≡ putsp_steps user (r0 s) words b
  all_steps = omega arith

  string_shown : putsp_steps user (r0 s) words b ≤ n → NoInterrupt s (putsp_steps user (r0 s) words b)
      → Resumes s n (putsp_steps user (r0 s) words b) (pair_bytes words) 0 6 s.machine.regs (not_read s)
  unfolding vector_word
  string_shown le none =
      let quiet : Quiet s 0 (j + 1) =
      rw all_steps (quiet_steps s n (putsp_steps user (r0 s) words b) 0 c.begins.accepted le none) in
      let mode = c.begins.mode in
      let few = few_of s n c.begins in
      let rest = nothing_else user s x mode few (may_read_of user 6 s) (λ a h. h) words b string fit room ends zero_word
      in
      let a : At s 0 j (f user s x) end =
      (walks quiet (f user s x) (begins_sound s n c.begins)
      (way user s x mode few (may_read_of user 6 s) (λ a h. h) words b string fit room ends zero_word)).on (omega arith)
      (routine_begins putsp_code 6 user s n (j + 1) x 0x24 0x023D c (omega arith) quiet (omega arith) (omega arith)
      refl) in
      rw (all_steps, rest.2) at (comes_back uses 6 user s n j end c.begins (omega arith) quiet a
      (ends_there user s x mode few (may_read_of user 6 s) (λ a h. h) words b string fit room ends zero_word).returns
      (rw all_steps le) s.machine.regs
      (same_registers user s x mode few (may_read_of user 6 s) (λ a h. h) words b string fit room ends zero_word) 0
      (counted user s x mode few (may_read_of user 6 s) (λ a h. h) words b string fit room ends zero_word) (not_read s)
      (none_read s end rest.0 rest.1))

module _ (s : Start) (n : ℕ) (c : Calls 0x24 putsp_code 6 true s n) (words : List ℕ) (b : ℕ)
    (string : StringFrom (may_read_of true 6 s) s.memory (r0 s) words b) (fit : AreWords words)
    (room : length (pair_bytes words) ≤ length s.output) (privileged-word : privileged b ≡ true)
    (below : b < 65536) where
  abbrev e : Eight s.machine.regs
  e = eight s.machine.regs c.begins.registers

  refused : refused_pair_steps (r0 s) words < n → NoInterrupt s (refused_pair_steps (r0 s) words)
      → Halts s n (refused_pair_steps (r0 s) words) (pair_bytes words) 0 6
  unfolding vector_word stopped computing
  refused more none =
      let quiet = quiet_steps s n (refused_pair_steps (r0 s) words) 0 c.begins.accepted (omega arith) none in
      let mode = c.begins.mode in
      let few = few_of s n c.begins in
      let z : 1 + until s e mode few (may_read_of true 6 s) (λ a h. h) words b string fit room privileged-word below
      ≡ refused_pair_steps (r0 s) words = omega arith in
      let a : At s 0 (refused_pair_steps (r0 s) words) (f true s e)
      (stopped s e mode few (may_read_of true 6 s) (λ a h. h) words b string fit room privileged-word below) =
      rw z at ((walks quiet (f true s e) (begins_sound s n c.begins)
      (way_to_stop s e mode few (may_read_of true 6 s) (λ a h. h) words b string fit room privileged-word below)
      ).on (omega arith)
      (routine_begins putsp_code 6 true s n (refused_pair_steps (r0 s) words) e 0x24 0x023D c (omega arith) quiet
      (omega arith) (omega arith) refl)) in
      halts a n c.begins refl refl refl refl refl refl 0 refl more
      (stopped_registers s e mode few (may_read_of true 6 s) (λ a h. h) words b string fit room privileged-word below)
      refl refl refl refl
      refl

pub putsp_shows : PutspShows
putsp_shows = record {
  shows = λ user s n c words b string fit ends zero_word room le none.
      string_shown user s n c words b string fit room ends zero_word le none;
  is_refused = λ s n c words b string fit privileged-word below room more none.
      refused s n c words b string fit room privileged-word below more none;
}
