-- What PUTS and PUTSP have in common: the look at the address in R0, and the load of the word there.
use Prim.Native.Nat.{ℕ, zero, suc, ◌+◌, ◌-◌, ◌≤◌, ◌<◌}
use native.Mathlib.Omega.{arith}
use native.Mathlib.Decide.{dec_le}
use mathlib.Core.Path.{◌≡◌, refl, sym, ap, ◌∙◌}
use mathlib.Core.Bool.{Bool, true, false, cond, not, ◌&&◌}
use mathlib.Core.List.{List}
use borrow.Author.Tests.{le-leb, lt-leb, lt-ltb, le-ltb, ltb-true, ltb-false, leb-false, leb-true, ne_eqb}
use lib.Dec.{leb, ltb}
use Rattle.machine.specs.Words.{wrap}
use Rattle.machine.specs.Psr.{in_user_mode, codes_of}
use Rattle.machine.specs.Protection.{privileged}
use Rattle.machine.proofs.Tests.{both_true, or_is_false}
use Rattle.monitor.specs.Uses.{between}
use Rattle.monitor.specs.Puts.{may_read, look_steps}
use Rattle.monitor.proofs.Execution.{Frame, Known, from, codes_number, View}
use Rattle.monitor.proofs.Paths.{Readable, Path, then}

-- An address of User mode's, and one that is none.
pub user_address : (a : ℕ) → privileged a ≡ false → (0x3000 ≤ a) × (a < 0xFE00)
unfolding privileged
user_address a h =
    let both = or_is_false (ltb a 0x3000) (leb 0xFE00 a) h in
    (ltb-false a 0x3000 both.0, leb-false 0xFE00 a both.1)

pub is_not : (b : Bool) → not b ≡ true → b ≡ false
is_not true e = sym e
is_not false e = refl

-- An address that may be read.
pub readable : (user : Bool) (words sp a : ℕ) → may_read user words sp a ≡ true → Readable words sp a
readable user words sp a h =
    let both = both_true (cond user (not (privileged a)) (ltb a 0xFE00)) (not (between (sp - words) (sp - 1) a)) h in
    let apart : (leb (sp - words) a && leb a (sp - 1)) ≡ false =
    is_not (leb (sp - words) a && leb a (sp - 1)) both.1 in
    record {
      plain = below user both.0;
      outside = λ m.
          let above : sp - 1 < a = leb-false a (sp - 1) (rw (le-leb (sp - words) a m) at apart) in
          omega arith;
    }
  where
    below : (user : Bool) → cond user (not (privileged a)) (ltb a 0xFE00) ≡ true → a < 0xFE00
    below true e = (user_address a (is_not (privileged a) e)).1
    below false e = ltb-true a 0xFE00 e

-- A caller in User mode whose stack is below x3000 may have a string wherever it may read.
pub in_user_mode_lem : (words sp a : ℕ) → sp ≤ 0x3000 → privileged a ≡ false → may_read true words sp a ≡ true
in_user_mode_lem words sp a h mine =
    let u = user_address a mine in
    let least : 0x3000 ≤ a = u.0 in
    go (sp - words) (sp - 1) (leb (sp - words) a) (omega arith)
  where
    go : (low high : ℕ) (b : Bool) → high < a → (not (privileged a) && not (b && leb a high)) ≡ true
    go low high true l = rw (mine, lt-leb a high l)
    go low high false l = rw mine

-- ---- codes of numbers

pub negative : (x : ℕ) → 0x8000 ≤ x → codes_of x ≡ 4
unfolding codes_of
negative x h = rw (ne_eqb x 0 (λ e. omega arith), le-ltb x 0x8000 h)

pub positive : (x : ℕ) → 0 < x → x < 0x8000 → codes_of x ≡ 1
unfolding codes_of
positive x l h = rw (ne_eqb x 0 (λ e. omega arith), lt-ltb x 0x8000 h)

-- ---- the look at the address

-- Steps from one view to another whatever R1, R2, the bytes shown and the busy count are. W has R0, R1, R2, PC, codes,
-- bytes and busy count; the caller's PSR is on the stack; the look begins at p₁, goes on at `get` or at `bad`.
pub record Looks (f : Frame) (may : ℕ → Bool) (W : ℕ → ℕ → ℕ → ℕ → Known → List ℕ → ℕ → View)
    (psr p₁ p₂ p₃ p₄ get bad : ℕ) : Type 0 where
  -- LDR R1: the PSR
  pub loads_psr : (a r₁ r₂ : ℕ) (c : Known) (bytes : List ℕ) (busy : ℕ)
      → Path f may (W a r₁ r₂ p₁ c bytes busy) 1 (W a psr r₂ p₂ (from psr) bytes (busy - 1))
  -- BRzp is taken after a value that is not negative
  pub skips : (a r₁ r₂ x : ℕ) → x < 2 → (bytes : List ℕ) (busy : ℕ)
      → Path f may (W a r₁ r₂ p₂ (from x) bytes busy) 1 (W a r₁ r₂ get (from x) bytes (busy - 1))
  -- and not after a negative one; LD R1, ABOVE; ADD R1, R0, R1
  pub adds_above : (a r₁ r₂ : ℕ) (bytes : List ℕ) (busy : ℕ)
      → Path f may (W a r₁ r₂ p₂ (from 0x8000) bytes busy) 3
      (W a (wrap (a + 0x0200)) r₂ p₃ (from (wrap (a + 0x0200))) bytes (busy - 1 - 1 - 1))
  -- BRn is taken after a negative value
  pub goes_on : (a r₁ r₂ : ℕ) (bytes : List ℕ) (busy : ℕ)
      → Path f may (W a r₁ r₂ p₃ (from 0x8000) bytes busy) 1 (W a r₁ r₂ get (from 0x8000) bytes (busy - 1))
  -- and not after another: LD R2, BELOW; ADD R1, R1, R2
  pub adds_below : (a r₁ r₂ x : ℕ) → x < 2 → (bytes : List ℕ) (busy : ℕ)
      → Path f may (W a r₁ r₂ p₃ (from x) bytes busy) 3
      (W a (wrap (r₁ + 0xCE00)) 0xCE00 p₄ (from (wrap (r₁ + 0xCE00))) bytes (busy - 1 - 1 - 1))
  -- BRn once more
  pub gets : (a r₁ r₂ x : ℕ) → x < 2 → (bytes : List ℕ) (busy : ℕ)
      → Path f may (W a r₁ r₂ p₄ (from x) bytes busy) 1 (W a r₁ r₂ get (from x) bytes (busy - 1))
  pub refuses : (a r₁ r₂ : ℕ) (bytes : List ℕ) (busy : ℕ)
      → Path f may (W a r₁ r₂ p₄ (from 0x8000) bytes busy) 1 (W a r₁ r₂ bad (from 0x8000) bytes (busy - 1))
  -- codes that are known otherwise
  pub knows : (a r₁ r₂ pc : ℕ) (c c' : Known) (bytes : List ℕ) (busy : ℕ) → codes_number c ≡ codes_number c'
      → Path f may (W a r₁ r₂ pc c bytes busy) 0 (W a r₁ r₂ pc c' bytes busy)

-- It comes to pc in n steps, with this busy count.
pub record Comes (f : Frame) (may : ℕ → Bool) (W : ℕ → ℕ → ℕ → ℕ → Known → List ℕ → ℕ → View) (from_view : View)
    (n a pc : ℕ) (bytes : List ℕ) (busy : ℕ) : Type 0 where
  pub r₁ : ℕ
  pub r₂ : ℕ
  pub codes : Known
  pub leads : Path f may from_view n (W a r₁ r₂ pc codes bytes busy)

module _ {f : Frame} {may : ℕ → Bool} {W : ℕ → ℕ → ℕ → ℕ → Known → List ℕ → ℕ → View}
    {psr p₁ p₂ p₃ p₄ get bad : ℕ} (l : Looks f may W psr p₁ p₂ p₃ p₄ get bad) (a r₁ r₂ : ℕ) (c : Known)
    (bytes : List ℕ) (busy : ℕ) where
  -- ---- in User mode

  module _ (user : 0x8000 ≤ psr) (few : busy ≤ 6) where
    abbrev sum : ℕ
    sum = wrap (a + 0x0200)

    to_branch : Path f may (W a r₁ r₂ p₁ c bytes busy) 4 (W a sum r₂ p₃ (from sum) bytes (busy - 1 - 1 - 1 - 1))
    unfolding codes_of
    to_branch =
        then (l.loads_psr a r₁ r₂ c bytes busy)
        (then (l.knows a psr r₂ p₂ (from psr) (from 0x8000) bytes (busy - 1) (negative psr user))
        (l.adds_above a psr r₂ bytes (busy - 1)))

    -- An address from x7E00 to xFDFF.
    look_high : 0x7E00 ≤ a → a < 0xFE00 → Comes f may W (W a r₁ r₂ p₁ c bytes busy) 5 a get bytes (busy - 5)
    unfolding codes_of
    look_high least most =
        let z : busy - 1 - 1 - 1 - 1 - 1 ≡ busy - 5 = omega arith in
        record {
          r₁ = sum;
          r₂ = r₂;
          codes = from 0x8000;
          leads = rw z at (then to_branch
              (then (l.knows a sum r₂ p₃ (from sum) (from 0x8000) bytes (busy - 1 - 1 - 1 - 1)
              (negative sum (omega arith)))
              (l.goes_on a sum r₂ bytes (busy - 1 - 1 - 1 - 1))));
        }

    -- A sum that is not negative: zero or positive.
    module _ (small : sum < 0x8000) where
      abbrev left : ℕ
      left = busy - 1 - 1 - 1 - 1

      abbrev difference : ℕ
      difference = wrap (sum + 0xCE00)

      second : Path f may (W a r₁ r₂ p₁ c bytes busy) 7
          (W a difference 0xCE00 p₄ (from difference) bytes (left - 1 - 1 - 1))
      unfolding codes_of
      second = elim (dec_le 1 sum) [
        | yes h ↦ then to_branch
            (then (l.knows a sum r₂ p₃ (from sum) (from 1) bytes left (positive sum h small))
            (l.adds_below a sum r₂ 1 (omega arith) bytes left))
        | no h ↦ (
            let z : sum ≡ 0 = omega arith in
            then to_branch
            (then (l.knows a sum r₂ p₃ (from sum) (from 0) bytes left (ap codes_of z))
            (l.adds_below a sum r₂ 0 (omega arith) bytes left))
            )
      ]

      spent : left - 1 - 1 - 1 ≡ 0
      spent = go left (omega arith)
        where
          go : (x : ℕ) → x ≤ 2 → x - 1 - 1 - 1 ≡ 0
          go x h = omega arith

      comes_by : (pc x : ℕ) → codes_of difference ≡ codes_of x
          → Path f may (W a difference 0xCE00 p₄ (from x) bytes 0) 1 (W a difference 0xCE00 pc (from x) bytes (0 - 1))
          → Comes f may W (W a r₁ r₂ p₁ c bytes busy) 8 a pc bytes 0
      comes_by pc x same last = record {
        r₁ = difference;
        r₂ = 0xCE00;
        codes = from x;
        leads = then (rw spent at second)
            (then (l.knows a difference 0xCE00 p₄ (from difference) (from x) bytes 0 same) last);
      }

    -- An address from x3000 to x7DFF.
    look_low : 0x3000 ≤ a → a < 0x7E00 → Comes f may W (W a r₁ r₂ p₁ c bytes busy) 8 a get bytes 0
    look_low least most = elim (dec_le 1 (difference (omega arith))) [
      | yes h ↦ comes_by (omega arith) get 1
          (positive (difference (omega arith)) h (omega arith) ∙ unfold codes_of in refl)
          (l.gets a (difference (omega arith)) 0xCE00 1 (omega arith) bytes 0)
      | no h ↦ comes_by (omega arith) get 0 (ap codes_of (let z : difference (omega arith) ≡ 0 = omega arith in z))
          (l.gets a (difference (omega arith)) 0xCE00 0 (omega arith) bytes 0)
    ]

    -- A privileged address.
    pub look_refused : a < 65536 → privileged a ≡ true → Comes f may W (W a r₁ r₂ p₁ c bytes busy) 8 a bad bytes 0
    look_refused below h = elim (dec_le (suc a) 0x3000) [
      | yes less ↦ refuse (omega arith) (omega arith)
      | no less ↦ (
          let above : 0xFE00 ≤ a = not_below (omega arith) in
          refuse (omega arith) (omega arith)
          )
    ]
      where
        not_below : 0x3000 ≤ a → 0xFE00 ≤ a
        not_below g = unfold privileged in leb-true 0xFE00 a (rw (le-ltb a 0x3000 g) at h)

        refuse : (small : sum < 0x8000) → 0x8000 ≤ wrap (sum + 0xCE00)
            → Comes f may W (W a r₁ r₂ p₁ c bytes busy) 8 a bad bytes 0
        refuse small big =
            comes_by small bad 0x8000 (negative (difference small) big ∙ unfold codes_of in refl)
            (l.refuses a (difference small) 0xCE00 bytes 0)

    -- The look at an address of User mode's.
    user_look : privileged a ≡ false
        → Comes f may W (W a r₁ r₂ p₁ c bytes busy) (look_steps true a) a get bytes (busy - look_steps true a)
    user_look mine =
        let u = user_address a mine in
        let none : busy - 8 ≡ 0 = omega arith in
        elim (dec_le 0x7E00 a) [
          | yes h ↦ rw (le-leb 0x7E00 a h) (look_high h u.1)
          | no h ↦ rw (lt-leb 0x7E00 a (omega arith), none) (look_low u.0 (omega arith))
        ]

  -- ---- in Supervisor mode

  supervisor_look : psr < 0x8000 → Comes f may W (W a r₁ r₂ p₁ c bytes busy) 2 a get bytes (busy - 2)
  unfolding codes_of
  supervisor_look small = elim (dec_le 1 psr) [
    | yes h ↦ looked 1 (omega arith) (positive psr h small)
    | no h ↦ looked 0 (omega arith) (ap codes_of (let z : psr ≡ 0 = omega arith in z))
  ]
    where
      looked : (x : ℕ) → x < 2 → codes_of psr ≡ codes_of x
          → Comes f may W (W a r₁ r₂ p₁ c bytes busy) 2 a get bytes (busy - 2)
      looked x h same =
          let z : busy - 1 - 1 ≡ busy - 2 = omega arith in
          record {
            r₁ = psr;
            r₂ = r₂;
            codes = from x;
            leads = rw z at (then (l.loads_psr a r₁ r₂ c bytes busy)
                (then (l.knows a psr r₂ p₂ (from psr) (from x) bytes (busy - 1) same)
                (l.skips a psr r₂ x h bytes (busy - 1))));
          }

  -- ---- in both

  pub look_at : (user : Bool) → in_user_mode psr ≡ user → busy ≤ 6 → (words sp : ℕ) → may_read user words sp a ≡ true
      → Comes f may W (W a r₁ r₂ p₁ c bytes busy) (look_steps user a) a get bytes (busy - look_steps user a)
  unfolding in_user_mode
  look_at true mode few words sp may =
      user_look (leb-true 0x8000 psr mode) few
      (is_not (privileged a) (both_true (not (privileged a)) (not (between (sp - words) (sp - 1) a)) may).0)
  look_at false mode few words sp may = supervisor_look (leb-false 0x8000 psr mode)

-- What holds of 0 and 1.
pub below_two : (P : ℕ → Type 0) → P 0 → P 1 → (x : ℕ) → x < 2 → P x
below_two P p q zero l = p
below_two P p q (suc zero) l = q
below_two P p q (suc (suc x)) l = absurd (omega arith)
