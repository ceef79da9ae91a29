-- What the numbers claim of words, by the cells that the test has of them.
use Prim.Native.Nat.{ℕ, zero, suc, ◌+◌, ◌≤◌, ◌<◌}
use native.Mathlib.Omega.{arith}
use native.Mathlib.Decide.{dec_le}
use mathlib.Core.Path.{◌≡◌, refl, ◌∙◌}
use mathlib.Core.Bool.{Bool, true, false, cond, ◌&&◌, ◌||◌, not, false≢true}
use mathlib.Core.List.{List, [], ◌∷◌}
use borrow.Author.Tests.{eqb-true, leb-true, ltb-true}
use lib.Dec.{leb, ltb, eqb}
use lib.ListN.{length, get_or}
use Rattle.machine.specs.declared.Devices.{Devices}
use Rattle.sitting.specs.Sitting.{stack_from, Guarded}
use Rattle.sitting.specs.Test.{Claim, fixed, own, hidden, cell_at, is_hidden, rows_hold, vectors_hold}
use Rattle.sitting.specs.Test.{room_holds, passes}
use Rattle.sitting.specs.Certified.{is_secret_in, Loaded}
use Rattle.claims.specs.Encoding.{cell_of, cells_of}
use Rattle.claims.proofs.StateLaws.{cell_listed, cell_past_kinds, no_kind}
use Rattle.findings.specs.Answer.{is_fixed_by, is_own_by, is_secret_by, FixedStay}
use Rattle.findings.proofs.Laws.{length_cells}

pub first : (p q : Bool) → (p && q) ≡ true → p ≡ true
first true q h = refl
first false q h = absurd (false≢true h)

pub second : (p q : Bool) → (p && q) ≡ true → q ≡ true
second true q h = h
second false q h = absurd (false≢true h)

hidden_by : (k w : ℕ) → is_hidden (cell_of k w) ≡ not (eqb k 1 || eqb k 2)
unfolding is_hidden cell_of
hidden_by k w = go (eqb k 1) (eqb k 2)
  where
    go : (p q : Bool) → is_hidden (cond p (fixed w) (cond q own hidden)) ≡ not (p || q)
    go true q = refl
    go false true = refl
    go false false = refl

none_past : (kinds : List ℕ) (a : ℕ) → length kinds ≤ a → get_or kinds a 0 ≡ 0
none_past [] a l = refl
none_past (k ∷ kinds) zero l = absurd (omega arith)
none_past (k ∷ kinds) (suc a) l = none_past kinds a (omega arith)

cell_by : (kinds memory : List ℕ) (a : ℕ) → a < length memory
    → cell_at (cells_of kinds memory) a ≡ cell_of (get_or kinds a 0) (get_or memory a 0)
cell_by kinds memory a l = elim (dec_le (length kinds) a) [
  | yes h ↦ cell_past_kinds kinds memory a h ∙ rw (none_past kinds a h) (no_kind (get_or memory a 0))
  | no h ↦ cell_listed kinds memory a (omega arith) l
]

room_of_passed : (c : Claim) → passes c ≡ true → room_holds c ≡ true
unfolding passes
room_of_passed c h = first (room_holds c) (vectors_hold c && rows_hold c 0x0200 c.table) h

pub low_stack : (c : Claim) → passes c ≡ true → c.lowest ≤ 0x2FFE
unfolding room_holds
low_stack c h =
    leb-true c.lowest 0x2FFE
    (second (leb (length c.cells + 4) c.lowest) (leb c.lowest 0x2FFE) (room_of_passed c h))

pub cells_below : (c : Claim) → passes c ≡ true → length c.cells ≤ 0x2FFE
unfolding room_holds
cells_below c h =
    omega (
      arith,
      low_stack c h,
      leb-true (length c.cells + 4) c.lowest
          (first (leb (length c.cells + 4) c.lowest) (leb c.lowest 0x2FFE) (room_of_passed c h)),
    )

stack_below : (lowest : ℕ) (d : Devices) → stack_from lowest d ≤ lowest
unfolding stack_from
stack_below lowest d = omega arith

module _ (memory kinds : List ℕ) (lowest : ℕ) (size : length memory ≡ 65536) (low : lowest ≤ 0x2FFE) where
  pub secret_by : (d : Devices) (a : ℕ)
      → is_secret_in (cells_of kinds memory) (stack_from lowest d) a ≡ is_secret_by kinds lowest d a
  unfolding is_secret_in is_secret_by
  secret_by d a = go (ltb a (stack_from lowest d)) refl
    where
      go : (b : Bool) → ltb a (stack_from lowest d) ≡ b
          → cond b (is_hidden (cell_at (cells_of kinds memory) a)) (leb 0xFE00 a)
          ≡ cond b (not (is_fixed_by kinds a || is_own_by kinds a)) (leb 0xFE00 a)
      go true e =
          let l : a < 65536 = omega (arith, ltb-true a (stack_from lowest d) e, stack_below lowest d) in
          rw (cell_by kinds memory a (omega arith)) (hidden_by (get_or kinds a 0) (get_or memory a 0))
      go false e = refl

  module _ (short : length kinds ≤ 0x2FFE) where
    -- A memory that has the monitor has the fixed words of the one that was tested.
    fixed_stay : (after : List ℕ) → Loaded (cells_of kinds memory) after → FixedStay kinds memory after
    fixed_stay after h a e =
        let k : get_or kinds a 0 ≡ 1 = eqb-true (get_or kinds a 0) 1 e in
        h a (get_or memory a 0) (cell_by kinds memory a (listed a k) ∙ rw k (fixed_one (get_or memory a 0)))
      where
        fixed_one : (w : ℕ) → cell_of 1 w ≡ fixed w
        fixed_one w = unfold cell_of in refl

        listed : (a : ℕ) → get_or kinds a 0 ≡ 1 → a < length memory
        listed a k = elim (dec_le (length kinds) a) [
          | yes m ↦ absurd (omega (arith, none_past kinds a m))
          | no m ↦ omega arith
        ]

    pub guarded_by : (d : Devices) (before after : List ℕ)
        → Guarded (Loaded (cells_of kinds memory))
        (is_secret_in (cells_of kinds memory) (stack_from lowest d)) before after
        → Guarded (FixedStay kinds memory) (is_secret_by kinds lowest d) before after
    guarded_by d before after g = record {
      secrets = λ a z. g.secrets a (secret_by d a ∙ z);
      size = g.size;
      intact = fixed_stay after g.intact;
    }

pub short_kinds : (memory kinds : List ℕ) → length memory ≡ 65536 → length (cells_of kinds memory) ≤ 0x2FFE
    → length kinds ≤ 0x2FFE
short_kinds memory kinds e l = omega (arith, length_cells kinds memory)
