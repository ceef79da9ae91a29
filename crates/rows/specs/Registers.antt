-- "All other addresses are plain words": which addresses are device registers, and which are privileged, found by
-- asking each of the 65,536.
use Rattle.std.specs.Prelude.{ℕ, zero, suc, ◌≡◌, Bool, true, cond, not, List, [], ◌∷◌}
use Rattle.machine.specs.Edition.{third, second}
use Rattle.machine.specs.Protection.{privileged}
use Rattle.machine.specs.Devices.{is_device_by}

-- Of n addresses from this one on, those for which the test answers true.
unfoldable pub which : (ℕ → Bool) → ℕ → ℕ → List ℕ
which test zero a = []
which test (suc n) a = cond (test a) (a ∷ which test n (suc a)) (which test n (suc a))

-- The test answers one thing at this address, and another at the next.
abbrev pub changes_at : (ℕ → Bool) → ℕ → Bool
changes_at test a = cond (test a) (not (test (suc a))) (test (suc a))

pub record RegistersHold : Type 0 where
  pub by_third_edition : which (is_device_by third) 0x10000 0
      ≡ 0xFE00 ∷ 0xFE02 ∷ 0xFE04 ∷ 0xFE06 ∷ 0xFE08 ∷ 0xFE0A ∷ 0xFFFC ∷ 0xFFFE ∷ []
  -- "xFFFC is a plain word"
  pub by_second_edition : which (is_device_by second) 0x10000 0
      ≡ 0xFE00 ∷ 0xFE02 ∷ 0xFE04 ∷ 0xFE06 ∷ 0xFE08 ∷ 0xFE0A ∷ 0xFFFE ∷ []
  -- "Privileged addresses are x0000 to x2FFF and xFE00 to xFFFF."
  pub privileged_from_zero : privileged 0 ≡ true
  pub privileged_changes : which (changes_at privileged) 0xFFFF 0 ≡ 0x2FFF ∷ 0xFDFF ∷ []
