-- When a call is accepted, in plain terms and for every record, every list and every n: "under the first of these that
-- applies and never otherwise". And what keys leave, however many arrive in one step.
use Rattle.std.specs.Prelude.{ℕ, ◌+◌, ◌/◌, ◌%◌, ◌^◌, ◌≤◌, ◌≡◌, false, List, [], ◌∷◌, ◌++◌, length}
use Rattle.machine.specs.Keeping.{DefinedDevices}
use Rattle.machine.specs.Keys.{ready_after, last_key}
use Rattle.run.specs.Run.{Start}
use Rattle.run.specs.Refusals.{admission_of, Accepted}
use Rattle.run.specs.KeyLists.{out_of_order}

-- What the five refusals that there were before M22 leave.
pub record Handed (s : Start) (n : ℕ) : Type 0 where
  -- not 11: "memory is not 65,536 words"
  pub size : length s.memory ≡ 65536
  -- not 12: "the record has an undefined bit or a clock above 2^48"; of PSR bits 15, 10 to 8 and 2 to 0 are defined
  pub psr_above : s.machine.psr % 0x8000 / 0x0800 ≡ 0
  pub psr_between : s.machine.psr % 0x0100 / 8 ≡ 0
  pub devices : DefinedDevices s.machine.devices
  -- not 13: "n is above 1,048,576 or clock plus n above 2^48"
  pub steps : n ≤ 1048576
  pub clock : s.machine.clock + n ≤ 2 ^ 48
  -- not 14: "the key lists differ in length"
  pub lengths : length s.times ≡ length s.bytes
  -- not 15: "a time is below the clock or below the one before it"
  pub in_order : out_of_order s.machine.clock s.times ≡ false

pub record AcceptedExactly (s : Start) (n : ℕ) : Type 0 where
  pub accepted : Handed s n → admission_of s n ≡ Accepted
  pub handed : admission_of s n ≡ Accepted → Handed s n

-- "KBDR takes the byte, ready is set. A later key overwrites an earlier one": of any number of keys.
pub record KeysArrive (keys : List ℕ) (b : ℕ) : Type 0 where
  pub last_stays : (kbdr : ℕ) → last_key (keys ++ b ∷ []) kbdr ≡ b
  pub ready_set : (kbsr : ℕ) → ready_after (b ∷ keys) kbsr ≡ kbsr % 0x8000 + 0x8000
  pub none_leaves_it : (kbsr kbdr : ℕ) → (ready_after [] kbsr ≡ kbsr) × (last_key [] kbdr ≡ kbdr)

pub record CallsAndKeys : Type 0 where
  pub accepted_exactly : (s : Start) (n : ℕ) → AcceptedExactly s n
  pub keys_arrive : (keys : List ℕ) (b : ℕ) → KeysArrive keys b
