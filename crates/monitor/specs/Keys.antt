-- The keys that arrive: how many of them in the first steps of a call, and what the keyboard then holds.
use Rattle.std.specs.Prelude.{ℕ, suc, ◌+◌, cond, List, [], ◌∷◌, ltb, take}
use Rattle.machine.specs.Keys.{ready_after, last_key}
use Rattle.run.specs.Run.{Start}

-- How many of these times, which never fall, lie before t.
unfoldable pub keys_before : ℕ → List ℕ → ℕ
keys_before t [] = 0
keys_before t (u ∷ times) = cond (ltb u t) (suc (keys_before t times)) 0

-- How many keys arrive in the first k steps of a call.
abbrev pub arrived_by : Start → ℕ → ℕ
arrived_by s k = keys_before (s.machine.clock + k) s.times

-- KBSR and KBDR in step number j, once its keys have arrived, as long as KBDR has not been loaded.
abbrev pub status_at : Start → ℕ → ℕ
status_at s j = ready_after (take (arrived_by s (suc j)) s.bytes) s.machine.devices.kbsr

abbrev pub key_at : Start → ℕ → ℕ
key_at s j = last_key (take (arrived_by s (suc j)) s.bytes) s.machine.devices.kbdr
