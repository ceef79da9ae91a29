-- The arrival of keys, one key at a time: what the loop over the key lists adds at each turn and at its end.
use Rattle.std.proofs.Common.{◌≡◌, ℕ, ◌+◌, ◌<◌, ◌≤◌, List, [], ◌∷◌, length, get_or, drop, add-zero, add-suc, suc-add}
use Rattle.std.proofs.Common.{add-one, drop_of_length-le, drop-cons, eq-eqb, ne_eqb}
use Rattle.machine.specs.declared.Machine.{Machine}
use Rattle.machine.specs.Keys.{keys_due, ready_after, last_key, after_keys}
use Rattle.step_parts.specs.Delivery.{Arrival, arrival_of}

module _ (t : ℕ) (times bytes : List ℕ) (m : Machine) (k : ℕ) where
  pub one_key_arrives :
      k < length times → k < length bytes → get_or times k 0 ≡ t →
      arrival_of t (drop k times) (drop k bytes) m k
      ≡ arrival_of t (drop (k + 1) times) (drop (k + 1) bytes) (after_keys (get_or bytes k 0 ∷ []) m) (k + 1)
  unfolding keys_due after_keys ready_after last_key
  one_key_arrives h h' e = rw (drop-cons times k 0 h, drop-cons bytes k 0 h', eq-eqb _ _ e, add-one k, add-suc, suc-add)

  pub no_key_arrives :
      k < length times → k < length bytes → (get_or times k 0 ≡ t → ⊥) →
      ◌≡◌ {A = Arrival} (record { machine = m; keys = k }) (arrival_of t (drop k times) (drop k bytes) m k)
  unfolding keys_due after_keys ready_after last_key
  no_key_arrives h h' e = rw (drop-cons times k 0 h, drop-cons bytes k 0 h', ne_eqb _ _ e, add-zero)

  pub keys_run_out :
      length times ≤ k →
      ◌≡◌ {A = Arrival} (record { machine = m; keys = k }) (arrival_of t (drop k times) (drop k bytes) m k)
  unfolding keys_due after_keys ready_after last_key
  keys_run_out h = rw (drop_of_length-le times h, add-zero)
