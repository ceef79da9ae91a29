-- GETC: the wait for a key, the load of KBDR, and RTI.
use Prim.Native.Nat.{ℕ, zero, suc, ◌+◌, ◌-◌, ◌*◌, ◌/◌, ◌%◌, ◌≤◌, ◌<◌}
use native.Mathlib.Omega.{arith}
use mathlib.Core.Path.{◌≡◌, refl, ◌∙◌}
use mathlib.Core.Bool.{Bool, true}
use mathlib.Core.List.{List, [], ◌∷◌}
use borrow.Author.Tests.{lt-ltb, le-ltb}
use lib.ListN.{length, get_or, set, take, drop}
use lib.Pow.{are_bytes}
use lib.Seq.{set-set}
use Rattle.machine.specs.Words.{next, with_register}
use Rattle.machine.specs.Keys.{ready_after, last_key}
use Rattle.machine.proofs.StepLaws.{first_is_byte, rest_are_bytes}
use Rattle.run.specs.Run.{Start}
use Rattle.run.specs.Refusals.{admission_of, Accepted}
use Rattle.run.proofs.Acceptance.{accepted_is_acceptable}
use Rattle.monitor.specs.Vectors.{vector_word}
use Rattle.monitor.specs.Keys.{keys_before, arrived_by, status_at, key_at}
use Rattle.monitor.specs.Uses.{with_vector, getc_code}
use Rattle.monitor.specs.Calls.{stack_of, Begins, Calls, NoInterrupt, read_in, Resumes}
use Rattle.monitor.specs.Getc.{KeyComes, getc_steps, GetcReads}
use Rattle.monitor.proofs.KeyLaws.{ready_leaves_rest}
use Rattle.monitor.proofs.Execution.{Frame, View, from, At, Quiet, status_in}
use Rattle.monitor.proofs.Instructions.{Sound, computing}
use Rattle.monitor.proofs.Entries.{called_frame, within}
use Rattle.monitor.proofs.Calls.{begins_sound, quiet_steps, Eight, eight, begun, routine_begins, AtReturn}
use Rattle.monitor.proofs.Calls.{comes_back}
use Rattle.monitor.proofs.Keyboard.{key_read, Keys, Turned, turns, takes_key}

-- The display's count at the end, from what is left of it after the polls that find no key.
four_less : (left busy t : ℕ) → left ≡ busy - 1 - 2 * t → left - 1 - 1 - 1 - 1 ≡ busy - (1 + 2 * t + 3 + 1)
four_less left busy t e =
    let z : busy - 1 - 2 * t - 4 ≡ busy - (1 + 2 * t + 3 + 1) = omega arith in
    at_once left ∙ rw e z
  where
    at_once : (left : ℕ) → left - 1 - 1 - 1 - 1 ≡ left - 4
    at_once left = omega arith

module _ (user : Bool) (s : Start) (n t : ℕ) (c : Calls 0x20 getc_code 2 user s n) (key : KeyComes s 1 t)
    (le : getc_steps t ≤ n) (none : NoInterrupt s (getc_steps t)) (x : Eight s.machine.regs) where
  abbrev uses : ℕ → Bool
  uses = with_vector 0x20 getc_code

  abbrev f : Frame
  f = called_frame uses 2 user s

  abbrev b : Begins uses 2 user s n
  b = c.begins

  abbrev j : ℕ
  j = 1 + 2 * t + 3

  all_steps : j + 1 ≡ getc_steps t
  all_steps = omega arith

  quiet : Quiet s 0 (j + 1)
  quiet = rw all_steps (quiet_steps s n (getc_steps t) 0 b.accepted le none)

  sound : Sound f
  sound = begins_sound s n b

  abbrev view : View
  view = begun s x 0x0200 (next s.machine.pc)

  keys : Keys f view 0 0x0200
  unfolding computing
  keys = record {
    pointer = 0x0280;
    pointer_plain = omega arith;
    loads = λ r c b. refl;
    keyboard = refl;
    branches = λ r c b. refl;
    data_pointer = 0x0281;
    data_plain = omega arith;
    reads = λ r c b. refl;
    data_register = refl;
  }

  waited : Turned s (1 + 2 * t) f view view.regs 0 0x0200 t view.busy
  unfolding vector_word
  waited =
      turns quiet f sound view refl refl refl refl 0 0x0200 keys 1 view.regs view.codes view.busy
      (routine_begins getc_code 2 user s n (j + 1) x 0x20 0x0200 c (omega arith) quiet (omega arith) (omega arith) refl)
      t (omega arith)
      key.none

  abbrev polled : View
  polled = within view (with_register waited.regs_now 0 (status_at s (1 + 2 * t))) 0x0202
      (from (status_at s (1 + 2 * t))) (waited.busy_now - 1 - 1)

  abbrev returning : View
  returning = key_read s (1 + 2 * t + 2) polled 0

  at_rti : At s 0 j f returning
  at_rti =
      takes_key quiet f sound view refl refl refl refl 0 0x0200 keys (1 + 2 * t) (omega arith) waited.regs_now
      waited.codes waited.busy_now waited.at key.comes

  regs_are : returning.regs
      ≡ key_at s (1 + 2 * t + 2) ∷ x.r₁ ∷ x.r₂ ∷ x.r₃ ∷ x.r₄ ∷ x.r₅ ∷ (stack_of s.machine - 2) ∷ x.r₇ ∷ []
  regs_are =
      set-set waited.regs_now 0 (status_at s (1 + 2 * t)) (key_at s (1 + 2 * t + 2))
      ∙ waited.same (key_at s (1 + 2 * t + 2))

  at_return : AtReturn uses 2 user s returning
  unfolding computing
  at_return = record { plan = refl; six = rw regs_are; pc = refl; psr = refl; fine = refl; going = refl }

  same_registers : set returning.regs 6 (get_or s.machine.regs 6 0)
      ≡ set s.machine.regs 0 (key_at s (1 + 2 * t + 2))
  same_registers = rw (regs_are, x.are)

  -- Ready was cleared.
  cleared : (keys : ℕ)
      → ready_after (take (keys - returning.read) (drop returning.read s.bytes)) returning.status
      ≡ read_in (1 + 2 * t + 2) s keys
  cleared keys =
      let z : status_in s (1 + 2 * t + 2) polled % 0x8000 ≡ s.machine.devices.kbsr % 0x8000 =
      ready_leaves_rest _ s.machine.devices.kbsr in
      rw z

  counted : returning.busy - 1 ≡ s.machine.devices.busy - (j + 1)
  counted = four_less waited.busy_now s.machine.devices.busy t waited.count

  getc_resumes :
      Resumes s n (j + 1) [] (s.machine.devices.busy - (j + 1)) 2
      (set s.machine.regs 0 (key_at s (1 + 2 * t + 2))) (read_in (1 + 2 * t + 2) s)
  getc_resumes =
      comes_back uses 2 user s n j returning b (omega arith) quiet at_rti at_return (rw all_steps le)
      (set s.machine.regs 0 (key_at s (1 + 2 * t + 2))) same_registers
      (s.machine.devices.busy - (j + 1)) counted (read_in (1 + 2 * t + 2) s) cleared

-- ---- which key

still_ready : (keys : List ℕ) (kbsr : ℕ) → 0x8000 ≤ kbsr → 0x8000 ≤ ready_after keys kbsr
unfolding ready_after
still_ready [] kbsr h = h
still_ready (b ∷ keys) kbsr h = still_ready keys (kbsr % 0x8000 + 0x8000) (omega arith)

none_yet : (s : Start) (k : ℕ) → arrived_by s k ≡ 0
    → ready_after (take (arrived_by s k) s.bytes) s.machine.devices.kbsr ≡ s.machine.devices.kbsr
unfolding ready_after
none_yet s k e = rw e

some_arrived : (keys : List ℕ) (n kbsr : ℕ) → 0 < n → 0 < length keys → 0x8000 ≤ ready_after (take n keys) kbsr
unfolding ready_after
some_arrived [] n kbsr l m = absurd (omega arith)
some_arrived (b ∷ keys) zero kbsr l m = absurd (omega arith)
some_arrived (b ∷ keys) (suc n) kbsr l m = still_ready (take n keys) (kbsr % 0x8000 + 0x8000) (omega arith)

-- Polls from step i on find the first key to arrive.
pub arrives_at : (s : Start) (i w : ℕ) (times : List ℕ) → s.machine.devices.kbsr < 0x8000 → 0 < length s.bytes
    → s.times ≡ (s.machine.clock + w) ∷ times → KeyComes s i ((w - i + 1) / 2)
unfolding keys_before
arrives_at s i w times idle some first = record {
  none = λ j h.
      let e : arrived_by s (suc (i + 2 * j)) ≡ 0 =
      rw first (rw (le-ltb (s.machine.clock + w) (s.machine.clock + suc (i + 2 * j)) (omega arith))) in
      rw (none_yet s (suc (i + 2 * j)) e) idle;
  comes =
      some_arrived s.bytes (arrived_by s (suc (i + 2 * ((w - i + 1) / 2)))) s.machine.devices.kbsr
      (rw first
      (rw (lt-ltb (s.machine.clock + w) (s.machine.clock + suc (i + 2 * ((w - i + 1) / 2))) (omega arith))
      (omega arith))) some;
}

arrives : (s : Start) (w : ℕ) (times : List ℕ) → s.machine.devices.kbsr < 0x8000 → 0 < length s.bytes
    → s.times ≡ (s.machine.clock + w) ∷ times → KeyComes s 1 (w / 2)
arrives s w times idle some first =
    let z : (w - 1 + 1) / 2 ≡ w / 2 = omega arith in
    rw z at (arrives_at s 1 w times idle some first)

pub ready_at : (s : Start) (i : ℕ) → 0x8000 ≤ s.machine.devices.kbsr → KeyComes s i 0
ready_at s i h = record {
  none = λ j l. absurd (omega arith);
  comes = still_ready (take (arrived_by s (suc (i + 2 * 0))) s.bytes) s.machine.devices.kbsr h;
}

arrived_key : (s : Start) (j b : ℕ) (bytes : List ℕ) → s.bytes ≡ b ∷ bytes → arrived_by s (suc j) ≡ 1 → key_at s j ≡ b
unfolding last_key
arrived_key s j b bytes e one = rw (one, e)

ready_key : (s : Start) (j : ℕ) → arrived_by s (suc j) ≡ 0 → key_at s j ≡ s.machine.devices.kbdr
unfolding last_key
ready_key s j none = rw none

last_is_byte : (bytes : List ℕ) (n kbdr : ℕ) → are_bytes bytes ≡ true → kbdr < 256 → last_key (take n bytes) kbdr < 256
unfolding last_key
last_is_byte [] zero kbdr t h = h
last_is_byte [] (suc n) kbdr t h = h
last_is_byte (first ∷ rest) zero kbdr t h = h
last_is_byte (first ∷ rest) (suc n) kbdr t h =
    last_is_byte rest n first (rest_are_bytes first rest t) (first_is_byte first rest t)

is_byte : (s : Start) (n j : ℕ) → admission_of s n ≡ Accepted → are_bytes s.bytes ≡ true → key_at s j < 256
is_byte s n j accepted t =
    last_is_byte s.bytes (arrived_by s (suc j)) s.machine.devices.kbdr t
    (accepted_is_acceptable s n accepted).defined.devices.kbdr

pub getc_reads : GetcReads
getc_reads = record {
  resumes = λ user s n t c key le none.
      let z : 1 + 2 * t + 2 ≡ 3 + 2 * t = omega arith in
      let x = eight s.machine.regs c.begins.registers in
      rw (all_steps user s n t c key le none x, z) at (getc_resumes user s n t c key le none x);
  is_byte = is_byte;
  ready = λ s h. ready_at s 1 h;
  ready_key = ready_key;
  arrives = arrives;
  arrived_key = arrived_key;
}
