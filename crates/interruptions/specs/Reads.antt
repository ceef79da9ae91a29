-- GETC and IN with interrupts on the way, any number of them: the routine goes on where it was, and reads a key. Where
-- it had not taken its key, it takes one that is ready after the return, whatever keys the interrupt's routine took;
-- where it had, that one. IN also shows its prompt and the key.
use Rattle.std.specs.Prelude.{ℕ, ◌+◌, ◌-◌, ◌*◌, ◌/◌, ◌%◌, ◌≤◌, ◌<◌, ◌≡◌, Bool, List, [], ◌∷◌, ◌++◌, length, set}
use Rattle.run.specs.Run.{Start}
use Rattle.run.specs.Call.{call_of}
use Rattle.monitor.specs.Uses.{getc_code, in_code}
use Rattle.monitor.specs.Keys.{key_at}
use Rattle.monitor.specs.Calls.{Calls, not_read, read_in}
use Rattle.monitor.specs.Getc.{KeyComes}
use Rattle.monitor.specs.In.{prompt, first_poll}
use Rattle.interruptions.specs.GoesOn.{Returned, OnTheWay, ShownBefore, ResumedLater}

-- Three words of either routine: LDI of KBSR, at `poll`; BRzp back to it; LDI of KBDR. And its last, RTI.
abbrev pub getc_poll : ℕ
getc_poll = 0x0200

abbrev pub getc_last : ℕ
getc_last = 0x0203

abbrev pub in_poll : ℕ
in_poll = 0x0233

abbrev pub in_last : ℕ
in_last = 0x023C

-- The key that the routine has after k steps of q: KBDR as it stood in the step of q that loaded it; or the routine had
-- it before, when the interrupt was taken that q has returned from.
pub data KeyOf (poll below : ℕ) : Start → ℕ → ℕ → Type 0 where
  loaded : {q : Start} {k : ℕ} (j : ℕ) → j < k → (call_of q j).machine.pc ≡ poll + 2 → KeyOf poll below q k (key_at q j)
  before : {q r : Start} {i k key : ℕ} → KeyOf poll below q i key → Returned q i below r → KeyOf poll below r k key

-- The caller resumes within so many steps of r, with this key in R0 and all other registers as before; its text is
-- shown, and KBSR is this by the keys that have arrived.
pub record ResumesWith (s : Start) (shown : List ℕ) (r : Start) (m words : ℕ) (text : ℕ → List ℕ) (within key : ℕ)
    (status : ℕ → ℕ) : Type 0 where
  pub steps : ℕ
  pub in_time : steps ≤ within
  pub resumed : ResumedLater s shown r m steps (text key) words (set s.machine.regs 0 key)
  pub kbsr : (call_of r steps).machine.devices.kbsr ≡ status (call_of r steps).keys

-- r polls KBSR from step `first` on, every two steps: it takes the key that has arrived last by the step that loads
-- KBDR, after so many polls that find none. `after` are the steps behind that load.
abbrev pub TakesKey : Start → List ℕ → Start → ℕ → ℕ → (ℕ → List ℕ) → ℕ → ℕ → Type 0
TakesKey s shown r m words text after first = (turns : ℕ) → KeyComes r first turns → first + 2 * turns + 3 + after ≤ m
    → ResumesWith s shown r m words text (first + 2 * turns + 3 + after) (key_at r (first + 2 * turns + 2))
    (read_in (first + 2 * turns + 2) r)

-- It is to come to its first poll of KBSR, in fewer steps than the call takes to it.
pub record TakesKeyLater (s : Start) (shown : List ℕ) (r : Start) (m words : ℕ) (text : ℕ → List ℕ)
    (after poll most : ℕ) : Type 0 where
  pub first : ℕ
  pub soon : first < most
  pub there : (call_of r first).machine.pc ≡ poll
  pub takes : TakesKey s shown r m words text after first

-- The key that it has.
pub record HasKey (s : Start) (shown : List ℕ) (r : Start) (m words : ℕ) (text : ℕ → List ℕ) (after poll below : ℕ) :
    Type 0 where
  pub key : ℕ
  pub is : KeyOf poll below r 0 key
  pub resumes : ResumesWith s shown r m words text after key (not_read r)

-- Where r goes on, by its PC. A wait for a key has no number of steps (0 in `OnTheWay`): that the routine has not come
-- to its end, is told by its last instruction.
pub record Reads (s : Start) (poll last words below : ℕ) (r : Start) (m : ℕ) (o : OnTheWay s 0 last words below r m)
    (text : ℕ → List ℕ) (after most : ℕ) : Type 0 where
  pub before : ShownBefore o.interrupted
  -- at the first poll of KBSR or before it
  pub to_poll : r.machine.pc ≤ poll → most ≤ m
      → TakesKeyLater s o.shown r m (words + below) text after poll most
  -- at BRzp, where the poll found no key: N is clear
  pub none_found : r.machine.pc ≡ poll + 1 → r.machine.psr % 8 < 4
      → TakesKey s o.shown r m (words + below) text after 1
  -- at BRzp, where the poll found one: KBDR is loaded as it stands then, though the interrupt's routine took the key
  pub found : r.machine.pc ≡ poll + 1 → 4 ≤ r.machine.psr % 8 → 2 + after ≤ m
      → ResumesWith s o.shown r m (words + below) text (2 + after) (key_at r 1) (read_in 1 r)
  -- at the load of KBDR, the same
  pub to_load : r.machine.pc ≡ poll + 2 → 1 + after ≤ m
      → ResumesWith s o.shown r m (words + below) text (1 + after) (key_at r 0) (read_in 0 r)
  -- behind it
  pub has : poll + 2 < r.machine.pc → r.machine.pc ≤ last → after ≤ m
      → HasKey s o.shown r m (words + below) text after poll below

-- What IN shows.
abbrev pub echoed : ℕ → List ℕ
echoed key = prompt ++ (key % 256) ∷ []

pub record InterruptedReads : Type 0 where
  -- RTI follows the load
  pub getc : (user : Bool) (s : Start) (n : ℕ) → Calls 0x20 getc_code 2 user s n → (below : ℕ) (r : Start) (m : ℕ)
      → (o : OnTheWay s 0 getc_last 2 below r m) → Reads s getc_poll getc_last 2 below r m o (λ key. []) 1 1
  -- a wait for the display of four steps at most, STI, two LDR, ADD and RTI
  pub input : (user : Bool) (s : Start) (n : ℕ) → Calls 0x23 in_code 4 user s n → 20 ≤ length s.output
      → (below : ℕ) (r : Start) (m : ℕ) (o : OnTheWay s 0 in_last 4 below r m)
      → Reads s in_poll in_last 4 below r m o echoed 9 (first_poll s)
  -- a key that is ready at the return is found by the first poll, and is KBDR's unless another arrives (`ready_key` of
  -- GetcReads)
  pub ready : (r : Start) (first : ℕ) → 0x8000 ≤ r.machine.devices.kbsr → KeyComes r first 0
  -- the first key to arrive, in step w of r, where none is ready at the return (`arrived_key` of GetcReads)
  pub arrives : (r : Start) (first w : ℕ) (times : List ℕ) → r.machine.devices.kbsr < 0x8000
      → 0 < length r.bytes → r.times ≡ (r.machine.clock + w) ∷ times → KeyComes r first ((w - first + 1) / 2)
