-- "The routines with interrupts on the way (each goes on where it was)": a call of OUT, PUTS, PUTSP or HALT is
-- interrupted, any number of times, and each time a class's own interrupt routine returns with the machine as it was,
-- but for clock, keyboard, timer, a display that has had time, and the words below the stack pointer. Then the routine
-- goes on to its end, and shows and leaves what it would have shown and left. Reads.antt has GETC and IN.
use Rattle.std.specs.Prelude.{ℕ, ◌+◌, ◌-◌, ◌*◌, ◌/◌, ◌%◌, ◌≤◌, ◌<◌, ◌≡◌, Bool, true, cond, List, [], ◌∷◌, ◌++◌, length}
use Rattle.std.specs.Prelude.{get_or, set, take, drop}
use Rattle.machine.specs.Words.{next}
use Rattle.machine.specs.Psr.{in_user_mode}
use Rattle.machine.specs.Protection.{privileged}
use Rattle.run.specs.declared.Ending.TheVariants.{Done, Halted}
use Rattle.run.specs.Run.{Start}
use Rattle.run.specs.Refusals.{admission_of, Accepted}
use Rattle.run.specs.Call.{call_of}
use Rattle.lent.specs.Lent.{written_over}
use Rattle.monitor.specs.Uses.{out_code, puts_code, putsp_code, halt_code}
use Rattle.monitor.specs.Calls.{stack_of, StackApart, Calls, NoInterrupt}
use Rattle.monitor.specs.Out.{Uninterrupted, out_steps_of}
use Rattle.monitor.specs.Puts.{may_read_of, StringFrom, low_bytes, r0, puts_steps, refused_steps}
use Rattle.monitor.specs.Putsp.{AreWords, pair_bytes, putsp_steps, refused_pair_steps}
use Rattle.monitor.specs.Halt.{message, halt_steps}

-- R6 after k steps of a call.
abbrev pub six_after : Start → ℕ → ℕ
six_after s k = get_or (call_of s k).machine.regs 6 0

-- After k steps of the call s an interrupt was taken; its routine has returned, and the machine goes on as r: with
-- these parts of the record as they were, a display that has had time, and no word changed but so many below R6.
-- `remaining` (crates/run/specs/Continuing.antt) makes r of where the call then stands.
pub record Returned (s : Start) (k below : ℕ) (r : Start) : Type 0 where
  pub registers : r.machine.regs ≡ (call_of s k).machine.regs
  pub pc : r.machine.pc ≡ (call_of s k).machine.pc
  pub psr : r.machine.psr ≡ (call_of s k).machine.psr
  pub saved_ssp_lem : r.machine.saved_ssp ≡ (call_of s k).machine.saved_ssp
  pub saved_usp_lem : r.machine.saved_usp ≡ (call_of s k).machine.saved_usp
  pub mcr : r.machine.devices.mcr ≡ (call_of s k).machine.devices.mcr
  pub display : r.machine.devices.busy ≤ (call_of s k).machine.devices.busy
  pub output : r.output ≡ drop (call_of s k).shown (call_of s k).output
  pub words_below_lem : take (six_after s k - below) r.memory ≡ take (six_after s k - below) (call_of s k).memory
  pub words_above_lem : drop (six_after s k) r.memory ≡ drop (six_after s k) (call_of s k).memory

-- ---- one interrupt after the other

-- The call q makes k steps and takes no interrupt in them; then one is taken, and returns: the machine goes on as r.
pub record Interrupts (below : ℕ) (q : Start) (k : ℕ) (r : Start) : Type 0 where
  -- of a call of so many steps
  pub steps : ℕ
  pub accepted : admission_of q steps ≡ Accepted
  pub fits : k ≤ steps
  pub quiet : Uninterrupted q k
  pub returned : Returned q k below r

-- The bytes that q shows in k steps.
abbrev pub shown_in : Start → ℕ → List ℕ
shown_in q k = take (call_of q k).shown (call_of q k).output

-- None of the first k steps of q is the routine's last instruction, at this address: RTI, or STOP's load of R6.
pub record NotYet (last : ℕ) (q : Start) (k : ℕ) : Type 0 where
  pub none : (j : ℕ) → j < k → (call_of q j).machine.pc ≡ last → ⊥

-- The routine has not come to its end in the call's k steps: by what it takes when nothing interrupts it, the trap
-- among it, or by its last instruction.
pub data Within (total last : ℕ) (s : Start) (k : ℕ) : Type 0 where
  by_steps : k < total → Within total last s k
  by_place : NotYet last s k → Within total last s k

-- The call s is interrupted on the way through the routine, once or more, and goes on as r: so many steps were made,
-- and these bytes shown, outside of the interrupts.
pub data AfterInterrupts (total last below : ℕ) (s : Start) : Start → ℕ → List ℕ → Type 0 where
  once : {k : ℕ} {r : Start} → 0 < k → Within total last s k → Interrupts below s k r
      → AfterInterrupts total last below s r k (shown_in s k)
  again : {q : Start} {made : ℕ} {shown : List ℕ} {k : ℕ} {r : Start} → AfterInterrupts total last below s q made shown
      → NotYet last q k → Interrupts below q k r
      → AfterInterrupts total last below s r (made + k) (shown ++ shown_in q k)

-- The last of them: r has m steps, and takes no other interrupt in them. The stack has room for an interrupt's words
-- below the routine's.
pub record OnTheWay (s : Start) (total last words below : ℕ) (r : Start) (m : ℕ) : Type 0 where
  pub made : ℕ
  pub shown : List ℕ
  pub interrupted : AfterInterrupts total last below s r made shown
  pub apart : StackApart (words + below) (stack_of s.machine)
  pub accepted : admission_of r m ≡ Accepted
  pub no_other : NoInterrupt r m

-- What was shown before each interrupt stands in the output lent, and nothing else was written there.
pub record ShowsOnly (q : Start) (k : ℕ) : Type 0 where
  pub shown : (call_of q k).shown ≡ length (shown_in q k)
  pub output : (call_of q k).output ≡ written_over (shown_in q k) q.output

abbrev pub ShownBefore : {total last below : ℕ} {s r : Start} {made : ℕ} {shown : List ℕ}
    → AfterInterrupts total last below s r made shown → Type 0
ShownBefore {s = s} (once {k = k} some within i) = ShowsOnly s k
ShownBefore (again {q = q} {k = k} earlier not_yet i) = ShownBefore earlier × ShowsOnly q k

-- ---- the end

-- j steps of r later the caller of s has resumed at Next, with its PSR and these registers. What was shown before the
-- interrupts and what r shows are these bytes; no word is changed but so many of the stack's.
pub record ResumedLater (s : Start) (shown : List ℕ) (r : Start) (m j : ℕ) (bytes : List ℕ) (words : ℕ)
    (registers : List ℕ) : Type 0 where
  pub made : j ≤ (call_of r m).steps
  pub ending : (call_of r j).ending ≡ Done
  pub last : List ℕ
  pub all : bytes ≡ shown ++ last
  pub last_shown : (call_of r j).shown ≡ length last
  pub last_output : (call_of r j).output ≡ written_over last r.output
  pub pc : (call_of r j).machine.pc ≡ next s.machine.pc
  pub psr : (call_of r j).machine.psr ≡ s.machine.psr
  pub registers_are : (call_of r j).machine.regs ≡ registers
  pub saved_ssp_lem : (call_of r j).machine.saved_ssp ≡ s.machine.saved_ssp
  pub saved_usp_lem : (call_of r j).machine.saved_usp
      ≡ cond (in_user_mode s.machine.psr) (get_or s.machine.regs 6 0) s.machine.saved_usp
  pub mcr : (call_of r j).machine.devices.mcr ≡ 0x8000
  pub words_below_lem : take (stack_of s.machine - words) (call_of r j).memory
      ≡ take (stack_of s.machine - words) s.memory
  pub words_above_lem : drop (stack_of s.machine) (call_of r j).memory ≡ drop (stack_of s.machine) s.memory

-- In as many steps at most as the routine had left.
pub record ResumesInTime (s : Start) (total last words below : ℕ) (r : Start) (m : ℕ)
    (o : OnTheWay s total last words below r m) (bytes : List ℕ) (registers : List ℕ) : Type 0 where
  pub before : ShownBefore o.interrupted
  pub steps : ℕ
  pub in_time : o.made + steps ≤ total
  pub resumed : ResumedLater s o.shown r m steps bytes (words + below) registers

-- Where the routine halts the machine: r, of m steps, is halted, with R0 to R5 and R7 as the caller had them.
pub record HaltedLater (s : Start) (total last words below : ℕ) (r : Start) (m : ℕ)
    (o : OnTheWay s total last words below r m) (bytes : List ℕ) : Type 0 where
  pub before : ShownBefore o.interrupted
  pub ending : (call_of r m).ending ≡ Halted
  pub mcr : (call_of r m).machine.devices.mcr ≡ 0
  pub last_bytes : List ℕ
  pub all : bytes ≡ o.shown ++ last_bytes
  pub last_shown : (call_of r m).shown ≡ length last_bytes
  pub last_output : (call_of r m).output ≡ written_over last_bytes r.output
  pub pc : (call_of r m).machine.pc ≡ 0x027E
  pub psr : (call_of r m).machine.psr ≡ s.machine.psr / 8 % 4096 * 8 + 1
  pub registers_are : (call_of r m).machine.regs ≡ set s.machine.regs 6 0x2FFE
  pub saved_ssp_lem : (call_of r m).machine.saved_ssp ≡ s.machine.saved_ssp
  pub saved_usp_lem : (call_of r m).machine.saved_usp
      ≡ cond (in_user_mode s.machine.psr) (get_or s.machine.regs 6 0) s.machine.saved_usp
  pub words_below_lem : take (stack_of s.machine - (words + below)) (call_of r m).memory
      ≡ take (stack_of s.machine - (words + below)) s.memory
  pub words_above_lem : drop (stack_of s.machine) (call_of r m).memory ≡ drop (stack_of s.machine) s.memory

-- Each routine's last instruction: RTI of OUT, PUTS and PUTSP; and STOP's load of R6.
abbrev pub out_last : ℕ
out_last = 0x020B

abbrev pub puts_last : ℕ
puts_last = 0x0223

abbrev pub putsp_last : ℕ
putsp_last = 0x0267

abbrev pub stop_last : ℕ
stop_last = 0x027C

pub record InterruptedGoOn : Type 0 where
  pub out : (user : Bool) (s : Start) (n : ℕ) → Calls 0x21 out_code 3 user s n → 0 < length s.output
      → (below : ℕ) (r : Start) (m : ℕ) (o : OnTheWay s (out_steps_of s) out_last 3 below r m)
      → out_steps_of s ≤ o.made + m
      → ResumesInTime s (out_steps_of s) out_last 3 below r m o ((get_or s.machine.regs 0 0 % 256) ∷ [])
      s.machine.regs
  -- the string is apart from the interrupt's words too
  pub puts : (user : Bool) (s : Start) (n : ℕ) → Calls 0x22 puts_code 5 user s n → (words : List ℕ) (b below : ℕ)
      → StringFrom (may_read_of user (5 + below) s) s.memory (r0 s) words b → may_read_of user (5 + below) s b ≡ true
      → get_or s.memory b 0 ≡ 0 → length words ≤ length s.output
      → (r : Start) (m : ℕ) (o : OnTheWay s (puts_steps user s words b) puts_last 5 below r m)
      → puts_steps user s words b ≤ o.made + m
      → ResumesInTime s (puts_steps user s words b) puts_last 5 below r m o (low_bytes words) s.machine.regs
  pub putsp : (user : Bool) (s : Start) (n : ℕ) → Calls 0x24 putsp_code 6 user s n → (words : List ℕ) (b below : ℕ)
      → StringFrom (may_read_of user (6 + below) s) s.memory (r0 s) words b → AreWords words
      → may_read_of user (6 + below) s b ≡ true → get_or s.memory b 0 ≡ 0
      → length (pair_bytes words) ≤ length s.output
      → (r : Start) (m : ℕ) (o : OnTheWay s (putsp_steps user (r0 s) words b) putsp_last 6 below r m)
      → putsp_steps user (r0 s) words b ≤ o.made + m
      → ResumesInTime s (putsp_steps user (r0 s) words b) putsp_last 6 below r m o (pair_bytes words) s.machine.regs
  -- HALT, interrupted before STOP loads R6
  pub halt : (user : Bool) (s : Start) (n : ℕ) → Calls 0x25 halt_code 5 user s n → 7 ≤ length s.output
      → (below : ℕ) (r : Start) (m : ℕ) (o : OnTheWay s (halt_steps - 1) stop_last 5 below r m)
      → halt_steps < o.made + m → HaltedLater s (halt_steps - 1) stop_last 5 below r m o message
  -- a string of a caller in User mode that comes to a privileged word, the same
  pub puts_refused : (s : Start) (n : ℕ) → Calls 0x22 puts_code 5 true s n → (words : List ℕ) (b below : ℕ)
      → StringFrom (may_read_of true (5 + below) s) s.memory (r0 s) words b → privileged b ≡ true → b < 65536
      → length words ≤ length s.output
      → (r : Start) (m : ℕ) (o : OnTheWay s (refused_steps s words - 1) stop_last 5 below r m)
      → refused_steps s words < o.made + m
      → HaltedLater s (refused_steps s words - 1) stop_last 5 below r m o (low_bytes words)
  pub putsp_refused : (s : Start) (n : ℕ) → Calls 0x24 putsp_code 6 true s n → (words : List ℕ) (b below : ℕ)
      → StringFrom (may_read_of true (6 + below) s) s.memory (r0 s) words b → AreWords words → privileged b ≡ true
      → b < 65536 → length (pair_bytes words) ≤ length s.output
      → (r : Start) (m : ℕ) (o : OnTheWay s (refused_pair_steps (r0 s) words - 1) stop_last 6 below r m)
      → refused_pair_steps (r0 s) words < o.made + m
      → HaltedLater s (refused_pair_steps (r0 s) words - 1) stop_last 6 below r m o (pair_bytes words)
