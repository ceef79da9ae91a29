-- What holds before every step of a sitting, of the record and of memory.
use Prim.Native.Nat.{ℕ, ◌+◌, ◌-◌, ◌%◌, ◌≤◌, ◌<◌}
use native.Mathlib.Omega.{arith}
use mathlib.Core.Path.{◌≡◌, subst, ◌∙◌}
use mathlib.Core.Bool.{Bool, true, false, cond, ◌&&◌}
use mathlib.Core.List.{List, [], ◌∷◌, ◌++◌}
use borrow.Author.Tests.{lt-leb, le-ltb, lt-ltb}
use lib.Dec.{leb, eqb}
use lib.ListN.{length, get_or, set, length-set}
use lib.Seq.{get_or-set_other}
use Rattle.machine.specs.declared.Machine.{Machine}
use Rattle.machine.specs.declared.Devices.{Devices}
use Rattle.machine.specs.Words.{next}
use Rattle.machine.specs.Psr.{in_user_mode, defined_psr, priority_of}
use Rattle.machine.specs.Record.{Timer, timer_of}
use Rattle.machine.specs.Keys.{ready_after, after_keys}
use Rattle.machine.specs.Timer.{is_off, expired, one_less, ticked, after_timer}
use Rattle.machine.specs.Outcome.{Outcome, with_reads}
use Rattle.machine.specs.Devices.{KBDR, TSR, kbsr_after_load, timer_status_after_load, after_load}
use Rattle.machine.specs.Step.{after_tick, ended, after_start}
use Rattle.machine.proofs.MemoryParts.{UserAddress}
use Rattle.machine.proofs.Tests.{both_true}
use Rattle.footprint.specs.Footprint.{Each}
use Rattle.footprint.specs.Altered.{NoneAltered}
use Rattle.sitting.specs.Values.{implies, all_imply}
use Rattle.sitting.specs.Test.{Cell, fixed, State, Claim, cell_at, is_hidden, covers, accepts, passes}
use Rattle.sitting.specs.Certified.{is_secret_in, Loaded}
use Rattle.sitting.proofs.Runs.{KeepsSecrets}
use Rattle.sitting.proofs.Values.{CodesHold, Registers, words_at, all_weaker, weaker_codes}
use Rattle.sitting.proofs.Table.{listed, fixed_is_open, Found, found, room}

-- ---- memory

pub record Words (c : Claim) (mem : List ℕ) : Type 0 where
  pub size : length mem ≡ 65536
  pub intact : Loaded c.cells mem

-- A word that may change.
abbrev pub Changeable : Claim → ℕ → Type 0
Changeable c a = (w : ℕ) → cell_at c.cells a ≡ fixed w → ⊥

pub word_stored : {c : Claim} {mem : List ℕ} → Words c mem → (a x : ℕ) → Changeable c a → Words c (set mem a x)
word_stored {c} {mem} k a x n = record {
  size = length-set mem a x ∙ k.size;
  intact = λ b w e.
      get_or-set_other mem a b x 0 (λ z. n w (subst (λ (d : ℕ). cell_at c.cells d ≡ fixed w) z e)) ∙ k.intact b w e;
}

-- Every word that is not listed may.
pub unlisted_changes : (c : Claim) (a : ℕ) → length c.cells ≤ a → Changeable c a
unlisted_changes c a l w e =
    absurd (omega (arith, listed c.cells a (fixed_is_open (cell_at c.cells a) w e)))

-- ---- the record, but for devices, clock and Saved_USP

pub record Core : Type 0 where
  pub regs : List ℕ
  pub pc : ℕ
  pub psr : ℕ
  pub ssp : ℕ

abbrev pub core_of : Machine → Core
core_of m = record { regs = m.regs; pc = m.pc; psr = m.psr; ssp = m.saved_ssp }

-- In User mode.
pub record InUserMode (k : Claim) (c : Core) (mem : List ℕ) : Type 0 where
  pub memory : Words k mem
  pub eight : length c.regs ≡ 8
  pub user : in_user_mode c.psr ≡ true
  pub stack : c.ssp ≡ 0x3000

-- In a routine that was called from User mode: what the registers, the PSR and memory are known to be.
pub record Known (c : Claim) (σ : State) (regs : List ℕ) (psr : ℕ) (mem : List ℕ) : Type 0 where
  pub memory : Words c mem
  pub eight : length regs ≡ 8
  pub supervisor : psr < 0x8000
  -- the caller's PSR, at the top of the stack
  pub caller : 0x8000 ≤ get_or mem 0x2FFF 0
  pub registers : Registers (get_or regs 0 0) σ.regs regs
  pub codes : CodesHold (get_or regs 0 0) σ.codes (psr % 8)
  pub words : Registers (get_or regs 0 0) σ.words (words_at c.watched mem)

-- What covers a state holds of it.
pub still_known : {c : Claim} {σ τ : State} {regs : List ℕ} {psr : ℕ} {mem : List ℕ} → covers σ τ ≡ true
    → Known c σ regs psr mem → Known c τ regs psr mem
unfolding covers
still_known {c} {σ} {τ} {regs} h k =
    let b = both_true (all_imply σ.regs τ.regs)
    (implies σ.codes τ.codes && all_imply σ.words τ.words) h in
    let d = both_true (implies σ.codes τ.codes) (all_imply σ.words τ.words) b.1 in
    record {
      memory = k.memory;
      eight = k.eight;
      supervisor = k.supervisor;
      caller = k.caller;
      registers = all_weaker (get_or regs 0 0) σ.regs τ.regs regs b.0 k.registers;
      codes = weaker_codes (get_or regs 0 0) σ.codes τ.codes _ d.0 k.codes;
      words = all_weaker (get_or regs 0 0) σ.words τ.words _ d.1 k.words;
    }

pub record InRoutine (k : Claim) (c : Core) (mem : List ℕ) : Type 0 where
  pub found : Found k c.pc
  pub known : Known k found.state c.regs c.psr mem

-- What an RTI to Supervisor mode leaves.
abbrev pub popped : Core → List ℕ → Core
popped c mem =
    let sp = get_or c.regs 6 0 in
    record {
      regs = set c.regs 6 (next (next sp));
      pc = get_or mem sp 0;
      psr = defined_psr (get_or mem (next sp) 0);
      ssp = c.ssp;
    }

-- In the lone RTI, on an interrupt of this priority or a higher one, with R6 from `low` on.
pub record InReturn (k : Claim) (priority low : ℕ) (Under : Core → List ℕ → Type 0) (c : Core) (mem : List ℕ)
    : Type 0 where
  pub memory : Words k mem
  pub eight : length c.regs ≡ 8
  pub supervisor : c.psr < 0x8000
  pub priority_is : priority ≤ priority_of c.psr
  pub at : cell_at k.cells c.pc ≡ fixed 0x8000
  pub from : low ≤ get_or c.regs 6 0
  pub below : get_or c.regs 6 0 ≤ 0x2FFC
  pub back_in_supervisor : defined_psr (get_or mem (next (get_or c.regs 6 0)) 0) < 0x8000
  pub under : Under (popped c mem) mem

-- Which devices may interrupt.
pub record Enabled : Type 0 where
  pub keyboard : Bool
  pub timer : Bool

abbrev pub both_devices : Enabled
both_devices = record { keyboard = true; timer = true }

-- The lowest priority of an interrupt that is taken.
abbrev pub lowest_priority : Enabled → ℕ
lowest_priority e = cond e.keyboard 4 6

-- The words of the stack that interrupts take.
abbrev pub pushed_in : Enabled → ℕ
pushed_in e = cond e.keyboard 2 0 + cond e.timer 2 0

-- A monitor that passes the test, and which devices may interrupt.
pub record Setting : Type 0 where
  pub claim : Claim
  pub passed : passes claim ≡ true
  pub enabled : Enabled

abbrev pub cells_of : Setting → List Cell
cells_of g = g.claim.cells

-- The lowest word of the stack.
abbrev pub lowest : Setting → ℕ
lowest g = g.claim.lowest - pushed_in g.enabled

-- An interrupt of a routine; and the timer's, of the keyboard's.
abbrev pub InterruptedOnce : Claim → Enabled → Core → List ℕ → Type 0
InterruptedOnce k enabled = InReturn k (lowest_priority enabled) (k.lowest - 2) (InRoutine k)

abbrev pub InterruptedTwice : Claim → Core → List ℕ → Type 0
InterruptedTwice k = InReturn k 6 (k.lowest - 4) (InterruptedOnce k both_devices)

pub data Stands (g : Setting) (c : Core) (mem : List ℕ) : Type 0 where
  in_user_mode_lem : InUserMode g.claim c mem → Stands g c mem
  in_routine : InRoutine g.claim c mem → Stands g c mem
  interrupted_once : 2 ≤ pushed_in g.enabled → InterruptedOnce g.claim g.enabled c mem → Stands g c mem
  interrupted_twice : g.enabled ≡ both_devices → InterruptedTwice g.claim c mem → Stands g c mem

-- A device that never interrupts.
abbrev pub CannotInterrupt : ℕ → Type 0
CannotInterrupt status = (status % 0x8000 ≡ 0) × (status ≤ 0x8000)

-- The other devices never do.
abbrev pub Disabled : Enabled → Devices → Type 0
Disabled e d = (e.keyboard ≡ false → CannotInterrupt d.kbsr)
    × (e.timer ≡ false → CannotInterrupt d.timer_status)

pub record Invariant (g : Setting) (m : Machine) (mem : List ℕ) : Type 0 where
  pub disabled : Disabled g.enabled m.devices
  pub stands : Stands g (core_of m) mem

pub goes_to_routine : {g : Setting} {σ : State} {m : Machine} {mem : List ℕ} → Disabled g.enabled m.devices
    → accepts g.claim m.pc σ ≡ true → Known g.claim σ m.regs m.psr mem → Invariant g m mem
goes_to_routine {g} {σ} {m} q a k =
    let f = found g.claim g.passed m.pc σ a in
    record { disabled = q; stands = in_routine (record { found = f.0; known = still_known f.1 k }) }

pub stays_in_user_mode : {g : Setting} {m : Machine} {mem : List ℕ} → Disabled g.enabled m.devices
    → InUserMode g.claim (core_of m) mem → Invariant g m mem
stays_in_user_mode q s = record { disabled = q; stands = in_user_mode_lem s }

-- ---- the devices

keys_leave_disabled : (keys : List ℕ) (kbsr : ℕ) → CannotInterrupt kbsr → CannotInterrupt (ready_after keys kbsr)
unfolding ready_after
keys_leave_disabled [] kbsr h = h
keys_leave_disabled (b ∷ keys) kbsr h =
    keys_leave_disabled keys (kbsr % 0x8000 + 0x8000) (omega (arith, h.0), omega (arith, h.0))

count_leaves_disabled : (t : Timer) → CannotInterrupt t.status → CannotInterrupt (ticked t).status
count_leaves_disabled t h = unfold ticked in go (is_off t) (leb t.count 1)
  where
    go : (off last : Bool) → CannotInterrupt (cond off t (cond last (expired t) (one_less t))).status
    go true last = h
    go false true = (omega (arith, h.0), omega (arith, h.0))
    go false false = h

pub start_disabled : (enabled : Enabled) (keys : List ℕ) (m : Machine) → Disabled enabled m.devices
    → Disabled enabled (after_start keys m).devices
unfolding after_keys after_timer
start_disabled enabled keys m q = (
  λ z. keys_leave_disabled keys m.devices.kbsr (q.0 z),
  λ z. count_leaves_disabled (timer_of m.devices) (q.1 z),
)

-- A load may clear a ready bit.
cleared_disabled : (b : Bool) (status : ℕ) → CannotInterrupt status → CannotInterrupt (cond b (status % 0x8000) status)
cleared_disabled true status h = (omega (arith, h.0), omega (arith, h.0))
cleared_disabled false status h = h

pub load_disabled : (enabled : Enabled) (a : ℕ) (m : Machine) → Disabled enabled m.devices
    → Disabled enabled (after_load a m).devices
unfolding after_load kbsr_after_load timer_status_after_load
load_disabled enabled a m q = (
  λ z. cleared_disabled (eqb a KBDR) m.devices.kbsr (q.0 z),
  λ z. cleared_disabled (eqb a TSR) m.devices.timer_status (q.1 z),
)

-- The start of a step and its end leave the rest alone.
pub started : (g : Setting) (keys : List ℕ) (m : Machine) (mem : List ℕ) → Invariant g m mem
    → Invariant g (after_start keys m) mem
started g keys m mem i = record {
  disabled = start_disabled g.enabled keys m i.disabled;
  stands = unfold after_keys after_timer in i.stands;
}

tick_disabled : (enabled : Enabled) (shown : List ℕ) (m : Machine) → Disabled enabled m.devices
    → Disabled enabled (after_tick shown m).devices
unfolding after_tick
tick_disabled enabled shown m q = q

-- ---- outcomes

abbrev pub secret : Setting → ℕ → Bool
secret g = is_secret_in g.claim.cells (lowest g)

abbrev pub OutcomeKeeps : Setting → Outcome → Type 0
OutcomeKeeps g = KeepsSecrets (secret g) (Invariant g)

pub keeps_ended : (g : Setting) (o : Outcome) → OutcomeKeeps g o → OutcomeKeeps g (ended o)
unfolding ended
keeps_ended g o i = record {
  reads = i.reads;
  writes = i.writes;
  invariant = record {
    disabled = tick_disabled g.enabled o.shown o.machine i.invariant.disabled;
    stands = unfold after_tick in i.invariant.stands;
  };
}

each_joined : (P : ℕ → Type 0) (xs ys : List ℕ) → Each P xs → Each P ys → Each P (xs ++ ys)
each_joined P [] ys h k = k
each_joined P (x ∷ xs) ys h k = (h.0, each_joined P xs ys h.1 k)

pub keeps_reads : (g : Setting) (addresses : List ℕ) (o : Outcome) → NoneAltered (secret g) addresses
    → OutcomeKeeps g o → OutcomeKeeps g (with_reads addresses o)
unfolding with_reads
keeps_reads g addresses o n i = record {
  reads = each_joined _ addresses o.reads n i.reads;
  writes = i.writes;
  invariant = record { disabled = i.invariant.disabled; stands = i.invariant.stands };
}

-- ---- words that are not secret

-- The monitor's words lie below the stack, and the stack below x3000.
pub record Bounds (g : Setting) : Type 0 where
  pub cells : length (cells_of g) ≤ lowest g
  pub cells_deep : length (cells_of g) + 4 ≤ g.claim.lowest
  pub low : lowest g ≤ g.claim.lowest
  pub top : g.claim.lowest ≤ 0x2FFE

pushed_at_most : (enabled : Enabled) → pushed_in enabled ≤ 4
pushed_at_most enabled = go enabled.keyboard enabled.timer
  where
    go : (k t : Bool) → cond k 2 0 + cond t 2 0 ≤ 4
    go true true = omega arith
    go true false = omega arith
    go false true = omega arith
    go false false = omega arith

pub bounds : (g : Setting) → Bounds g
bounds g =
    let r = room g.claim g.passed in
    record {
      cells = omega (arith, r.0, pushed_at_most g.enabled);
      cells_deep = r.0;
      low = omega arith;
      top = r.1;
    }

pub user_word_is_open : (g : Setting) (a : ℕ) → UserAddress a → secret g a ≡ false
unfolding is_secret_in
user_word_is_open g a u =
    let b = bounds g in
    rw (le-ltb a (lowest g) (omega (arith, u.low, b.low, b.top)), lt-leb 0xFE00 a u.high)

pub monitor_word_is_open : (g : Setting) (a : ℕ) → is_hidden (cell_at (cells_of g) a) ≡ false → secret g a ≡ false
unfolding is_secret_in
monitor_word_is_open g a h =
    let l : a < length (cells_of g) = listed (cells_of g) a h in
    rw (lt-ltb a (lowest g) (omega (arith, (bounds g).cells))) h

pub fixed_word_is_open : (g : Setting) (a w : ℕ) → cell_at (cells_of g) a ≡ fixed w → secret g a ≡ false
fixed_word_is_open g a w e = monitor_word_is_open g a (fixed_is_open (cell_at (cells_of g) a) w e)

pub stack_word_is_open : (g : Setting) (a : ℕ) → lowest g ≤ a → a < 0x3000 → secret g a ≡ false
unfolding is_secret_in
stack_word_is_open g a l h = rw (le-ltb a (lowest g) l, lt-leb 0xFE00 a (omega arith))

-- A word of the monitor lies below x3000.
pub monitor_word_is_low : (g : Setting) (a : ℕ) → is_hidden (cell_at (cells_of g) a) ≡ false → a < 0x2FFA
monitor_word_is_low g a h =
    let b = bounds g in
    omega (arith, listed (cells_of g) a h, b.cells_deep, b.top)

pub stack_word_changes : (g : Setting) (a : ℕ) → lowest g ≤ a → Changeable g.claim a
stack_word_changes g a l = unlisted_changes g.claim a (omega (arith, (bounds g).cells))
