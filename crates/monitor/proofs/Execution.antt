-- Symbolic execution: where the run of k steps stands, and what one step more does. Registers, PSR and memory are
-- whatever they are, and keys may arrive at any step.
use Prim.Native.Nat.{ℕ, zero, suc, ◌+◌, ◌-◌, ◌*◌, ◌%◌, ◌≤◌, ◌<◌}
use native.Mathlib.Numerals.{add-one}
use native.Mathlib.Decide.{dec_le}
use native.Mathlib.Omega.{arith}
use mathlib.Core.Path.{◌≡◌, refl, sym, ap, subst, ◌∙◌}
use mathlib.Core.Bool.{Bool, true, false, cond, ◌&&◌}
use mathlib.Core.List.{List, [], ◌∷◌}
use borrow.Author.Tests.{lt-leb}
use lib.Dec.{leb}
use lib.ListN.{length, set, take, drop}
use Rattle.machine.specs.declared.Machine.{Machine}
use Rattle.machine.specs.declared.Devices.{Devices}
use Rattle.machine.specs.Record.{Timer, timer_of, set_keyboard, set_mcr, set_busy, set_timer}
use Rattle.machine.specs.Psr.{codes_of}
use Rattle.machine.specs.Keys.{ready_after, last_key, after_keys}
use Rattle.machine.specs.Timer.{is_off, expired, one_less, ticked, after_timer, ticked_by}
use Rattle.machine.specs.Outcome.{Outcome}
use Rattle.machine.specs.Causes.{takes_interrupt}
use Rattle.machine.specs.Step.{obeyed, busy_after, after_tick, ended, after_start, step_of}
use Rattle.run.specs.declared.Ending.TheVariants.{Done}
use Rattle.run.specs.KeyLists.{out_of_order}
use Rattle.run.specs.Run.{Start, End, arriving, next_step_by, next_step, with_shown, step_made_by, step_made, is_halted}
use Rattle.run.specs.Run.{shows_byte, is_full_by, is_full, run_of}
use Rattle.machine.proofs.InterruptRule.{interrupt_is_taken_by_rule_2, otherwise_the_word_is_obeyed}
use Rattle.run.proofs.RunLaws.{done_run_goes_on}
use Rattle.lent.specs.Lent.{written_over}
use Rattle.monitor.specs.Keys.{arrived_by}
use Rattle.monitor.specs.Out.{NotEnabled}
use Rattle.monitor.proofs.KeyLaws.{arrived, all_arrived, ready_after_both, last_of_both, one_step_more}

-- ---- where a run stands

-- What no instruction of a routine alters: which of the monitor's words it may rely on, how many words of stack it has
-- and where these begin, mode and priority (the PSR is high * 8 + codes), both saved stack pointers, and the memory and
-- the output that the routine found.
pub record Frame : Type 0 where
  pub uses : ℕ → Bool
  pub words : ℕ
  pub sp : ℕ
  pub high : ℕ
  pub ssp : ℕ
  pub usp : ℕ
  pub memory : List ℕ
  pub output : List ℕ

-- The codes N, Z and P: the low three bits of a number, or set from a value.
pub data Known : Type 0 where
  these : ℕ → Known
  from : ℕ → Known

abbrev pub codes_number : Known → ℕ
codes_number (these c) = c % 8
codes_number (from x) = codes_of x

-- A word of the stack that was stored: that one which is so far below the stack's beginning.
pub record Cell : Type 0 where
  pub slot : ℕ
  pub value : ℕ

abbrev pub cell : ℕ → ℕ → Cell
cell i x = record { slot = i; value = x }

-- What can be foretold without the keys. The words stored stand last first; R6 is `depth` below the stack's beginning,
-- or `depth` is 0 and nothing is known of R6; `bytes` were shown; `busy` is the display's count; `read` is how many
-- keys had arrived when KBDR was last loaded, and `status` what KBSR was then.
pub record View : Type 0 where
  pub regs : List ℕ
  pub pc : ℕ
  pub codes : Known
  pub cells : List Cell
  pub depth : ℕ
  pub bytes : List ℕ
  pub busy : ℕ
  pub mcr : ℕ
  pub read : ℕ
  pub status : ℕ

abbrev pub psr_at : Frame → View → ℕ
psr_at f v = f.high * 8 + codes_number v.codes

abbrev pub memory_with : ℕ → List ℕ → List Cell → List ℕ
memory_with sp mem [] = mem
memory_with sp mem (c ∷ cells) = set (memory_with sp mem cells) (sp - c.slot) c.value

abbrev pub memory_at : Frame → View → List ℕ
memory_at f v = memory_with f.sp f.memory v.cells

abbrev pub output_at : Frame → View → List ℕ
output_at f v = written_over v.bytes f.output

-- The record there, with this busy count in the place of its own, and all else of the devices and the clock as given.
abbrev pub machine_with : ℕ → Frame → View → Devices → ℕ → Machine
machine_with busy f v devices clock = record {
  regs = v.regs;
  pc = v.pc;
  psr = psr_at f v;
  saved_ssp = f.ssp;
  saved_usp = f.usp;
  devices = set_mcr v.mcr (set_busy busy devices);
  clock = clock;
}

abbrev pub machine_at : Frame → View → Devices → ℕ → Machine
machine_at f v devices clock = machine_with v.busy f v devices clock

abbrev pub standing_at : Frame → View → ℕ → ℕ → Devices → ℕ → End
standing_at f v k keys devices clock = record {
  machine = machine_at f v devices clock;
  memory = memory_at f v;
  output = output_at f v;
  steps = k;
  keys = keys;
  shown = length v.bytes;
  ending = Done;
}

-- Step number k takes no interrupt.
abbrev pub QuietStep : Start → ℕ → Type 0
QuietStep s k = takes_interrupt (next_step s (run_of s k)).cause ≡ false

-- KBSR and KBDR in step number k, once its keys have arrived.
abbrev pub status_in : Start → ℕ → View → ℕ
status_in s k v = ready_after (take (arrived_by s (suc k) - v.read) (drop v.read s.bytes)) v.status

abbrev pub key_in : Start → ℕ → ℕ
key_in s k = last_key (take (arrived_by s (suc k)) s.bytes) s.machine.devices.kbdr

-- The run of k steps is done, has taken no interrupt from step `since` on, and stands there.
pub record At (s : Start) (since k : ℕ) (f : Frame) (v : View) : Type 0 where
  pub keys : ℕ
  pub devices : Devices
  pub clock : ℕ
  pub ticks : clock ≡ s.machine.clock + k
  pub order : out_of_order s.machine.clock s.times ≡ false
  pub equal : length s.times ≡ length s.bytes
  pub arrived_by_lem : keys ≡ arrived_by s k
  -- the keyboard is as the keys that arrived leave it
  pub read_before : v.read ≤ keys
  pub kbsr : devices.kbsr ≡ ready_after (take (keys - v.read) (drop v.read s.bytes)) v.status
  pub kbdr : devices.kbdr ≡ last_key (take keys s.bytes) s.machine.devices.kbdr
  pub rest_of_status : v.status % 0x8000 ≡ s.machine.devices.kbsr % 0x8000
  pub status_below : v.status ≤ s.machine.devices.kbsr
  -- the timer has counted k steps
  pub timer : timer_of devices ≡ ticked_by k (timer_of s.machine.devices)
  pub stands : run_of s k ≡ standing_at f v k keys devices clock
  pub quiet : (j : ℕ) → since ≤ j → j < k → QuietStep s j

-- An outcome that shows these bytes and leaves this view but for the busy count, with these devices and this clock:
-- both counts move at the end of the step.
pub record Gives (o : Outcome) (bytes : List ℕ) (busy : ℕ) (f : Frame) (v : View) (devices : Devices) (clock : ℕ) :
    Type 0 where
  pub machine : o.machine ≡ machine_with busy f v devices clock
  pub memory : o.memory ≡ memory_at f v
  pub shown : o.shown ≡ bytes

-- ---- one step of the run

-- No interrupt is taken: then the word is obeyed.
uninterrupted_step : (keys : List ℕ) (m : Machine) (mem : List ℕ) → takes_interrupt (step_of keys m mem).cause ≡ false
    → step_of keys m mem ≡ ended (obeyed (after_start keys m) mem)
uninterrupted_step keys m mem h =
    otherwise_the_word_is_obeyed keys m mem (sym (interrupt_is_taken_by_rule_2 keys m mem) ∙ h)

made : (s : Start) (e : End) (m : Machine) (mem bytes : List ℕ) → (next_step s e).machine ≡ m
    → (next_step s e).memory ≡ mem
    → (next_step s e).shown ≡ bytes
    → step_made s e ≡ record {
      machine = m;
      memory = mem;
      output = with_shown bytes e.shown e.output;
      steps = suc e.steps;
      keys = e.keys + length (arriving s e);
      shown = e.shown + length bytes;
      ending = Done;
    }
unfolding step_made_by
made s e m mem bytes p q r = rw (p, q, r)

not_full : (s : Start) (e : End) (bytes : List ℕ) → (next_step s e).shown ≡ bytes
    → (shows_byte bytes && leb (length e.output) e.shown) ≡ false → is_full s e ≡ false
unfolding is_full_by
not_full s e bytes r h = rw r h

not_halted : (e : End) → e.machine.devices.mcr ≡ 0x8000 → is_halted e ≡ false
unfolding is_halted
not_halted e h = rw h

goes_on : (s : Start) (k : ℕ) (e : End) → run_of s k ≡ e → e.ending ≡ Done → is_halted e ≡ false → is_full s e ≡ false
    → run_of s (suc k) ≡ step_made s e
goes_on s k e q d h f = done_run_goes_on step_of s k (rw q d) (rw q h) (rw q f) ∙ ap (step_made s) q

one_more_quiet : (s : Start) (since k : ℕ) → ((j : ℕ) → since ≤ j → j < k → QuietStep s j) → (since ≤ k → QuietStep s k)
    → (j : ℕ) → since ≤ j → j < suc k → QuietStep s j
one_more_quiet s since k before now j l₀ h = elim (dec_le (suc j) k) [
  | yes l ↦ before j l₀ l
  | no l ↦ (let z : j ≡ k = omega arith in rw z (now (rw z at l₀)))
]

-- The bytes of a step are shown after those before, in an output that has room.
pub record Shows (bytes : List ℕ) (f f' : Frame) (v v' : View) : Type 0 where
  pub counts : v'.busy ≡ busy_after bytes v.busy
  pub free : (shows_byte bytes && leb (length (output_at f v)) (length v.bytes)) ≡ false
  pub output : output_at f' v' ≡ with_shown bytes (length v.bytes) (output_at f v)
  pub shown : length v'.bytes ≡ length v.bytes + length bytes

-- What the step does to the keyboard: KBSR is this afterwards.
pub record Keyboard (s : Start) (k : ℕ) (kbsr : ℕ) (v v' : View) : Type 0 where
  pub read : v'.read ≤ arrived_by s (suc k)
  pub kbsr_is : kbsr ≡ status_in s k v'
  pub rest : v'.status % 0x8000 ≡ v.status % 0x8000
  pub below : v'.status ≤ v.status

module _ {s : Start} {since k : ℕ} {f : Frame} {v : View} (a : At s since k f v) where
  abbrev pub here : End
  here = standing_at f v k a.keys a.devices a.clock

  keys_are : a.keys + length (arriving s here) ≡ arrived_by s (suc k)
  unfolding arriving
  keys_are =
      let z : s.machine.clock + suc k ≡ suc (s.machine.clock + k) = omega arith in
      rw (z, a.ticks, a.arrived_by_lem)
      (one_step_more s.machine.clock (s.machine.clock + k) s.times s.bytes a.order a.equal)

  pub kbsr_is : ready_after (arriving s here) a.devices.kbsr ≡ status_in s k v
  unfolding arriving
  kbsr_is =
      rw (a.kbsr, ← keys_are, arrived s here v.read a.read_before)
      (sym (ready_after_both (take (a.keys - v.read) (drop v.read s.bytes)) (arriving s here) v.status))

  kbdr_is : last_key (arriving s here) a.devices.kbdr ≡ key_in s k
  unfolding arriving
  kbdr_is =
      rw (a.kbdr, ← keys_are, all_arrived s here)
      (sym (last_of_both (take a.keys s.bytes) (arriving s here) s.machine.devices.kbdr))

  -- The devices with the keys of this step arrived and the timer's count fallen.
  abbrev pub devices' : Devices
  devices' = set_timer (ticked (timer_of a.devices))
      (set_keyboard (ready_after (arriving s here) a.devices.kbsr) (last_key (arriving s here) a.devices.kbdr)
      a.devices)

  -- The record once keys have arrived and the timer has counted.
  pub started : after_start (arriving s here) here.machine ≡ machine_at f v devices' a.clock
  unfolding after_keys after_timer
  started = refl

  -- The step, whatever it does, leads from one view to another, and KBSR is this afterwards. What is asked of it may
  -- use what the keyboard holds in it, and that it is the run's.
  pub advance_with : (act : Machine → List ℕ → Outcome) → (since ≤ k → QuietStep s k) → v.mcr ≡ 0x8000
      → next_step s here ≡ ended (act (machine_at f v devices' a.clock) (memory_at f v))
      → (f' : Frame) (v' : View) (bytes : List ℕ) (kbsr : ℕ)
      → ((d : Devices) (t : ℕ) → next_step s (run_of s k) ≡ ended (act (machine_at f v d t) (memory_at f v))
      → d.kbsr ≡ status_in s k v → d.kbdr ≡ key_in s k
      → Gives (act (machine_at f v d t) (memory_at f v)) bytes v.busy f' v' (set_keyboard kbsr d.kbdr d) t)
      → Shows bytes f f' v v' → Keyboard s k kbsr v v' → At s since (suc k) f' v'
  unfolding ended after_tick
  advance_with act quiet going next_is f' v' bytes kbsr gives shows keyboard =
      let g = gives devices' a.clock (rw a.stands next_is) kbsr_is kbdr_is in
      let d : Devices = set_keyboard kbsr devices'.kbdr devices' in
      let m : (next_step s here).machine ≡ machine_at f' v' d (a.clock + 1) =
      rw (next_is, g.machine, g.shown, ← shows.counts) in
      let mem : (next_step s here).memory ≡ memory_at f' v' = rw next_is g.memory in
      let b : (next_step s here).shown ≡ bytes = rw next_is g.shown in
      record {
        keys = a.keys + length (arriving s here);
        devices = d;
        clock = a.clock + 1;
        ticks = omega (arith, a.ticks);
        order = a.order;
        equal = a.equal;
        arrived_by_lem = keys_are;
        read_before = rw keys_are keyboard.read;
        kbsr = rw keys_are keyboard.kbsr_is;
        kbdr = rw keys_are kbdr_is;
        rest_of_status = keyboard.rest ∙ a.rest_of_status;
        status_below = omega (arith, keyboard.below, a.status_below);
        timer = unfold ticked_by in ap ticked a.timer;
        stands = goes_on s k here a.stands refl (not_halted here going) (not_full s here bytes b shows.free)
            ∙ made s here (machine_at f' v' d (a.clock + 1)) (memory_at f' v') bytes m mem b
            ∙ (λ i. record {
              machine = machine_at f' v' d (a.clock + 1);
              memory = memory_at f' v';
              output = sym shows.output i;
              steps = suc k;
              keys = a.keys + length (arriving s here);
              shown = sym shows.shown i;
              ending = Done;
            });
        quiet = one_more_quiet s since k a.quiet quiet;
      }

  -- A keyboard that the step leaves alone.
  pub same_keyboard : (v' : View) → v'.read ≡ v.read → v'.status ≡ v.status → Keyboard s k (status_in s k v) v v'
  same_keyboard v' same_read same-status = record {
    read = rw same_read (omega (arith, a.read_before, keys_are));
    kbsr_is = rw (same_read, same-status);
    rest = rw same-status;
    below = rw same-status (omega arith);
  }

  module _ (quiet : QuietStep s k) (going : v.mcr ≡ 0x8000) where
    next_is : next_step s here ≡ ended (obeyed (machine_at f v devices' a.clock) (memory_at f v))
    unfolding next_step_by after_keys after_timer
    next_is = uninterrupted_step (arriving s here) here.machine (memory_at f v) (rw a.stands at quiet)

    -- A step that obeys the word at PC.
    pub advance_by : (f' : Frame) (v' : View) (bytes : List ℕ) (kbsr : ℕ)
        → ((d : Devices) (t : ℕ) → next_step s (run_of s k) ≡ ended (obeyed (machine_at f v d t) (memory_at f v))
        → d.kbsr ≡ status_in s k v → d.kbdr ≡ key_in s k
        → Gives (obeyed (machine_at f v d t) (memory_at f v)) bytes v.busy f' v' (set_keyboard kbsr d.kbdr d) t)
        → Shows bytes f f' v v' → Keyboard s k kbsr v v' → At s since (suc k) f' v'
    advance_by = advance_with obeyed (λ l. quiet) going next_is

    -- The keyboard is left alone, whatever the devices hold.
    pub advance : (f' : Frame) (v' : View) (bytes : List ℕ)
        → ((d : Devices) (t : ℕ) → Gives (obeyed (machine_at f v d t) (memory_at f v)) bytes v.busy f' v' d t)
        → Shows bytes f f' v v' → v'.read ≡ v.read → v'.status ≡ v.status → At s since (suc k) f' v'
    advance f' v' bytes gives shows same_read same-status =
        advance_by f' v' bytes (status_in s k v) (λ d t e p q. rw (← p) (gives d t)) shows
        (same_keyboard v' same_read same-status)

-- ---- several steps

-- The steps take no interrupt, wherever the run stands.
pub record Quiet (s : Start) (since bound : ℕ) : Type 0 where
  pub at : {k : ℕ} {f : Frame} {v : View} → At s since k f v → k < bound → QuietStep s k

-- From where the run stands at v, n steps later it stands at v': for the steps below the bound.
pub record Leads (s : Start) (since bound : ℕ) (f : Frame) (v : View) (n : ℕ) (f' : Frame) (v' : View) : Type 0 where
  pub on : {k : ℕ} → k + n ≤ bound → At s since k f v → At s since (k + n) f' v'

pub leads_by_one : {s : Start} {since bound : ℕ} {f f' : Frame} {v v' : View} → Quiet s since bound
    → ((k : ℕ) → At s since k f v → QuietStep s k → At s since (suc k) f' v') → Leads s since bound f v 1 f' v'
leads_by_one quiet step = record { on = λ {k} h a. rw (add-one k) (step k a (quiet.at a (omega arith))) }

pub then : {s : Start} {since bound : ℕ} {f f' f'' : Frame} {v v' v'' : View} {m n : ℕ}
    → Leads s since bound f v m f' v'
    → Leads s since bound f' v' n f'' v'' → Leads s since bound f v (m + n) f'' v''
then {m = m} {n = n} first second = record {
  on = λ {k} h a.
      let z : k + m + n ≡ k + (m + n) = omega arith in
      rw z at (second.on (omega arith) (first.on (omega arith) a));
}

pub no_step : {s : Start} {since bound : ℕ} (f : Frame) (v : View) → Leads s since bound f v 0 f v
no_step f v = record { on = λ {k} h a. let z : k + 0 ≡ k = omega arith in rw z a }

-- ---- no interrupt

-- Keys leave a keyboard that may not interrupt so.
not_enabled : (keys : List ℕ) (kbsr : ℕ) → kbsr % 0x8000 ≡ 0 → kbsr ≤ 0x8000 → ready_after keys kbsr ≤ 0x8000
unfolding ready_after
not_enabled [] kbsr h l = l
not_enabled (b ∷ keys) kbsr h l = not_enabled keys (kbsr % 0x8000 + 0x8000) (omega arith) (omega arith)

-- Counting leaves a timer that may not interrupt so.
timer_not_enabled : (k : ℕ) (t : Timer) → t.status % 0x8000 ≡ 0 → t.status ≤ 0x8000
    → ((ticked_by k t).status % 0x8000 ≡ 0) × ((ticked_by k t).status ≤ 0x8000)
unfolding ticked_by
timer_not_enabled zero t h l = (h, l)
timer_not_enabled (suc k) t h l =
    let before = timer_not_enabled k t h l in
    one_more (ticked_by k t) before.0 before.1
  where
    one_more : (t : Timer) → t.status % 0x8000 ≡ 0 → t.status ≤ 0x8000
        → ((ticked t).status % 0x8000 ≡ 0) × ((ticked t).status ≤ 0x8000)
    one_more t h l = unfold ticked in go (is_off t) (leb t.count 1)
      where
        go : (off last : Bool)
            → ((cond off t (cond last (expired t) (one_less t))).status % 0x8000 ≡ 0)
            × ((cond off t (cond last (expired t) (one_less t))).status ≤ 0x8000)
        go true last = (h, l)
        go false true = (omega (arith, h), omega (arith, h))
        go false false = (h, l)

-- Where neither device may interrupt at the start, no step that the run comes to takes an interrupt.
pub no_interrupt : {s : Start} {since k : ℕ} {f : Frame} {v : View} → At s since k f v
    → NotEnabled s.machine.devices → QuietStep s k
unfolding next_step_by after_keys after_timer
no_interrupt {s} {since} {k} {f} {v} a off =
    let e : End = standing_at f v k a.keys a.devices a.clock in
    let r : ready_after (arriving s e) a.devices.kbsr ≤ 0x8000 =
    rw (kbsr_is a)
    (not_enabled (take (arrived_by s (suc k) - v.read) (drop v.read s.bytes)) v.status
    (a.rest_of_status ∙ off.keyboard) (omega (arith, a.status_below, off.keyboard_word))) in
    let still = timer_not_enabled (suc k) (timer_of s.machine.devices) off.timer off.timer_word in
    let t : (ticked (timer_of a.devices)).status ≤ 0x8000 =
    unfold ticked_by in subst (λ (x : Timer). (ticked x).status ≤ 0x8000) (sym a.timer) still.1 in
    subst (λ (x : End). takes_interrupt (next_step s x).cause ≡ false) (sym a.stands)
    (interrupt_is_taken_by_rule_2 (arriving s e) e.machine (memory_at f v)
    ∙ rw (lt-leb 0xC000 (ticked (timer_of a.devices)).status (omega arith))
    (rw (lt-leb 0xC000 (ready_after (arriving s e) a.devices.kbsr) (omega arith))))
