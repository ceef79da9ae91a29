-- The ways into a routine and out of it: where a call stands before its first step, the entry, the wait for the
-- display, and RTI.
use Prim.Native.Nat.{ℕ, zero, suc, ◌+◌, ◌-◌, ◌*◌, ◌/◌, ◌%◌, ◌≤◌, ◌<◌}
use native.Mathlib.Nat.{add-zero}
use native.Mathlib.Omega.{arith}
use mathlib.Core.Path.{◌≡◌, refl, sym, ap, ◌∙◌}
use mathlib.Core.Bool.{Bool, true, false, cond, ◌&&◌}
use mathlib.Core.List.{List, [], ◌∷◌}
use borrow.Author.Tests.{le-leb, ne_eqb}
use lib.Dec.{eqb}
use lib.IntN.{negsuc}
use lib.ListN.{length, get_or, set}
use lib.Seq.{set-set}
use Rattle.word.specs.Reading.{read_of}
use Rattle.word.specs.declared.Instruction.TheVariants.{Br}
use Rattle.machine.specs.declared.Machine.{Machine}
use Rattle.machine.specs.declared.Devices.{Devices}
use Rattle.machine.specs.declared.Plan.TheVariants.{Jump, LoadBy, Return}
use Rattle.machine.specs.Words.{next, before, with_register, and_bits}
use Rattle.machine.specs.Psr.{in_user_mode, defined_psr, codes_of, is_taken}
use Rattle.machine.specs.Keys.{ready_after, last_key}
use Rattle.machine.specs.Timer.{ticked_by}
use Rattle.machine.specs.Protection.{denied}
use Rattle.machine.specs.Outcome.{Reason, vector_of, entered, Outcome, with_reads}
use Rattle.machine.specs.Devices.{DSR}
use Rattle.machine.specs.Entry.{pushed, entry, after_entry, raised, stack_pointer_on_entry, user_stack_on_entry}
use Rattle.machine.specs.Return.{after_return, popped, return}
use Rattle.machine.specs.Plan.{plan_of}
use Rattle.machine.specs.Step.{perform_by, perform, obeyed_by, ended, step_of, busy_after}
use Rattle.run.specs.declared.Ending.TheVariants.{Done}
use Rattle.run.specs.Run.{Start, End, begin, next_step, run_of, with_shown, shows_byte}
use Rattle.run.specs.Call.{call_of}
use Rattle.run.specs.Noninterference.{cause_at}
use Rattle.run.specs.Refusals.{admission_of, Accepted}
use Rattle.run.proofs.RunLaws.{run_of_none}
use Rattle.run.proofs.Acceptance.{accepted_is_acceptable, call_is_run}
use Rattle.monitor.specs.Vectors.{vector_word, ours}
use Rattle.monitor.specs.Keys.{keys_before}
use Rattle.monitor.specs.Out.{wait_steps}
use Rattle.monitor.specs.Calls.{stack_of, StackApart}
use Rattle.monitor.proofs.KeyLaws.{none_before}
use Rattle.monitor.proofs.Modes.{supervisor_mode_lem}
use Rattle.monitor.proofs.Execution.{Frame, Known, these, from, codes_number, cell, View, psr_at, memory_at}
use Rattle.monitor.proofs.Execution.{output_at, machine_at, At, status_in, Gives, Shows, advance, advance_by}
use Rattle.monitor.proofs.Execution.{same_keyboard, Quiet, QuietStep, Leads, leads_by_one, then}
use Rattle.monitor.proofs.Intact.{Intact, cells_fine, usable, word_at, low_word, vector_word_lem}
use Rattle.monitor.proofs.Exceptions.{user_raises}
use Rattle.monitor.proofs.Instructions.{Sound, codes_for, plan_at, is_plain, is_other}
use Rattle.monitor.proofs.Instructions.{in_supervisor_mode_lem, all_allowed, plan_is, word_is, by_plan}

-- ---- before the first step

-- The stack is of no account yet.
abbrev pub start_frame : (ℕ → Bool) → ℕ → ℕ → Start → Frame
start_frame uses words sp s = record {
  uses = uses;
  words = words;
  sp = sp;
  high = s.machine.psr / 8;
  ssp = s.machine.saved_ssp;
  usp = s.machine.saved_usp;
  memory = s.memory;
  output = s.output;
}

abbrev pub start_view_with : Known → Start → View
start_view_with codes s = record {
  regs = s.machine.regs;
  pc = s.machine.pc;
  codes = codes;
  cells = [];
  depth = 0;
  bytes = [];
  busy = s.machine.devices.busy;
  mcr = s.machine.devices.mcr;
  read = 0;
  status = s.machine.devices.kbsr;
}

abbrev pub start_view : Start → View
start_view s = start_view_with (these s.machine.psr) s

pub psr_parts : (psr : ℕ) → psr ≡ psr / 8 * 8 + psr % 8
psr_parts psr = omega arith

pub at_start_with : (uses : ℕ → Bool) (words sp : ℕ) (s : Start) (n : ℕ) → admission_of s n ≡ Accepted
    → (since : ℕ) (codes : Known) → codes_number codes ≡ s.machine.psr % 8
    → At s since 0 (start_frame uses words sp s) (start_view_with codes s)
unfolding begin
at_start_with uses words sp s n accepted since codes same =
    let ok = accepted_is_acceptable s n accepted in
    let none : keys_before (s.machine.clock + 0) s.times ≡ 0 =
    rw (add-zero s.machine.clock) (none_before s.machine.clock s.times ok.order) in
    record {
      keys = 0;
      devices = s.machine.devices;
      clock = s.machine.clock;
      ticks = sym (add-zero s.machine.clock);
      order = ok.order;
      equal = ok.equal;
      arrived_by_lem = sym none;
      read_before = omega arith;
      kbsr = unfold ready_after in refl;
      kbdr = unfold last_key in refl;
      rest_of_status = refl;
      status_below = omega arith;
      timer = unfold ticked_by in refl;
      stands = run_of_none step_of s
          ∙ (λ i. record {
            machine = record {
              regs = s.machine.regs;
              pc = s.machine.pc;
              psr = (psr_parts s.machine.psr ∙ ap (λ (c : ℕ). s.machine.psr / 8 * 8 + c) (sym same)) i;
              saved_ssp = s.machine.saved_ssp;
              saved_usp = s.machine.saved_usp;
              devices = s.machine.devices;
              clock = s.machine.clock;
            };
            memory = s.memory;
            output = s.output;
            steps = 0;
            keys = 0;
            shown = 0;
            ending = Done;
          });
      quiet = λ j l h. absurd (omega arith);
    }

pub at_start : (uses : ℕ → Bool) (words sp : ℕ) (s : Start) (n : ℕ) → admission_of s n ≡ Accepted → (since : ℕ)
    → At s since 0 (start_frame uses words sp s) (start_view s)
at_start uses words sp s n accepted since =
    at_start_with uses words sp s n accepted since (these s.machine.psr) refl

-- ---- the entry

-- What an entry leaves: the mode and priority of the PSR that it leaves; in User mode R6 is saved.
abbrev pub entered_frame : (ℕ → Bool) → ℕ → Start → Bool → ℕ → Frame
entered_frame uses words s user high = record {
  uses = uses;
  words = words;
  sp = stack_of s.machine;
  high = high;
  ssp = s.machine.saved_ssp;
  usp = cond user (get_or s.machine.regs 6 0) s.machine.saved_usp;
  memory = s.memory;
  output = s.output;
}

-- PSR and this PC are on the stack.
abbrev pub entered_view : Start → ℕ → ℕ → View
entered_view s to pc = record {
  regs = set s.machine.regs 6 (stack_of s.machine - 2);
  pc = to;
  codes = these s.machine.psr;
  cells = cell 2 pc ∷ cell 1 s.machine.psr ∷ [];
  depth = 2;
  bytes = [];
  busy = s.machine.devices.busy - 1;
  mcr = s.machine.devices.mcr;
  read = 0;
  status = s.machine.devices.kbsr;
}

-- A push is one word lower, and another two.
module _ {words sp : ℕ} (apart : StackApart words sp) (two : 2 ≤ words) where
  pub one_below : before sp ≡ sp - 1
  one_below = omega (arith, apart.above_monitor, apart.below_devices)

  pub two_below : before (before sp) ≡ sp - 2
  two_below = omega (arith, apart.above_monitor, apart.below_devices)

  pub up_one : next (sp - 2) ≡ sp - 1
  up_one = omega (arith, apart.above_monitor, apart.below_devices)

  pub up_two : next (next (sp - 2)) ≡ sp
  up_two = omega (arith, apart.above_monitor, apart.below_devices)

pub entered_fine : (words : ℕ) → 2 ≤ words → (s : Start) (to pc : ℕ)
    → cells_fine words (entered_view s to pc).cells ≡ true
entered_fine words two s to pc = rw (le-leb 2 words two, le-leb 1 words (omega arith))

module _ (uses : ℕ → Bool) (words : ℕ) (s : Start) (i : Intact uses s.memory) (user : Bool)
    (mode : in_user_mode s.machine.psr ≡ user) (apart : StackApart words (stack_of s.machine)) (two : 2 ≤ words)
    (reason : Reason) (pc high : ℕ) (vector : vector_of reason < 0x0200) (used : uses (vector_of reason) ≡ true) where
  pub entry_gives : (psr : ℕ) → psr ≡ high * 8 + s.machine.psr % 8 → (sp : ℕ) (d : Devices) (t : ℕ)
      → Gives (entry reason pc psr (machine_at (start_frame uses words sp s) (start_view s) d t) s.memory) []
      s.machine.devices.busy (entered_frame uses words s user high)
      (entered_view s (vector_word ours (vector_of reason)) pc) d t
  unfolding entry pushed after_entry stack_pointer_on_entry user_stack_on_entry
  entry_gives psr p sp d t =
      let to : get_or (memory_at (entered_frame uses words s user high) (entered_view s 0 pc)) (vector_of reason) 0
      ≡ vector_word ours (vector_of reason) =
      low_word apart s.memory (entered_view s 0 pc).cells (entered_fine words two s 0 pc) (vector_of reason)
      (omega arith)
      ∙ vector_word_lem i (vector_of reason) vector used in
      record {
        machine = rw (
          ← (psr_parts s.machine.psr),
          two_below apart two,
          one_below apart two,
          to,
          p,
          mode,
        );
        memory = rw (← (psr_parts s.machine.psr), two_below apart two, one_below apart two);
        shown = refl;
      }

pub entry_silent : (uses : ℕ → Bool) (words sp : ℕ) (s : Start) (user : Bool) (high to pc : ℕ)
    → Shows [] (start_frame uses words sp s) (entered_frame uses words s user high) (start_view s)
    (entered_view s to pc)
unfolding busy_after shows_byte with_shown
entry_silent uses words sp s user high to pc = record { counts = refl; free = refl; output = refl; shown = refl }

-- The PSR that a trap or an exception leaves.
pub trap_psr : (psr : ℕ) → psr % 0x8000 ≡ psr / 8 % 4096 * 8 + psr % 8
trap_psr psr = omega arith

-- ---- TRAP, and a reserved word

-- Where a routine stands that a program called by a TRAP, or an exception led to.
abbrev pub called_frame : (ℕ → Bool) → ℕ → Bool → Start → Frame
called_frame uses words user s = entered_frame uses words s user (s.machine.psr / 8 % 4096)

pub called_sound : (uses : ℕ → Bool) (words : ℕ) (user : Bool) (s : Start) → Intact uses s.memory
    → StackApart words (stack_of s.machine) → Sound (called_frame uses words user s)
called_sound uses words user s i apart = record { above = omega arith; intact = i; stack = apart }

-- The plan of the word at PC is this entry: TRAP's, or that of a reserved word.
pub plan_enters : (uses : ℕ → Bool) (words : ℕ) (user : Bool) (s : Start) (n bound : ℕ) → admission_of s n ≡ Accepted
    → Quiet s 0 bound → 0 < bound → Intact uses s.memory → in_user_mode s.machine.psr ≡ user
    → denied s.machine.psr s.machine.pc ≡ false → StackApart words (stack_of s.machine) → 2 ≤ words
    → s.machine.devices.mcr ≡ 0x8000 → (reason : Reason) (pc : ℕ) → vector_of reason < 0x0200
    → uses (vector_of reason) ≡ true
    → ((m : Machine) → m.pc ≡ s.machine.pc
    → perform (plan_of m.regs m.pc m.psr (read_of (get_or s.memory s.machine.pc 0))) m s.memory
    ≡ raised reason pc m s.memory)
    → At s 0 1 (called_frame uses words user s) (entered_view s (vector_word ours (vector_of reason)) pc)
unfolding obeyed_by with_reads raised
plan_enters uses words user s n bound accepted quiet some i mode may_fetch apart two going reason pc below used raises =
    let a = at_start uses words 0 s n accepted 0 in
    let psr : ℕ = psr_at (start_frame uses words 0 s) (start_view s) in
    let g = entry_gives uses words s i user mode apart two reason pc (s.machine.psr / 8 % 4096) below used in
    let p : psr % 0x8000 ≡ s.machine.psr / 8 % 4096 * 8 + s.machine.psr % 8 =
    rw (← (psr_parts s.machine.psr)) (trap_psr s.machine.psr) in
    let allowed : denied psr s.machine.pc ≡ false = rw (← (psr_parts s.machine.psr)) may_fetch in
    advance a (quiet.at a some) going (called_frame uses words user s)
    (entered_view s (vector_word ours (vector_of reason)) pc) []
    (λ d t.
    let is = raises (machine_at (start_frame uses words 0 s) (start_view s) d t) refl in
    record {
      machine = rw (allowed, is) (g (psr % 0x8000) p 0 d t).machine;
      memory = rw (allowed, is) (g (psr % 0x8000) p 0 d t).memory;
      shown = rw (allowed, is) (g (psr % 0x8000) p 0 d t).shown;
    })
    (entry_silent uses words 0 s user (s.machine.psr / 8 % 4096) (vector_word ours (vector_of reason)) pc)
    refl refl

-- ---- an exception, or a trap, in User mode

pub exception_enters : (uses : ℕ → Bool) (words : ℕ) (s : Start) (n bound : ℕ) → admission_of s n ≡ Accepted
    → Quiet s 0 bound → 0 < bound → Intact uses s.memory → in_user_mode s.machine.psr ≡ true
    → StackApart words (stack_of s.machine) → 2 ≤ words → s.machine.devices.mcr ≡ 0x8000 → (reason : Reason)
    → vector_of reason < 0x0200 → uses (vector_of reason) ≡ true → (psr pc : ℕ) → cause_at s 0 ≡ entered reason psr pc
    → At s 0 1 (called_frame uses words true s) (entered_view s (vector_word ours (vector_of reason)) pc)
unfolding raised ended cause_at
exception_enters uses words s n bound accepted quiet some i user apart two going reason below used psr pc cause =
    let a = at_start uses words 0 s n accepted 0 in
    let g = entry_gives uses words s i true user apart two reason pc (s.machine.psr / 8 % 4096) below used in
    let p : psr_at (start_frame uses words 0 s) (start_view s) % 0x8000
    ≡ s.machine.psr / 8 % 4096 * 8 + s.machine.psr % 8 =
    rw (← (psr_parts s.machine.psr)) (trap_psr s.machine.psr) in
    let mode : in_user_mode (psr_at (start_frame uses words 0 s) (start_view s)) ≡ true =
    rw (← (psr_parts s.machine.psr)) user in
    let same : call_of s 0 ≡ run_of s 0 = call_is_run step_of s n 0 accepted (omega arith) in
    advance_by a (quiet.at a some) going (called_frame uses words true s)
    (entered_view s (vector_word ours (vector_of reason)) pc) []
    (status_in s 0 (start_view s))
    (λ d t e kbsr kbdr.
    let r = user_raises (machine_at (start_frame uses words 0 s) (start_view s) d t) s.memory mode reason psr pc
    (ap (λ (o : Outcome). o.cause) (sym e) ∙ ap (λ (x : End). (next_step s x).cause) (sym same) ∙ cause) in
    let h = g (psr_at (start_frame uses words 0 s) (start_view s) % 0x8000) p 0 d t in
    rw (← kbsr)
    (record {
      machine = r.machine ∙ h.machine;
      memory = r.memory ∙ h.memory;
      shown = r.shown ∙ h.shown;
    }))
    (entry_silent uses words 0 s true (s.machine.psr / 8 % 4096) (vector_word ours (vector_of reason)) pc)
    (same_keyboard a (entered_view s (vector_word ours (vector_of reason)) pc) refl refl)

-- ---- the wait for the display

-- The same with other registers, PC, codes and busy count.
abbrev pub within : View → List ℕ → ℕ → Known → ℕ → View
within v regs pc codes busy = record {
  regs = regs;
  pc = pc;
  codes = codes;
  cells = v.cells;
  depth = v.depth;
  bytes = v.bytes;
  busy = busy;
  mcr = v.mcr;
  read = v.read;
  status = v.status;
}

-- LDI of DSR to register r at pc, and BRzp back to it: the plans there, whatever registers, codes and busy count are.
pub record Polls (f : Frame) (v : View) (r pc : ℕ) : Type 0 where
  pub pointer : ℕ
  pub loads : (regs : List ℕ) (c : Known) (busy : ℕ) → plan_at f (within v regs pc c busy) ≡ LoadBy r pointer
  pub display : (is_plain pointer && eqb (word_at f v pointer) DSR) ≡ true
  pub branches : (regs : List ℕ) (c : Known) (busy : ℕ)
      → plan_at f (within v regs (next pc) c busy)
      ≡ Jump (cond (is_taken 3 (codes_for c (Br 3 (negsuc 1)))) pc (next (next pc)))
  -- these words are the routine's own
  pub own : (usable f pc && (usable f (next pc) && usable f pointer)) ≡ true
  pub other : is_other r ≡ true

module _ {s : Start} {since bound : ℕ} (quiet : Quiet s since bound) (f : Frame) (sound : Sound f) (v : View)
    (going : v.mcr ≡ 0x8000) (fine : cells_fine f.words v.cells ≡ true) (r pc : ℕ) (p : Polls f v r pc) where
  -- LDI finds this, and BRzp goes there.
  turn : (regs : List ℕ) (c : Known) (busy x to : ℕ) → cond (eqb busy 0) 0x8000 0 ≡ x
      → cond (is_taken 3 (codes_for (from x) (Br 3 (negsuc 1)))) pc (next (next pc)) ≡ to
      → Leads s since bound f (within v regs pc c busy) 2 f
      (within v (with_register regs r x) to (from x) (busy - 1 - 1))
  turn regs c busy x to finds goes =
      let loaded : Leads s since bound f (within v regs pc c busy) 1 f
      (within v (with_register regs r x) (next pc) (from x) (busy - 1)) =
      rw finds at (by_plan quiet f sound 0 (omega arith) (within v regs pc c busy) going fine (LoadBy r p.pointer)
      (p.loads regs c busy) p.display) in
      let branched : Leads s since bound f (within v (with_register regs r x) (next pc) (from x) (busy - 1)) 1 f
      (within v (with_register regs r x) to (from x) (busy - 1 - 1)) =
      rw goes at
      (by_plan quiet f sound 0 (omega arith) (within v (with_register regs r x) (next pc) (from x) (busy - 1))
      going fine (Jump (cond (is_taken 3 (codes_for (from x) (Br 3 (negsuc 1)))) pc (next (next pc))))
      (p.branches (with_register regs r x) (from x) (busy - 1)) refl) in
      then loaded branched

  abbrev Waits : ℕ → Type 0
  Waits busy = (regs : List ℕ) (c : Known)
      → Leads s since bound f (within v regs pc c busy) (wait_steps busy) f
      (within v (with_register regs r 0x8000) (next (next pc)) (from 0x8000) 0)

  waits_zero : Waits zero
  unfolding wait_steps is_taken codes_of and_bits
  waits_zero regs c = turn regs c 0 0x8000 (next (next pc)) refl refl

  waits_more : (busy : ℕ) → Waits (busy - 1) → (n : ℕ) → n ≡ 2 + wait_steps (busy - 1) → (regs : List ℕ) (c : Known)
      → Leads s since bound f (within v regs pc c (suc busy)) n f
      (within v (with_register regs r 0x8000) (next (next pc)) (from 0x8000) 0)
  unfolding is_taken codes_of and_bits
  waits_more busy w n e regs c =
      let z : suc busy - 1 - 1 ≡ busy - 1 = omega arith in
      let found : cond {A = ℕ} (eqb (suc busy) 0) 0x8000 0 ≡ 0 =
      ap (λ (ready : Bool). cond {A = ℕ} ready 0x8000 0) (ne_eqb (suc busy) 0 (λ e. absurd (omega arith))) in
      rw (e, ← (set-set regs (r % 8) 0 0x8000))
      (then (rw z at (turn regs c (suc busy) 0 pc found refl)) (w (with_register regs r 0) (from 0)))

  waits_one : Waits (suc zero)
  unfolding wait_steps
  waits_one = waits_more 0 waits_zero 4 (unfold wait_steps in refl)

  waits_two_more : (busy : ℕ) → Waits busy → Waits (suc (suc busy))
  unfolding wait_steps
  waits_two_more busy w =
      let z : suc busy - 1 ≡ busy = omega arith in
      waits_more (suc busy) (rw z w) (2 + wait_steps busy) (rw z)

  -- From a poll with this busy count on.
  pub waits : (busy : ℕ) → Waits busy
  waits zero = waits_zero
  waits (suc zero) = waits_one
  waits (suc (suc busy)) = waits_two_more busy (waits busy)

-- ---- RTI

-- After an RTI that pops this PSR from the stack at sp.
abbrev pub returned_frame : Frame → Bool → ℕ → ℕ → Frame
returned_frame f user sp psr = record {
  uses = f.uses;
  words = f.words;
  sp = f.sp;
  high = psr / 8;
  ssp = cond user (next (next sp)) f.ssp;
  usp = f.usp;
  memory = f.memory;
  output = f.output;
}

abbrev pub returned_view : Frame → View → Bool → ℕ → ℕ → ℕ → View
returned_view f v user sp psr pc = record {
  regs = set v.regs 6 (cond user f.usp (next (next sp)));
  pc = pc;
  codes = these psr;
  cells = v.cells;
  depth = 0;
  bytes = v.bytes;
  busy = v.busy - 1;
  mcr = v.mcr;
  read = v.read;
  status = v.status;
}

return_silent : (f : Frame) (v : View) (user : Bool) (sp psr pc : ℕ)
    → Shows [] f (returned_frame f user sp psr) v (returned_view f v user sp psr pc)
unfolding busy_after shows_byte with_shown
return_silent f v user sp psr pc = record {
  counts = refl;
  free = refl;
  output = refl;
  shown = sym (add-zero (length v.bytes));
}

pub return_once : {s : Start} {since k : ℕ} (f : Frame) → Sound f → (v : View) → v.mcr ≡ 0x8000
    → cells_fine f.words v.cells ≡ true → plan_at f v ≡ Return → (sp pc psr : ℕ) → get_or v.regs 6 0 ≡ sp
    → word_at f v sp ≡ pc → word_at f v (next sp) ≡ psr → defined_psr psr ≡ psr → (user : Bool)
    → in_user_mode psr ≡ user
    → At s since k f v → QuietStep s k
    → At s since (suc k) (returned_frame f user sp psr) (returned_view f v user sp psr pc)
unfolding obeyed_by with_reads perform_by return popped after_return
return_once f sound v going fine plan sp pc psr six at-sp at_next defined user mode a still =
    let here = supervisor_mode_lem (psr_at f v) (in_supervisor_mode_lem f sound v fine) in
    let allowed = all_allowed f sound v fine v.pc in
    let is = plan_is f sound v fine ∙ plan in
    let w = word_is f sound v fine sp in
    let w' = word_is f sound v fine (next sp) in
    advance a still going (returned_frame f user sp psr) (returned_view f v user sp psr pc) []
    (λ d t. record {
      machine = rw (allowed, is, here, six, w, at-sp, w', at_next) (rw (defined, mode) (λ i. record {
        regs = set v.regs 6 (cond user f.usp (next (next sp)));
        pc = pc;
        psr = psr_parts psr i;
        saved_ssp = cond user (next (next sp)) f.ssp;
        saved_usp = f.usp;
        devices = (machine_at f v d t).devices;
        clock = t;
      }));
      memory = rw (allowed, is, here);
      shown = rw (allowed, is, here);
    })
    (return_silent f v user sp psr pc) refl refl

pub returns : {s : Start} {since bound : ℕ} → Quiet s since bound → (f : Frame) → Sound f → (v : View)
    → v.mcr ≡ 0x8000 → cells_fine f.words v.cells ≡ true → plan_at f v ≡ Return → (sp pc psr : ℕ)
    → get_or v.regs 6 0 ≡ sp → word_at f v sp ≡ pc → word_at f v (next sp) ≡ psr → defined_psr psr ≡ psr → (user : Bool)
    → in_user_mode psr ≡ user
    → Leads s since bound f v 1 (returned_frame f user sp psr) (returned_view f v user sp psr pc)
returns quiet f sound v going fine plan sp pc psr six at-sp at_next defined user mode =
    leads_by_one quiet
    (λ k a still. return_once f sound v going fine plan sp pc psr six at-sp at_next defined user mode a still)

-- ---- codes that are known otherwise

-- Two ways to know the same codes.
pub recoded : {s : Start} {since bound : ℕ} (f : Frame) (v : View) (c c' : Known) → codes_number c ≡ codes_number c'
    → Leads s since bound f (within v v.regs v.pc c v.busy) 0 f (within v v.regs v.pc c' v.busy)
recoded f v c c' e = record {
  on = λ {k} h a.
      let z : k + 0 ≡ k = omega arith in
      rw z (record {
        keys = a.keys;
        devices = a.devices;
        clock = a.clock;
        ticks = a.ticks;
        order = a.order;
        equal = a.equal;
        arrived_by_lem = a.arrived_by_lem;
        read_before = a.read_before;
        kbsr = a.kbsr;
        kbdr = a.kbdr;
        rest_of_status = a.rest_of_status;
        status_below = a.status_below;
        timer = a.timer;
        stands = a.stands
            ∙ ap
            (λ (n : ℕ). record {
              machine = record {
                regs = v.regs;
                pc = v.pc;
                psr = f.high * 8 + n;
                saved_ssp = f.ssp;
                saved_usp = f.usp;
                devices = (machine_at f v a.devices a.clock).devices;
                clock = a.clock;
              };
              memory = memory_at f v;
              output = output_at f v;
              steps = k;
              keys = a.keys;
              shown = length v.bytes;
              ending = Done;
            })
            e;
        quiet = a.quiet;
      });
}
