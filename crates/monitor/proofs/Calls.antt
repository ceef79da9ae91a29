-- From where a run stands to what the call answers.
use Prim.Native.Nat.{ℕ, suc, ◌+◌, ◌-◌, ◌*◌, ◌/◌, ◌%◌, ◌≤◌, ◌<◌}
use native.Mathlib.Omega.{arith}
use mathlib.Core.Path.{◌≡◌, refl, sym, ap, subst, ◌∙◌}
use mathlib.Core.Bool.{Bool, true, false, cond}
use mathlib.Core.List.{List, [], ◌∷◌}
use borrow.Author.Tests.{lt-ltb}
use lib.ListN.{length, get_or, set, take, drop}
use lib.Seq.{take-set-le, drop-set-lt}
use Rattle.word.specs.Reading.{read_of}
use Rattle.word.specs.declared.Instruction.TheVariants.{Reserved}
use Rattle.machine.specs.declared.Machine.{Machine}
use Rattle.machine.specs.declared.Plan.TheVariants.{Return}
use Rattle.machine.specs.Words.{next}
use Rattle.machine.specs.Keys.{ready_after}
use Rattle.machine.specs.Psr.{defined_psr}
use Rattle.machine.specs.Protection.{denied_by}
use Rattle.machine.specs.Outcome.{Reason, trap, illegal, vector_of}
use Rattle.machine.specs.Causes.{takes_interrupt}
use Rattle.machine.specs.Plan.{plan_by}
use Rattle.machine.specs.Step.{perform_by, step_of}
use Rattle.run.specs.declared.Ending.TheVariants.{Done, Halted}
use Rattle.run.specs.Run.{Start, End, next_step, is_halted, ended_by, run_by, run_of}
use Rattle.run.specs.Refusals.{admission_of, Accepted}
use Rattle.run.specs.Call.{call_of}
use Rattle.run.specs.Noninterference.{cause_at}
use Rattle.run.proofs.RunLaws.{done_steps_are_made, one_more_halts, stopped_run_stays, halted_is_not_done}
use Rattle.run.proofs.Acceptance.{accepted_is_acceptable, call_is_run}
use Rattle.monitor.specs.Vectors.{vector_word, ours}
use Rattle.monitor.specs.Uses.{with_vector}
use Rattle.monitor.specs.Out.{Uninterrupted}
use Rattle.monitor.specs.Calls.{stack_of, StackApart, Begins, Calls, Raises, NoInterrupt, takes_none, none_enabled}
use Rattle.monitor.specs.Calls.{not_read, Leaves, Resumes, Halts}
use Rattle.monitor.proofs.Execution.{Frame, these, Cell, cell, View, psr_at, memory_with, memory_at, standing_at, At}
use Rattle.monitor.proofs.Execution.{Quiet, no_interrupt}
use Rattle.monitor.proofs.Intact.{Intact, cells_fine, cells_fine_lem, word_at, slot_at}
use Rattle.monitor.proofs.UseLaws.{vector_is_used}
use Rattle.monitor.proofs.Instructions.{Sound, plan_at, slot_is}
use Rattle.monitor.proofs.Entries.{psr_parts, entered_view, up_one, up_two, called_frame, called_sound}
use Rattle.monitor.proofs.Entries.{plan_enters, exception_enters, returned_frame, returned_view, returns}

pub is_intact : {uses : ℕ → Bool} {words : ℕ} {user : Bool} (s : Start) (n : ℕ) → Begins uses words user s n
    → Intact uses s.memory
is_intact s n b = record { words = b.intact; size = (accepted_is_acceptable s n b.accepted).size }

-- The frame of a routine that was called.
pub begins_sound : {uses : ℕ → Bool} {words : ℕ} {user : Bool} (s : Start) (n : ℕ) → Begins uses words user s n
    → Sound (called_frame uses words user s)
begins_sound {uses} {words} {user} s n b = called_sound uses words user s (is_intact s n b) b.stack

pub psr_is_defined : {uses : ℕ → Bool} {words : ℕ} {user : Bool} (s : Start) (n : ℕ) → Begins uses words user s n
    → defined_psr s.machine.psr ≡ s.machine.psr
psr_is_defined s n b = (accepted_is_acceptable s n b.accepted).defined.psr

-- ---- no interrupt

pub quiet_steps : (s : Start) (n k since : ℕ) → admission_of s n ≡ Accepted → k ≤ n → NoInterrupt s k → Quiet s since k
unfolding cause_at
quiet_steps s n k since accepted le (takes_none u) = record {
  at = λ {k = j} a h.
      subst (λ (e : End). takes_interrupt (next_step s e).cause ≡ false)
      (call_is_run step_of s n j accepted (omega arith)) (u.none j h);
}
quiet_steps s n k since accepted le (none_enabled off) = record { at = λ a h. no_interrupt a off }

-- Where the run has taken none, the call has.
pub was_uninterrupted : {s : Start} {k : ℕ} {f : Frame} {v : View} (n : ℕ) → admission_of s n ≡ Accepted → k ≤ n
    → At s 0 k f v → Uninterrupted s k
unfolding cause_at
was_uninterrupted {s} n accepted le a = record {
  none = λ j h.
      subst (λ (e : End). takes_interrupt (next_step s e).cause ≡ false)
      (sym (call_is_run step_of s n j accepted (omega arith))) (a.quiet j (omega arith) h);
}

-- ---- the words stored

module _ {words sp : ℕ} (apart : StackApart words sp) (mem : List ℕ) where
  pub words_below_lem : (cells : List Cell) → cells_fine words cells ≡ true
      → take (sp - words) (memory_with sp mem cells) ≡ take (sp - words) mem
  words_below_lem [] h = refl
  words_below_lem (c ∷ cells) h =
      let w = cells_fine_lem words c cells h in
      take-set-le (sp - words) (memory_with sp mem cells) (sp - c.slot) c.value (omega (arith, w.1))
      ∙ words_below_lem cells w.2

  pub words_above_lem : (cells : List Cell) → cells_fine words cells ≡ true
      → drop sp (memory_with sp mem cells) ≡ drop sp mem
  words_above_lem [] h = refl
  words_above_lem (c ∷ cells) h =
      let w = cells_fine_lem words c cells h in
      drop-set-lt sp (memory_with sp mem cells) (sp - c.slot) c.value
      (omega (arith, w.0, w.1, apart.above_monitor))
      ∙ words_above_lem cells w.2

-- Where KBDR has not been loaded, the keyboard is as the keys that arrived leave it.
pub unread : {s : Start} {since k : ℕ} {f : Frame} {v : View} (a : At s since k f v) → v.read ≡ 0
    → v.status ≡ s.machine.devices.kbsr
    → a.devices.kbsr ≡ ready_after (take a.keys s.bytes) s.machine.devices.kbsr
unread {s} {v = v} a none same =
    a.kbsr ∙ go v.read v.status none same
  where
    go : (read status : ℕ) → read ≡ 0 → status ≡ s.machine.devices.kbsr
        → ready_after (take (a.keys - read) (drop read s.bytes)) status
        ≡ ready_after (take a.keys s.bytes) s.machine.devices.kbsr
    go read status p q =
        let z : a.keys - 0 ≡ a.keys = omega arith in
        rw (p, q, z)

-- ---- what the call answers

module _ {s : Start} {since k : ℕ} {f : Frame} {v : View} (a : At s since k f v) (n : ℕ)
    (accepted : admission_of s n ≡ Accepted) where
  pub call_stands : k ≤ n → call_of s k ≡ standing_at f v k a.keys a.devices a.clock
  call_stands le = call_is_run step_of s n k accepted le ∙ a.stands

  pub steps_are_made : k ≤ n → k ≤ (call_of s n).steps
  steps_are_made le =
      rw (call_is_run step_of s n n accepted (omega arith))
      (done_steps_are_made step_of s n k le (ap (λ (e : End). e.ending) a.stands))

  pub call_halts : k < n → v.mcr ≡ 0
      → call_of s n ≡ ended_by Halted (standing_at f v k a.keys a.devices a.clock)
  unfolding run_by is_halted ended_by
  call_halts more off =
      let e : End = standing_at f v k a.keys a.devices a.clock in
      let h : is_halted e ≡ true = lt-ltb v.mcr 0x8000 (omega arith) in
      let stops : run_of s (suc k) ≡ ended_by Halted e =
      rw a.stands (one_more_halts step_of Done s e refl h) in
      call_is_run step_of s n n accepted (omega arith)
      ∙ stopped_run_stays step_of s n (suc k) more
      (halted_is_not_done (run_of s (suc k)).ending (ap (λ (e : End). e.ending) stops))
      ∙ stops

module _ {uses : ℕ → Bool} {words : ℕ} {user : Bool} {s : Start} {k : ℕ} {f : Frame} {v : View} (a : At s 0 k f v)
    (n : ℕ) (b : Begins uses words user s n) (same_stack : f.sp ≡ stack_of s.machine)
    (same_memory : f.memory ≡ s.memory) (same-output : f.output ≡ s.output)
    (ssp : f.ssp ≡ s.machine.saved_ssp)
    (usp : f.usp ≡ cond user (get_or s.machine.regs 6 0) s.machine.saved_usp)
    (within-stack : cells_fine words v.cells ≡ true) (left : ℕ) (count : v.busy ≡ left) where
  memory_is : memory_at f v ≡ memory_with (stack_of s.machine) s.memory v.cells
  memory_is =
      ap (λ (sp : ℕ). memory_with sp f.memory v.cells) same_stack
      ∙ ap (λ (mem : List ℕ). memory_with (stack_of s.machine) mem v.cells) same_memory

  leaves : (e : End) → e.machine ≡ (standing_at f v k a.keys a.devices a.clock).machine
      → e.memory ≡ memory_at f v → e.output ≡ (standing_at f v k a.keys a.devices a.clock).output
      → e.steps ≡ k → e.shown ≡ length v.bytes → e.keys ≡ a.keys → Leaves s k v.bytes left words e
  leaves e m mem out steps shown keys = record {
    steps = steps;
    keys = keys ∙ a.arrived_by_lem;
    shown = shown;
    output = out ∙ rw same-output;
    saved_ssp_lem = rw m ssp;
    saved_usp_lem = rw (m, b.mode) usp;
    kbdr = rw (m, keys) a.kbdr;
    timer = rw m a.timer;
    display = rw m count;
    clock = rw m a.ticks;
    words_below_lem =
        ap (λ (l : List ℕ). take (stack_of s.machine - words) l) (mem ∙ memory_is)
        ∙ words_below_lem b.stack s.memory v.cells within-stack;
    words_above_lem =
        ap (λ (l : List ℕ). drop (stack_of s.machine) l) (mem ∙ memory_is)
        ∙ words_above_lem b.stack s.memory v.cells within-stack;
  }

  pub resumes : k ≤ n → v.pc ≡ next s.machine.pc → psr_at f v ≡ s.machine.psr → (regs : List ℕ)
      → v.regs ≡ regs → v.mcr ≡ 0x8000 → (status : ℕ → ℕ)
      → ((keys : ℕ) → ready_after (take (keys - v.read) (drop v.read s.bytes)) v.status ≡ status keys)
      → Resumes s n k v.bytes left words regs status
  resumes le pc psr regs same going status read =
      let q = call_stands a n b.accepted le in
      record {
        made = steps_are_made a n b.accepted le;
        leaves = rw q (leaves (standing_at f v k a.keys a.devices a.clock) refl refl refl refl refl refl);
        ending = rw q;
        pc = rw q pc;
        psr = rw q psr;
        registers_are = rw q same;
        mcr = rw q going;
        kbsr = rw q (a.kbsr ∙ read a.keys);
      }

  pub halts : k < n → v.regs ≡ set s.machine.regs 6 0x2FFE → v.mcr ≡ 0 → v.pc ≡ 0x027E
      → psr_at f v ≡ s.machine.psr / 8 % 4096 * 8 + 1 → v.read ≡ 0 → v.status ≡ s.machine.devices.kbsr
      → Halts s n k v.bytes left words
  unfolding ended_by
  halts more same off pc psr none kept =
      let q = call_halts a n b.accepted more off in
      let e : End = ended_by Halted (standing_at f v k a.keys a.devices a.clock) in
      record {
        leaves = rw q (leaves e refl refl refl refl refl refl);
        ending = rw q;
        mcr = rw q off;
        kbsr = rw q (unread a none kept);
        registers_are = rw q same;
        pc = rw q pc;
        psr = rw q psr;
      }

-- ---- a routine that a TRAP called

-- The record has R0 to R7.
pub record Eight (regs : List ℕ) : Type 0 where
  pub r₀ : ℕ
  pub r₁ : ℕ
  pub r₂ : ℕ
  pub r₃ : ℕ
  pub r₄ : ℕ
  pub r₅ : ℕ
  pub r₆ : ℕ
  pub r₇ : ℕ
  pub are : regs ≡ r₀ ∷ r₁ ∷ r₂ ∷ r₃ ∷ r₄ ∷ r₅ ∷ r₆ ∷ r₇ ∷ []

pub eight : (regs : List ℕ) → length regs ≡ 8 → Eight regs
eight [] h = absurd (omega arith)
eight (a ∷ []) h = absurd (omega arith)
eight (a ∷ b ∷ []) h = absurd (omega arith)
eight (a ∷ b ∷ c ∷ []) h = absurd (omega arith)
eight (a ∷ b ∷ c ∷ d ∷ []) h = absurd (omega arith)
eight (a ∷ b ∷ c ∷ d ∷ e ∷ []) h = absurd (omega arith)
eight (a ∷ b ∷ c ∷ d ∷ e ∷ f ∷ []) h = absurd (omega arith)
eight (a ∷ b ∷ c ∷ d ∷ e ∷ f ∷ g ∷ []) h = absurd (omega arith)
eight (a ∷ b ∷ c ∷ d ∷ e ∷ f ∷ g ∷ i ∷ []) h = record {
  r₀ = a;
  r₁ = b;
  r₂ = c;
  r₃ = d;
  r₄ = e;
  r₅ = f;
  r₆ = g;
  r₇ = i;
  are = refl;
}
eight (a ∷ b ∷ c ∷ d ∷ e ∷ f ∷ g ∷ i ∷ j ∷ l) h = absurd (omega arith)

-- With the caller's R6 in its place they are as before.
pub as_before : (regs : List ℕ) (x : Eight regs) (six : ℕ)
    → set (x.r₀ ∷ x.r₁ ∷ x.r₂ ∷ x.r₃ ∷ x.r₄ ∷ x.r₅ ∷ six ∷ x.r₇ ∷ []) 6 (get_or regs 6 0) ≡ regs
as_before regs x six = rw x.are

-- Where the routine at `to` stands when it begins.
abbrev pub begun : (s : Start) → Eight s.machine.regs → ℕ → ℕ → View
begun s x to pc = record {
  regs = x.r₀ ∷ x.r₁ ∷ x.r₂ ∷ x.r₃ ∷ x.r₄ ∷ x.r₅ ∷ (stack_of s.machine - 2) ∷ x.r₇ ∷ [];
  pc = to;
  codes = these s.machine.psr;
  cells = cell 2 pc ∷ cell 1 s.machine.psr ∷ [];
  depth = 2;
  bytes = [];
  busy = s.machine.devices.busy - 1;
  mcr = 0x8000;
  read = 0;
  status = s.machine.devices.kbsr;
}

-- What was called is one with eight registers.
eight_registers : (f : Frame) (s : Start) (x : Eight s.machine.regs) (to to' pc : ℕ) → to ≡ to'
    → s.machine.devices.mcr ≡ 0x8000 → At s 0 1 f (entered_view s to pc) → At s 0 1 f (begun s x to' pc)
eight_registers f s x to to' pc leads going a =
    subst (λ (v : View). At s 0 1 f v)
    (λ i. record {
      regs = set (x.are i) 6 (stack_of s.machine - 2);
      pc = leads i;
      codes = these s.machine.psr;
      cells = cell 2 pc ∷ cell 1 s.machine.psr ∷ [];
      depth = 2;
      bytes = [];
      busy = s.machine.devices.busy - 1;
      mcr = going i;
      read = 0;
      status = s.machine.devices.kbsr;
    })
    a

pub routine_begins : (code : ℕ → Bool) (words : ℕ) (user : Bool) (s : Start) (n bound : ℕ)
    (x : Eight s.machine.regs) (vector to : ℕ) → Calls vector code words user s n → 2 ≤ words → Quiet s 0 bound
    → 0 < bound → vector < 0x0100 → vector_word ours vector ≡ to
    → At s 0 1 (called_frame (with_vector vector code) words user s) (begun s x to (next s.machine.pc))
routine_begins code words user s n bound x vector to c two quiet some below leads =
    let b = c.begins in
    let uses : ℕ → Bool = with_vector vector code in
    eight_registers (called_frame uses words user s) s x (vector_word ours vector) to (next s.machine.pc) leads
    b.mcr
    (plan_enters uses words user s n bound b.accepted quiet some (is_intact s n b) b.mode c.may_fetch
    b.stack two b.mcr (trap vector) (next s.machine.pc) (omega arith) (vector_is_used vector code)
    (λ m at. unfold plan_by perform_by in rw (c.trap, at)))

-- In Supervisor mode the word at PC is a reserved one.
pub reserved_begins : (code : ℕ → Bool) (words : ℕ) (s : Start) (n bound : ℕ) (x : Eight s.machine.regs)
    (reserved to : ℕ) → Begins (with_vector (vector_of illegal) code) words false s n
    → read_of (get_or s.memory s.machine.pc 0) ≡ Reserved reserved → 2 ≤ words → Quiet s 0 bound → 0 < bound
    → vector_word ours (vector_of illegal) ≡ to
    → At s 0 1 (called_frame (with_vector (vector_of illegal) code) words false s) (begun s x to s.machine.pc)
unfolding denied_by
reserved_begins code words s n bound x reserved to b word two quiet some leads =
    let uses : ℕ → Bool = with_vector (vector_of illegal) code in
    eight_registers (called_frame uses words false s) s x (vector_word ours (vector_of illegal)) to s.machine.pc leads
    b.mcr
    (plan_enters uses words false s n bound b.accepted quiet some (is_intact s n b) b.mode (rw b.mode)
    b.stack two b.mcr illegal s.machine.pc (omega arith) (vector_is_used (vector_of illegal) code)
    (λ m at. unfold plan_by perform_by in rw (word, at)))

pub handler_begins : (code : ℕ → Bool) (words : ℕ) (s : Start) (n bound : ℕ) (x : Eight s.machine.regs)
    (reason : Reason) (to : ℕ) (r : Raises reason code words s n) → 2 ≤ words → Quiet s 0 bound → 0 < bound
    → vector_of reason < 0x0200 → vector_word ours (vector_of reason) ≡ to
    → At s 0 1 (called_frame (with_vector (vector_of reason) code) words true s) (begun s x to r.pushed_pc)
handler_begins code words s n bound x reason to r two quiet some below leads =
    let b = r.begins in
    let uses : ℕ → Bool = with_vector (vector_of reason) code in
    eight_registers (called_frame uses words true s) s x (vector_word ours (vector_of reason)) to r.pushed_pc leads
    b.mcr
    (exception_enters uses words s n bound b.accepted quiet some (is_intact s n b) b.mode b.stack two b.mcr
    reason below (vector_is_used (vector_of reason) code) r.pushed_psr r.pushed_pc r.cause)

-- It has come to an RTI, with R6 as it began, and what the entry pushed is still there.
pub record AtReturn (uses : ℕ → Bool) (words : ℕ) (user : Bool) (s : Start) (v : View) : Type 0 where
  pub plan : plan_at (called_frame uses words user s) v ≡ Return
  pub six : get_or v.regs 6 0 ≡ stack_of s.machine - 2
  pub pc : slot_at (called_frame uses words user s) v 2 ≡ next s.machine.pc
  pub psr : slot_at (called_frame uses words user s) v 1 ≡ s.machine.psr
  pub fine : cells_fine words v.cells ≡ true
  pub going : v.mcr ≡ 0x8000

abbrev pub back_frame : (ℕ → Bool) → ℕ → Bool → Start → Frame
back_frame uses words user s =
    returned_frame (called_frame uses words user s) user (stack_of s.machine - 2) s.machine.psr

abbrev pub back_view : (ℕ → Bool) → ℕ → Bool → Start → View → View
back_view uses words user s v =
    returned_view (called_frame uses words user s) v user (stack_of s.machine - 2) s.machine.psr
    (next s.machine.pc)

-- RTI leaves R6 and Saved_SSP as they were, in either mode.
module _ (ssp usp six sp : ℕ) where
  pub six_is_restored : (user : Bool) → sp ≡ cond user ssp six → cond user (cond user six usp) sp ≡ six
  six_is_restored true e = refl
  six_is_restored false e = e

  pub ssp_is_restored : (user : Bool) → sp ≡ cond user ssp six → cond user sp ssp ≡ ssp
  ssp_is_restored true e = e
  ssp_is_restored false e = refl

-- The way back, for every routine.
module _ (uses : ℕ → Bool) (words : ℕ) (user : Bool) (s : Start) (n j : ℕ) (v : View) (b : Begins uses words user s n)
    (two : 2 ≤ words) (quiet : Quiet s 0 (j + 1)) (a : At s 0 j (called_frame uses words user s) v)
    (r : AtReturn uses words user s v) (le : j + 1 ≤ n) where
  abbrev m : Machine
  m = s.machine

  abbrev sp : ℕ
  sp = stack_of m

  sound : Sound (called_frame uses words user s)
  sound = begins_sound s n b

  pub at_back : At s 0 (j + 1) (back_frame uses words user s) (back_view uses words user s v)
  at_back =
      let f : Frame = called_frame uses words user s in
      let pc : word_at f v (sp - 2) ≡ next m.pc = slot_is f sound v r.fine 2 (omega arith) two ∙ r.pc in
      let psr : word_at f v (next (sp - 2)) ≡ m.psr =
      ap (λ (x : ℕ). word_at f v x) (up_one b.stack two)
      ∙ slot_is f sound v r.fine 1 (omega arith) (omega arith)
      ∙ r.psr in
      (returns quiet f sound v r.going r.fine r.plan (sp - 2) (next m.pc) m.psr r.six pc psr
      (psr_is_defined s n b) user b.mode).on (omega arith) a

  up_again : next (next (sp - 2)) ≡ cond user m.saved_ssp (get_or m.regs 6 0)
  up_again =
      up_two b.stack two ∙ ap (λ (u : Bool). cond u m.saved_ssp (get_or m.regs 6 0)) b.mode

  pub comes_back : (regs : List ℕ) → set v.regs 6 (get_or s.machine.regs 6 0) ≡ regs → (left : ℕ)
      → v.busy - 1 ≡ left → (status : ℕ → ℕ)
      → ((keys : ℕ) → ready_after (take (keys - v.read) (drop v.read s.bytes)) v.status ≡ status keys)
      → Resumes s n (j + 1) v.bytes left words regs status
  comes_back regs same left count status read =
      resumes at_back n b refl refl refl
      (ssp_is_restored m.saved_ssp m.saved_usp (get_or m.regs 6 0) (next (next (sp - 2))) user up_again)
      refl r.fine left count le refl
      (sym (psr_parts m.psr)) regs
      (ap (λ (x : ℕ). set v.regs 6 x)
      (six_is_restored m.saved_ssp m.saved_usp (get_or m.regs 6 0) (next (next (sp - 2))) user up_again)
      ∙ same)
      r.going status read

-- A routine that has not loaded KBDR.
pub none_read : (s : Start) (v : View) → v.read ≡ 0 → v.status ≡ s.machine.devices.kbsr → (keys : ℕ)
    → ready_after (take (keys - v.read) (drop v.read s.bytes)) v.status ≡ not_read s keys
none_read s v none same keys = go v.read v.status none same
  where
    go : (read status : ℕ) → read ≡ 0 → status ≡ s.machine.devices.kbsr
        → ready_after (take (keys - read) (drop read s.bytes)) status ≡ not_read s keys
    go read status p q =
        let z : keys - 0 ≡ keys = omega arith in
        rw (p, q, z)
