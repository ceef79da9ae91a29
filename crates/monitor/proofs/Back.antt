-- BACK in the first two steps of a call: the interrupt's entry, and RTI.
use Prim.Native.Nat.{ℕ, ◌+◌, ◌-◌, ◌*◌, ◌/◌, ◌%◌, ◌≤◌, ◌<◌}
use native.Mathlib.Omega.{arith}
use mathlib.Core.Path.{◌≡◌, refl, sym, ap, subst, ◌∙◌}
use mathlib.Core.Bool.{Bool, true, false, cond, ◌||◌, true≢false}
use mathlib.Core.List.{List, []}
use lib.Dec.{ltb}
use lib.ListN.{length, get_or, set, take}
use lib.Seq.{set-set, set-get_or, get_or-set_same}
use Rattle.word.specs.Reading.{read_of}
use Rattle.machine.specs.declared.Machine.{Machine}
use Rattle.machine.specs.declared.Devices.{Devices}
use Rattle.machine.specs.declared.Plan.TheVariants.{Return}
use Rattle.machine.specs.Words.{next}
use Rattle.machine.specs.Record.{Timer, timer_of}
use Rattle.machine.specs.Psr.{in_user_mode, priority_of}
use Rattle.machine.specs.Keys.{ready_after, last_key, after_keys}
use Rattle.machine.specs.Timer.{ticked, after_timer, ticked_by}
use Rattle.machine.specs.Outcome.{interrupt}
use Rattle.machine.specs.Causes.{takes_interrupt}
use Rattle.machine.specs.Interrupts.{pending_interrupt, timer_may_interrupt, keyboard_may_interrupt, timer_vector}
use Rattle.machine.specs.Interrupts.{timer_priority, keyboard_vector, keyboard_priority}
use Rattle.machine.specs.Entry.{interrupted}
use Rattle.machine.specs.Plan.{plan_by}
use Rattle.machine.specs.Step.{ended, after_start, interrupted_or_obeyed_by, step_by, step_of}
use Rattle.machine.proofs.InterruptRule.{interrupt_is_taken_by_rule_2}
use Rattle.run.specs.declared.Ending.TheVariants.{Done}
use Rattle.run.specs.Refusals.{admission_of, Accepted}
use Rattle.run.specs.Run.{Start, End, arriving, next_step_by, next_step}
use Rattle.run.specs.Call.{call_of}
use Rattle.run.specs.Noninterference.{cause_at}
use Rattle.run.proofs.Acceptance.{accepted_is_acceptable, call_is_run}
use Rattle.monitor.specs.Vectors.{vector_word, ours}
use Rattle.monitor.specs.Routines.{routine_words}
use Rattle.monitor.specs.Uses.{HasWords, back_uses}
use Rattle.monitor.specs.Keys.{arrived_by}
use Rattle.monitor.specs.Calls.{stack_of, StackApart}
use Rattle.monitor.proofs.VectorLaws.{interrupt_word}
use Rattle.monitor.proofs.Execution.{Frame, View, machine_at, At}
use Rattle.monitor.proofs.Execution.{status_in, started, advance_with, same_keyboard, QuietStep, here, kbsr_is}
use Rattle.monitor.proofs.Intact.{Intact, word_at, word_with}
use Rattle.monitor.proofs.Instructions.{Sound, plan_at, slot_is}
use Rattle.monitor.proofs.Entries.{start_frame, start_view, at_start, psr_parts, entered_frame, entered_view}
use Rattle.monitor.proofs.Entries.{up_one, up_two, entry_gives, entry_silent, returned_frame, returned_view}
use Rattle.monitor.proofs.Entries.{return_once}
use Rattle.monitor.proofs.Calls.{call_stands, unread}
use Rattle.monitor.proofs.Again.{Due, tick_keeps, tick_fits, keys_fit, no_fewer, more_keys, still_due}

-- The interrupt that a step takes is one of two.
data TakenAs (m : Machine) (mem keys : List ℕ) : Type 0 where
  taken : (vector priority : ℕ) → 0x0103 ≤ vector → vector < 0x0200 → back_uses vector ≡ true
      → step_of keys m mem ≡ ended (interrupted vector priority (after_start keys m) mem) → TakenAs m mem keys

which : (m : Machine) (mem keys : List ℕ) → takes_interrupt (step_of keys m mem).cause ≡ true → TakenAs m mem keys
unfolding step_by pending_interrupt interrupted_or_obeyed_by
which m mem keys h =
    go (timer_may_interrupt (after_start keys m)) (keyboard_may_interrupt (after_start keys m)) refl refl
    (sym (interrupt_is_taken_by_rule_2 keys m mem) ∙ h)
  where
    go : (t k : Bool) → timer_may_interrupt (after_start keys m) ≡ t → keyboard_may_interrupt (after_start keys m) ≡ k
        → (timer_may_interrupt (after_start keys m) || keyboard_may_interrupt (after_start keys m)) ≡ true
        → TakenAs m mem keys
    go true k p q e = taken timer_vector timer_priority (omega arith) (omega arith) refl (rw p)
    go false true p q e = taken keyboard_vector keyboard_priority (omega arith) (omega arith) refl (rw (p, q))
    go false false p q e = absurd (true≢false (sym e ∙ rw (p, q)))

interrupt_psr : (psr priority : ℕ)
    → psr % 256 + priority % 8 * 256 ≡ (psr % 256 + priority % 8 * 256) / 8 * 8 + psr % 8
interrupt_psr psr priority = omega arith

-- The first step takes an interrupt, and the second none.
pub record FirstInterrupted (s : Start) (n : ℕ) : Type 0 where
  pub accepted : admission_of s n ≡ Accepted
  pub steps : 2 ≤ n
  pub registers : length s.machine.regs ≡ 8
  pub intact : HasWords back_uses s.memory
  pub mcr : s.machine.devices.mcr ≡ 0x8000
  pub above_monitor : 0x02A7 ≤ stack_of s.machine
  pub below_devices : stack_of s.machine ≤ 0xFE00
  pub interrupt : takes_interrupt (cause_at s 0) ≡ true
  pub no_other : takes_interrupt (cause_at s 1) ≡ false

-- What e is after both.
pub record FirstBack (s : Start) (e : End) : Type 0 where
  pub steps : e.steps ≡ 2
  pub ending : e.ending ≡ Done
  pub shown : e.shown ≡ 0
  pub output : e.output ≡ s.output
  pub registers : e.machine.regs ≡ s.machine.regs
  pub psr : e.machine.psr ≡ s.machine.psr
  pub pc : e.machine.pc ≡ s.machine.pc
  pub saved_ssp_lem : e.machine.saved_ssp ≡ s.machine.saved_ssp
  pub saved_usp_lem : e.machine.saved_usp
      ≡ cond (in_user_mode s.machine.psr) (get_or s.machine.regs 6 0) s.machine.saved_usp
  pub kbsr : e.machine.devices.kbsr ≡ ready_after (take e.keys s.bytes) s.machine.devices.kbsr
  pub kbdr : e.machine.devices.kbdr ≡ last_key (take e.keys s.bytes) s.machine.devices.kbdr
  pub timer : timer_of e.machine.devices ≡ ticked_by 2 (timer_of s.machine.devices)
  pub mcr : e.machine.devices.mcr ≡ 0x8000
  pub busy : e.machine.devices.busy ≡ s.machine.devices.busy - 1 - 1
  pub clock : e.machine.clock ≡ s.machine.clock + 2
  pub memory : e.memory
      ≡ set (set s.memory (stack_of s.machine - 1) s.machine.psr) (stack_of s.machine - 2) s.machine.pc

module _ (s : Start) (n : ℕ) (c : FirstInterrupted s n) where
  abbrev sp : ℕ
  sp = stack_of s.machine

  abbrev user : Bool
  user = in_user_mode s.machine.psr

  ok : Intact back_uses s.memory
  ok = record { words = c.intact; size = (accepted_is_acceptable s n c.accepted).size }

  apart : StackApart 2 sp
  apart = record { above_monitor = c.above_monitor; below_devices = c.below_devices }

  abbrev entered : View
  entered = entered_view s 0x027F s.machine.pc

  -- ---- the entry

  abbrev f₀ : Frame
  f₀ = start_frame back_uses 2 0 s

  a₀ : At s 1 0 f₀ (start_view s)
  a₀ = at_start back_uses 2 0 s n c.accepted 1

  interrupted_here : takes_interrupt (next_step s (here a₀)).cause ≡ true
  unfolding cause_at
  interrupted_here =
      subst (λ (e : End). takes_interrupt (next_step s e).cause ≡ true)
      (call_is_run step_of s n 0 c.accepted (omega arith) ∙ a₀.stands) c.interrupt

  abbrev high_of : ℕ → ℕ
  high_of priority = (s.machine.psr % 256 + priority % 8 * 256) / 8

  enters : (vector priority : ℕ) → 0x0103 ≤ vector → vector < 0x0200 → back_uses vector ≡ true
      → step_of (arriving s (here a₀)) (here a₀).machine s.memory
      ≡ ended (interrupted vector priority (after_start (arriving s (here a₀)) (here a₀).machine) s.memory)
      → At s 1 1 (entered_frame back_uses 2 s user (high_of priority)) entered
  unfolding interrupted next_step_by
  enters vector priority least most used e =
      let g = entry_gives back_uses 2 s ok user refl apart (omega arith) (interrupt vector) s.machine.pc
      (high_of priority) most used in
      let leads : vector_word ours vector ≡ 0x027F = sym (interrupt_word ours vector least) in
      let view : View = entered_view s (vector_word ours vector) s.machine.pc in
      let p : (d : Devices) (t : ℕ)
      → (machine_at f₀ (start_view s) d t).psr % 256 + priority % 8 * 256
      ≡ high_of priority * 8 + s.machine.psr % 8 =
      λ d t. rw (← (psr_parts s.machine.psr)) (interrupt_psr s.machine.psr priority) in
      rw leads at (advance_with a₀ (interrupted vector priority) (λ l. absurd (omega arith)) c.mcr
      (e ∙ ap (λ (m : Machine). ended (interrupted vector priority m s.memory)) (started a₀))
      (entered_frame back_uses 2 s user (high_of priority)) view [] (status_in s 0 (start_view s))
      (λ d t same kbsr kbdr. rw (← kbsr) (g ((machine_at f₀ (start_view s) d t).psr % 256 + priority % 8 * 256)
      (p d t) 0 d t))
      (entry_silent back_uses 2 0 s user (high_of priority) (vector_word ours vector) s.machine.pc)
      (same_keyboard a₀ view refl refl))

  -- ---- RTI

  module _ (priority : ℕ) where
    abbrev f : Frame
    f = entered_frame back_uses 2 s user (high_of priority)

    sound : Sound f
    sound = record { above = omega arith; intact = ok; stack = apart }

    word : word_at f entered 0x027F ≡ 0x8000
    unfolding word_with routine_words
    word = refl

    lone : plan_at f entered ≡ Return
    unfolding plan_at read_of plan_by
    lone = rw word

    six : get_or entered.regs 6 0 ≡ sp - 2
    six = get_or-set_same s.machine.regs 6 (sp - 2) 0 (omega (arith, c.registers))

    pc_there : word_at f entered (sp - 2) ≡ s.machine.pc
    pc_there = slot_is f sound entered refl 2 (omega arith) (omega arith)

    psr_there : word_at f entered (next (sp - 2)) ≡ s.machine.psr
    psr_there =
        ap (λ (x : ℕ). word_at f entered x) (up_one apart (omega arith))
        ∙ slot_is f sound entered refl 1 (omega arith) (omega arith)

    quiet : QuietStep s 1
    unfolding cause_at
    quiet =
        subst (λ (e : End). takes_interrupt (next_step s e).cause ≡ false)
        (call_is_run step_of s n 1 c.accepted (omega (arith, c.steps))) c.no_other

    at_end : At s 1 1 f entered
        → At s 1 2 (returned_frame f user (sp - 2) s.machine.psr)
        (returned_view f entered user (sp - 2) s.machine.psr s.machine.pc)
    at_end a =
        return_once f sound entered c.mcr refl lone (sp - 2) s.machine.pc s.machine.psr six
        pc_there psr_there (accepted_is_acceptable s n c.accepted).defined.psr user refl a quiet

  -- ---- both

  up_again : next (next (sp - 2)) ≡ sp
  up_again = up_two apart (omega arith)

  restored : (b : Bool) → user ≡ b
      → set (set s.machine.regs 6 (sp - 2)) 6
      (cond b (cond b (get_or s.machine.regs 6 0) s.machine.saved_usp) sp)
      ≡ s.machine.regs
  restored true e = set-set s.machine.regs 6 (sp - 2) _ ∙ set-get_or s.machine.regs 6 0
  restored false e =
      let z : sp ≡ get_or s.machine.regs 6 0 = rw e in
      set-set s.machine.regs 6 (sp - 2) sp
      ∙ ap (λ (x : ℕ). set s.machine.regs 6 x) z
      ∙ set-get_or s.machine.regs 6 0

  same_ssp : (b : Bool) → user ≡ b → cond b sp s.machine.saved_ssp ≡ s.machine.saved_ssp
  same_ssp true e = rw e
  same_ssp false e = refl

  came_back : TakenAs (here a₀).machine s.memory (arriving s (here a₀)) → FirstBack s (call_of s 2)
  came_back (taken vector priority least most used e) =
      let a = at_end priority (enters vector priority least most used e) in
      let q = call_stands a n c.accepted c.steps in
      record {
        steps = rw q;
        ending = rw q;
        shown = rw q;
        output = rw q;
        registers = rw (q, up_again) (restored user refl);
        psr = rw q (sym (psr_parts s.machine.psr));
        pc = rw q;
        saved_ssp_lem = rw (q, up_again) (same_ssp user refl);
        saved_usp_lem = rw q;
        kbsr = rw q (unread a refl refl);
        kbdr = rw q a.kbdr;
        timer = rw q a.timer;
        mcr = rw q c.mcr;
        busy = rw q;
        clock = rw q a.ticks;
        memory = rw q;
      }

  -- ---- and again

  abbrev timer₀ : Timer
  timer₀ = timer_of a₀.devices

  was_due : (timer_may_interrupt (after_start (arriving s (here a₀)) (here a₀).machine)
      || keyboard_may_interrupt (after_start (arriving s (here a₀)) (here a₀).machine))
      ≡ true
  unfolding next_step_by
  was_due =
      sym (interrupt_is_taken_by_rule_2 (arriving s (here a₀)) (here a₀).machine s.memory) ∙ interrupted_here

  timer_fits : s.machine.devices.timer_status < 65536 → (ticked timer₀).status < 65536
  unfolding ticked_by
  timer_fits word =
      subst (λ (t : Timer). (ticked t).status < 65536) (sym a₀.timer) (tick_fits (timer_of s.machine.devices) word)

  keyboard_fits : s.machine.devices.kbsr < 65536
      → ready_after (arriving s (here a₀)) a₀.devices.kbsr < 65536
  keyboard_fits word =
      rw (kbsr_is a₀) (keys_fit (take (arrived_by s 1 - 0) s.bytes) s.machine.devices.kbsr word)

  module _ (priority : ℕ)
      (a : At s 1 2 (returned_frame (f priority) user (sp - 2) s.machine.psr)
      (returned_view (f priority) entered user (sp - 2) s.machine.psr s.machine.pc)) where
    timer_still : Due (ticked timer₀).status → Due (ticked (timer_of a.devices)).status
    unfolding ticked_by
    timer_still d =
        let t : Timer = timer_of s.machine.devices in
        let d₀ : Due (ticked t).status = subst (λ (t : Timer). Due (ticked t).status) a₀.timer d in
        subst (λ (t : Timer). Due (ticked t).status) (sym a.timer)
        (tick_keeps (ticked (ticked t)) (tick_keeps (ticked t) d₀))

    keyboard_still : Due (ready_after (arriving s (here a₀)) a₀.devices.kbsr)
        → Due (ready_after (arriving s (here a)) a.devices.kbsr)
    keyboard_still d =
        let later = no_fewer (s.machine.clock + 1) (s.machine.clock + 3) s.times (omega arith) in
        rw (kbsr_is a)
        (more_keys (arrived_by s 1 - 0) (arrived_by s 3 - 0) s.bytes s.machine.devices.kbsr (omega arith)
        (rw (kbsr_is a₀) at d))

    is_due_lem : s.machine.devices.kbsr < 65536 → s.machine.devices.timer_status < 65536
        → takes_interrupt (next_step s (here a)).cause ≡ true
    unfolding next_step_by after_keys after_timer
    is_due_lem kbsr_word timer_word =
        interrupt_is_taken_by_rule_2 (arriving s (here a)) (here a).machine (here a).memory
        ∙ still_due (ticked timer₀).status (ticked (timer_of a.devices)).status
        (ready_after (arriving s (here a₀)) a₀.devices.kbsr) (ready_after (arriving s (here a)) a.devices.kbsr)
        (ltb (priority_of (here a).machine.psr) timer_priority)
        (ltb (priority_of (here a).machine.psr) keyboard_priority) (timer_fits timer_word) (keyboard_fits kbsr_word)
        timer_still keyboard_still was_due

  interrupts_again : s.machine.devices.kbsr < 65536 → s.machine.devices.timer_status < 65536
      → TakenAs (here a₀).machine s.memory (arriving s (here a₀)) → takes_interrupt (cause_at s 2) ≡ true
  unfolding cause_at
  interrupts_again kbsr_word timer_word (taken vector priority least most used e) =
      let a = at_end priority (enters vector priority least most used e) in
      subst (λ (x : End). takes_interrupt (next_step s x).cause ≡ true)
      (sym (call_stands a n c.accepted c.steps)) (is_due_lem priority a kbsr_word timer_word)

pub first_again : (s : Start) (n : ℕ) → FirstInterrupted s n → s.machine.devices.kbsr < 65536
    → s.machine.devices.timer_status < 65536 → takes_interrupt (cause_at s 2) ≡ true
unfolding next_step_by
first_again s n c kbsr_word timer_word =
    interrupts_again s n c kbsr_word timer_word
    (which (here (a₀ s n c)).machine s.memory (arriving s (here (a₀ s n c))) (interrupted_here s n c))

pub first_returns : (s : Start) (n : ℕ) → FirstInterrupted s n → FirstBack s (call_of s 2)
unfolding next_step_by
first_returns s n c =
    came_back s n c
    (which (here (a₀ s n c)).machine s.memory (arriving s (here (a₀ s n c))) (interrupted_here s n c))
