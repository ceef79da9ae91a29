-- Interrupts: taken in User mode they enter the lone RTI as a routine; taken in a routine they suspend it, and the
-- timer's may suspend the keyboard's. The RTI goes back to what was suspended.
use Rattle.std.specs.Prelude.{None, Some}
use Prim.Native.Nat.{ℕ, ◌+◌, ◌-◌, ◌*◌, ◌/◌, ◌%◌, ◌≤◌, ◌<◌}
use native.Mathlib.Omega.{arith}
use mathlib.Core.Path.{◌≡◌, refl, sym, ap, subst, ◌∙◌}
use mathlib.Core.Bool.{Bool, true, false, cond}
use mathlib.Core.Logic.{◌⊎◌, inl, inr}
use mathlib.Core.List.{List, [], ◌∷◌}
use borrow.Author.Tests.{leb-true, ltb-true}
use lib.Dec.{leb, ltb}
use lib.ListN.{length, get_or, set, length-set}
use lib.Seq.{get_or-set_other, get_or-set_same, set-set, set-get_or}
use Rattle.word.specs.Reading.{read_of}
use Rattle.machine.specs.declared.Machine.{Machine}
use Rattle.machine.specs.Words.{next, before}
use Rattle.machine.specs.Psr.{defined_psr, priority_of}
use Rattle.machine.specs.Outcome.{interrupt}
use Rattle.machine.specs.Interrupts.{keyboard_vector, keyboard_priority, timer_vector, timer_priority}
use Rattle.machine.specs.Interrupts.{timer_interrupt, keyboard_interrupt}
use Rattle.machine.specs.Interrupts.{timer_may_interrupt}
use Rattle.machine.specs.Interrupts.{keyboard_may_interrupt, pending_interrupt}
use Rattle.machine.specs.Entry.{stack_pointer_on_entry, pushed, after_entry, entry, interrupted}
use Rattle.machine.specs.Return.{after_return, return}
use Rattle.machine.specs.Return as Return
use Rattle.machine.specs.Plan.{plan_by}
use Rattle.machine.specs.Step.{perform_by, obeyed_by, obeyed, interrupted_or_obeyed_by, interrupted_or_obeyed}
use Rattle.machine.specs.Step.{after_start}
use Rattle.machine.specs.Step.{step_by, step_of}
use Rattle.machine.proofs.Tests.{both_true}
use Rattle.monitor.proofs.Modes.{supervisor_mode_lem, allowed_in_supervisor_mode}
use Rattle.sitting.specs.Values.{Value}
use Rattle.sitting.specs.Test.{fixed, cell_at, value_in}
use Rattle.sitting.proofs.Values.{Holds, looked_up, Registers, words_at}
use Rattle.sitting.proofs.Table.{listed, own_is_open, SoundAt, sound_at, Keepable, kept_holds, LeadsBack}
use Rattle.sitting.proofs.Table.{keyboard_leads, timer_leads}
use Rattle.sitting.proofs.Invariant.{Words, word_stored, Core, core_of, InRoutine, Stands, in_user_mode_lem}
use Rattle.sitting.proofs.Invariant.{in_routine, interrupted_once, interrupted_twice, popped, InReturn}
use Rattle.sitting.proofs.Invariant.{CannotInterrupt, InterruptedOnce, Enabled, both_devices, lowest_priority}
use Rattle.sitting.proofs.Invariant.{pushed_in, Setting}
use Rattle.sitting.proofs.Invariant.{cells_of, Disabled, Invariant, Changeable, unlisted_changes, started, lowest}
use Rattle.sitting.proofs.Invariant.{OutcomeKeeps, keeps_ended, keeps_reads, bounds, fixed_word_is_open}
use Rattle.sitting.proofs.Invariant.{stack_word_is_open}
use Rattle.sitting.proofs.Routines.{routine_keeps}
use Rattle.sitting.proofs.UserMode.{enters, user_keeps}

-- ---- the PSR that is pushed and popped

same_codes : (v : ℕ) → defined_psr v % 8 ≡ v % 8
unfolding defined_psr
same_codes v = omega arith

same_mode : (v : ℕ) → v < 0x8000 → defined_psr v < 0x8000
unfolding defined_psr
same_mode v h = omega arith

priority_of_parts : (q p c : ℕ) → p < 8 → c < 8 → (q * 0x8000 + p * 256 + c) / 256 % 8 ≡ p
priority_of_parts q p c hp hc = omega arith

below_eight : (v : ℕ) → v % 8 < 8
below_eight v = omega arith

same_priority : (v : ℕ) → priority_of (defined_psr v) ≡ priority_of v
unfolding defined_psr
same_priority v =
    priority_of_parts (v / 0x8000) (v / 256 % 8) (v % 8) (below_eight (v / 256)) (below_eight v)

-- ---- what is suspended stays so, whatever is pushed below it

abbrev with_psr : ℕ → Core → Core
with_psr psr c = record { regs = c.regs; pc = c.pc; psr = psr; ssp = c.ssp }

module _ (g : Setting) where
  abbrev deepest : ℕ
  deepest = g.claim.lowest - 4

  deep_word_changes : (a : ℕ) → deepest ≤ a → Changeable g.claim a
  deep_word_changes a l = unlisted_changes g.claim a (omega (arith, (bounds g).cells_deep))

  -- R6 in a routine.
  stack_of_routine : (c : Core) (mem : List ℕ) (r : InRoutine g.claim c mem)
      → (s : SoundAt g.claim (value_in r.found.state.regs 6) r.found.state.words)
      × (get_or c.regs 6 0 ≡ s.sp)
  stack_of_routine c mem r =
      let σ = r.found.state in
      let s = sound_at g.claim (value_in σ.regs 6) σ.words r.found.is_sound in (
        s,
        subst (λ (v : Value). Holds (get_or c.regs 0 0) v (get_or c.regs 6 0)) s.known
            (looked_up _ σ.regs c.regs r.known.registers 6),
      )

  words_stay : {c : Core} {mem : List ℕ} (r : InRoutine g.claim c mem) (a x : ℕ) (mem' : List ℕ)
      → deepest ≤ a → a < get_or c.regs 6 0
      → Registers (get_or c.regs 0 0) r.found.state.words (words_at g.claim.watched mem')
      → Registers (get_or c.regs 0 0) r.found.state.words (words_at g.claim.watched (set mem' a x))
  words_stay {c} {mem} r a x mem' l h k =
      let s = stack_of_routine c mem r in
      kept_holds g.claim (get_or c.regs 0 0) s.0.sp a x mem' (λ w y z. apart s.0.sp s.1 w y z)
      g.claim.watched r.found.state.words s.0.kept k
    where
      apart : (sp : ℕ) → get_or c.regs 6 0 ≡ sp → (w : ℕ) → Keepable g.claim sp w → w ≡ a → ⊥
      apart sp e w (inl o) z =
          absurd (omega (arith, (bounds g).cells_deep, listed (cells_of g) w (own_is_open (cell_at (cells_of g) w) o)))
      apart sp e w (inr y) z = absurd (omega (arith, y.0))

  routine_stays : {c : Core} {mem : List ℕ} → InRoutine g.claim c mem → (psr a x b y : ℕ) → psr < 0x8000
      → psr % 8 ≡ c.psr % 8 → deepest ≤ a → a < get_or c.regs 6 0 → deepest ≤ b → b < get_or c.regs 6 0
      → InRoutine g.claim (with_psr psr c) (set (set mem a x) b y)
  routine_stays {c} {mem} r psr a x b y l e ha ka hb kb =
      let s = stack_of_routine c mem r in
      let t : get_or c.regs 6 0 ≤ 0x2FFE = omega (arith, s.0.below, s.1) in
      record {
        found = r.found;
        known = record {
          memory = word_stored (word_stored r.known.memory a x (deep_word_changes a ha)) b y
              (deep_word_changes b hb);
          eight = r.known.eight;
          supervisor = l;
          caller =
              rw (
                get_or-set_other (set mem a x) b 0x2FFF y 0 (λ e. absurd (omega arith)),
                get_or-set_other mem a 0x2FFF x 0 (λ e. absurd (omega arith)),
              )
              r.known.caller;
          registers = r.known.registers;
          codes = rw e r.known.codes;
          words = words_stay r b y (set mem a x) hb kb (words_stay r a x mem ha ka r.known.words);
        };
      }

  return_stays : (enabled : Enabled) {c : Core} {mem : List ℕ} → InterruptedOnce g.claim enabled c mem
      → (psr a x b y : ℕ) → psr < 0x8000
      → priority_of psr ≡ priority_of c.psr → deepest ≤ a → a < get_or c.regs 6 0 → deepest ≤ b
      → b < get_or c.regs 6 0
      → InterruptedOnce g.claim enabled (with_psr psr c) (set (set mem a x) b y)
  return_stays enabled {c} {mem} r psr a x b y l e ha ka hb kb =
      let sp : ℕ = get_or c.regs 6 0 in
      let top : get_or c.regs 6 0 ≤ 0x2FFC = r.below in
      let n : next (get_or c.regs 6 0) ≡ get_or c.regs 6 0 + 1 = omega arith in
      let w₀ : get_or (set (set mem a x) b y) (get_or c.regs 6 0) 0 ≡ get_or mem (get_or c.regs 6 0) 0 =
      get_or-set_other (set mem a x) b sp y 0 (λ e. absurd (omega arith))
      ∙ get_or-set_other mem a sp x 0 (λ e. absurd (omega arith)) in
      let w₁ : get_or (set (set mem a x) b y) (next (get_or c.regs 6 0)) 0 ≡ get_or mem (next (get_or c.regs 6 0)) 0 =
      get_or-set_other (set mem a x) b (next sp) y 0 (λ e. absurd (omega arith))
      ∙ get_or-set_other mem a (next sp) x 0 (λ e. absurd (omega arith)) in
      let up : get_or (popped c mem).regs 6 0 ≡ next (next (get_or c.regs 6 0)) =
      get_or-set_same c.regs 6 (next (next sp)) 0 (omega (arith, r.eight)) in
      let u : InRoutine g.claim (popped c mem) (set (set mem a x) b y) =
      routine_stays r.under (popped c mem).psr a x b y r.back_in_supervisor refl ha (omega arith) hb
      (omega arith)
      in
      record {
        memory = word_stored (word_stored r.memory a x (deep_word_changes a ha)) b y (deep_word_changes b hb);
        eight = r.eight;
        supervisor = l;
        priority_is = omega (arith, r.priority_is);
        at = r.at;
        from = r.from;
        below = r.below;
        back_in_supervisor = rw w₁ r.back_in_supervisor;
        under = rw (w₀, w₁) u;
      }

-- ---- an interrupt in Supervisor mode

module _ (g : Setting) (m : Machine) (mem : List ℕ) (words : Words g.claim mem) (eight : length m.regs ≡ 8)
    (sup : m.psr < 0x8000) (from : g.claim.lowest - 2 ≤ get_or m.regs 6 0)
    (below : get_or m.regs 6 0 ≤ 0x2FFE) where
  abbrev sp : ℕ
  sp = get_or m.regs 6 0

  -- There is room for the two words.
  high_enough : (g.claim.lowest - 4 ≤ sp - 1 - 1) × (2 ≤ sp)
  high_enough = let h = (bounds g).cells_deep in (omega arith, omega arith)

  abbrev suspended : List ℕ
  suspended = set (set mem (sp - 1) m.psr) (sp - 1 - 1) m.pc

  abbrev entered : ℕ → ℕ → Core
  entered to psr = record { regs = set m.regs 6 (sp - 1 - 1); pc = to; psr = psr; ssp = m.saved_ssp }

  suspended_words : Words g.claim suspended
  suspended_words =
      word_stored
      (word_stored words (sp - 1) m.psr (deep_word_changes g (sp - 1) (omega (arith, high_enough.0))))
      (sp - 1 - 1) m.pc (deep_word_changes g (sp - 1 - 1) high_enough.0)

  six : get_or (set m.regs 6 (sp - 1 - 1)) 6 0 ≡ sp - 1 - 1
  six = get_or-set_same m.regs 6 (sp - 1 - 1) 0 (omega (arith, eight))

  pc_there : get_or suspended (sp - 1 - 1) 0 ≡ m.pc
  pc_there =
      get_or-set_same (set mem (sp - 1) m.psr) (sp - 1 - 1) m.pc 0
      (omega (arith, length-set mem (sp - 1) m.psr, words.size))

  psr_there : get_or suspended (sp - 1) 0 ≡ m.psr
  psr_there =
      let h = high_enough.1 in
      get_or-set_other (set mem (sp - 1) m.psr) (sp - 1 - 1) (sp - 1) m.pc 0 (λ e. absurd (omega arith))
      ∙ get_or-set_same mem (sp - 1) m.psr 0 (omega (arith, words.size))

  up_one : next (sp - 1 - 1) ≡ sp - 1
  up_one = omega (arith, high_enough.1)

  up_two : next (sp - 1) ≡ sp
  up_two = omega (arith, high_enough.1)

  regs_back : set (set m.regs 6 (sp - 1 - 1)) 6 sp ≡ m.regs
  regs_back = set-set m.regs 6 (sp - 1 - 1) sp ∙ set-get_or m.regs 6 0

  -- The RTI brings back what was suspended.
  brings_back : (to psr : ℕ) → popped (entered to psr) suspended ≡ with_psr (defined_psr m.psr) (core_of m)
  brings_back to psr = rw (six, up_one, pc_there, psr_there, up_two, regs_back)

  down_one : before sp ≡ sp - 1
  down_one = omega (arith, high_enough.1)

  down_two : before (sp - 1) ≡ sp - 1 - 1
  down_two = omega (arith, high_enough.1)

  interrupts : (priority low : ℕ) (Under : Core → List ℕ → Type 0) (to psr : ℕ)
      → cell_at (cells_of g) to ≡ fixed 0x8000 → psr < 0x8000
      → priority ≤ priority_of psr → low ≤ sp - 1 - 1
      → Under (with_psr (defined_psr m.psr) (core_of m)) suspended
      → InReturn g.claim priority low Under (entered to psr) suspended
  interrupts priority low Under to psr z l p f u = record {
    memory = suspended_words;
    eight = length-set m.regs 6 (sp - 1 - 1) ∙ eight;
    supervisor = l;
    priority_is = p;
    at = z;
    from = rw six f;
    below = rw six (omega arith);
    back_in_supervisor = rw (six, up_one, psr_there) (same_mode m.psr sup);
    under = rw (brings_back to psr) u;
  }

  -- The entry itself, by either device.
  entry_keeps : (vector psr : ℕ) → lowest g ≤ sp - 1 - 1 → Disabled g.enabled m.devices
      → (l : LeadsBack g.claim vector) → Stands g (entered l.entry.to psr) suspended
      → OutcomeKeeps g (entry (interrupt vector) m.pc psr m mem)
  unfolding entry pushed after_entry stack_pointer_on_entry
  entry_keeps vector psr low q l s =
      let h = high_enough.1 in
      rw (
        supervisor_mode_lem m.psr sup,
        down_one,
        down_two,
        suspended_words.intact vector l.entry.to
            l.entry.word,
      )
      (record {
        reads = (fixed_word_is_open g vector l.entry.to l.entry.word, tt);
        writes = (
          stack_word_is_open g (sp - 1) (omega arith) (omega arith),
          (stack_word_is_open g (sp - 1 - 1) (omega arith) (omega arith), tt),
        );
        invariant = record { disabled = q; stands = s };
      })

-- ---- the lone RTI

back_keeps : (g : Setting) (priority low : ℕ) (Under : Core → List ℕ → Type 0) (m : Machine) (mem : List ℕ)
    → lowest g ≤ low → Disabled g.enabled m.devices → ((c : Core) → Under c mem → Stands g c mem)
    → InReturn g.claim priority low Under (core_of m) mem → OutcomeKeeps g (obeyed m mem)
unfolding obeyed_by read_of plan_by perform_by return Return.popped after_return
back_keeps g priority low Under m mem f q stands b =
    let sp : ℕ = get_or m.regs 6 0 in
    let from : low ≤ get_or m.regs 6 0 = b.from in
    let below : get_or m.regs 6 0 ≤ 0x2FFC = b.below in
    let n : next (get_or m.regs 6 0) ≡ get_or m.regs 6 0 + 1 = omega arith in
    rw (allowed_in_supervisor_mode m.psr b.supervisor m.pc, b.memory.intact m.pc 0x8000 b.at)
    (keeps_reads g (m.pc ∷ []) _ (fixed_word_is_open g m.pc 0x8000 b.at, tt)
    (rw (supervisor_mode_lem m.psr b.supervisor, supervisor_mode_lem _ b.back_in_supervisor)
    (record {
      reads = (
        stack_word_is_open g sp (omega arith) (omega arith),
        (stack_word_is_open g (next sp) (omega arith) (omega arith), tt),
      );
      writes = tt;
      invariant = record { disabled = q; stands = stands (popped (core_of m) mem) b.under };
    })))

-- ---- the step

-- The priority of a device that may interrupt.
abbrev DuePriority : Enabled → ℕ → Type 0
DuePriority e p = ((p ≡ 4) × (e.keyboard ≡ true)) ⊎ ((p ≡ 6) × (e.timer ≡ true))

-- An interrupt that is due.
record Due (g : Setting) (m : Machine) (vector priority : ℕ) : Type 0 where
  leads : LeadsBack g.claim vector
  kind : DuePriority g.enabled priority
  above : priority_of m.psr < priority

priority_set : (psr p : ℕ) → (psr % 256 + p % 8 * 256) / 256 % 8 ≡ p % 8
priority_set psr p = go (psr % 256) (p % 8) (omega arith) (omega arith)
  where
    go : (x y : ℕ) → x < 256 → y < 8 → (x + y * 256) / 256 % 8 ≡ y
    go x y h l = omega arith

mode_set : (psr p : ℕ) → psr % 256 + p % 8 * 256 < 0x8000
mode_set psr p = omega arith

four_or_six : (enabled : Enabled) (p : ℕ) → DuePriority enabled p
    → (lowest_priority enabled ≤ p) × (2 ≤ pushed_in enabled) × (p ≤ 6)
four_or_six enabled p (inl d) = rw d.1 (omega arith)
four_or_six enabled p (inr d) = rw d.1 (go enabled.keyboard)
  where
    go : (k : Bool) → (cond k 4 6 ≤ p) × (2 ≤ cond k 2 0 + 2) × (p ≤ 6)
    go true = omega (arith, d.0)
    go false = omega (arith, d.0)

new_priority : (enabled : Enabled) (psr p : ℕ) → DuePriority enabled p → priority_of (psr % 256 + p % 8 * 256) ≡ p
new_priority enabled psr p d =
    let b = four_or_six enabled p d in
    priority_set psr p ∙ omega (arith, b.2)

-- An interrupt of an interrupt is the timer's of the keyboard's.
nested : (enabled : Enabled) (p x : ℕ) → DuePriority enabled p → lowest_priority enabled ≤ x → x < p
    → (enabled ≡ both_devices) × (6 ≤ p)
nested enabled p x (inl d) l h = absurd (omega (arith, d.0, rw d.1 at l))
nested enabled p x (inr d) l h = go enabled.keyboard refl l
  where
    go : (k : Bool) → enabled.keyboard ≡ k → cond k 4 6 ≤ x → (enabled ≡ both_devices) × (6 ≤ p)
    go true e l = (
      ap (λ (k : Bool). record { keyboard = k; timer = enabled.timer }) e
          ∙ ap (λ (t : Bool). record { keyboard = true; timer = t }) d.1,
      omega (arith, d.0),
    )
    go false e l = absurd (omega (arith, d.0))

module _ (g : Setting) (m : Machine) (mem : List ℕ) (q : Disabled g.enabled m.devices) where
  interrupted_keeps : (vector priority : ℕ) → Due g m vector priority → Stands g (core_of m) mem
      → OutcomeKeeps g (interrupted vector priority m mem)
  unfolding interrupted
  interrupted_keeps vector priority d (in_user_mode_lem s) =
      enters g m mem q s (interrupt vector) m.pc _ d.leads.entry (mode_set m.psr priority)
  interrupted_keeps vector priority d (in_routine r) =
      let b = stack_of_routine g (core_of m) mem r in
      let psr : ℕ = m.psr % 256 + priority % 8 * 256 in
      let k = r.known in
      let deep : 2 ≤ pushed_in g.enabled = (four_or_six g.enabled priority d.kind).1 in
      let cells = (bounds g).cells_deep in
      let at : g.claim.lowest ≤ get_or m.regs 6 0 = omega (arith, b.0.from, b.1) in
      let from : g.claim.lowest - 2 ≤ get_or m.regs 6 0 = omega arith in
      let below : get_or m.regs 6 0 ≤ 0x2FFE = omega (arith, b.0.below, b.1) in
      let room : g.claim.lowest - 2 ≤ get_or m.regs 6 0 - 1 - 1 = omega arith in
      entry_keeps g m mem k.memory k.eight k.supervisor from below vector psr (omega arith) q d.leads
      (interrupted_once deep
      (interrupts g m mem k.memory k.eight k.supervisor from below (lowest_priority g.enabled)
      (g.claim.lowest - 2) (InRoutine g.claim) d.leads.entry.to psr d.leads.lone
      (mode_set m.psr priority)
      (rw (new_priority g.enabled m.psr priority d.kind) (four_or_six g.enabled priority d.kind).0) room
      (routine_stays g r (defined_psr m.psr) _ _ _ _ (same_mode m.psr k.supervisor) (same_codes m.psr)
      (omega arith) (omega arith) (omega arith) (omega arith))))
  interrupted_keeps vector priority d (interrupted_once o b) =
      let psr : ℕ = m.psr % 256 + priority % 8 * 256 in
      let from : g.claim.lowest - 2 ≤ get_or m.regs 6 0 = b.from in
      let top : get_or m.regs 6 0 ≤ 0x2FFC = b.below in
      let below : get_or m.regs 6 0 ≤ 0x2FFE = omega arith in
      let cells = (bounds g).cells_deep in
      let n = nested g.enabled priority (priority_of m.psr) d.kind b.priority_is d.above in
      let low : lowest g ≡ g.claim.lowest - 4 = ap (λ (o : Enabled). g.claim.lowest - pushed_in o) n.0 in
      let room : g.claim.lowest - 4 ≤ get_or m.regs 6 0 - 1 - 1 = omega arith in
      entry_keeps g m mem b.memory b.eight b.supervisor from below vector psr (omega arith) q d.leads
      (interrupted_twice n.0
      (interrupts g m mem b.memory b.eight b.supervisor from below 6 (g.claim.lowest - 4)
      (InterruptedOnce g.claim both_devices) d.leads.entry.to psr d.leads.lone
      (mode_set m.psr priority)
      (rw (new_priority g.enabled m.psr priority d.kind) n.1)
      room
      (return_stays g both_devices (subst (λ (o : Enabled). InterruptedOnce g.claim o (core_of m) mem) n.0 b)
      (defined_psr m.psr) _ _ _ _ (same_mode m.psr b.supervisor) (same_priority m.psr)
      (omega arith) (omega arith) (omega arith) (omega arith))))
  interrupted_keeps vector priority d (interrupted_twice e b) =
      absurd (omega (arith, b.priority_is, d.above, (four_or_six g.enabled priority d.kind).2))

  obeyed_keeps : Stands g (core_of m) mem → OutcomeKeeps g (obeyed m mem)
  obeyed_keeps (in_user_mode_lem s) = user_keeps g m mem q s
  obeyed_keeps (in_routine r) = routine_keeps g m mem q r
  obeyed_keeps (interrupted_once o b) =
      back_keeps g (lowest_priority g.enabled) (g.claim.lowest - 2) (InRoutine g.claim) m mem (omega arith) q
      (λ c r. in_routine r) b
  obeyed_keeps (interrupted_twice e b) =
      let low : pushed_in g.enabled ≡ 4 = ap pushed_in e in
      back_keeps g 6 (g.claim.lowest - 4) (InterruptedOnce g.claim both_devices) m mem (omega arith) q
      (λ c r. interrupted_once (omega arith) (subst (λ (o : Enabled). InterruptedOnce g.claim o c mem) (sym e) r)) b

  -- A device whose ready and enable bits are set is enabled.
  may_interrupt_lem : (e : Bool) (status : ℕ) → (e ≡ false → CannotInterrupt status) → 0xC000 ≤ status → e ≡ true
  may_interrupt_lem true status h l = refl
  may_interrupt_lem false status h l = absurd (omega (arith, (h refl).1))

  taken_or_obeyed : Stands g (core_of m) mem
      → OutcomeKeeps g (interrupted_or_obeyed (pending_interrupt m) m mem)
  unfolding pending_interrupt interrupted_or_obeyed_by
  taken_or_obeyed s = go (timer_may_interrupt m) refl (keyboard_may_interrupt m) refl
    where
      go : (t : Bool) → timer_may_interrupt m ≡ t → (k : Bool) → keyboard_may_interrupt m ≡ k
          → OutcomeKeeps g (interrupted_or_obeyed (cond t (Some timer_interrupt)
          (cond k (Some keyboard_interrupt) None)) m mem)
      go true e k f =
          let b = both_true (leb 0xC000 m.devices.timer_status) (ltb (priority_of m.psr) timer_priority) e in
          interrupted_keeps timer_vector timer_priority
          (record {
            leads = timer_leads g.claim g.passed;
            kind = inr (refl, may_interrupt_lem g.enabled.timer _ q.1 (leb-true 0xC000 _ b.0));
            above = ltb-true (priority_of m.psr) timer_priority b.1;
          })
          s
      go false e true f =
          let b = both_true (leb 0xC000 m.devices.kbsr) (ltb (priority_of m.psr) keyboard_priority) f in
          interrupted_keeps keyboard_vector keyboard_priority
          (record {
            leads = keyboard_leads g.claim g.passed;
            kind = inl (refl, may_interrupt_lem g.enabled.keyboard _ q.0 (leb-true 0xC000 _ b.0));
            above = ltb-true (priority_of m.psr) keyboard_priority b.1;
          })
          s
      go false e false f = obeyed_keeps s

-- Every step keeps the invariant, and touches no secret word.
pub step_keeps : (g : Setting) (keys : List ℕ) (m : Machine) (mem : List ℕ) → Invariant g m mem
    → OutcomeKeeps g (step_of keys m mem)
unfolding step_by
step_keeps g keys m mem i =
    let n : Machine = after_start keys m in
    let j = started g keys m mem i in
    keeps_ended g (interrupted_or_obeyed (pending_interrupt n) n mem)
    (taken_or_obeyed g n mem j.disabled j.stands)
