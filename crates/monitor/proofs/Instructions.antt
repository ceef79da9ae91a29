-- One step of a routine in Supervisor mode, computed: what the instruction at PC makes of a view, whether it may, and
-- that the run then stands there. So a stretch of a routine is checked by computing.
use Prim.Native.Nat.{ℕ, zero, suc, ◌+◌, ◌-◌, ◌*◌, ◌/◌, ◌%◌, ◌≤◌, ◌<◌}
use native.Mathlib.Nat.{add-zero}
use native.Mathlib.Numerals.{add-one}
use native.Mathlib.Omega.{arith}
use mathlib.Core.Path.{◌≡◌, refl, sym, ap, subst, ◌∙◌}
use mathlib.Core.Bool.{Bool, true, false, cond, not, ◌&&◌, ◌||◌, true≢false}
use mathlib.Core.List.{List, [], ◌∷◌, ◌++◌}
use borrow.Author.Tests.{lt-leb, leb-true, ltb-true, eqb-true, eq-eqb}
use lib.Dec.{eqb, leb, ltb}
use lib.IntN.{ℤ, pos, negsuc}
use lib.ListN.{length, get_or, set, drop, length-append, length-drop, length-set}
use lib.Seq.{drop-cons, set-append_seam, append_snoc, get_or-set_same, get_or-set_other}
use Rattle.word.specs.Reading.{read_of}
use Rattle.word.specs.declared.Instruction.{Instruction}
use Rattle.word.specs.declared.Instruction.TheVariants.{Br, AddRegister, AddImmediate, Ld, St, Jsr, Jsrr, AndRegister}
use Rattle.word.specs.declared.Instruction.TheVariants.{AndImmediate, Ldr, Str, Rti, Not, Ldi, Sti, Jmp, Reserved, Lea}
use Rattle.word.specs.declared.Instruction.TheVariants.{Trap}
use Rattle.machine.specs.declared.Machine.{Machine}
use Rattle.machine.specs.declared.Devices.{Devices}
use Rattle.machine.specs.declared.Plan.{Plan}
use Rattle.machine.specs.declared.Plan.TheVariants.{Move, Put, Jump, Load, LoadBy, Store, StoreBy, Call, Illegal}
use Rattle.machine.specs.declared.Plan.TheVariants.{Return}
use Rattle.machine.specs.Words.{next, plus, register, with_register, and_bits}
use Rattle.machine.specs.Psr.{codes_of, recoded, is_taken}
use Rattle.machine.specs.Outcome.{Outcome, with_reads, after_instruction}
use Rattle.machine.specs.Protection.{denied}
use Rattle.machine.specs.Devices.{DSR, DDR, MCR, is_device_by, display_is_ready, display_status}
use Rattle.machine.specs.Devices.{lent_word, device_value, loaded_value_by, kbsr_after_load, timer_status_after_load}
use Rattle.machine.specs.Devices.{after_load}
use Rattle.machine.specs.Devices.{ddr_store, mcr_store, device_store, stored_by}
use Rattle.machine.specs.Access.{load_to_by, load_to, store_at_by, store_at, by_pointer}
use Rattle.machine.specs.Plan.{plan_by, plan_of}
use Rattle.machine.specs.Step.{perform_by, perform, obeyed_by, obeyed, busy_after}
use Rattle.machine.proofs.StepLaws.{codes_of_below}
use Rattle.machine.proofs.Tests.{both_true}
use Rattle.run.specs.Run.{Start, with_shown, shows_byte}
use Rattle.lent.specs.Lent.{written_over}
use Rattle.monitor.specs.Routines.{routine_words}
use Rattle.monitor.specs.Calls.{StackApart}
use Rattle.monitor.proofs.Modes.{plain_word, after_plain_load, always_taken, allowed_in_supervisor_mode}
use Rattle.monitor.proofs.Modes.{by_plain_pointer}
use Rattle.monitor.proofs.Execution.{Frame, Known, these, from, codes_number, Cell, cell, View, psr_at, memory_at}
use Rattle.monitor.proofs.Execution.{machine_at, Gives, Shows, advance, Quiet, Leads}
use Rattle.monitor.proofs.Execution.{leads_by_one, then, no_step}
use Rattle.monitor.proofs.Intact.{Intact, cells_fine, word_at, word_with, word_with_lem, slot_at, slot_with_lem}

-- ---- the plan

-- BRnzp, which is taken whatever value the codes were set from.
abbrev pub tests_all : Instruction → Bool
tests_all (Br mask n) = eqb mask 7
tests_all (AddRegister d a b) = false
tests_all (AddImmediate d a n) = false
tests_all (Ld d n) = false
tests_all (St s n) = false
tests_all (Jsr n) = false
tests_all (Jsrr b) = false
tests_all (AndRegister d a b) = false
tests_all (AndImmediate d a n) = false
tests_all (Ldr d b n) = false
tests_all (Str s b n) = false
tests_all Rti = false
tests_all (Not d a) = false
tests_all (Ldi d n) = false
tests_all (Sti s n) = false
tests_all (Jmp b) = false
tests_all (Reserved low) = false
tests_all (Lea d n) = false
tests_all (Trap vector) = false

-- The codes that the plan is made with: BR looks at nothing else of the PSR.
abbrev pub codes_for : Known → Instruction → ℕ
codes_for (these c) i = c % 8
codes_for (from x) i = cond (tests_all i) 1 (codes_of x)

-- The plan of the instruction at PC.
unfoldable pub plan_at : Frame → View → Plan
plan_at f v =
    let i = read_of (word_at f v v.pc) in
    plan_of v.regs v.pc (codes_for v.codes i) i

pub codes_below : (c : Known) → codes_number c < 8
codes_below (these c) = omega arith
codes_below (from x) = codes_of_below x

same_branch : (mask h c : ℕ) → c < 8 → is_taken mask (h * 8 + c) ≡ is_taken mask c
unfolding is_taken
same_branch mask h c l =
    let p : (h * 8 + c) % 8 ≡ c = omega arith in
    let q : c % 8 ≡ c = omega arith in
    rw (p, q)

taken_alike : (h : ℕ) (c : Known) (mask : ℕ) (i : Instruction) → tests_all i ≡ eqb mask 7
    → is_taken mask (h * 8 + codes_number c) ≡ is_taken mask (codes_for c i)
unfolding is_taken and_bits
taken_alike h (these c) mask i e = same_branch mask h (c % 8) (omega arith)
taken_alike h (from x) mask i e = same_branch mask h (codes_of x) (codes_of_below x) ∙ go (eqb mask 7) refl e
  where
    go : (b : Bool) → eqb mask 7 ≡ b → tests_all i ≡ b → is_taken mask (codes_of x)
        ≡ is_taken mask (cond (tests_all i) 1
        (codes_of x))
    go true p q =
        let z : mask ≡ 7 = eqb-true mask 7 p in
        rw (q, z) (always_taken x (codes_of x) (omega (arith, codes_of_below x)))
    go false p q = rw q

same_plan : (regs : List ℕ) (pc h : ℕ) (c : Known) (i : Instruction)
    → plan_of regs pc (h * 8 + codes_number c) i ≡ plan_of regs pc (codes_for c i) i
unfolding plan_by
same_plan regs pc h c (Br mask n) = rw (taken_alike h c mask (Br mask n) refl)
same_plan regs pc h c (AddRegister d a b) = refl
same_plan regs pc h c (AddImmediate d a n) = refl
same_plan regs pc h c (Ld d n) = refl
same_plan regs pc h c (St s n) = refl
same_plan regs pc h c (Jsr n) = refl
same_plan regs pc h c (Jsrr b) = refl
same_plan regs pc h c (AndRegister d a b) = refl
same_plan regs pc h c (AndImmediate d a n) = refl
same_plan regs pc h c (Ldr d b n) = refl
same_plan regs pc h c (Str s b n) = refl
same_plan regs pc h c Rti = refl
same_plan regs pc h c (Not d a) = refl
same_plan regs pc h c (Ldi d n) = refl
same_plan regs pc h c (Sti s n) = refl
same_plan regs pc h c (Jmp b) = refl
same_plan regs pc h c (Reserved low) = refl
same_plan regs pc h c (Lea d n) = refl
same_plan regs pc h c (Trap vector) = refl

-- ---- what a plan makes of a view

-- Other registers, PC, codes and words stored, and the display's count one less; all else stays.
abbrev pub changed : View → List ℕ → ℕ → Known → List Cell → View
changed v regs pc codes cells = record {
  regs = regs;
  pc = pc;
  codes = codes;
  cells = cells;
  depth = v.depth;
  bytes = v.bytes;
  busy = v.busy - 1;
  mcr = v.mcr;
  read = v.read;
  status = v.status;
}

-- At Next, with a byte shown.
abbrev pub showing : View → ℕ → View
showing v b = record {
  regs = v.regs;
  pc = next v.pc;
  codes = v.codes;
  cells = v.cells;
  depth = v.depth;
  bytes = v.bytes ++ b ∷ [];
  busy = 8;
  mcr = v.mcr;
  read = v.read;
  status = v.status;
}

-- At Next, with this stored to MCR.
abbrev pub clocked : View → ℕ → View
clocked v x = record {
  regs = v.regs;
  pc = next v.pc;
  codes = v.codes;
  cells = v.cells;
  depth = v.depth;
  bytes = v.bytes;
  busy = v.busy - 1;
  mcr = x / 0x8000 * 0x8000;
  read = v.read;
  status = v.status;
}

-- A value to a register, and the codes from it.
abbrev pub valued : View → ℕ → ℕ → ℕ → View
valued v r x pc = changed v (with_register v.regs r x) pc (from x) v.cells

abbrev pub display_at : View → ℕ
display_at v = cond (eqb v.busy 0) 0x8000 0

abbrev pub performed : Frame → View → Plan → View
performed f v (Move r x pc) = valued v r x pc
performed f v (Put r x pc) = changed v (with_register v.regs r x) pc v.codes v.cells
performed f v (Jump pc) = changed v v.regs pc v.codes v.cells
performed f v (Load r a) = valued v r (word_at f v a) (next v.pc)
performed f v (LoadBy r a) = valued v r (display_at v) (next v.pc)
performed f v (Store x a) = v
performed f v (StoreBy x a) = cond (eqb (word_at f v a) MCR) (clocked v x) (showing v (x % 256))
performed f v (Call vector) = v
performed f v Illegal = v
performed f v Return = v

-- A plain word.
abbrev pub is_plain : ℕ → Bool
is_plain a = ltb a 0xFE00

-- It loads plain words and DSR, and stores to MCR, and to DDR where the display is ready and the output has this room.
abbrev pub may_perform : Frame → View → ℕ → Plan → Bool
may_perform f v room (Move r x pc) = true
may_perform f v room (Put r x pc) = true
may_perform f v room (Jump pc) = true
may_perform f v room (Load r a) = is_plain a
may_perform f v room (LoadBy r a) = is_plain a && eqb (word_at f v a) DSR
may_perform f v room (Store x a) = false
may_perform f v room (StoreBy x a) =
    is_plain a
    && (eqb (word_at f v a) MCR
    || eqb (word_at f v a) DDR && (eqb v.busy 0 && ltb (length v.bytes) room))
may_perform f v room (Call vector) = false
may_perform f v room Illegal = false
may_perform f v room Return = false

-- ---- the stack

-- What an instruction does with the stack: it loads register r from the word at R6 plus n, or stores r there; it adds n
-- to R6; it loads R6 from the word at Next plus n; or none of these.
pub data Use : Type 0 where
  loads_slot : ℕ → ℤ → Use
  stores_slot : ℕ → ℤ → Use
  moves_stack : ℤ → Use
  leaves_stack : ℤ → Use
  elsewhere : Use

abbrev pub use_of : Instruction → Use
use_of (Br mask n) = elsewhere
use_of (AddRegister d a b) = elsewhere
use_of (AddImmediate d a n) = cond (eqb d 6 && eqb a 6) (moves_stack n) elsewhere
use_of (Ld d n) = cond (eqb d 6) (leaves_stack n) elsewhere
use_of (St s n) = elsewhere
use_of (Jsr n) = elsewhere
use_of (Jsrr b) = elsewhere
use_of (AndRegister d a b) = elsewhere
use_of (AndImmediate d a n) = elsewhere
use_of (Ldr d b n) = cond (eqb b 6) (loads_slot d n) elsewhere
use_of (Str s b n) = cond (eqb b 6) (stores_slot s n) elsewhere
use_of Rti = elsewhere
use_of (Not d a) = elsewhere
use_of (Ldi d n) = elsewhere
use_of (Sti s n) = elsewhere
use_of (Jmp b) = elsewhere
use_of (Reserved low) = elsewhere
use_of (Lea d n) = elsewhere
use_of (Trap vector) = elsewhere

-- How far below the stack's beginning the word at R6 plus n is.
abbrev pub slot_of : ℕ → ℤ → ℕ
slot_of depth (pos n) = depth - n
slot_of depth (negsuc n) = depth + suc n

-- R6 is this, and so far below the stack's beginning.
abbrev pub deeper : View → ℕ → View
deeper v depth = record {
  regs = v.regs;
  pc = v.pc;
  codes = v.codes;
  cells = v.cells;
  depth = depth;
  bytes = v.bytes;
  busy = v.busy;
  mcr = v.mcr;
  read = v.read;
  status = v.status;
}

abbrev pub used : Frame → View → Use → View
used f v (loads_slot r n) = valued v r (slot_at f v (slot_of v.depth n)) (next v.pc)
used f v (stores_slot r n) =
    changed v v.regs (next v.pc) v.codes (cell (slot_of v.depth n) (register v.regs r) ∷ v.cells)
used f v (moves_stack n) =
    deeper (valued v 6 (f.sp - slot_of v.depth n) (next v.pc)) (slot_of v.depth n)
used f v (leaves_stack n) = deeper (valued v 6 (word_at f v (plus (next v.pc) n)) (next v.pc)) 0
used f v elsewhere = performed f v (plan_at f v)

-- The words of the stack that are in use, and that one, are among those that there are.
abbrev pub on_stack : Frame → View → ℤ → Bool
on_stack f v n =
    (leb 1 v.depth && leb v.depth f.words)
    && (leb 1 (slot_of v.depth n) && leb (slot_of v.depth n) f.words)

-- R6 stays.
abbrev pub is_other : ℕ → Bool
is_other r = not (eqb (r % 8) 6)

abbrev pub keeps_six : Plan → Bool
keeps_six (Move r x pc) = is_other r
keeps_six (Put r x pc) = is_other r
keeps_six (Jump pc) = true
keeps_six (Load r a) = is_other r
keeps_six (LoadBy r a) = is_other r
keeps_six (Store x a) = true
keeps_six (StoreBy x a) = true
keeps_six (Call vector) = true
keeps_six Illegal = true
keeps_six Return = true

abbrev pub may_use : Frame → View → ℕ → Use → Bool
may_use f v room (loads_slot r n) = is_other r && on_stack f v n
may_use f v room (stores_slot r n) = on_stack f v n
may_use f v room (moves_stack n) = on_stack f v n
may_use f v room (leaves_stack n) = is_plain (plus (next v.pc) n)
may_use f v room elsewhere = keeps_six (plan_at f v) && may_perform f v room (plan_at f v)

abbrev pub use_at : Frame → View → Use
use_at f v = use_of (read_of (word_at f v v.pc))

unfoldable pub stepped : Frame → View → View
unfolding plan_at
stepped f v = used f v (use_at f v)

unfoldable pub may_step : Frame → ℕ → View → Bool
unfolding plan_at
may_step f room v = eqb v.mcr 0x8000 && (cells_fine f.words v.cells && may_use f v room (use_at f v))

-- The plan of an instruction that uses the stack.
abbrev pub PlanIs : Use → List ℕ → ℕ → Plan → Type 0
PlanIs (loads_slot r n) regs pc plan = plan ≡ Load r (plus (register regs 6) n)
PlanIs (stores_slot r n) regs pc plan = plan ≡ Store (register regs r) (plus (register regs 6) n)
PlanIs (moves_stack n) regs pc plan = plan ≡ Move 6 (plus (register regs 6) n) (next pc)
PlanIs (leaves_stack n) regs pc plan = plan ≡ Load 6 (plus (next pc) n)
PlanIs elsewhere regs pc plan = Unit {0}

pub plan_by_use : (regs : List ℕ) (pc c : ℕ) (i : Instruction) → PlanIs (use_of i) regs pc (plan_of regs pc c i)
unfolding plan_by
plan_by_use regs pc c (Br mask n) = tt
plan_by_use regs pc c (AddRegister d a b) = tt
plan_by_use regs pc c (AddImmediate d a n) = go (eqb d 6 && eqb a 6) refl
  where
    go : (t : Bool) → (eqb d 6 && eqb a 6) ≡ t
        → PlanIs (cond t (moves_stack n) elsewhere) regs pc (Move d (plus (register regs a) n) (next pc))
    go true e =
        let both = both_true (eqb d 6) (eqb a 6) e in
        let y : d ≡ 6 = eqb-true d 6 both.0 in
        let z : a ≡ 6 = eqb-true a 6 both.1 in
        rw (y, z)
    go false e = tt
plan_by_use regs pc c (Ld d n) = go (eqb d 6) refl
  where
    go : (t : Bool) → eqb d 6 ≡ t → PlanIs (cond t (leaves_stack n) elsewhere) regs pc (Load d (plus (next pc) n))
    go true e = let z : d ≡ 6 = eqb-true d 6 e in rw z
    go false e = tt
plan_by_use regs pc c (St s n) = tt
plan_by_use regs pc c (Jsr n) = tt
plan_by_use regs pc c (Jsrr b) = tt
plan_by_use regs pc c (AndRegister d a b) = tt
plan_by_use regs pc c (AndImmediate d a n) = tt
plan_by_use regs pc c (Ldr d b n) = go (eqb b 6) refl
  where
    go : (t : Bool) → eqb b 6 ≡ t
        → PlanIs (cond t (loads_slot d n) elsewhere) regs pc (Load d (plus (register regs b) n))
    go true e = let z : b ≡ 6 = eqb-true b 6 e in rw z
    go false e = tt
plan_by_use regs pc c (Str s b n) = go (eqb b 6) refl
  where
    go : (t : Bool) → eqb b 6 ≡ t
        → PlanIs (cond t (stores_slot s n) elsewhere) regs pc (Store (register regs s) (plus (register regs b) n))
    go true e = let z : b ≡ 6 = eqb-true b 6 e in rw z
    go false e = tt
plan_by_use regs pc c Rti = tt
plan_by_use regs pc c (Not d a) = tt
plan_by_use regs pc c (Ldi d n) = tt
plan_by_use regs pc c (Sti s n) = tt
plan_by_use regs pc c (Jmp b) = tt
plan_by_use regs pc c (Reserved low) = tt
plan_by_use regs pc c (Lea d n) = tt
plan_by_use regs pc c (Trap vector) = tt

-- The address is that word's.
slot_address : {words sp : ℕ} → StackApart words sp → (depth : ℕ) (n : ℤ) → depth ≤ words → 1 ≤ slot_of depth n
    → slot_of depth n ≤ words → plus (sp - depth) n ≡ sp - slot_of depth n
slot_address apart depth (pos n) few least most = omega (arith, apart.above_monitor, apart.below_devices)
slot_address apart depth (negsuc n) few least most = omega (arith, apart.above_monitor, apart.below_devices)

-- There are eight registers, and R6 is where the view says, among the words of the stack that there are.
pub record Kept (f : Frame) (v : View) : Type 0 where
  pub eight : length v.regs ≡ 8
  pub six : 0 < v.depth → get_or v.regs 6 0 ≡ f.sp - v.depth
  pub few : v.depth ≤ f.words

pub kept : {f : Frame} {v : View} → length v.regs ≡ 8 → get_or v.regs 6 0 ≡ f.sp - v.depth
    → leb v.depth f.words ≡ true → Kept f v
kept {f} {v} eight six few = record { eight = eight; six = λ h. six; few = leb-true v.depth f.words few }

-- ---- it is what the run does

recodes : (q c x : ℕ) → c < 8 → (q * 8 + c) / 8 * 8 + x ≡ q * 8 + x
recodes q c x h = omega arith

-- A routine runs in Supervisor mode, the words that it uses are in the memory that it found, and its stack is apart.
pub record Sound (f : Frame) : Type 0 where
  pub above : f.high < 4096
  pub intact : Intact f.uses f.memory
  pub stack : StackApart f.words f.sp

-- One more byte is written behind those written.
pub one_more_byte : (bytes output : List ℕ) (b : ℕ) → length bytes < length output
    → written_over (bytes ++ b ∷ []) output ≡ set (written_over bytes output) (length bytes) b
one_more_byte bytes output b l =
    let z : length (bytes ++ b ∷ []) ≡ suc (length bytes) = length-append bytes (b ∷ []) ∙ add-one (length bytes) in
    rw (z, drop-cons output (length bytes) 0 l)
    (append_snoc bytes b (drop (suc (length bytes)) output)
    ∙ sym (set-append_seam bytes (get_or output (length bytes) 0) (drop (suc (length bytes)) output) b))

full_length : (bytes output : List ℕ) → length bytes ≤ length output → length (written_over bytes output)
    ≡ length output
full_length bytes output l =
    length-append bytes (drop (length bytes) output)
    ∙ (let z = length-drop (length bytes) output in omega (arith, z))

pub silent : (f : Frame) (v v' : View) → v'.bytes ≡ v.bytes → v'.busy ≡ v.busy - 1 → Shows [] f f v v'
unfolding busy_after shows_byte with_shown
silent f v v' p q = record {
  counts = q;
  free = refl;
  output = rw p;
  shown = rw p (sym (add-zero (length v.bytes)));
}

loud : (f : Frame) (v : View) (b : ℕ) → length v.bytes < length f.output → Shows (b ∷ []) f f v (showing v b)
unfolding busy_after shows_byte with_shown
loud f v b l = record {
  counts = refl;
  free = rw (full_length v.bytes f.output (omega arith)) (lt-leb (length f.output) (length v.bytes) l);
  output = one_more_byte v.bytes f.output b l;
  shown = length-append v.bytes (b ∷ []);
}

module _ (f : Frame) (sound : Sound f) (v : View) (fine : cells_fine f.words v.cells ≡ true) where
  pub in_supervisor_mode_lem : psr_at f v < 0x8000
  in_supervisor_mode_lem = omega (arith, sound.above, codes_below v.codes)

  -- Supervisor mode may touch every address.
  pub all_allowed : (a : ℕ) → denied (psr_at f v) a ≡ false
  all_allowed a = allowed_in_supervisor_mode (psr_at f v) in_supervisor_mode_lem a

  pub word_is : (a : ℕ) → get_or (memory_at f v) a 0 ≡ word_at f v a
  word_is a = word_with_lem sound.intact sound.stack v.cells fine a

  pub slot_is : (i : ℕ) → 1 ≤ i → i ≤ f.words → word_at f v (f.sp - i) ≡ slot_at f v i
  slot_is i least most =
      sym (word_is (f.sp - i))
      ∙ slot_with_lem sound.stack f.memory sound.intact.size v.cells fine i least most

  pub plan_is : plan_of v.regs v.pc (psr_at f v) (read_of (get_or (memory_at f v) v.pc 0)) ≡ plan_at f v
  unfolding plan_at
  plan_is = rw (word_is v.pc) (same_plan v.regs v.pc f.high v.codes (read_of (word_at f v v.pc)))

  -- What a plan does from a view, whatever the devices and the clock hold.
  abbrev pub Performs : Plan → List ℕ → View → Type 0
  Performs plan bytes v' = (d : Devices) (t : ℕ)
      → Gives (perform plan (machine_at f v d t) (memory_at f v)) bytes v.busy f v' d t

  -- The instruction does what its plan does.
  pub obeys_plan_at : (bytes : List ℕ) (v' : View) (d d' : Devices) (t : ℕ)
      → Gives (perform (plan_at f v) (machine_at f v d t) (memory_at f v)) bytes v.busy f v' d' t
      → Gives (obeyed (machine_at f v d t) (memory_at f v)) bytes v.busy f v' d' t
  unfolding obeyed_by with_reads
  obeys_plan_at bytes v' d d' t g = record {
    machine = rw (all_allowed v.pc, plan_is) g.machine;
    memory = rw (all_allowed v.pc, plan_is) g.memory;
    shown = rw (all_allowed v.pc, plan_is) g.shown;
  }

  pub obeys_plan : (bytes : List ℕ) (v' : View) → Performs (plan_at f v) bytes v' → (d : Devices) (t : ℕ)
      → Gives (obeyed (machine_at f v d t) (memory_at f v)) bytes v.busy f v' d t
  obeys_plan bytes v' h d t = obeys_plan_at bytes v' d d t (h d t)

  pub recoded_is : (x : ℕ) → psr_at f v / 8 * 8 + x ≡ f.high * 8 + x
  recoded_is x = recodes f.high (codes_number v.codes) x (codes_below v.codes)

  moves : (r x pc : ℕ) → Performs (Move r x pc) [] (valued v r x pc)
  unfolding perform_by after_instruction recoded
  moves r x pc d t = record { machine = rw (recoded_is (codes_of x)); memory = refl; shown = refl }

  puts : (r x pc : ℕ) → Performs (Put r x pc) [] (changed v (with_register v.regs r x) pc v.codes v.cells)
  unfolding perform_by after_instruction recoded
  puts r x pc d t = record { machine = refl; memory = refl; shown = refl }

  jumps : (pc : ℕ) → Performs (Jump pc) [] (changed v v.regs pc v.codes v.cells)
  unfolding perform_by after_instruction recoded
  jumps pc d t = record { machine = refl; memory = refl; shown = refl }

  loads : (r b : ℕ) → b < 0xFE00 → Performs (Load r b) [] (valued v r (word_at f v b) (next v.pc))
  unfolding perform_by load_to_by after_instruction recoded loaded_value_by
  loads r b plain d t = record {
    machine = rw (
      all_allowed b,
      plain_word b plain,
      word_is b,
      after_plain_load b (machine_at f v d t) plain,
      recoded_is (codes_of (word_at f v b)),
    );
    memory = rw (all_allowed b);
    shown = rw (all_allowed b);
  }

  stores : (x i : ℕ) → f.sp - i < 0xFE00
      → Performs (Store x (f.sp - i)) [] (changed v v.regs (next v.pc) v.codes (cell i x ∷ v.cells))
  unfolding perform_by store_at_by after_instruction recoded stored_by
  stores x i plain d t = record {
    machine = rw (all_allowed (f.sp - i), plain_word (f.sp - i) plain);
    memory = rw (all_allowed (f.sp - i), plain_word (f.sp - i) plain);
    shown = rw (all_allowed (f.sp - i), plain_word (f.sp - i) plain);
  }

  -- What a view says of R6's place is no part of the machine.
  elsewhere_below : (plan : Plan) (v' : View) (depth : ℕ) → Performs plan [] v' → Performs plan [] (deeper v' depth)
  elsewhere_below plan v' depth g d t = record {
    machine = (g d t).machine;
    memory = (g d t).memory;
    shown = (g d t).shown;
  }

  -- A pointer that is a plain word.
  pub pointed : (b w : ℕ) (data-access : ℕ → Machine → List ℕ → Outcome) → b < 0xFE00 → word_at f v b ≡ w
      → (d : Devices) (t : ℕ)
      → by_pointer b data-access (machine_at f v d t) (memory_at f v)
      ≡ with_reads (lent_word b) (data-access w (machine_at f v d t) (memory_at f v))
  pointed b w data-access plain is d t =
      by_plain_pointer b data-access (machine_at f v d t) (memory_at f v) in_supervisor_mode_lem plain
      ∙ rw (word_is b, is)

  polls : (r b : ℕ) → b < 0xFE00 → word_at f v b ≡ DSR
      → Performs (LoadBy r b) [] (valued v r (display_at v) (next v.pc))
  unfolding perform_by with_reads load_to_by after_instruction recoded after_load loaded_value_by is_device_by
      kbsr_after_load
      timer_status_after_load device_value display_status display_is_ready
  polls r b plain w d t =
      let at = pointed b DSR (load_to r) plain w d t in
      record {
        machine = rw (at, all_allowed DSR, recoded_is (codes_of (display_at v)));
        memory = rw (at, all_allowed DSR);
        shown = rw (at, all_allowed DSR);
      }

  shows : (x b : ℕ) → b < 0xFE00 → word_at f v b ≡ DDR → v.busy ≡ 0
      → Performs (StoreBy x b) ((x % 256) ∷ []) (showing v (x % 256))
  unfolding perform_by with_reads store_at_by after_instruction recoded is_device_by stored_by device_store ddr_store
      display_is_ready
  shows x b plain w ready d t =
      let at = pointed b DDR (store_at x) plain w d t in
      record {
        machine = rw (at, all_allowed DDR);
        memory = rw (at, all_allowed DDR);
        shown = rw (at, all_allowed DDR, eq-eqb v.busy 0 ready);
      }

  clocks : (x b : ℕ) → b < 0xFE00 → word_at f v b ≡ MCR → Performs (StoreBy x b) [] (clocked v x)
  unfolding perform_by with_reads store_at_by after_instruction recoded is_device_by stored_by device_store mcr_store
  clocks x b plain w d t =
      let at = pointed b MCR (store_at x) plain w d t in
      record {
        machine = rw (at, all_allowed MCR);
        memory = rw (at, all_allowed MCR);
        shown = rw (at, all_allowed MCR);
      }

-- ---- one step, and several

-- A test of the stack, taken apart.
pub record OnStack (f : Frame) (v : View) (n : ℤ) : Type 0 where
  pub some : 0 < v.depth
  pub few : v.depth ≤ f.words
  pub least : 1 ≤ slot_of v.depth n
  pub most : slot_of v.depth n ≤ f.words

pub on_stack_lem : (f : Frame) (v : View) (n : ℤ) → on_stack f v n ≡ true → OnStack f v n
on_stack_lem f v n h =
    let i : ℕ = slot_of v.depth n in
    let outer = both_true (leb 1 v.depth && leb v.depth f.words) (leb 1 i && leb i f.words) h in
    let first = both_true (leb 1 v.depth) (leb v.depth f.words) outer.0 in
    let second = both_true (leb 1 i) (leb i f.words) outer.1 in
    record {
      some = leb-true 1 v.depth first.0;
      few = leb-true v.depth f.words first.1;
      least = leb-true 1 i second.0;
      most = leb-true i f.words second.1;
    }

not_six : (r : ℕ) → is_other r ≡ true → (6 ≡ r % 8 → ⊥)
not_six r h e = true≢false (sym h ∙ ap (λ (b : Bool). not b) (eq-eqb (r % 8) 6 (sym e)))

-- Another register than R6 changes.
pub other : (f : Frame) (v : View) → Kept f v → (r x : ℕ) → is_other r ≡ true → (v' : View)
    → v'.regs ≡ with_register v.regs r x → v'.depth ≡ v.depth → Kept f v'
other f v k r x h v' regs depth = record {
  eight = rw regs (length-set v.regs (r % 8) x ∙ k.eight);
  six = λ some. rw (regs, depth) (get_or-set_other v.regs (r % 8) 6 x 0 (not_six r h) ∙ k.six (rw depth at some));
  few = rw depth k.few;
}

-- None does.
pub same : (f : Frame) (v : View) → Kept f v → (v' : View) → v'.regs ≡ v.regs → v'.depth ≡ v.depth → Kept f v'
same f v k v' regs depth = record {
  eight = rw regs k.eight;
  six = λ some. rw (regs, depth) (k.six (rw depth at some));
  few = rw depth k.few;
}

-- R6 stays where the view says.
module _ (f : Frame) (room : ℕ) (v : View) (k : Kept f v) where
  by_plan_keeps : (plan : Plan) → keeps_six plan ≡ true → Kept f (performed f v plan)
  by_plan_keeps (Move r x pc) h = other f v k r x h (performed f v (Move r x pc)) refl refl
  by_plan_keeps (Put r x pc) h = other f v k r x h (performed f v (Put r x pc)) refl refl
  by_plan_keeps (Jump pc) h = same f v k (performed f v (Jump pc)) refl refl
  by_plan_keeps (Load r a) h = other f v k r (word_at f v a) h (performed f v (Load r a)) refl refl
  by_plan_keeps (LoadBy r a) h = other f v k r (display_at v) h (performed f v (LoadBy r a)) refl refl
  by_plan_keeps (Store x a) h = k
  by_plan_keeps (StoreBy x a) h = go (eqb (word_at f v a) MCR)
    where
      go : (b : Bool) → Kept f (cond b (clocked v x) (showing v (x % 256)))
      go true = same f v k (clocked v x) refl refl
      go false = same f v k (showing v (x % 256)) refl refl
  by_plan_keeps (Call vector) h = k
  by_plan_keeps Illegal h = k
  by_plan_keeps Return h = k

  by_use_keeps : (u : Use) → may_use f v room u ≡ true → Kept f (used f v u)
  by_use_keeps (loads_slot r n) may =
      other f v k r (slot_at f v (slot_of v.depth n)) (both_true (is_other r) (on_stack f v n) may).0
      (used f v (loads_slot r n)) refl refl
  by_use_keeps (stores_slot r n) may = same f v k (used f v (stores_slot r n)) refl refl
  by_use_keeps (moves_stack n) may = record {
    eight = length-set v.regs 6 (f.sp - slot_of v.depth n) ∙ k.eight;
    six = λ h. get_or-set_same v.regs 6 (f.sp - slot_of v.depth n) 0 (omega (arith, k.eight));
    few = (on_stack_lem f v n may).most;
  }
  by_use_keeps (leaves_stack n) may = record {
    eight = length-set v.regs 6 (word_at f v (plus (next v.pc) n)) ∙ k.eight;
    six = λ h. absurd (omega arith);
    few = omega arith;
  }
  by_use_keeps elsewhere may =
      by_plan_keeps (plan_at f v) (both_true (keeps_six (plan_at f v)) (may_perform f v room (plan_at f v)) may).0

  pub keeps_once : may_step f room v ≡ true → Kept f (stepped f v)
  unfolding stepped may_step plan_at
  keeps_once may =
      let outer = both_true (eqb v.mcr 0x8000) (cells_fine f.words v.cells && may_use f v room (use_at f v)) may
      in
      by_use_keeps (use_at f v) (both_true (cells_fine f.words v.cells) (may_use f v room (use_at f v)) outer.1).1

module _ {s : Start} {since bound : ℕ} (quiet : Quiet s since bound) (f : Frame) (sound : Sound f) (room : ℕ)
    (has_room : room ≤ length f.output) where
  silently : (v : View) → v.mcr ≡ 0x8000 → (fine : cells_fine f.words v.cells ≡ true) → (plan : Plan) (v' : View)
      → plan_at f v ≡ plan → v'.bytes ≡ v.bytes → v'.busy ≡ v.busy - 1 → v'.read ≡ v.read
      → v'.status ≡ v.status → Performs f sound v fine plan [] v' → Leads s since bound f v 1 f v'
  silently v going fine plan v' is p q r w h =
      leads_by_one quiet
      (λ k a still.
      advance a still going f v' [] (obeys_plan f sound v fine [] v' (rw is h)) (silent f v v' p q) r w)

  pub by_plan : (v : View) → v.mcr ≡ 0x8000 → cells_fine f.words v.cells ≡ true → (plan : Plan)
      → plan_at f v ≡ plan → may_perform f v room plan ≡ true → Leads s since bound f v 1 f (performed f v plan)
  by_plan v going fine plan is may = go plan is may
    where
      by_pointer_lem : (x b : ℕ) → plan_at f v ≡ StoreBy x b → b < 0xFE00 → (m : Bool) → eqb (word_at f v b) MCR ≡ m
          → (m || eqb (word_at f v b) DDR && (eqb v.busy 0 && ltb (length v.bytes) room)) ≡ true
          → Leads s since bound f v 1 f (cond m (clocked v x) (showing v (x % 256)))
      by_pointer_lem x b is plain true e may =
          silently v going fine (StoreBy x b) (clocked v x) is refl refl refl refl
          (clocks f sound v fine x b plain (eqb-true (word_at f v b) MCR e))
      by_pointer_lem x b is plain false e may =
          let outer = both_true (eqb (word_at f v b) DDR) (eqb v.busy 0 && ltb (length v.bytes) room) may in
          let inner = both_true (eqb v.busy 0) (ltb (length v.bytes) room) outer.1 in
          let free : length v.bytes < length f.output =
          omega (arith, has_room, ltb-true (length v.bytes) room inner.1) in
          leads_by_one quiet
          (λ k a still.
          advance a still going f (showing v (x % 256)) ((x % 256) ∷ [])
          (obeys_plan f sound v fine ((x % 256) ∷ []) (showing v (x % 256))
          (rw is
          (shows f sound v fine x b plain (eqb-true (word_at f v b) DDR outer.0) (eqb-true v.busy 0 inner.0))))
          (loud f v (x % 256) free) refl refl)

      go : (plan : Plan) → plan_at f v ≡ plan → may_perform f v room plan ≡ true
          → Leads s since bound f v 1 f (performed f v plan)
      go (Move r x pc) is may =
          silently v going fine (Move r x pc) (valued v r x pc) is refl refl refl refl (moves f sound v fine r x pc)
      go (Put r x pc) is may =
          silently v going fine (Put r x pc) (changed v (with_register v.regs r x) pc v.codes v.cells) is refl
          refl refl refl (puts f sound v fine r x pc)
      go (Jump pc) is may =
          silently v going fine (Jump pc) (changed v v.regs pc v.codes v.cells) is refl refl refl refl
          (jumps f sound v fine pc)
      go (Load r a) is may =
          silently v going fine (Load r a) (valued v r (word_at f v a) (next v.pc)) is refl refl refl refl
          (loads f sound v fine r a (ltb-true a 0xFE00 may))
      go (LoadBy r a) is may =
          let both = both_true (is_plain a) (eqb (word_at f v a) DSR) may in
          silently v going fine (LoadBy r a) (valued v r (display_at v) (next v.pc)) is refl refl refl refl
          (polls f sound v fine r a (ltb-true a 0xFE00 both.0) (eqb-true (word_at f v a) DSR both.1))
      go (Store x a) is may = absurd (true≢false (sym may))
      go (StoreBy x a) is may =
          let both = both_true (is_plain a)
          (eqb (word_at f v a) MCR || eqb (word_at f v a) DDR && (eqb v.busy 0 && ltb (length v.bytes) room)) may in
          by_pointer_lem x a is (ltb-true a 0xFE00 both.0) (eqb (word_at f v a) MCR) refl both.1
      go (Call vector) is may = absurd (true≢false (sym may))
      go Illegal is may = absurd (true≢false (sym may))
      go Return is may = absurd (true≢false (sym may))

  -- A step that uses the stack, or one that does not.
  module _ (v : View) (going : v.mcr ≡ 0x8000) (fine : cells_fine f.words v.cells ≡ true) (k : Kept f v) where
    abbrev slot : ℤ → ℕ
    slot n = slot_of v.depth n

    address : (n : ℤ) → OnStack f v n → plus (register v.regs 6) n ≡ f.sp - slot n
    address n o =
        ap (λ (x : ℕ). plus x n) (k.six o.some)
        ∙ slot_address sound.stack v.depth n o.few o.least o.most

    plain : (n : ℤ) → OnStack f v n → f.sp - slot n < 0xFE00
    plain n o = omega (arith, sound.stack.above_monitor, sound.stack.below_devices, o.least, o.most)

    pub by_use : (u : Use) → PlanIs u v.regs v.pc (plan_at f v) → may_use f v room u ≡ true
        → Leads s since bound f v 1 f (used f v u)
    by_use (loads_slot r n) is may =
        let o = on_stack_lem f v n (both_true (is_other r) (on_stack f v n) may).1 in
        silently v going fine (Load r (f.sp - slot n)) (valued v r (slot_at f v (slot n)) (next v.pc))
        (is ∙ ap (λ (a : ℕ). Load r a) (address n o)) refl refl refl refl
        (subst (λ (x : ℕ). Performs f sound v fine (Load r (f.sp - slot n)) [] (valued v r x (next v.pc)))
        (slot_is f sound v fine (slot n) o.least o.most) (loads f sound v fine r (f.sp - slot n) (plain n o)))
    by_use (stores_slot r n) is may =
        let o = on_stack_lem f v n may in
        silently v going fine (Store (register v.regs r) (f.sp - slot n)) (used f v (stores_slot r n))
        (is ∙ ap (λ (a : ℕ). Store (register v.regs r) a) (address n o)) refl refl refl refl
        (stores f sound v fine (register v.regs r) (slot n) (plain n o))
    by_use (moves_stack n) is may =
        let o = on_stack_lem f v n may in
        let x : ℕ = f.sp - slot n in
        silently v going fine (Move 6 x (next v.pc)) (used f v (moves_stack n))
        (is ∙ ap (λ (y : ℕ). Move 6 y (next v.pc)) (address n o)) refl refl refl refl
        (elsewhere_below f sound v fine (Move 6 x (next v.pc)) (valued v 6 x (next v.pc)) (slot n)
        (moves f sound v fine 6 x (next v.pc)))
    by_use (leaves_stack n) is may =
        let a : ℕ = plus (next v.pc) n in
        silently v going fine (Load 6 a) (used f v (leaves_stack n)) is refl refl refl refl
        (elsewhere_below f sound v fine (Load 6 a) (valued v 6 (word_at f v a) (next v.pc)) 0
        (loads f sound v fine 6 a (ltb-true a 0xFE00 may)))
    by_use elsewhere is may =
        by_plan v going fine (plan_at f v) refl
        (both_true (keeps_six (plan_at f v)) (may_perform f v room (plan_at f v)) may).1

  -- One step.
  pub steps_once : (v : View) → Kept f v → may_step f room v ≡ true → Leads s since bound f v 1 f (stepped f v)
  unfolding stepped may_step plan_at
  steps_once v k may =
      let outer = both_true (eqb v.mcr 0x8000) (cells_fine f.words v.cells && may_use f v room (use_at f v)) may
      in
      let inner = both_true (cells_fine f.words v.cells) (may_use f v room (use_at f v)) outer.1 in
      by_use v (eqb-true v.mcr 0x8000 outer.0) inner.0 k (use_at f v)
      (plan_by_use v.regs v.pc (codes_for v.codes (read_of (word_at f v v.pc))) (read_of (word_at f v v.pc)))
      inner.1

-- n steps, and whether they may be made.
unfoldable pub stepped_by : ℕ → Frame → View → View
stepped_by zero f v = v
stepped_by (suc n) f v = stepped_by n f (stepped f v)

unfoldable pub may_steps : ℕ → Frame → ℕ → View → Bool
may_steps zero f room v = true
may_steps (suc n) f room v = may_step f room v && may_steps n f room (stepped f v)

module _ {s : Start} {since bound : ℕ} (quiet : Quiet s since bound) (f : Frame) (sound : Sound f) (room : ℕ)
    (has_room : room ≤ length f.output) where
  abbrev Runs : ℕ → Type 0
  Runs n = (v : View) → Kept f v → may_steps n f room v ≡ true → Leads s since bound f v n f (stepped_by n f v)

  one_more_step : (n : ℕ) → Runs n → Runs (suc n)
  unfolding stepped_by may_steps
  one_more_step n rest v k may =
      let both = both_true (may_step f room v) (may_steps n f room (stepped f v)) may in
      let z : 1 + n ≡ suc n = omega arith in
      rw z at (then (steps_once quiet f sound room has_room v k both.0)
      (rest (stepped f v) (keeps_once f room v k both.0) both.1))

  none : Runs zero
  unfolding stepped_by
  none v k may = no_step f v

  pub runs : (n : ℕ) → Runs n
  runs zero = none
  runs (suc n) = one_more_step n (runs n)

-- To unfold this is to compute the steps of a routine.
unfoldable pub computing : Unit {0}
unfolding stepped_by may_steps stepped may_step plan_at word_with routine_words read_of plan_by codes_of
    is_taken and_bits
computing = tt
