-- The loads of KBSR and KBDR, whose values come from the keys that have arrived.
use Prim.Native.Nat.{ℕ, zero, suc, ◌+◌, ◌-◌, ◌*◌, ◌%◌, ◌≤◌, ◌<◌}
use native.Mathlib.Omega.{arith}
use mathlib.Core.Path.{◌≡◌, refl, subst, ◌∙◌}
use mathlib.Core.Bool.{Bool, true, false, cond}
use borrow.Author.Tests.{lt-ltb, le-ltb}
use lib.Dec.{ltb}
use mathlib.Core.List.{List, []}
use lib.IntN.{negsuc}
use lib.ListN.{take, drop}
use lib.Seq.{set-set}
use Rattle.machine.specs.declared.Devices.{Devices}
use Rattle.word.specs.declared.Instruction.TheVariants.{Br}
use Rattle.machine.specs.declared.Plan.TheVariants.{LoadBy, Jump}
use Rattle.machine.specs.Record.{set_keyboard}
use Rattle.machine.specs.Words.{next, with_register}
use Rattle.machine.specs.Psr.{codes_of, is_taken}
use Rattle.machine.specs.Psr.{recoded as recodedPsr}
use Rattle.machine.specs.Keys.{ready_after}
use Rattle.machine.specs.Outcome.{with_reads, after_instruction}
use Rattle.machine.specs.Devices.{KBSR, KBDR, is_device_by, device_value, loaded_value_by, kbsr_after_load}
use Rattle.machine.specs.Devices.{timer_status_after_load, after_load}
use Rattle.machine.specs.Access.{load_to_by, load_to}
use Rattle.machine.specs.Step.{perform_by, perform}
use Rattle.machine.proofs.StepLaws.{codes_of_below}
use Rattle.run.specs.Run.{Start}
use Rattle.monitor.specs.Keys.{arrived_by, status_at}
use Rattle.monitor.proofs.KeyLaws.{ready_leaves_rest}
use Rattle.monitor.proofs.Modes.{taken_by_sign}
use Rattle.monitor.proofs.Execution.{Frame, Known, from, View, memory_at, machine_at, At, QuietStep, status_in}
use Rattle.monitor.proofs.Execution.{key_in, Gives, Keyboard, advance_by, same_keyboard, Quiet}
use Rattle.monitor.proofs.Intact.{cells_fine, word_at}
use Rattle.monitor.proofs.Instructions.{Sound, codes_for, plan_at, by_plan, valued, silent, all_allowed}
use Rattle.monitor.proofs.Instructions.{pointed, recoded_is, obeys_plan_at}
use Rattle.monitor.proofs.Entries.{within}

-- After a load of KBDR in step number k.
abbrev pub key_read : Start → ℕ → View → ℕ → View
key_read s k v r = record {
  regs = with_register v.regs r (key_in s k);
  pc = next v.pc;
  codes = from (key_in s k);
  cells = v.cells;
  depth = v.depth;
  bytes = v.bytes;
  busy = v.busy - 1;
  mcr = v.mcr;
  read = arrived_by s (suc k);
  status = status_in s k v % 0x8000;
}

module _ {s : Start} {since k : ℕ} (f : Frame) (sound : Sound f) (v : View) (going : v.mcr ≡ 0x8000)
    (fine : cells_fine f.words v.cells ≡ true) (r b : ℕ) (plan : plan_at f v ≡ LoadBy r b) (plain : b < 0xFE00)
    (a : At s since k f v) (still : QuietStep s k) where
  status_given : word_at f v b ≡ KBSR → (d : Devices) (t x : ℕ) → d.kbsr ≡ x
      → Gives (perform (LoadBy r b) (machine_at f v d t) (memory_at f v)) [] v.busy f (valued v r x (next v.pc)) d t
  unfolding perform_by with_reads load_to_by after_instruction recodedPsr after_load loaded_value_by is_device_by
      kbsr_after_load
      timer_status_after_load device_value
  status_given w d t x e =
      let at = pointed f sound v fine b KBSR (load_to r) plain w d t in
      let allowed = all_allowed f sound v fine KBSR in
      record {
        machine = rw (at, allowed, ← e, recoded_is f sound v fine (codes_of d.kbsr));
        memory = rw (at, allowed);
        shown = rw (at, allowed);
      }

  pub loads_status : word_at f v b ≡ KBSR → At s since (suc k) f (valued v r (status_in s k v) (next v.pc))
  loads_status w =
      advance_by a still going f (valued v r (status_in s k v) (next v.pc)) [] (status_in s k v)
      (λ d t e p q.
      obeys_plan_at f sound v fine [] (valued v r (status_in s k v) (next v.pc)) d
      (set_keyboard (status_in s k v) d.kbdr d) t
      (rw plan (subst (λ (x : ℕ). Gives (perform (LoadBy r b) (machine_at f v d t) (memory_at f v)) [] v.busy f
      (valued v r (status_in s k v) (next v.pc)) (set_keyboard x d.kbdr d) t) p
      (status_given w d t (status_in s k v) p))))
      (silent f v (valued v r (status_in s k v) (next v.pc)) refl refl)
      (same_keyboard a (valued v r (status_in s k v) (next v.pc)) refl refl)

  key_given : word_at f v b ≡ KBDR → (d : Devices) (t : ℕ) → d.kbsr ≡ status_in s k v → d.kbdr ≡ key_in s k
      → Gives (perform (LoadBy r b) (machine_at f v d t) (memory_at f v)) [] v.busy f (key_read s k v r)
      (set_keyboard (status_in s k v % 0x8000) d.kbdr d) t
  unfolding perform_by with_reads load_to_by after_instruction recodedPsr after_load loaded_value_by is_device_by
      kbsr_after_load
      timer_status_after_load device_value
  key_given w d t p q =
      let at = pointed f sound v fine b KBDR (load_to r) plain w d t in
      let allowed = all_allowed f sound v fine KBDR in
      record {
        machine = rw (at, allowed, ← p, ← q, recoded_is f sound v fine (codes_of d.kbdr));
        memory = rw (at, allowed);
        shown = rw (at, allowed);
      }

  cleared : Keyboard s k (status_in s k v % 0x8000) v (key_read s k v r)
  unfolding ready_after
  cleared =
      let z : arrived_by s (suc k) - arrived_by s (suc k) ≡ 0 = omega arith in
      let same : status_in s k v % 0x8000 ≡ v.status % 0x8000 =
      ready_leaves_rest (take (arrived_by s (suc k) - v.read) (drop v.read s.bytes)) v.status in
      record {
        read = omega arith;
        kbsr_is = rw z;
        rest = (let y : status_in s k v % 0x8000 % 0x8000 ≡ status_in s k v % 0x8000 = omega arith in y) ∙ same;
        below = rw same (omega arith);
      }

  pub loads_key : word_at f v b ≡ KBDR → At s since (suc k) f (key_read s k v r)
  loads_key w =
      advance_by a still going f (key_read s k v r) [] (status_in s k v % 0x8000)
      (λ d t e p q.
      obeys_plan_at f sound v fine [] (key_read s k v r) d (set_keyboard (status_in s k v % 0x8000) d.kbdr d) t
      (rw plan (key_given w d t p q)))
      (silent f v (key_read s k v r) refl refl) cleared

-- As long as KBDR has not been loaded.
pub status_is : (s : Start) (k : ℕ) (v : View) → v.read ≡ 0 → v.status ≡ s.machine.devices.kbsr
    → status_in s k v ≡ status_at s k
status_is s k v p q = go v.read v.status p q
  where
    go : (read status : ℕ) → read ≡ 0 → status ≡ s.machine.devices.kbsr
        → ready_after (take (arrived_by s (suc k) - read) (drop read s.bytes)) status ≡ status_at s k
    go read status p q =
        let z : arrived_by s (suc k) - 0 ≡ arrived_by s (suc k) = omega arith in
        rw (p, q, z)

-- ---- the wait for a key

-- BRzp after this value.
pub taken_after : (x : ℕ) → is_taken 3 (codes_for (from x) (Br 3 (negsuc 1))) ≡ ltb x 0x8000
taken_after x = (taken_by_sign x (codes_of x) (omega (arith, codes_of_below x))).1

-- LDI of KBSR to register r at p, BRzp back to it, and LDI of KBDR to r: the plans there, whatever registers, codes and
-- busy count are.
pub record Keys (f : Frame) (v : View) (r p : ℕ) : Type 0 where
  pub pointer : ℕ
  pub pointer_plain : pointer < 0xFE00
  pub loads : (regs : List ℕ) (c : Known) (busy : ℕ) → plan_at f (within v regs p c busy) ≡ LoadBy r pointer
  pub keyboard : word_at f v pointer ≡ KBSR
  pub branches : (regs : List ℕ) (c : Known) (busy : ℕ)
      → plan_at f (within v regs (next p) c busy)
      ≡ Jump (cond (is_taken 3 (codes_for c (Br 3 (negsuc 1)))) p (next (next p)))
  pub data_pointer : ℕ
  pub data_plain : data_pointer < 0xFE00
  pub reads : (regs : List ℕ) (c : Known) (busy : ℕ)
      → plan_at f (within v regs (next (next p)) c busy) ≡ LoadBy r data_pointer
  pub data_register : word_at f v data_pointer ≡ KBDR

-- After some turns: register r has changed, and the codes, and the busy count has fallen.
pub record Turned (s : Start) (k : ℕ) (f : Frame) (v : View) (regs : List ℕ) (r p turns busy : ℕ) : Type 0 where
  pub regs_now : List ℕ
  pub same : (z : ℕ) → with_register regs_now r z ≡ with_register regs r z
  pub codes : Known
  pub busy_now : ℕ
  pub count : busy_now ≡ busy - 2 * turns
  pub at : At s 0 k f (within v regs_now p codes busy_now)

module _ {s : Start} {bound : ℕ} (quiet : Quiet s 0 bound) (f : Frame) (sound : Sound f) (v : View)
    (going : v.mcr ≡ 0x8000) (fine : cells_fine f.words v.cells ≡ true) (unread : v.read ≡ 0)
    (status : v.status ≡ s.machine.devices.kbsr) (r p : ℕ) (q : Keys f v r p) where
  -- LDI finds KBSR so.
  polls : (k : ℕ) → k < bound → (regs : List ℕ) (c : Known) (busy : ℕ) → At s 0 k f (within v regs p c busy)
      → At s 0 (suc k) f
      (within v (with_register regs r (status_at s k)) (next p) (from (status_at s k)) (busy - 1))
  polls k le regs c busy a =
      rw (status_is s k v unread status) at (loads_status f sound (within v regs p c busy) going fine r q.pointer
      (q.loads regs c busy) q.pointer_plain a (quiet.at a le) q.keyboard)

  -- BRzp goes there.
  branches : (k : ℕ) → suc k ≤ bound → (regs : List ℕ) (x busy : ℕ) (back : Bool) → ltb x 0x8000 ≡ back
      → At s 0 k f (within v regs (next p) (from x) busy)
      → At s 0 (suc k) f (within v regs (cond back p (next (next p))) (from x) (busy - 1))
  branches k le regs x busy back is a =
      let z : k + 1 ≡ suc k = omega arith in
      let goes : is_taken 3 (codes_for (from x) (Br 3 (negsuc 1))) ≡ back = taken_after x ∙ is in
      let l = by_plan quiet f sound 0 (omega arith) (within v regs (next p) (from x) busy) going fine
      (Jump (cond (is_taken 3 (codes_for (from x) (Br 3 (negsuc 1)))) p (next (next p))))
      (q.branches regs (from x) busy)
      refl in
      rw (z, goes) at (l.on (omega arith) a)

  -- A turn that finds no key.
  turn : (k : ℕ) → k + 2 ≤ bound → (regs : List ℕ) (c : Known) (busy : ℕ) → At s 0 k f (within v regs p c busy)
      → status_at s k < 0x8000 → (m turns : ℕ) → m ≡ k + 2 → (regs₀ : List ℕ)
      → ((z : ℕ) → with_register regs r z ≡ with_register regs₀ r z) → (busy₀ : ℕ) → busy ≡ busy₀ - 2 * turns
      → Turned s m f v regs₀ r p (suc turns) busy₀
  turn k le regs c busy a none m turns e regs₀ same busy₀ count =
      let z : suc (suc k) ≡ m = omega arith in
      record {
        regs_now = with_register regs r (status_at s k);
        same = λ w. set-set regs (r % 8) (status_at s k) w ∙ same w;
        codes = from (status_at s k);
        busy_now = busy - 1 - 1;
        count = omega arith;
        at = rw z at
            (branches (suc k) (omega arith) (with_register regs r (status_at s k)) (status_at s k) (busy - 1) true
            (lt-ltb (status_at s k) 0x8000 none) (polls k (omega arith) regs c busy a));
      }

  -- As many turns as find no key.
  pub turns : (k : ℕ) (regs : List ℕ) (c : Known) (busy : ℕ) → At s 0 k f (within v regs p c busy) → (t : ℕ)
      → k + 2 * t ≤ bound → ((j : ℕ) → j < t → status_at s (k + 2 * j) < 0x8000)
      → Turned s (k + 2 * t) f v regs r p t busy
  turns k regs c busy a zero le none =
      let z : k + 2 * 0 ≡ k = omega arith in
      rw z (record {
        regs_now = regs;
        same = λ w. refl;
        codes = c;
        busy_now = busy;
        count = omega arith;
        at = a;
      })
  turns k regs c busy a (suc t) le none = more (turns k regs c busy a t (omega arith) (λ j l. none j (omega arith)))
    where
      more : Turned s (k + 2 * t) f v regs r p t busy → Turned s (k + 2 * suc t) f v regs r p (suc t) busy
      more w =
          turn (k + 2 * t) (omega arith) w.regs_now w.codes w.busy_now w.at (none t (omega arith))
          (k + 2 * suc t) t (omega arith) regs w.same busy w.count

  -- The turn that finds one, and the load of KBDR.
  pub takes_key : (k : ℕ) → k + 3 ≤ bound → (regs : List ℕ) (c : Known) (busy : ℕ) → At s 0 k f (within v regs p c busy)
      → 0x8000 ≤ status_at s k
      → At s 0 (k + 3) f
      (key_read s (k + 2)
      (within v (with_register regs r (status_at s k)) (next (next p)) (from (status_at s k)) (busy - 1 - 1)) r)
  takes_key k le regs c busy a ready =
      let z : k + 2 ≡ suc (suc k) = omega arith in
      let w : k + 3 ≡ suc (k + 2) = omega arith in
      let there : View =
      within v (with_register regs r (status_at s k)) (next (next p)) (from (status_at s k)) (busy - 1 - 1) in
      let b : At s 0 (k + 2) f there =
      rw z
      (branches (suc k) (omega arith) (with_register regs r (status_at s k)) (status_at s k) (busy - 1) false
      (le-ltb (status_at s k) 0x8000 ready) (polls k (omega arith) regs c busy a)) in
      rw w
      (loads_key f sound there going fine r q.data_pointer
      (q.reads (with_register regs r (status_at s k)) (from (status_at s k)) (busy - 1 - 1)) q.data_plain b
      (quiet.at b (omega arith)) q.data_register)
