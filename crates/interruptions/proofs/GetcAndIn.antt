-- GETC and IN go on after any number of interrupts: the ways of each are its own, and the rest is the same for both.
use Prim.Native.Nat.{ℕ, suc, ◌+◌, ◌-◌, ◌≤◌}
use native.Mathlib.Omega.{arith}
use mathlib.Core.Path.{◌≡◌, refl, sym, ap, subst, ◌∙◌}
use mathlib.Core.Bool.{Bool, true, false, ◌&&◌, ◌||◌, true≢false}
use mathlib.Core.List.{List, []}
use borrow.Author.Tests.{leb-true, le-leb, eqb-true}
use lib.Dec.{eqb, leb, ltb}
use lib.ListN.{length, get_or, set}
use Rattle.machine.specs.Words.{next}
use Rattle.machine.proofs.Tests.{both_true}
use Rattle.run.specs.Run.{Start}
use Rattle.monitor.specs.Vectors.{vector_word}
use Rattle.monitor.specs.Uses.{between, with_vector, getc_code, in_code}
use Rattle.monitor.specs.Out.{wait_steps}
use Rattle.monitor.specs.Calls.{Calls}
use Rattle.monitor.specs.In.{prompt, first_poll}
use Rattle.monitor.proofs.UseLaws.{either, with_vector_below, getc_below, in_below}
use Rattle.monitor.proofs.Execution.{Frame, View, from}
use Rattle.monitor.proofs.Intact.{usable}
use Rattle.monitor.proofs.Instructions.{kept, stepped_by, computing}
use Rattle.monitor.proofs.Entries.{called_frame, Polls}
use Rattle.monitor.proofs.Calls.{Eight, eight, begun}
use Rattle.monitor.proofs.Getc.{ready_at, arrives_at}
use Rattle.monitor.proofs.In.{W, polling, waiting, left, seven_less}
use Rattle.monitor.proofs.Keyboard.{Keys}
use Rattle.monitor.proofs.Paths.{calm, calmly, Ends, Path, attends, no_step_more, then, treads, turned_by, may_turns}
use Rattle.monitor.proofs.Paths.{turns}
use Rattle.interruptions.specs.GoesOn.{OnTheWay}
use Rattle.interruptions.specs.Reads.{getc_poll, getc_last, in_poll, in_last, Reads, echoed, InterruptedReads}
use Rattle.interruptions.proofs.Following.{Rest, twin, beside}
use Rattle.interruptions.proofs.Narrowing.{relying}
use Rattle.interruptions.proofs.KeyWait.{keyed, Reader}
use Rattle.interruptions.proofs.KeyEnds.{reads}
use Rattle.interruptions.proofs.GoesOn.{starts}

-- A word that a frame relies on is one of these.
used : (f : Frame) (a : ℕ) → usable f a ≡ true → f.uses a ≡ true
used f a h =
    (both_true (ltb a 0x02A5) (f.uses a) (both_true (leb 0x0200 a) (ltb a 0x02A5 && f.uses a) h).1).1

-- ---- GETC

module _ (user : Bool) (s : Start) (x : Eight s.machine.regs) where
  abbrev getc_frame : Frame
  getc_frame = called_frame (with_vector 0x20 getc_code) 2 user s

  abbrev getc_wait : View
  getc_wait = begun s x 0x0200 (next s.machine.pc)

  getc_keys : (mem out : List ℕ) (y : Rest) → Keys (beside getc_frame mem out) (twin getc_wait y) 0 0x0200
  unfolding computing
  getc_keys mem out y = record {
    pointer = 0x0280;
    pointer_plain = omega arith;
    loads = λ r c b. refl;
    keyboard = refl;
    branches = λ r c b. refl;
    data_pointer = 0x0281;
    data_plain = omega arith;
    reads = λ r c b. refl;
    data_register = refl;
  }

  getc_reader : Reader getc_frame (λ a. false) getc_last 0 0 getc_wait getc_wait (λ y. keyed getc_wait y)
  getc_reader = record {
    earlier = λ a. eqb a 0x0200;
    earlier_used = λ a h. let z : a ≡ 0x0200 = eqb-true a 0x0200 h in rw z;
    earlier_pc = λ a h more less.
        let z : a ≡ 0x0200 = eqb-true a 0x0200 (used (relying getc_frame (λ a. eqb a 0x0200)) a h) in omega arith;
    way = no_step_more getc_wait;
    there = refl;
    one = refl;
    two = refl;
    before_last = omega arith;
    going = refl;
    fine = refl;
    deep = omega arith;
    room = omega arith;
    keys = getc_keys;
    later = λ a. eqb a 0x0203;
    later_used = λ a h. let z : a ≡ 0x0203 = eqb-true a 0x0203 h in rw z;
    later_pc = λ a h.
        let z : a ≡ 0x0203 = eqb-true a 0x0203 (used (relying getc_frame (λ a. eqb a 0x0203)) a h) in omega arith;
    way_back = λ y. no_step_more (keyed getc_wait y);
    end_used = λ y. refl;
    end_there = λ y. refl;
    end_fine = λ y. refl;
    end_deep = λ y. omega arith;
    end_room = λ y. omega arith;
  }

  getc_ends : (y : ℕ) → Ends (with_vector 0x20 getc_code) 2 user s getc_last (keyed getc_wait y)
  unfolding computing
  getc_ends y = record {
    there = refl;
    returns = record { plan = refl; six = refl; pc = refl; psr = refl; fine = refl; going = refl };
    own = refl;
    pc_stored = refl;
    psr_stored = refl;
    depth = refl;
  }

  getc_registers : (y : ℕ) → set (keyed getc_wait y).regs 6 (get_or s.machine.regs 6 0) ≡ set s.machine.regs 0 y
  getc_registers y = rw x.are

getc : (user : Bool) (s : Start) (n : ℕ) → Calls 0x20 getc_code 2 user s n → (below : ℕ) (r : Start) (m : ℕ)
    → (o : OnTheWay s 0 getc_last 2 below r m) → Reads s getc_poll getc_last 2 below r m o (λ key. []) 1 1
unfolding vector_word
getc user s n c below r m o =
    let x = eight s.machine.regs c.begins.registers in
    reads (with_vector 0x20 getc_code) 2 user s n c.begins (omega arith)
    (with_vector_below 0x20 getc_code (omega arith) getc_below) (λ a. false) below
    (λ a h. absurd (true≢false (sym h))) getc_last 0 0 (getc_wait user s x) (getc_wait user s x)
    (λ y. keyed (getc_wait user s x) y) (getc_reader user s x)
    (starts 0x20 getc_code 2 user s n c (omega arith) (omega arith) getc_below 0x0200 refl below)
    (record { none = refl; status = refl }) (getc_ends user s x) (getc_registers user s x) (λ key. []) (λ y. refl) r m o

-- ---- IN

-- The words of the prompt's loop, with what it reads; and the words of the echo.
abbrev prompt_code : ℕ → Bool
prompt_code a = between 0x0228 0x0233 a || between 0x0280 0x029C a

abbrev echo_code : ℕ → Bool
echo_code a = between 0x0236 0x023C a || between 0x0280 0x029C a

wider : (first last first' last' a : ℕ) → first' ≤ first → last ≤ last' → between first last a ≡ true
    → between first' last' a ≡ true
wider first last first' last' a low high h =
    let both = both_true (leb first a) (leb a last) h in
    let l : first ≤ a = leb-true first a both.0 in
    let m : a ≤ last = leb-true a last both.1 in
    rw (le-leb first' a (omega arith), le-leb a last' (omega arith))

-- A part of IN's code, and what is behind it, are words that IN uses.
part_used : (first last a : ℕ) → 0x0228 ≤ first → last ≤ 0x023C
    → (between first last a || between 0x0280 0x029C a) ≡ true → with_vector 0x23 in_code a ≡ true
part_used first last a low high h =
    either (between first last a) (between 0x0280 0x029C a) h
    (λ c. rw (wider first last 0x0228 0x023C a low high c))
    (λ c. behind (between 0x0228 0x023C a) c)
  where
    behind : (code : Bool) → between 0x0280 0x029C a ≡ true
        → ((code || between 0x0280 0x029C a) || eqb a 0x23) ≡ true
    behind true c = refl
    behind false c = rw c

least : (first last a : ℕ) → between first last a ≡ true → first ≤ a
least first last a h = leb-true first a (both_true (leb first a) (leb a last) h).0

most : (first last a : ℕ) → between first last a ≡ true → a ≤ last
most first last a h = leb-true a last (both_true (leb first a) (leb a last) h).1

module _ (user : Bool) (s : Start) (x : Eight s.machine.regs) where
  abbrev in_frame : Frame
  in_frame = called_frame (with_vector 0x23 in_code) 4 user s

  abbrev prompt_frame : Frame
  prompt_frame = relying in_frame prompt_code

  abbrev echo_frame : Frame
  echo_frame = relying in_frame echo_code

  abbrev begin : View
  begin = begun s x 0x0228 (next s.machine.pc)

  abbrev wait : View
  wait = waiting user s x

  abbrev kbsr : ℕ
  kbsr = s.machine.devices.kbsr

  -- the poll of DSR behind each character, and the one in front of the echo
  prompt_polls : (u : View) → Polls prompt_frame u 2 0x022E
  unfolding computing
  prompt_polls u = record {
    pointer = 0x0282;
    loads = λ r c b. refl;
    display = refl;
    branches = λ r c b. refl;
    own = refl;
    other = refl;
  }

  echo_polls : (u : View) → Polls echo_frame u 1 0x0236
  unfolding computing
  echo_polls u = record {
    pointer = 0x0282;
    loads = λ r c b. refl;
    display = refl;
    branches = λ r c b. refl;
    own = refl;
    other = refl;
  }

  in_keys : (mem out : List ℕ) (y : Rest) → Keys (beside in_frame mem out) (twin wait y) 0 0x0233
  unfolding computing
  in_keys mem out y = record {
    pointer = 0x0280;
    pointer_plain = omega arith;
    loads = λ r c b. refl;
    keyboard = refl;
    branches = λ r c b. refl;
    data_pointer = 0x0281;
    data_plain = omega arith;
    reads = λ r c b. refl;
    data_register = refl;
  }

  module _ (room : 20 ≤ length s.output) where
    abbrev may : ℕ → Bool
    may a = false

    abbrev first : View
    first = W user s x 0x0289 0x0049 0x8000 0x0230 (from 0x8000) [] 0 0 kbsr

    -- the last character of the prompt stands in R1
    abbrev last : View
    last = turned_by prompt_frame may 20 room 2 0x022E prompt_polls 18 first

    to_first : Path prompt_frame may begin (6 + wait_steps (left user s x)) first
    unfolding computing calm calmly
    to_first =
        let front : View = polling user s x (left user s x) in
        then (treads prompt_frame may 0 (omega arith) 6 begin (kept refl refl refl) refl refl)
        (attends front refl refl 2 0x022E (prompt_polls front) (left user s x) front.regs front.codes refl refl
        refl)

    to_last : Path prompt_frame may first 198 last
    unfolding computing calm calmly turned_by may_turns
    to_last = turns prompt_frame may 20 room 2 0x022E prompt_polls 18 first (kept refl refl refl) refl

    to_wait : Path prompt_frame may last 5 wait
    unfolding computing calm calmly turned_by
    to_wait = treads prompt_frame may 20 room 5 last (kept refl refl refl) refl refl

    abbrev len : ℕ
    len = 6 + wait_steps (left user s x) + (198 + 5)

    -- the echo, and the end
    abbrev echoing : ℕ → View
    echoing y = W user s x y 0x8000 0x8000 0x0238 (from 0x8000) prompt 0 0 kbsr

    end : ℕ → View
    end y = stepped_by 4 echo_frame (echoing y)

    way_back : (y : ℕ) → Path echo_frame may (keyed wait y) 8 (end y)
    unfolding end computing calm calmly wait_steps
    way_back y =
        then
        (attends (keyed wait y) refl refl 1 0x0236 (echo_polls (keyed wait y)) 1 (keyed wait y).regs (from y) refl refl
        refl)
        (treads echo_frame may 20 room 4 (echoing y) (kept refl refl refl) refl refl)

    in_ends : (y : ℕ) → Ends (with_vector 0x23 in_code) 4 user s in_last (end y)
    unfolding end computing
    in_ends y = record {
      there = refl;
      returns = record { plan = refl; six = refl; pc = refl; psr = refl; fine = refl; going = refl };
      own = refl;
      pc_stored = refl;
      psr_stored = refl;
      depth = refl;
    }

    in_registers : (y : ℕ) → set (end y).regs 6 (get_or s.machine.regs 6 0) ≡ set s.machine.regs 0 y
    unfolding end computing
    in_registers y = rw x.are

    in_text : (y : ℕ) → (end y).bytes ≡ echoed y
    unfolding end computing
    in_text y = refl

    end_there : (y : ℕ) → ((end y).pc ≡ in_last) × (length (end y).bytes ≡ 20)
    unfolding end computing
    end_there y = (refl, refl)

    in_reader : Reader in_frame may in_last len 8 begin wait end
    in_reader = record {
      earlier = prompt_code;
      earlier_used = λ a h. part_used 0x0228 0x0233 a (omega arith) (omega arith) h;
      earlier_pc = λ a h more less.
          either (between 0x0228 0x0233 a) (between 0x0280 0x029C a) (used prompt_frame a h)
          (λ c. omega (arith, most 0x0228 0x0233 a c)) (λ c. omega (arith, least 0x0280 0x029C a c));
      way = then to_first (then to_last to_wait);
      there = refl;
      one = refl;
      two = refl;
      before_last = omega arith;
      going = refl;
      fine = refl;
      deep = omega arith;
      room = omega arith;
      keys = in_keys;
      later = echo_code;
      later_used = λ a h. part_used 0x0236 0x023C a (omega arith) (omega arith) h;
      later_pc = λ a h.
          either (between 0x0236 0x023C a) (between 0x0280 0x029C a) (used echo_frame a h)
          (λ c. omega (arith, least 0x0236 0x023C a c)) (λ c. omega (arith, least 0x0280 0x029C a c));
      way_back = way_back;
      end_used = λ y. rw (end_there y).0;
      end_there = λ y. (end_there y).0;
      end_fine = λ y. (in_ends y).returns.fine;
      end_deep = λ y. let d = (in_ends y).depth in omega (arith, d);
      end_room = λ y. let l = (end_there y).1 in omega (arith, l);
    }

input : (user : Bool) (s : Start) (n : ℕ) → Calls 0x23 in_code 4 user s n → 20 ≤ length s.output
    → (below : ℕ) (r : Start) (m : ℕ) (o : OnTheWay s 0 in_last 4 below r m)
    → Reads s in_poll in_last 4 below r m o echoed 9 (first_poll s)
unfolding vector_word
input user s n c room below r m o =
    let x = eight s.machine.regs c.begins.registers in
    let z : suc (len user s x room) ≡ first_poll s =
    ap (λ (b : ℕ). suc (6 + wait_steps b + (198 + 5))) (seven_less s.machine.devices.busy)
    ∙ count (wait_steps (s.machine.devices.busy - 7)) in
    subst (λ (first : ℕ). Reads s in_poll in_last 4 below r m o echoed 9 first) z
    (reads (with_vector 0x23 in_code) 4 user s n c.begins (omega arith)
    (with_vector_below 0x23 in_code (omega arith) in_below) (λ a. false) below
    (λ a h. absurd (true≢false (sym h))) in_last (len user s x room) 8 (begin user s x) (wait user s x)
    (end user s x room) (in_reader user s x room)
    (starts 0x23 in_code 4 user s n c (omega arith) (omega arith) in_below 0x0228 refl below)
    (record { none = refl; status = refl }) (in_ends user s x room) (in_registers user s x room) echoed
    (in_text user s x room) r m o)
  where
    count : (w : ℕ) → suc (6 + w + (198 + 5)) ≡ 7 + (w + 203)
    count w = omega arith

pub interrupted_reads : InterruptedReads
interrupted_reads = record {
  getc = getc;
  input = input;
  ready = ready_at;
  arrives = arrives_at;
}
