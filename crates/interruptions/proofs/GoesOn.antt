-- OUT, PUTS, PUTSP and HALT go on after an interrupt: the way of each is its own, and the rest is the same for all.
use Prim.Native.Nat.{ℕ, suc, ◌+◌, ◌-◌, ◌*◌, ◌/◌, ◌%◌, ◌≤◌, ◌<◌}
use native.Mathlib.Omega.{arith}
use mathlib.Core.Path.{◌≡◌, refl, sym, ap, ◌∙◌}
use mathlib.Core.Bool.{Bool, true, false, cond, not, ◌&&◌, true≢false}
use mathlib.Core.List.{List, [], ◌∷◌}
use borrow.Author.Tests.{le-leb, leb-true}
use lib.Dec.{leb, ltb}
use lib.ListN.{length, get_or, set}
use Rattle.machine.specs.Words.{next}
use Rattle.machine.specs.Protection.{privileged}
use Rattle.machine.proofs.Tests.{both_true}
use Rattle.run.specs.Run.{Start}
use Rattle.monitor.specs.Vectors.{vector_word, ours}
use Rattle.monitor.specs.Uses.{between, with_vector, out_code, puts_code, putsp_code, halt_code}
use Rattle.monitor.specs.Calls.{stack_of, Calls}
use Rattle.monitor.specs.Out.{out_steps_of}
use Rattle.monitor.specs.Puts.{may_read, may_read_of, StringFrom, low_bytes, r0, puts_steps, refused_steps}
use Rattle.monitor.specs.Putsp.{AreWords, pair_bytes, putsp_steps, refused_pair_steps}
use Rattle.monitor.specs.Halt.{message, halt_steps}
use Rattle.monitor.proofs.UseLaws.{with_vector_below, out_below, puts_below, putsp_below, halt_below}
use Rattle.monitor.proofs.Execution.{Frame, View, psr_at, Quiet}
use Rattle.monitor.proofs.Intact.{cells_fine}
use Rattle.monitor.proofs.Instructions.{kept}
use Rattle.monitor.proofs.Entries.{called_frame, entered_fine}
use Rattle.monitor.proofs.Calls.{begins_sound, quiet_steps, eight, begun, routine_begins}
use Rattle.monitor.proofs.Paths.{Readable, Ends, Path, no_step_more, then}
use Rattle.monitor.proofs.Strings.{is_not, readable}
use Rattle.monitor.proofs.Halt.{way as haltWay, to_stop as haltTail, restored as haltRestored, stopped as haltStopped}
use Rattle.monitor.proofs.Halt.{in_front as haltFront, registers_then as haltRegisters, bytes_then as haltBytes}
use Rattle.monitor.proofs.Halt.{halts_then as haltThen}
use Rattle.monitor.proofs.Out.{routine, returning, ends, restored, the_byte}
use Rattle.monitor.proofs.Puts.{few_of}
use Rattle.monitor.proofs.Puts.{way as putsWay, between as putsBetween, returning as putsReturning}
use Rattle.monitor.proofs.Puts.{refused_there as putsThere, stopped as putsStopped, way_there as putsWayThere}
use Rattle.monitor.proofs.Puts.{to_stop as putsTail, in_front as putsFront, halts_then as putsThen}
use Rattle.monitor.proofs.Puts.{stopped_registers as putsStoppedRegisters}
use Rattle.monitor.proofs.Puts.{ends_there as putsEnds, same_registers as putsRegisters, nothing_else as putsRest}
use Rattle.monitor.proofs.Putsp.{way as putspWay, between as putspBetween, returning as putspReturning}
use Rattle.monitor.proofs.Putsp.{refused_there as putspThere, stopped as putspStopped, way_there as putspWayThere}
use Rattle.monitor.proofs.Putsp.{to_stop as putspTail, in_front as putspFront, halts_then as putspThen}
use Rattle.monitor.proofs.Putsp.{stopped_registers as putspStoppedRegisters}
use Rattle.monitor.proofs.Putsp.{ends_there as putspEnds, same_registers as putspRegisters, nothing_else as putspRest}
use Rattle.interruptions.specs.GoesOn.{OnTheWay, ResumesInTime, HaltedLater, InterruptedGoOn}
use Rattle.interruptions.specs.GoesOn.{out_last, puts_last, putsp_last, stop_last}
use Rattle.interruptions.proofs.Leaving.{before}
use Rattle.interruptions.proofs.Following.{Rest}
use Rattle.interruptions.proofs.Standing.{Standing}
use Rattle.interruptions.proofs.Chain.{Stood, Course, Chained, chained}
use Rattle.interruptions.proofs.Ways.{own_rest, OnWay, course, Reached, reaches}
use Rattle.interruptions.proofs.Resuming.{resumed, halted}

-- A routine whose way from the trap to its last instruction is this.
module _ (vector : ℕ) (code : ℕ → Bool) (words : ℕ) (user : Bool) (s : Start) (n : ℕ)
    (c : Calls vector code words user s n) (two : 2 ≤ words) (is-trap : vector < 0x0100)
    (low : (a : ℕ) → code a ≡ true → a < 0x02A5) (to : ℕ) (leads : vector_word ours vector ≡ to) where
  abbrev uses : ℕ → Bool
  uses = with_vector vector code

  abbrev f : Frame
  f = called_frame uses words user s

  abbrev begin : View
  begin = begun s (eight s.machine.regs c.begins.registers) to (next s.machine.pc)

  pub starts : (below k : ℕ) → 0 < k → Quiet s 0 k → Standing f below s 1 [] begin (own_rest begin)
  starts below k some quiet = record {
    sound = begins_sound s n c.begins;
    total = omega arith;
    words_below_lem = refl;
    words_above_lem = refl;
    like = record {
      fine = entered_fine words two s to (next s.machine.pc);
      bytes = refl;
      busy = omega arith;
      slots = λ i h d. refl;
    };
    kept = kept refl refl (le-leb 2 words two);
    at = routine_begins code words user s n k (eight s.machine.regs c.begins.registers) vector to c two quiet
        some is-trap leads;
  }

  module _ (may : ℕ → Bool) (below : ℕ)
      (away : (a : ℕ) → may a ≡ true → Readable (words + below) (stack_of s.machine) a) (mid : View) (len : ℕ)
      (way : Path f may begin len mid) (fine : cells_fine words mid.cells ≡ true) (deep : 0 < mid.depth)
      (room : length mid.bytes ≤ length s.output) (last : ℕ) (at_last : mid.pc ≡ last) (total : ℕ)
      (z : total ≡ 2 + len) (r : Start) (m : ℕ) (o : OnTheWay s total last words below r m) where
    abbrev On : Start → ℕ → ℕ → View → Rest → Type 0
    On = OnWay f below may away mid (1 + len)

    abbrev quiet : Quiet r 0 m
    quiet = quiet_steps r m m 0 o.accepted (omega arith) o.no_other

    -- where r begins
    abbrev the_course : Course f below s total last On
    the_course = course f below may away s begin mid len total last z way fine deep room at_last (starts below)

    chain : Chained f below s total last On (with_vector_below vector code (omega arith) low) o.apart the_course
        o.interrupted
    chain =
        chained f below s total last On (with_vector_below vector code (omega arith) low) o.apart the_course
        o.interrupted m o.accepted

    abbrev here : Stood f below s total last On r 0 o.shown o.made
    here = chain.first.stood

    -- where it comes to, some steps behind mid
    ended : (more : ℕ) (end : View) → Path f may mid more end → 1 + len + more ≤ o.made + m
        → Reached f below may away r 0 o.shown here.rest (here.on.left + more) end
    ended more end tail enough =
        reaches f below may away quiet o.shown (here.on.left + more) 0 (here.on.left + more) here.view end
        here.rest here.standing (then here.on.way tail) (omega arith) (omega (arith, here.on.in_time))

    goes_on : Ends uses words user s last mid → total ≤ o.made + m → (regs : List ℕ)
        → set mid.regs 6 (get_or s.machine.regs 6 0) ≡ regs → (bytes : List ℕ) → mid.bytes ≡ bytes
        → ResumesInTime s total last words below r m o bytes regs
    goes_on ends enough regs same bytes shown =
        let e = ended 0 mid (no_step_more mid) (omega arith) in
        record {
          before = chain.before;
          steps = suc (0 + e.steps);
          in_time = omega (arith, e.fewer, here.on.in_time);
          resumed = resumed uses words user s n c.begins two may below o.apart away e.standing m o.accepted
              quiet (omega (arith, e.fewer, here.on.in_time)) ends regs same bytes shown;
        }

    -- A routine that comes to STOP, and halts there in two steps.
    stops : (end : View) → Path f may mid 2 end → 1 + total < o.made + m → end.mcr ≡ 0 → end.pc ≡ 0x027E
        → psr_at f end ≡ s.machine.psr / 8 % 4096 * 8 + 1 → end.regs ≡ set s.machine.regs 6 0x2FFE
        → (bytes : List ℕ) → end.bytes ≡ bytes → HaltedLater s total last words below r m o bytes
    stops end tail enough off pc psr regs bytes shown =
        let e = ended 2 end tail (omega arith) in
        halted uses words user s n c.begins two may below o.apart away e.standing m o.accepted o refl
        chain.before (omega (arith, e.fewer, here.on.in_time)) off pc psr regs bytes shown

-- What is apart from more words of the stack is apart from fewer.
fewer_words : (user : Bool) (more fewer sp a : ℕ) → fewer ≤ more → may_read user more sp a ≡ true
    → may_read user fewer sp a ≡ true
fewer_words user more fewer sp a le h =
    let both = both_true (cond user (not (privileged a)) (ltb a 0xFE00)) (not (between (sp - more) (sp - 1) a)) h in
    let apart : (leb (sp - more) a && leb a (sp - 1)) ≡ false =
    is_not (leb (sp - more) a && leb a (sp - 1)) both.1 in
    rw both.0 (go (leb (sp - fewer) a) (leb a (sp - 1)) refl apart)
  where
    go : (p q : Bool) → leb (sp - fewer) a ≡ p → (leb (sp - more) a && q) ≡ false → not (p && q) ≡ true
    go true true e apart =
        let l : sp - fewer ≤ a = leb-true (sp - fewer) a e in
        absurd (true≢false (sym (rw (le-leb (sp - more) a (omega arith))) ∙ apart))
    go true false e apart = refl
    go false q e apart = refl

map_length : (l : List ℕ) → length (low_bytes l) ≡ length l
map_length [] = refl
map_length (w ∷ l) = ap (λ (i : ℕ). suc i) (map_length l)

module _ (user : Bool) (s : Start) (n : ℕ) (words : List ℕ) (b below : ℕ) (zero_word : get_or s.memory b 0 ≡ 0) where
  puts : Calls 0x22 puts_code 5 user s n → StringFrom (may_read_of user (5 + below) s) s.memory (r0 s) words b
      → may_read_of user (5 + below) s b ≡ true → length words ≤ length s.output → (r : Start) (m : ℕ)
      → (o : OnTheWay s (puts_steps user s words b) puts_last 5 below r m) → puts_steps user s words b ≤ o.made + m
      → ResumesInTime s (puts_steps user s words b) puts_last 5 below r m o (low_bytes words) s.machine.regs
  unfolding vector_word
  puts c string last room r m o enough =
      let e = eight s.machine.regs c.begins.registers in
      let mode = c.begins.mode in
      let few = few_of s n c.begins in
      let may : ℕ → Bool = may_read_of user (5 + below) s in
      let allowed : (a : ℕ) → may a ≡ true → may_read_of user 5 s a ≡ true =
      λ a h. fewer_words user (5 + below) 5 (stack_of s.machine) a (omega arith) h in
      let shown = (putsRest user s e mode few may allowed words b string room last zero_word).2 in
      let longer : length (low_bytes words) ≡ length words = map_length words in
      let ends = putsEnds user s e mode few may allowed words b string room last zero_word in
      goes_on 0x22 puts_code 5 user s n c (omega arith) (omega arith) puts_below 0x020C refl may below
      (λ a h. readable user (5 + below) (stack_of s.machine) a h)
      (putsReturning user s e mode few may allowed words b string room last zero_word)
      (putsBetween user s e mode few may allowed words b string room last zero_word)
      (putsWay user s e mode few may allowed words b string room last zero_word) ends.returns.fine
      (let d = ends.depth in omega (arith, d)) (rw (shown, longer) room) puts_last ends.there
      (puts_steps user s words b)
      (omega arith) r m o ends enough s.machine.regs
      (putsRegisters user s e mode few may allowed words b string room last zero_word) (low_bytes words) shown

  putsp : Calls 0x24 putsp_code 6 user s n → StringFrom (may_read_of user (6 + below) s) s.memory (r0 s) words b
      → AreWords words → may_read_of user (6 + below) s b ≡ true → length (pair_bytes words) ≤ length s.output
      → (r : Start) (m : ℕ) → (o : OnTheWay s (putsp_steps user (r0 s) words b) putsp_last 6 below r m)
      → putsp_steps user (r0 s) words b ≤ o.made + m
      → ResumesInTime s (putsp_steps user (r0 s) words b) putsp_last 6 below r m o (pair_bytes words) s.machine.regs
  unfolding vector_word
  putsp c string fit last room r m o enough =
      let e = eight s.machine.regs c.begins.registers in
      let mode = c.begins.mode in
      let few = few_of s n c.begins in
      let may : ℕ → Bool = may_read_of user (6 + below) s in
      let allowed : (a : ℕ) → may a ≡ true → may_read_of user 6 s a ≡ true =
      λ a h. fewer_words user (6 + below) 6 (stack_of s.machine) a (omega arith) h in
      let shown = (putspRest user s e mode few may allowed words b string fit room last zero_word).2 in
      let ends = putspEnds user s e mode few may allowed words b string fit room last zero_word in
      goes_on 0x24 putsp_code 6 user s n c (omega arith) (omega arith) putsp_below 0x023D refl may below
      (λ a h. readable user (6 + below) (stack_of s.machine) a h)
      (putspReturning user s e mode few may allowed words b string fit room last zero_word)
      (putspBetween user s e mode few may allowed words b string fit room last zero_word)
      (putspWay user s e mode few may allowed words b string fit room last zero_word) ends.returns.fine
      (let d = ends.depth in omega (arith, d)) (rw shown room) putsp_last ends.there
      (putsp_steps user (r0 s) words b) (omega arith) r m o ends enough s.machine.regs
      (putspRegisters user s e mode few may allowed words b string fit room last zero_word) (pair_bytes words) shown

out : (user : Bool) (s : Start) (n : ℕ) → Calls 0x21 out_code 3 user s n → 0 < length s.output → (below : ℕ)
    (r : Start) (m : ℕ) (o : OnTheWay s (out_steps_of s) out_last 3 below r m) → out_steps_of s ≤ o.made + m
    → ResumesInTime s (out_steps_of s) out_last 3 below r m o ((get_or s.machine.regs 0 0 % 256) ∷ []) s.machine.regs
unfolding vector_word
out user s n c free below r m o enough =
    let e = eight s.machine.regs c.begins.registers in
    let there = ends user s e in
    goes_on 0x21 out_code 3 user s n c (omega arith) (omega arith) out_below 0x0204 refl (λ a. false) below
    (λ a h. absurd (true≢false (sym h))) (returning user s e) _ (routine user s e (λ a. false) free)
    there.returns.fine (let d = there.depth in omega (arith, d)) (rw (the_byte user s e) free) out_last
    there.there (out_steps_of s) (omega arith) r m o there enough s.machine.regs (restored user s e)
    ((get_or s.machine.regs 0 0 % 256) ∷ []) (the_byte user s e)

halt : (user : Bool) (s : Start) (n : ℕ) → Calls 0x25 halt_code 5 user s n → 7 ≤ length s.output → (below : ℕ)
    (r : Start) (m : ℕ) (o : OnTheWay s (halt_steps - 1) stop_last 5 below r m) → halt_steps < o.made + m
    → HaltedLater s (halt_steps - 1) stop_last 5 below r m o message
unfolding vector_word
halt user s n c room below r m o more =
    let e = eight s.machine.regs c.begins.registers in
    let few = few_of s n c.begins in
    let may : ℕ → Bool = λ a. false in
    let front = haltFront user s e few room may in
    let shown = haltBytes user s e few room may in
    let then = haltThen user s e few room may in
    stops 0x25 halt_code 5 user s n c (omega arith) (omega arith) halt_below 0x026D refl may below
    (λ a h. absurd (true≢false (sym h))) (haltRestored user s e few room may) 83
    (haltWay user s e few room may) front.0 (let d = front.1 in omega (arith, d))
    (let t = (before (haltTail user s e few room may)).fewer in let l = ap length shown in omega (arith, t, l))
    stop_last
    front.2 85 refl r m o (haltStopped user s e few room may)
    (haltTail user s e few room may) more then.0 then.1 then.2 (haltRegisters user s e few room may) message
    shown

module _ (s : Start) (n : ℕ) (words : List ℕ) (b below : ℕ) (privileged-word : privileged b ≡ true)
    (small : b < 65536) where
  puts_refused : Calls 0x22 puts_code 5 true s n → StringFrom (may_read_of true (5 + below) s) s.memory (r0 s) words b
      → length words ≤ length s.output → (r : Start) (m : ℕ)
      → (o : OnTheWay s (refused_steps s words - 1) stop_last 5 below r m) → refused_steps s words < o.made + m
      → HaltedLater s (refused_steps s words - 1) stop_last 5 below r m o (low_bytes words)
  unfolding vector_word
  puts_refused c string room r m o more =
      let e = eight s.machine.regs c.begins.registers in
      let mode = c.begins.mode in
      let few = few_of s n c.begins in
      let may : ℕ → Bool = may_read_of true (5 + below) s in
      let allowed : (a : ℕ) → may a ≡ true → may_read_of true 5 s a ≡ true =
      λ a h. fewer_words true (5 + below) 5 (stack_of s.machine) a (omega arith) h in
      let front = putsFront s e mode few may allowed words b string room privileged-word small in
      let then = putsThen s e mode few may allowed words b string room privileged-word small in
      let tail = putsTail s e mode few may allowed words b string room privileged-word small in
      stops 0x22 puts_code 5 true s n c (omega arith) (omega arith) puts_below 0x020C refl may below
      (λ a h. readable true (5 + below) (stack_of s.machine) a h)
      (putsThere s e mode few may allowed words b string room privileged-word small) _
      (putsWayThere s e mode few may allowed words b string room privileged-word small) front.0
      (let d = front.1 in omega (arith, d))
      (let t = (before tail).fewer in let l = ap length then.3 ∙ map_length words in omega (arith, t, l)) stop_last
      front.2 (refused_steps s words - 1)
      (omega arith) r m o (putsStopped s e mode few may allowed words b string room privileged-word small) tail
      (omega arith) then.0 then.1 then.2
      (putsStoppedRegisters s e mode few may allowed words b string room privileged-word small) (low_bytes words)
      then.3

  putsp_refused : Calls 0x24 putsp_code 6 true s n
      → StringFrom (may_read_of true (6 + below) s) s.memory (r0 s) words b → AreWords words
      → length (pair_bytes words) ≤ length s.output → (r : Start) (m : ℕ)
      → (o : OnTheWay s (refused_pair_steps (r0 s) words - 1) stop_last 6 below r m)
      → refused_pair_steps (r0 s) words < o.made + m
      → HaltedLater s (refused_pair_steps (r0 s) words - 1) stop_last 6 below r m o (pair_bytes words)
  unfolding vector_word
  putsp_refused c string fit room r m o more =
      let e = eight s.machine.regs c.begins.registers in
      let mode = c.begins.mode in
      let few = few_of s n c.begins in
      let may : ℕ → Bool = may_read_of true (6 + below) s in
      let allowed : (a : ℕ) → may a ≡ true → may_read_of true 6 s a ≡ true =
      λ a h. fewer_words true (6 + below) 6 (stack_of s.machine) a (omega arith) h in
      let front = putspFront s e mode few may allowed words b string fit room privileged-word small in
      let then = putspThen s e mode few may allowed words b string fit room privileged-word small in
      let tail = putspTail s e mode few may allowed words b string fit room privileged-word small in
      stops 0x24 putsp_code 6 true s n c (omega arith) (omega arith) putsp_below 0x023D refl may below
      (λ a h. readable true (6 + below) (stack_of s.machine) a h)
      (putspThere s e mode few may allowed words b string fit room privileged-word small) _
      (putspWayThere s e mode few may allowed words b string fit room privileged-word small) front.0
      (let d = front.1 in omega (arith, d))
      (let t = (before tail).fewer in let l = ap length then.3 in omega (arith, t, l)) stop_last front.2
      (refused_pair_steps (r0 s) words - 1) (omega arith) r m o
      (putspStopped s e mode few may allowed words b string fit room privileged-word small) tail (omega arith)
      then.0 then.1 then.2
      (putspStoppedRegisters s e mode few may allowed words b string fit room privileged-word small) (pair_bytes words)
      then.3

pub interrupted_go_on : InterruptedGoOn
interrupted_go_on = record {
  out = out;
  puts = λ user s n c words b below string last zero_word room r m o enough.
      puts user s n words b below zero_word c string last room r m o enough;
  putsp = λ user s n c words b below string fit last zero_word room r m o enough.
      putsp user s n words b below zero_word c string fit last room r m o enough;
  halt = halt;
  puts_refused = λ s n c words b below string privileged-word small room r m o more.
      puts_refused s n words b below privileged-word small c string room r m o more;
  putsp_refused = λ s n c words b below string fit privileged-word small room r m o more.
      putsp_refused s n words b below privileged-word small c string fit room r m o more;
}
