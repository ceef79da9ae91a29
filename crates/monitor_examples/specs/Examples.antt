-- The premises of the theorems can be met: for each, a fresh machine at x3000 with the monitor in memory.
use Rattle.std.specs.Prelude.{ℕ, ◌+◌, ◌%◌, ◌<◌, ◌≡◌, Bool, true, false, cond, List, [], ◌∷◌, get_or, set, drop}
use Rattle.std.specs.Prelude.{replicate}
use Rattle.word.specs.Reading.{read_of}
use Rattle.word.specs.declared.Instruction.TheVariants.{Reserved}
use Rattle.machine.specs.declared.Machine.{Machine}
use Rattle.machine.specs.Record.{devices_of, zero_timer}
use Rattle.machine.specs.Outcome.{privilege, illegal, access, vector_of}
use Rattle.run.specs.Run.{Start}
use Rattle.run.specs.Call.{start_of, call_of}
use Rattle.monitor.specs.Install.{install_of}
use Rattle.monitor.specs.Uses.{with_vector, getc_code, out_code, puts_code, in_code, putsp_code, halt_code, stop_code}
use Rattle.monitor.specs.Calls.{StackApart, Begins, Calls, Raises, NoInterrupt}
use Rattle.monitor.specs.Puts.{may_read, StringFrom}
use Rattle.monitor.specs.Keys.{key_at}
use Rattle.monitor.specs.Getc.{KeyComes}
use Rattle.monitor.specs.In.{first_poll}
use Rattle.monitor.specs.Out.{out_steps_of}
use Rattle.monitor.specs.Back.{Interrupted}
use Rattle.interruptions.specs.GoesOn.{OnTheWay, out_last}
use Rattle.interruptions.specs.Reads.{getc_poll, getc_last}

-- In User mode or in Supervisor mode, with the supervisor stack at sp. R0 is x3002; this KBSR, and the key x61 in KBDR.
abbrev pub program_at3000 : Bool → ℕ → ℕ → Machine
program_at3000 user sp kbsr = record {
  regs = 0x3002 ∷ 0 ∷ 0 ∷ 0 ∷ 0 ∷ 0 ∷ cond user 0xFDFF sp ∷ 0 ∷ [];
  pc = 0x3000;
  psr = cond user 0x8002 0x0002;
  saved_ssp = sp;
  saved_usp = 0;
  devices = devices_of kbsr 0x61 0x8000 0 zero_timer;
  clock = 0;
}

-- The instruction at x3000, and the string "a", xABCD, end at x3002.
unfoldable pub example_memory : ℕ → List ℕ
example_memory word = set (set (set (install_of (replicate 65536 0)).words 0x3000 word) 0x3002 0x0061) 0x3003 0xABCD

unfoldable pub example_with : ℕ → Bool → ℕ → ℕ → Start
example_with sp user word kbsr = start_of (program_at3000 user sp kbsr) (example_memory word) [] [] (replicate 32 0)

-- The stack at x3000, as a start makes it.
abbrev pub example : Bool → ℕ → ℕ → Start
example = example_with 0x3000

-- OUT is called in User mode; the keyboard may interrupt, and a key comes in the third step, on the way through OUT.
unfoldable pub key_on_the_way : Start
key_on_the_way =
    start_of (program_at3000 true 0x3000 0x4000) (example_memory 0xF021) (2 ∷ []) (0x61 ∷ []) (replicate 32 0)

-- There a class's own routine takes the key, which clears ready, and returns: some steps have passed, and KBSR is this.
abbrev pub after_own_routine : ℕ → ℕ → Machine → Machine
after_own_routine kbsr clock m = record {
  regs = m.regs;
  pc = m.pc;
  psr = m.psr;
  saved_ssp = m.saved_ssp;
  saved_usp = m.saved_usp;
  devices = devices_of kbsr 0x61 0x8000 0 zero_timer;
  clock = clock;
}

-- The call goes on after k steps and the interrupt, with these keys to come.
abbrev pub past_interrupt : Start → ℕ → ℕ → ℕ → List ℕ → List ℕ → Start
past_interrupt q k kbsr clock times bytes =
    start_of (after_own_routine kbsr clock (call_of q k).machine) (call_of q k).memory times bytes
    (drop (call_of q k).shown (call_of q k).output)

-- Seven steps later, and the keyboard may no longer interrupt.
abbrev pub past_the_interrupt : Start
past_the_interrupt = past_interrupt key_on_the_way 2 0 9 [] []

-- Or it still may, and another key comes in the second step; and that interrupt too is past.
abbrev pub another_on_the_way : Start
another_on_the_way = past_interrupt key_on_the_way 2 0x4000 9 (10 ∷ []) (0x62 ∷ [])

abbrev pub past_both : Start
past_both = past_interrupt another_on_the_way 1 0 17 [] []

-- GETC is called so. Its poll has found no key when one comes, and the own routine takes it; three steps after the
-- return another comes, which may not interrupt.
unfoldable pub key_in_getc : Start
key_in_getc = start_of (program_at3000 true 0x3000 0x4000) (example_memory 0xF020) (2 ∷ []) (0x61 ∷ []) (replicate 32 0)

abbrev pub past_in_getc : Start
past_in_getc = past_interrupt key_in_getc 2 0 9 (12 ∷ []) (0x62 ∷ [])

pub record ExamplesHold : Type 0 where
  -- a stack at x3000, as a start makes it; elsewhere; and at both ends of where it may be
  pub at_x3000 : StackApart 6 0x3000
  pub at_x5000 : StackApart 6 0x5000
  pub lowest : StackApart 6 0x02AB
  pub highest : StackApart 6 0xFE00
  -- each routine is called, wherever the stack is
  pub getc : (user : Bool) (sp : ℕ) → StackApart 2 sp
      → Calls 0x20 getc_code 2 user (example_with sp user 0xF020 0x8000) 1000
  pub getc_key : (user : Bool) (sp : ℕ) → KeyComes (example_with sp user 0xF020 0x8000) 1 0
  pub out : (user : Bool) (sp : ℕ) → StackApart 3 sp
      → Calls 0x21 out_code 3 user (example_with sp user 0xF021 0x8000) 1000
  pub puts : (user : Bool) (sp : ℕ) → StackApart 5 sp
      → Calls 0x22 puts_code 5 user (example_with sp user 0xF022 0x8000) 1000
  pub input : (user : Bool) (sp : ℕ) → StackApart 4 sp
      → Calls 0x23 in_code 4 user (example_with sp user 0xF023 0x8000) 1000
  pub input_key : (user : Bool) (sp : ℕ)
      → KeyComes (example_with sp user 0xF023 0x8000) (first_poll (example_with sp user 0xF023 0x8000)) 0
  pub putsp : (user : Bool) (sp : ℕ) → StackApart 6 sp
      → Calls 0x24 putsp_code 6 user (example_with sp user 0xF024 0x8000) 1000
  pub halt : (user : Bool) (sp : ℕ) → StackApart 5 sp
      → Calls 0x25 halt_code 5 user (example_with sp user 0xF025 0x8000) 1000
  pub other : (user : Bool) (sp : ℕ) → StackApart 2 sp
      → Calls 0xFF stop_code 2 user (example_with sp user 0xF0FF 0x8000) 1000
  -- the string from x3002 on is apart from a stack at x3000; and from one right above it, at x3009 and x300A
  pub puts_string : (user : Bool)
      → StringFrom (may_read user 5 0x3000) (example_memory 0xF022) 0x3002 (0x0061 ∷ 0xABCD ∷ []) 0x3004
  pub puts_string_below : (user : Bool)
      → StringFrom (may_read user 5 0x3009) (example_memory 0xF022) 0x3002 (0x0061 ∷ 0xABCD ∷ []) 0x3004
  pub puts_end : get_or (example_memory 0xF022) 0x3004 0 ≡ 0
  pub putsp_string : (user : Bool)
      → StringFrom (may_read user 6 0x3000) (example_memory 0xF024) 0x3002 (0x0061 ∷ 0xABCD ∷ []) 0x3004
  pub putsp_string_below : (user : Bool)
      → StringFrom (may_read user 6 0x300A) (example_memory 0xF024) 0x3002 (0x0061 ∷ 0xABCD ∷ []) 0x3004
  -- LD R0 from x2FFF
  pub access_exception_lem : Raises access stop_code 2 (example true 0x21FE 0x8000) 1000
  -- RTI; a reserved word, and one in Supervisor mode
  pub privilege_exception : Raises privilege stop_code 2 (example true 0x8000 0x8000) 1000
  pub illegal_exception : Raises illegal stop_code 2 (example true 0xD000 0x8000) 1000
  pub illegal_begins : (sp : ℕ) → StackApart 2 sp
      → Begins (with_vector (vector_of illegal) stop_code) 2 false (example_with sp false 0xD000 0x8000) 1000
  pub illegal_word : read_of (get_or (example_memory 0xD000) 0x3000 0) ≡ Reserved 0
  -- no device is enabled, whatever the word and the keyboard's ready bit are
  pub no_interrupt : (user : Bool) (sp word k : ℕ) → NoInterrupt (example_with sp user word 0x8000) k
  -- a key that is ready and may interrupt, and one that comes on the way through a routine
  pub interrupted : Interrupted (example true 0x1020 0xC000) 1000 0 (call_of (example true 0x1020 0xC000) 0)
  pub on_the_way : Interrupted key_on_the_way 1000 2 (call_of key_on_the_way 2)
  -- OUT is interrupted after two steps, and a class's own routine returns; and once more, a step later
  pub own_out : Calls 0x21 out_code 3 true key_on_the_way 1000
  pub own_returned : OnTheWay key_on_the_way (out_steps_of key_on_the_way) out_last 3 3 past_the_interrupt 100
  pub own_returned_twice : OnTheWay key_on_the_way (out_steps_of key_on_the_way) out_last 3 3 past_both 100
  -- GETC is interrupted behind a poll that found no key: it stands at BRzp, and reads the key that comes
  pub own_getc : Calls 0x20 getc_code 2 true key_in_getc 1000
  pub own_getc_returned : OnTheWay key_in_getc 0 getc_last 2 3 past_in_getc 100
  pub own_getc_place : (past_in_getc.machine.pc ≡ getc_poll + 1) × (past_in_getc.machine.psr % 8 < 4)
  pub own_getc_key : KeyComes past_in_getc 1 1
  pub own_getc_reads : key_at past_in_getc 5 ≡ 0x62
