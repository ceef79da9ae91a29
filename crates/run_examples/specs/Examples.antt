-- The fourteen examples of M15: one table in their order, each row under its line. Every row but the first is the
-- call with n = 1, so that it says too that the call is accepted and makes its step.
use Rattle.std.specs.Prelude.{ℕ, ◌≡◌, true, List, [], ◌∷◌, map, pos, get_or, set, replicate}
use Rattle.word.specs.Reading.{read_of}
use Rattle.word.specs.declared.Instruction.{Instruction}
use Rattle.word.specs.declared.Instruction.TheVariants.{AddImmediate}
use Rattle.machine.specs.declared.Machine.{Machine}
use Rattle.machine.specs.Record.{set_keyboard, fresh_devices}
use Rattle.run.specs.Fresh.{fresh_of}
use Rattle.run.specs.Run.{Start, End}
use Rattle.run.specs.Call.{start_of, call_of}

-- What a register or a word of memory holds.
pub data Fact : Type 0 where
  R : ℕ → ℕ → Fact
  PC : ℕ → Fact
  PSR : ℕ → Fact
  Saved_SSP : ℕ → Fact
  Saved_USP : ℕ → Fact
  KBSR : ℕ → Fact
  word : ℕ → ℕ → Fact

pub data Example : Type 0 where
  -- a word, and the instruction that it reads as
  reads : ℕ → Instruction → Example
  -- the word at PC, what else holds before the step, and what holds after it
  steps : ℕ → List Fact → List Fact → Example

abbrev pub examples : List Example
examples =
    -- 1. x14E7 reads as ADD R2, R3, #7.
    reads 0x14E7 (AddImmediate 2 3 (pos 7))
    -- 2. x1021, R0 x7FFF: R0 x8000, N.
    ∷ steps 0x1021 (R 0 0x7FFF ∷ []) (R 0 0x8000 ∷ PSR 0x8004 ∷ PC 0x3001 ∷ [])
    -- 3. x1021, R0 xFFFF: R0 0, Z.
    ∷ steps 0x1021 (R 0 0xFFFF ∷ []) (R 0 0 ∷ PSR 0x8002 ∷ PC 0x3001 ∷ [])
    -- 4. x0005: PC x3001.
    ∷ steps 0x0005 [] (PC 0x3001 ∷ PSR 0x8002 ∷ [])
    -- 5. x0FFF: PC x3000.
    ∷ steps 0x0FFF [] (PC 0x3000 ∷ PSR 0x8002 ∷ [])
    -- 6. xE1FF: R0 x3000, codes as before.
    ∷ steps 0xE1FF [] (R 0 0x3000 ∷ PSR 0x8002 ∷ PC 0x3001 ∷ [])
    -- 7. x41C0, R7 x4000: PC x4000, R7 x3001.
    ∷ steps 0x41C0 (R 7 0x4000 ∷ []) (PC 0x4000 ∷ R 7 0x3001 ∷ PSR 0x8002 ∷ [])
    -- 8. x8000: word x2FFF is x8002, x2FFE is x3000, R6 x2FFE, Saved_USP xFDFF, PSR x0002, PC from x0100.
    ∷ steps 0x8000 (word 0x0100 0x0400 ∷ [])
    (word 0x2FFF 0x8002 ∷ word 0x2FFE 0x3000 ∷ R 6 0x2FFE ∷ Saved_USP 0xFDFF ∷ PSR 0x0002 ∷ PC 0x0400 ∷ [])
    -- 9. x6040, R1 x2FFF: PC from x0102; R1 x3000 loads.
    ∷ steps 0x6040 (R 1 0x2FFF ∷ word 0x0102 0x0500 ∷ []) (PC 0x0500 ∷ PSR 0x0002 ∷ word 0x2FFE 0x3000 ∷ R 0 0 ∷ [])
    ∷ steps 0x6040 (R 1 0x3000 ∷ word 0x0102 0x0500 ∷ []) (R 0 0x6040 ∷ PSR 0x8001 ∷ PC 0x3001 ∷ [])
    -- 10. x6040, R1 xFE00: PC from x0102; R1 xFDFF loads.
    ∷ steps 0x6040 (R 1 0xFE00 ∷ word 0x0102 0x0500 ∷ []) (PC 0x0500 ∷ PSR 0x0002 ∷ word 0x2FFE 0x3000 ∷ R 0 0 ∷ [])
    ∷ steps 0x6040 (R 1 0xFDFF ∷ word 0xFDFF 0x9ABC ∷ []) (R 0 0x9ABC ∷ PSR 0x8004 ∷ PC 0x3001 ∷ [])
    -- 11. xF025: pushes x3001.
    ∷ steps 0xF025 (word 0x0025 0x0600 ∷ []) (word 0x2FFE 0x3001 ∷ word 0x2FFF 0x8002 ∷ R 6 0x2FFE ∷ PC 0x0600 ∷ [])
    -- 12. xF025, Saved_SSP x0026: PC x8002, because the push replaced the vector.
    ∷ steps 0xF025 (Saved_SSP 0x0026 ∷ word 0x0025 0x0600 ∷ [])
    (PC 0x8002 ∷ word 0x0025 0x8002 ∷ word 0x0024 0x3001 ∷ [])
    -- 13. Supervisor, x8000, R6 x2FFE, words x3001 and xFFFF there: PSR x8707, PC x3001, Saved_SSP x3000.
    ∷ steps 0x8000 (PSR 0x0002 ∷ R 6 0x2FFE ∷ word 0x2FFE 0x3001 ∷ word 0x2FFF 0xFFFF ∷ [])
    (PSR 0x8707 ∷ PC 0x3001 ∷ Saved_SSP 0x3000 ∷ R 6 0 ∷ [])
    -- 14. KBSR xC000, PSR x8302: PSR x0402, PC from x0180; with PSR x8402 no interrupt.
    ∷ steps 0x0000 (KBSR 0xC000 ∷ PSR 0x8302 ∷ word 0x0180 0x0700 ∷ [])
    (PSR 0x0402 ∷ PC 0x0700 ∷ KBSR 0xC000 ∷ word 0x2FFF 0x8302 ∷ word 0x2FFE 0x3000 ∷ [])
    ∷ steps 0x0000 (KBSR 0xC000 ∷ PSR 0x8402 ∷ word 0x0180 0x0700 ∷ []) (PSR 0x8402 ∷ PC 0x3001 ∷ KBSR 0xC000 ∷ [])
    ∷ []

-- A record with these values. "MCR x8000 and all else 0."
abbrev pub record_of : List ℕ → ℕ → ℕ → ℕ → ℕ → ℕ → Machine
record_of regs pc psr savedSsp savedUsp kbsr = record {
  regs = regs;
  pc = pc;
  psr = psr;
  saved_ssp = savedSsp;
  saved_usp = savedUsp;
  devices = set_keyboard kbsr 0 fresh_devices;
  clock = 0;
}

-- The record with this fact made true.
abbrev pub with_fact : Fact → Machine → Machine
with_fact (R r v) m = record_of (set m.regs r v) m.pc m.psr m.saved_ssp m.saved_usp m.devices.kbsr
with_fact (PC v) m = record_of m.regs v m.psr m.saved_ssp m.saved_usp m.devices.kbsr
with_fact (PSR v) m = record_of m.regs m.pc v m.saved_ssp m.saved_usp m.devices.kbsr
with_fact (Saved_SSP v) m = record_of m.regs m.pc m.psr v m.saved_usp m.devices.kbsr
with_fact (Saved_USP v) m = record_of m.regs m.pc m.psr m.saved_ssp v m.devices.kbsr
with_fact (KBSR v) m = record_of m.regs m.pc m.psr m.saved_ssp m.saved_usp v
with_fact (word a v) m = m

-- "Records are User mode, PC x3000, PSR x8002 (Supervisor: x0002), Saved_SSP x3000, R6 xFDFF": a fresh record. In
-- Supervisor mode the row changes PSR alone.
abbrev pub record_with : List Fact → Machine
record_with [] = fresh_of 0x3000 true 0xFDFF
record_with (f ∷ facts) = with_fact f (record_with facts)

abbrev pub with_word : Fact → List ℕ → List ℕ
with_word (R r v) mem = mem
with_word (PC v) mem = mem
with_word (PSR v) mem = mem
with_word (Saved_SSP v) mem = mem
with_word (Saved_USP v) mem = mem
with_word (KBSR v) mem = mem
with_word (word a v) mem = set mem a v

-- "The word named stands at PC." Words that no row names are 0.
abbrev pub memory_with : ℕ → List Fact → List ℕ
memory_with w [] = set (replicate 65536 0) 0x3000 w
memory_with w (f ∷ facts) = with_word f (memory_with w facts)

-- No key is pressed, and there is no output.
abbrev pub start_with : ℕ → List Fact → Start
start_with w before = start_of (record_with before) (memory_with w before) [] [] []

-- What the place that a fact names holds at the end of a call.
abbrev pub found_at : End → Fact → Fact
found_at e (R r v) = R r (get_or e.machine.regs r 0)
found_at e (PC v) = PC e.machine.pc
found_at e (PSR v) = PSR e.machine.psr
found_at e (Saved_SSP v) = Saved_SSP e.machine.saved_ssp
found_at e (Saved_USP v) = Saved_USP e.machine.saved_usp
found_at e (KBSR v) = KBSR e.machine.devices.kbsr
found_at e (word a v) = word a (get_or e.memory a 0)

-- The instruction read; or the steps made, and what holds after them.
pub data Result : Type 0 where
  instruction : Instruction → Result
  after : ℕ → List Fact → Result

abbrev pub result_at : End → List Fact → Result
result_at e facts = after e.steps (map (found_at e) facts)

-- What a row comes to by the definitions, and what it claims.
abbrev pub result_of : Example → Result
result_of (reads w i) = instruction (read_of w)
result_of (steps w before facts) = result_at (call_of (start_with w before) 1) facts

abbrev pub claim_of : Example → Result
claim_of (reads w i) = instruction i
claim_of (steps w before facts) = after 1 facts

-- Every row comes to what it claims.
abbrev pub ExamplesHold : Type 0
ExamplesHold = map result_of examples ≡ map claim_of examples
