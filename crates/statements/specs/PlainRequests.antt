-- M27.7 and M28 once more, with none of the notions that their statements in crates/run name: instructions, addresses
-- and steps as MACHINE.md has them. Were a notion there to ask for more or to say less, this would not follow.
use Rattle.std.specs.Prelude.{None}
use Rattle.std.specs.Prelude.{ℕ, suc, ◌%◌, ◌≤◌, ◌<◌, ◌≡◌, List, [], ◌∷◌, ℤ, length, get_or, set}
use Rattle.word.specs.Reading.{read_of}
use Rattle.word.specs.declared.Instruction.{Instruction}
use Rattle.word.specs.declared.Instruction.TheVariants.{Br, AddRegister, AddImmediate, Ld, St, Jsr, Jsrr, AndRegister}
use Rattle.word.specs.declared.Instruction.TheVariants.{AndImmediate, Ldr, Str, Rti, Not, Ldi, Sti, Jmp, Reserved, Lea}
use Rattle.word.specs.declared.Instruction.TheVariants.{Trap}
use Rattle.machine.specs.declared.Machine.{Machine}
use Rattle.machine.specs.Edition.{Edition, second}
use Rattle.machine.specs.Words.{next, plus, register}
use Rattle.machine.specs.Interrupts.{pending_interrupt}
use Rattle.machine.specs.Devices.{loaded_value_by}
use Rattle.machine.specs.Step.{Step, after_start, step_by}
use Rattle.footprint.specs.Footprint.{Each, NoneOf}
use Rattle.run.specs.declared.Ending.TheVariants.{OutputFull}
use Rattle.run.specs.Run.{Start, End, arriving, next_step_by}
use Rattle.run.specs.Refusals.{admission_of, Accepted}
use Rattle.run.specs.Call.{start_of, call_by, call_of, second_call_of}

-- ---- M27.7

-- The addresses of an instruction's data and pointer accesses; where a pointer is, what it points to is the second.
abbrev pub addresses_of : Instruction → Machine → List ℕ → List ℕ
addresses_of (Br mask n) m mem = []
addresses_of (AddRegister d a b) m mem = []
addresses_of (AddImmediate d a n) m mem = []
addresses_of (Ld d n) m mem = plus (next m.pc) n ∷ []
addresses_of (St s n) m mem = plus (next m.pc) n ∷ []
addresses_of (Jsr n) m mem = []
addresses_of (Jsrr b) m mem = []
addresses_of (AndRegister d a b) m mem = []
addresses_of (AndImmediate d a n) m mem = []
addresses_of (Ldr d b n) m mem = plus (register m.regs b) n ∷ []
addresses_of (Str s b n) m mem = plus (register m.regs b) n ∷ []
addresses_of Rti m mem = []
addresses_of (Not d a) m mem = []
addresses_of (Ldi d n) m mem = plus (next m.pc) n ∷ loaded_value_by second (plus (next m.pc) n) m mem ∷ []
addresses_of (Sti s n) m mem = plus (next m.pc) n ∷ loaded_value_by second (plus (next m.pc) n) m mem ∷ []
addresses_of (Jmp b) m mem = []
addresses_of (Reserved low) m mem = []
addresses_of (Lea d n) m mem = []
addresses_of (Trap vector) m mem = []

-- "No LEA, TRAP or JSRR R7, .. no privileged address in User mode, fetches included, and no xFFFC by a data or pointer
-- access", of the instruction i that stands at PC.
pub record Common (i : Instruction) (m : Machine) (mem : List ℕ) : Type 0 where
  pub no_lea : (d : ℕ) (n : ℤ) → i ≡ Lea d n → ⊥
  pub no_trap : (vector : ℕ) → i ≡ Trap vector → ⊥
  pub no_jsrr_r7 : (b : ℕ) → i ≡ Jsrr b → b % 8 ≡ 7 → ⊥
  pub none_privileged : 0x8000 ≤ m.psr → Each (λ a. (0x3000 ≤ a) × (a ≤ 0xFDFF)) (m.pc ∷ addresses_of i m mem)
  pub no_psr : NoneOf 0xFFFC (addresses_of i m mem)

-- It is asked of the step that the run would make next, unless that takes an interrupt.
abbrev pub CommonNext : Start → End → Type 0
CommonNext s e =
    pending_interrupt (after_start (arriving s e) e.machine) ≡ None
    → Common (read_of (get_or e.memory (after_start (arriving s e) e.machine).pc 0))
    (after_start (arriving s e) e.machine) e.memory

-- A run by the second edition's rules of which this holds in every step made, "counting also the step it stopped
-- before", "must end as the newer run does".
abbrev pub PlainRequest10 : Type 0
PlainRequest10 = (s : Start) (n : ℕ)
    → ((k : ℕ) → k < (second_call_of s n).steps → CommonNext s (second_call_of s k))
    → ((second_call_of s n).ending ≡ OutputFull → CommonNext s (second_call_of s (second_call_of s n).steps))
    → second_call_of s n ≡ call_of s n

-- ---- M28

-- None of the first k steps "fetches, loads, pops or takes a vector or pointer from" the word at w.
abbrev pub NoneTakes : Step → ℕ → Start → ℕ → Type 0
NoneTakes step w s k = (j : ℕ) → j < k → NoneOf w (next_step_by step s (call_by step s j)).reads

-- "Records and outputs agree, and memories except at that word"; counts and stop too.
pub record AllBut (w : ℕ) (e₁ e₂ : End) : Type 0 where
  pub machine : e₁.machine ≡ e₂.machine
  pub output : e₁.output ≡ e₂.output
  pub size : length e₁.memory ≡ length e₂.memory
  pub words : (a : ℕ) → (a ≡ w → ⊥) → get_or e₁.memory a 0 ≡ get_or e₂.memory a 0
  pub steps : e₁.steps ≡ e₂.steps
  pub keys : e₁.keys ≡ e₂.keys
  pub shown : e₁.shown ≡ e₂.shown
  pub ending : e₁.ending ≡ e₂.ending

-- Two runs of n steps with this step.
pub record TellsOf (step : Step) (w : ℕ) (s₁ s₂ : Start) (n : ℕ) : Type 0 where
  -- "after every step before the first that .. takes .. from it", in either run
  pub reached_by_second : (k : ℕ) → k ≤ (call_by step s₁ n).steps → NoneTakes step w s₁ k
      → (k ≤ (call_by step s₂ n).steps) × NoneTakes step w s₂ k
  pub reached_by_first : (k : ℕ) → k ≤ (call_by step s₂ n).steps → NoneTakes step w s₂ k
      → (k ≤ (call_by step s₁ n).steps) × NoneTakes step w s₁ k
  pub same : (k : ℕ) → k ≤ (call_by step s₁ n).steps → NoneTakes step w s₁ k
      → AllBut w (call_by step s₁ k) (call_by step s₂ k)
  -- "Where no step does, counts and stop agree too."
  pub same_to_the_end : NoneTakes step w s₁ (call_by step s₁ n).steps → NoneTakes step w s₂ (call_by step s₂ n).steps
      → AllBut w (call_by step s₁ n) (call_by step s₂ n)
  -- "If a store or push replaces the word in one of those earlier steps, the runs are equal from there to the end."
  pub equal : (k j : ℕ) → k ≤ (call_by step s₁ n).steps → NoneTakes step w s₁ k → j < k
      → (NoneOf w (next_step_by step s₁ (call_by step s₁ j)).writes → ⊥)
      → (i : ℕ) → suc j ≤ i → i ≤ n → call_by step s₁ i ≡ call_by step s₂ i

-- "Two accepted runs with equal inputs but one lent word", by both editions' rules.
abbrev pub PlainRequest14 : Type 0
PlainRequest14 = (edition : Edition) (w v : ℕ) (s : Start) (n : ℕ) → admission_of s n ≡ Accepted
    → TellsOf (step_by edition) w s
    (start_of s.machine (set s.memory w v) s.times s.bytes s.output) n
