-- Every number that crosses to C, for every case of its enum: stops, refusals with their index, a log's reasons, and
-- the kinds of instruction. The contracts of the exported functions use the definitions that are computed here.
use Rattle.std.specs.Prelude.{ℕ, ◌≡◌, true, false, List, [], ◌∷◌, map, pos, negsuc}
use Rattle.word.specs.declared.Instruction.{Instruction}
use Rattle.word.specs.declared.Instruction.TheVariants.{Br, AddRegister, AddImmediate, Ld, St, Jsr, Jsrr, AndRegister}
use Rattle.word.specs.declared.Instruction.TheVariants.{AndImmediate, Ldr, Str, Rti, Not, Ldi, Sti, Jmp, Reserved, Lea}
use Rattle.word.specs.declared.Instruction.TheVariants.{Trap}
use Rattle.machine.specs.declared.Rule.{Rule}
use Rattle.machine.specs.declared.Rule.TheVariants.{Instruction as Obeyed, Trap as Trapped, Privilege, Illegal, Access}
use Rattle.machine.specs.declared.Rule.TheVariants.{Keyboard, Timer}
use Rattle.machine.specs.Outcome.{trap, privilege, illegal, access, interrupt, Cause, instruction, entered}
use Rattle.machine.specs.Rules.{rule_of, rule_number, is_interrupt}
use Rattle.run.specs.declared.Refusal.TheVariants.{MemorySize, UndefinedRecord, TooManySteps, UnequalLists}
use Rattle.run.specs.declared.Refusal.TheVariants.{TimeBelowClock, TimesOutOfOrder}
use Rattle.run.specs.declared.Ending.{Ending}
use Rattle.run.specs.declared.Ending.TheVariants.{Done, Halted, OutputFull, Refused}
use Rattle.run.specs.Refusals.{ending_refusal, ending_index, ending_stop}
use Rattle.logging.specs.declared.LoggedEnding.TheVariants.{Run, LogFull}
use Rattle.logging.specs.LoggedCall.{logged_stop}
use Rattle.lc3_words.specs.Flat.{flat, flat_of}
use Rattle.lc3_words.specs.Writing.{refused, written, written_of}

-- Every ending of a run.
abbrev pub endings : List Ending
endings =
    Done
    ∷ Halted
    ∷ OutputFull
    ∷ Refused MemorySize
    ∷ Refused UndefinedRecord
    ∷ Refused TooManySteps
    ∷ Refused UnequalLists
    ∷ Refused (TimeBelowClock 3)
    ∷ Refused (TimesOutOfOrder 5)
    ∷ []

-- The stop of a logged run that ended as a run does.
abbrev pub stop_of_logged : Ending → ℕ
stop_of_logged w = logged_stop (Run w)

-- Every rule by which a step is made.
abbrev pub rules : List Rule
rules = Obeyed ∷ Trapped ∷ Privilege ∷ Illegal ∷ Access ∷ Keyboard ∷ Timer ∷ []

-- Every cause, with any values pushed, in the same order; at last a trap by a device's vector word, which is a trap.
abbrev pub causes : List Cause
causes =
    instruction
    ∷ entered (trap 0x0025) 1 2
    ∷ entered privilege 1 2
    ∷ entered illegal 1 2
    ∷ entered access 1 2
    ∷ entered (interrupt 0x0180) 1 2
    ∷ entered (interrupt 0x0181) 1 2
    ∷ entered (trap 0x0181) 1 2
    ∷ []

-- An instruction of each kind, with no two operands alike.
abbrev pub instructions : List Instruction
instructions =
    Br 5 (negsuc 1)
    ∷ AddRegister 1 2 3
    ∷ AddImmediate 1 2 (negsuc 2)
    ∷ Ld 1 (negsuc 3)
    ∷ St 1 (negsuc 4)
    ∷ Jsr (negsuc 5)
    ∷ Jsrr 1
    ∷ AndRegister 1 2 3
    ∷ AndImmediate 1 2 (negsuc 6)
    ∷ Ldr 1 2 (negsuc 7)
    ∷ Str 1 2 (pos 3)
    ∷ Rti
    ∷ Not 1 2
    ∷ Ldi 1 (negsuc 8)
    ∷ Sti 1 (negsuc 9)
    ∷ Jmp 1
    ∷ Reserved 0x0ABC
    ∷ Lea 1 (negsuc 10)
    ∷ Trap 0x00A5
    ∷ []

pub record NumbersHold : Type 0 where
  -- done 0, halted 1, output full 2, and 0 where refused; in a logged run 3 for log full
  pub stops : map ending_stop endings ≡ 0 ∷ 1 ∷ 2 ∷ 0 ∷ 0 ∷ 0 ∷ 0 ∷ 0 ∷ 0 ∷ []
  pub stops_logged : map stop_of_logged endings ≡ 0 ∷ 1 ∷ 2 ∷ 0 ∷ 0 ∷ 0 ∷ 0 ∷ 0 ∷ 0 ∷ []
  pub log_full : logged_stop LogFull ≡ 3
  -- the refusals of a run, 0 where it is accepted; and "the index, from 0, of the first offending entry"
  pub refusals : map ending_refusal endings ≡ 0 ∷ 0 ∷ 0 ∷ 11 ∷ 12 ∷ 13 ∷ 14 ∷ 15 ∷ 19 ∷ []
  pub indices : map ending_index endings ≡ 0 ∷ 0 ∷ 0 ∷ 0 ∷ 0 ∷ 0 ∷ 0 ∷ 3 ∷ 5 ∷ []
  -- for every entry
  pub index_below_clock : (index : ℕ) → ending_index (Refused (TimeBelowClock index)) ≡ index
  pub index_out_of_order : (index : ℕ) → ending_index (Refused (TimesOutOfOrder index)) ≡ index
  pub refusal_below_clock : (index : ℕ) → ending_refusal (Refused (TimeBelowClock index)) ≡ 15
  pub refusal_out_of_order : (index : ℕ) → ending_refusal (Refused (TimesOutOfOrder index)) ≡ 19
  -- "the reason: 0 instruction, 1 trap, 2 privilege, 3 illegal, 4 access, 5 keyboard, 6 timer"
  pub reasons : map rule_number rules ≡ 0 ∷ 1 ∷ 2 ∷ 3 ∷ 4 ∷ 5 ∷ 6 ∷ []
  pub rules_of_causes : map rule_of causes
      ≡ Obeyed ∷ Trapped ∷ Privilege ∷ Illegal ∷ Access ∷ Keyboard ∷ Timer ∷ Trapped ∷ []
  pub interrupts : map is_interrupt rules ≡ false ∷ false ∷ false ∷ false ∷ false ∷ true ∷ true ∷ []
  -- the kinds of instruction, with their operands in the assembler's order and 0 where there is none
  pub kinds : map flat_of instructions
      ≡ flat 0 5 0 0 (negsuc 1)
      ∷ flat 1 1 2 3 (pos 0)
      ∷ flat 2 1 2 0 (negsuc 2)
      ∷ flat 3 1 0 0 (negsuc 3)
      ∷ flat 4 1 0 0 (negsuc 4)
      ∷ flat 5 0 0 0 (negsuc 5)
      ∷ flat 6 1 0 0 (pos 0)
      ∷ flat 7 1 2 3 (pos 0)
      ∷ flat 8 1 2 0 (negsuc 6)
      ∷ flat 9 1 2 0 (negsuc 7)
      ∷ flat 10 1 2 0 (pos 3)
      ∷ flat 11 0 0 0 (pos 0)
      ∷ flat 12 1 2 0 (pos 0)
      ∷ flat 13 1 0 0 (negsuc 8)
      ∷ flat 14 1 0 0 (negsuc 9)
      ∷ flat 15 1 0 0 (pos 0)
      ∷ flat 16 0 0 0 (pos 0x0ABC)
      ∷ flat 17 1 0 0 (negsuc 10)
      ∷ flat 18 0 0 0 (pos 0x00A5)
      ∷ []
  -- the last kind that there is, and the first that there is none of
  pub last_kind : written_of (flat 18 0 0 0 (pos 0x00A5)) ≡ written 0xF0A5
  pub no_kind_19 : written_of (flat 19 0 0 0 (pos 0)) ≡ refused 2
  -- what writing refuses: "1 if a register is above 7, else 2 if a signed field .. is out of range, else 3 if the BR
  -- mask is above 7"; a negative value is no trap vector and no reserved field
  pub register_1 : written_of (flat 2 8 0 0 (pos 16)) ≡ refused 1
  pub field_2 : written_of (flat 0 8 0 0 (pos 256)) ≡ refused 2
  pub mask_3 : written_of (flat 0 8 0 0 (pos 255)) ≡ refused 3
  pub negative_vector : written_of (flat 18 0 0 0 (negsuc 0)) ≡ refused 2
  pub negative_reserved : written_of (flat 16 0 0 0 (negsuc 0)) ≡ refused 2
