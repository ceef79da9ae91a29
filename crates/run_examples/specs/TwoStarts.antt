-- The premises of noninterference can be met by two starts that differ in all that they leave free: so the claim is not
-- an empty one.
use Rattle.std.specs.Prelude.{ℕ, List, [], ◌∷◌, set, replicate}
use Rattle.machine.specs.Record.{devices_of, fresh_devices}
use Rattle.run.specs.Run.{Start}
use Rattle.run.specs.Noninterference.{First, MeetsNone, Premises}

-- User mode, PC x3000, where ADD R0, R0, #1 stands and then TRAP x25.
abbrev pub program : List ℕ
program = set (set (replicate 65536 0) 0x3000 0x1021) 0x3001 0xF025

abbrev pub start₁ : Start
start₁ = record {
  machine = record {
    regs = 0 ∷ 0 ∷ 0 ∷ 0 ∷ 0 ∷ 0 ∷ 0xFDFF ∷ 0 ∷ [];
    pc = 0x3000;
    psr = 0x8002;
    saved_ssp = 0x3000;
    saved_usp = 0;
    devices = fresh_devices;
    clock = 0;
  };
  memory = program;
  times = [];
  bytes = [];
  output = [];
}

-- The same to User mode, and different in all else: a trap vector word below x3000 and a word from xFE00 on, both saved
-- stack pointers, keyboard, busy count, timer and clock, a key that arrives in its second step, and an output with
-- room.
abbrev pub start₂ : Start
start₂ = record {
  machine = record {
    regs = 0 ∷ 0 ∷ 0 ∷ 0 ∷ 0 ∷ 0 ∷ 0xFDFF ∷ 0 ∷ [];
    pc = 0x3000;
    psr = 0x8002;
    saved_ssp = 0x2000;
    saved_usp = 0x4000;
    devices = devices_of 0x8000 0x0041 0x8000 3 (record { status = 0x8000; interval = 5; count = 4 });
    clock = 7;
  };
  memory = set (set program 0x0025 0x0400) 0xFE10 0x1234;
  times = 8 ∷ [];
  bytes = 0x42 ∷ [];
  output = 0 ∷ [];
}

pub record PremisesCanBeMet : Type 0 where
  -- with n = 1 both make the ADD, and meet no trap or exception
  pub premises_for_one : Premises start₁ start₂ 1
  pub meets_none : MeetsNone start₁ 1
  -- with n = 2 the first trap or exception is TRAP x25, in step number 1
  pub premises_for_two : Premises start₁ start₂ 2
  pub meets_trap : First start₁ 2 1 0x0025 0x8001 0x3002
