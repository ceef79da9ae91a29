-- Each number in turn: by computing.
use mathlib.Core.Path.{refl}
use Rattle.machine.proofs.Opened.{opened}
use Rattle.rows.specs.Every.{up_from, EachVectorAndByte, EachRegister, EachCodeAndPriority, EveryHold}

vectors_and_bytes : EachVectorAndByte
unfolding opened up_from
vectors_and_bytes = record { vectors = refl; keys = refl; bytes = refl }

registers : EachRegister
unfolding opened up_from
registers = record {
  jmp = refl;
  jsrr = refl;
  jsrr_second = refl;
  ldr = refl;
  str = refl;
  add = refl;
  add_immediate = refl;
  and = refl;
  and_immediate = refl;
  not = refl;
  ld = refl;
  ldi = refl;
  lea = refl;
  st = refl;
  sti = refl;
  put = refl;
}

codes_and_priorities : EachCodeAndPriority
unfolding opened up_from
codes_and_priorities = record {
  branches = refl;
  keyboard = refl;
  timer = refl;
  both = refl;
  neither = refl;
  busy_counts = refl;
  display = refl;
}

pub every_hold : EveryHold
every_hold = record {
  vectors_and_bytes = vectors_and_bytes;
  registers = registers;
  codes_and_priorities = codes_and_priorities;
}
