-- What is told of the step that a run would make next, from that step's outcome: by which rule it is made, the word
-- that it fetches, and the addresses of the lent words that it takes and of those that it stores to, in the step's
-- order.
use Rattle.std.specs.Prelude.{Ok, Err}
use Rattle.std.specs.Prelude.{ℕ, ◌+◌, min, cond, List, [], ◌∷◌}
use Rattle.machine.specs.declared.Machine.{Machine}
use Rattle.machine.specs.declared.Rule.TheVariants.{Instruction}
use Rattle.machine.specs.Edition.{Edition}
use Rattle.machine.specs.Devices.{is_device_by}
use Rattle.machine.specs.Outcome.{Outcome}
use Rattle.machine.specs.Step.{step_by}
use Rattle.machine.specs.Rules.{rule_of, fetched_word_by}
use Rattle.run.specs.declared.Ending.{Ending}
use Rattle.run.specs.declared.Ending.TheVariants.{Done, Halted, Refused}
use Rattle.run.specs.Run.{Start, begin, next_step_by, is_halted}
use Rattle.run.specs.Refusals.{admission_of, Admission}
use Rattle.telling.specs.declared.Addresses.{Addresses}
use Rattle.telling.specs.declared.Touched.{Touched}
use Rattle.telling.specs.declared.Told.{Told}

-- One address more, before the others. Of a longer list the first three are told; a step's is never longer.
abbrev pub prepended : ℕ → Addresses → Addresses
prepended a l = record {
  count = min 3 (l.count + 1);
  first = a;
  second = l.first;
  third = l.second;
}

abbrev pub addresses_of : List ℕ → Addresses
addresses_of [] = record { count = 0; first = 0; second = 0; third = 0 }
addresses_of (a ∷ l) = prepended a (addresses_of l)

-- An instruction obeyed to its end that takes and stores to no word.
abbrev pub untouched : Touched
untouched = record { rule = Instruction; reads = addresses_of []; writes = addresses_of [] }

-- The same with a pointer taken before: none behind a device register.
abbrev pub after_pointer : Edition → ℕ → Touched → Touched
after_pointer e a t = record {
  rule = t.rule;
  reads = cond (is_device_by e a) t.reads (prepended a t.reads);
  writes = t.writes;
}

abbrev pub touched_in : Outcome → Touched
touched_in o = record {
  rule = rule_of o.cause;
  reads = addresses_of o.reads;
  writes = addresses_of o.writes;
}

-- A step from this record and memory with this outcome.
abbrev pub told_of : Edition → Machine → List ℕ → Outcome → Told
told_of e m mem o = record {
  ending = Done;
  word = fetched_word_by e (rule_of o.cause) m mem;
  touched = touched_in o;
}

-- No step: the call is turned down, or the machine is halted.
abbrev pub untold : Ending → Told
untold w = record { ending = w; word = 0; touched = untouched }

-- The step that the run would make first. Whether there is room for the byte that it may show is not asked.
abbrev pub told_next : Edition → Start → Told
told_next e s =
    cond (is_halted (begin s)) (untold Halted)
    (told_of e s.machine s.memory (next_step_by (step_by e) s (begin s)))

abbrev pub told_admitted : Edition → Admission → Start → Told
told_admitted e (Ok _) s = told_next e s
told_admitted e (Err r) s = untold (Refused r)

-- The call is turned down as a run of one step is.
abbrev pub told_by : Edition → Start → Told
told_by e s = told_admitted e (admission_of s 1) s
