-- What a host is told of the next step: refusal, index and stop, and the reason, as their numbers.
use Rattle.machine.specs.Rules.{rule_number}
use Rattle.run.specs.Refusals.{ending_refusal, ending_index, ending_stop}
use Rattle.telling.specs.declared.Told.{Told}
use Rattle.lc3_telling.specs.declared.Lc3Told.{Lc3Told}

abbrev pub told_answer : Told → Lc3Told
told_answer t = record {
  index = ending_index t.ending;
  refusal = ending_refusal t.ending;
  stop = ending_stop t.ending;
  word = t.word;
  reason = rule_number t.touched.rule;
  reads = t.touched.reads;
  writes = t.touched.writes;
}
