-- What a function answers and what it leaves, packed as one value: each number in its place, for any record. No two
-- numbers are the same, and the counts of runs have bits beyond the fifteenth.
use Rattle.std.specs.Prelude.{ℕ, ◌≡◌, Ok, Err, List, [], ◌∷◌, pos}
use Rattle.word.specs.declared.Instruction.TheVariants.{Rti}
use Rattle.word.specs.declared.WriteRefusal.TheVariants.{Field}
use Rattle.lent.specs.declared.Refusal.TheVariants.{BrokenFile, OutsideUserWords}
use Rattle.lent.specs.Lent.{counted, host_counted}
use Rattle.machine.specs.declared.Machine.{Machine}
use Rattle.machine.specs.declared.Rule.TheVariants.{Access}
use Rattle.run.specs.declared.Refusal.TheVariants.{TimesOutOfOrder}
use Rattle.run.specs.declared.Report.{Report}
use Rattle.run.specs.declared.Ending.{Ending}
use Rattle.run.specs.declared.Ending.TheVariants.{Done, Halted, OutputFull, Refused}
use Rattle.run.specs.Run.{End}
use Rattle.run.specs.Call.{end_of}
use Rattle.logging.specs.declared.LoggedEnding.{LoggedEnding}
use Rattle.logging.specs.declared.LoggedEnding.TheVariants.{Run, LogFull}
use Rattle.logging.specs.LoggedRun.{Logged, with_log}
use Rattle.logging.specs.LoggedCall.{logged_end_of}
use Rattle.object.specs.Calls.{loading}
use Rattle.start.specs.Start.{zero_machine, starting}
use Rattle.answers.specs.Answer.{Answered, answer_of, report_of, reported, answered}
use Rattle.lc3_logging.specs.LoggedAnswer.{LoggedAnswered, logged_answer_of, logged_answered}
use Rattle.telling.specs.declared.Addresses.{Addresses}
use Rattle.lc3_telling.specs.ToldAnswer.{told_answer}
use Rattle.lc3_objects.specs.Answers.{host_starting}
use Rattle.lc3_words.specs.Flat.{flat, flat_read_of}
use Rattle.lc3_words.specs.Writing.{host_answer}

-- ---- a run

abbrev pub report : Ending → Report
report w = record { steps = 0x18081; keys = 0x8083; shown = 0x8085; ending = w }

abbrev pub ended : Machine → Ending → End
ended m w = record {
  machine = m;
  memory = 8 ∷ [];
  output = 9 ∷ [];
  steps = 0x18081;
  keys = 0x8083;
  shown = 0x8085;
  ending = w;
}

-- What a host has of it: index, refusal and stop besides.
abbrev pub placed : Machine → ℕ → ℕ → ℕ → Answered
placed m index refusal stop = record {
  machine = m;
  memory = 8 ∷ [];
  output = 9 ∷ [];
  steps = 0x18081;
  keys = 0x8083;
  shown = 0x8085;
  index = index;
  refusal = refusal;
  stop = stop;
}

pub record RunsInPlace (m : Machine) : Type 0 where
  pub of_a_run : answer_of (ended m OutputFull) ≡ placed m 0 0 2
  pub of_a_refusal : answer_of (ended m (Refused (TimesOutOfOrder 4))) ≡ placed m 4 19 0
  pub report_of_a_run : report_of (report OutputFull)
      ≡ record { steps = 0x18081; keys = 0x8083; shown = 0x8085; index = 0; refusal = 0; stop = 2 }
  pub report_of_a_refusal : report_of (report (Refused (TimesOutOfOrder 4)))
      ≡ record { steps = 0x18081; keys = 0x8083; shown = 0x8085; index = 4; refusal = 19; stop = 0 }
  -- the step on a lent record, and the run, as C has them
  pub step_to_c :
      reported m (record { steps = 0x18081; keys = 0x8083; shown = 0x8085; index = 4; refusal = 5; stop = 6 }) (8 ∷ [])
      (9 ∷ [])
      ≡ placed m 4 5 6
  pub run_to_c :
      answered
      (record { machine = m; steps = 0x18081; keys = 0x8083; shown = 0x8085; index = 4; refusal = 5; stop = 6 })
      (8 ∷ []) (9 ∷ [])
      ≡ placed m 4 5 6
  -- the run of crate `run_call`, and the step of crate `single_step`
  pub run : end_of (record { machine = m; report = report Halted }) (8 ∷ []) (9 ∷ []) ≡ ended m Halted

-- ---- a logged run

abbrev pub logged_with : Machine → LoggedEnding → Logged
logged_with m w = with_log w (ended m Done) (10 ∷ []) 0x8089

abbrev pub placed_with_log : Machine → ℕ → ℕ → ℕ → LoggedAnswered
placed_with_log m index refusal stop = record {
  machine = m;
  memory = 8 ∷ [];
  output = 9 ∷ [];
  log = 10 ∷ [];
  steps = 0x18081;
  keys = 0x8083;
  shown = 0x8085;
  logged = 0x8089;
  index = index;
  refusal = refusal;
  stop = stop;
}

pub record LoggedRunsInPlace (m : Machine) : Type 0 where
  pub of_a_run : logged_answer_of (logged_with m (Run OutputFull)) ≡ placed_with_log m 0 0 2
  pub of_a_full_log : logged_answer_of (logged_with m LogFull) ≡ placed_with_log m 0 0 3
  pub of_a_refusal : logged_answer_of (logged_with m (Run (Refused (TimesOutOfOrder 4)))) ≡ placed_with_log m 4 19 0
  pub to_c :
      logged_answered
      (record {
        machine = m;
        steps = 0x18081;
        keys = 0x8083;
        shown = 0x8085;
        logged = 0x8089;
        index = 4;
        refusal = 5;
        stop = 6;
      })
      (8 ∷ []) (9 ∷ []) (10 ∷ [])
      ≡ placed_with_log m 4 5 6
  pub run :
      logged_end_of
      (record { machine = m; steps = 0x18081; keys = 0x8083; shown = 0x8085; words = 0x8089; ending = Run Halted })
      (8 ∷ []) (9 ∷ []) (10 ∷ [])
      ≡ logged_with m (Run Halted)

-- ---- the next step, object files, lines and words

abbrev pub addresses : ℕ → ℕ → ℕ → ℕ → Addresses
addresses count a b c = record { count = count; first = a; second = b; third = c }

pub record OthersInPlace (m : Machine) : Type 0 where
  -- the next step, told
  pub told_to_c :
      told_answer
      (record {
        ending = Refused (TimesOutOfOrder 4);
        word = 1;
        touched = record { rule = Access; reads = addresses 5 6 7 8; writes = addresses 9 10 11 12 };
      })
      ≡ record {
        index = 4;
        refusal = 19;
        stop = 0;
        word = 1;
        reason = 4;
        reads = addresses 5 6 7 8;
        writes = addresses 9 10 11 12;
      }
  pub load : loading (Ok (record { origin = 1; words = 2 })) (4 ∷ [])
      ≡ record { origin = 1; words = 2; refusal = 0; memory = 4 ∷ [] }
  pub load_refused : loading (Err BrokenFile) (4 ∷ [])
      ≡ record { origin = 0; words = 0; refusal = 17; memory = 4 ∷ [] }
  pub bytes : counted (Ok 1) (3 ∷ []) ≡ record { count = 1; refusal = 0; output = 3 ∷ [] }
  pub bytes_to_c : host_counted (record { count = 1; refusal = 2 }) (3 ∷ [])
      ≡ record { count = 1; refusal = 2; output = 3 ∷ [] }
  pub start : starting (Ok (record { machine = m; words = 1 })) (3 ∷ [])
      ≡ record { machine = m; words = 1; refusal = 0; memory = 3 ∷ [] }
  pub start_refused : starting (Err OutsideUserWords) (3 ∷ [])
      ≡ record { machine = zero_machine; words = 0; refusal = 21; memory = 3 ∷ [] }
  pub start_to_c : host_starting (record { machine = m; words = 1; refusal = 2 }) (3 ∷ [])
      ≡ record { machine = m; words = 1; refusal = 2; memory = 3 ∷ [] }
  pub reading_to_c : flat_read_of (record { instruction = Rti; mask = 5 })
      ≡ record { instruction = flat 11 0 0 0 (pos 0); mask = 5 }
  pub writing_to_c : host_answer (Ok 1) ≡ record { word = 1; refusal = 0 }
  pub writing_refused_to_c : host_answer (Err Field) ≡ record { word = 0; refusal = 2 }

pub record InPlace (m : Machine) : Type 0 where
  pub runs : RunsInPlace m
  pub logged_runs : LoggedRunsInPlace m
  pub others : OthersInPlace m

abbrev pub AnswersInPlace : Type 0
AnswersInPlace = (m : Machine) → InPlace m
