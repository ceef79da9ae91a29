-- The theorems on starting, from those on loading: a start is refused as loading is, and else its record is a fresh
-- one.
use Rattle.std.specs.Prelude.{Err}
use Prim.Native.Nat.{ℕ, ◌+◌, ◌≤◌}
use native.Mathlib.Omega.{arith}
use mathlib.Core.Path.{◌≡◌, refl, sym, subst, ◌∙◌}
use mathlib.Core.Bool.{Bool}
use mathlib.Core.List.{List}
use lib.ListN.{length, get_or}
use borrow.Author.Tests.{ltb-true, le-ltb, eq-eqb}
use Rattle.object.specs.File.{origin_in, words_in}
use Rattle.object.specs.Calls.{load_refusal, load_accepted, load_of}
use Rattle.object.specs.Accepted.{Readable}
use Rattle.run.specs.declared.Refusal.TheVariants.{TimeBelowClock}
use Rattle.run.specs.Fresh.{fresh_of}
use Rattle.run.specs.KeyLists.{Says}
use Rattle.run.specs.Refusals.{unequal_lists}
use Rattle.run.proofs.KeyLists.{key_lists}
use Rattle.object.proofs.Acceptance.{words_in_lem, accepted_is_readable, loaded_is_readable, readable_is_loaded}
use Rattle.object.proofs.PlacedLaws.{placed_length}
use Rattle.object.proofs.RefusedCalls.{refused_load_touches_nothing}
use Rattle.object.proofs.RoundTrip.{saved_file_loads}
use Rattle.object.proofs.Edges as edges
use Rattle.start.specs.Start.{record_by, started_from, started_of}
use Rattle.start.specs.Theorems.{RefusedStartTouchesNothing, AcceptedStart, FileWithoutWords, SavedFileStarts}
use Rattle.start.specs.Theorems.{StartedMachineRuns}
use Rattle.start.proofs.RecordLaws.{refused_record_is_zero, fresh_machine_admission}

pub refused_start_touches_nothing : RefusedStartTouchesNothing
unfolding started_of started_from
refused_start_touches_nothing file memory user userStack h =
    rw (
      refused_load_touches_nothing file memory h,
      refused_record_is_zero (load_refusal file memory) 0 user userStack h,
    )

-- A file that can be read is loaded, and its record is a fresh one.
readable_is_started : (file memory : List ℕ) (user : Bool) (userStack : ℕ) → Readable file memory
    → started_of file memory user userStack
    ≡ record {
      machine = fresh_of (load_of file memory).origin user userStack;
      words = (load_of file memory).words;
      refusal = 0;
      memory = (load_of file memory).memory;
    }
unfolding started_of started_from record_by load_accepted
readable_is_started file memory user userStack r = rw (readable_is_loaded file memory r)

pub accepted_start : AcceptedStart
accepted_start file memory user userStack h =
    readable_is_started file memory user userStack (accepted_is_readable file memory h)

pub file_without_words : FileWithoutWords
unfolding started_of started_from record_by
file_without_words high low memory user userStack h l size = rw (edges.file_without_words high low memory h l size)

pub saved_file_starts : SavedFileStarts
unfolding started_of started_from record_by fresh_of
saved_file_starts memory origin count output other user userStack h size =
    let loaded = saved_file_loads memory origin count output other h size in
    rw (loaded.accepted, loaded.at_origin)
    (record {
      loaded = record {
        accepted = refl;
        at_origin = refl;
        all_words = loaded.all_words;
        range_there = loaded.range_there;
        before_range = loaded.before_range;
        after_range = loaded.after_range;
      };
      fresh = refl;
    })

-- Memory keeps its size.
loaded_size : (file memory : List ℕ) → Readable file memory → length (load_of file memory).memory ≡ 65536
unfolding load_accepted
loaded_size file memory r =
    let fits : origin_in file + length (words_in file) ≤ length memory =
    omega (arith, words_in_lem file, r.fits, r.size) in
    rw (readable_is_loaded file memory r) (placed_length (origin_in file) (words_in file) memory fits ∙ r.size)

refusal_of_loading : (file memory : List ℕ) (user : Bool) (userStack : ℕ)
    → (started_of file memory user userStack).refusal ≡ (load_of file memory).refusal
unfolding started_of started_from
refusal_of_loading file memory user userStack = refl

no_time_below_zero : (times : List ℕ) (i : ℕ) → Says 0 times (Err (TimeBelowClock i)) → ⊥
no_time_below_zero times i says = omega (arith, ltb-true (get_or times i 0) 0 says.1)

pub started_machine_runs : StartedMachineRuns
unfolding unequal_lists
started_machine_runs file memory user userStack times bytes output n h =
    let r : Readable file memory = loaded_is_readable file memory
    (sym (refusal_of_loading file memory user userStack) ∙ h) in
    let answer = fresh_machine_admission (load_of file memory).origin user userStack (load_of file memory).memory times
    bytes output n (loaded_size file memory r) in
    rw (readable_is_started file memory user userStack r)
    (record {
      answer = answer;
      no_time_below_clock = λ i e. no_time_below_zero times i (subst (Says 0 times) e
          (key_lists.first_offence_is_answered 0 times).answer);
      accepted = λ limit equal order.
          answer ∙ rw (le-ltb 1048576 n limit, eq-eqb (length times) (length bytes) equal)
          ((key_lists.first_offence_is_answered 0 times).accepted order);
    })
