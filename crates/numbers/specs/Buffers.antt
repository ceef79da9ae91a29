-- What calls with a lent output leave in it, and the refusals of lines, pages, object files and the monitor, each where
-- those that come later apply too.
use Rattle.std.specs.Prelude.{ℕ, ◌-◌, ◌^◌, ◌≡◌, true, List, [], ◌∷◌, map, length, get_or, replicate}
use Rattle.lent.specs.Lent.{Written, written_whole}
use Rattle.machine.specs.declared.Machine.{Machine}
use Rattle.run.specs.Call.{start_of}
use Rattle.logging.specs.LoggedRun.{Logged}
use Rattle.logging.specs.LoggedCall.{logged_call_of}
use Rattle.object.specs.Calls.{load_of, save_of}
use Rattle.object.specs.RoundTrip.{file_in}
use Rattle.start.specs.Start.{zero_machine, started_of, user_started_of}
use Rattle.monitor.specs.declared.Routines.{Routines}
use Rattle.monitor.specs.Vectors.{ours}
use Rattle.monitor.specs.Install.{filling, vectors_of, install_of}
use Rattle.text.specs.Characters.{codes_in}
use Rattle.line.specs.Line.{line_of}
use Rattle.lines.specs.Page.{page_of}

abbrev pub answer : ℕ → ℕ → List ℕ → Written
answer count refusal output = record { count = count; refusal = refusal; output = output }

-- A memory of RTI.
abbrev pub returns : List ℕ
returns = replicate 65536 0x8000

pub record LinesAndPages : Type 0 where
  -- the text from the output's start and the rest as lent; 16 where it does not fit, and the output untouched
  pub fits_and_rest_as_lent : written_whole (codes_in "RTI\n") (1 ∷ 2 ∷ 3 ∷ 4 ∷ 5 ∷ [])
      ≡ answer 4 0 (0x52 ∷ 0x54 ∷ 0x49 ∷ 0x0A ∷ 5 ∷ [])
  pub fits_exactly : written_whole (codes_in "RTI\n") (1 ∷ 2 ∷ 3 ∷ 4 ∷ []) ≡ answer 4 0 (0x52 ∷ 0x54 ∷ 0x49 ∷ 0x0A ∷ [])
  pub does_not_fit : written_whole (codes_in "RTI\n") (1 ∷ 2 ∷ 3 ∷ []) ≡ answer 0 16 (1 ∷ 2 ∷ 3 ∷ [])
  -- "Turned away, after 11: 20, first address plus count above 65,536; then 16"
  pub wrong_size_first : page_of [] 0xFFFF 2 (1 ∷ []) ≡ answer 0 11 (1 ∷ [])
  pub beyond_memory_lem : page_of returns 0xFFFF 2 (1 ∷ []) ≡ answer 0 20 (1 ∷ [])
  pub beyond_by_count : page_of returns 1 65536 (1 ∷ []) ≡ answer 0 20 (1 ∷ [])
  pub beyond_by_first : page_of returns 65537 0 (1 ∷ []) ≡ answer 0 20 (1 ∷ [])
  pub too_short : page_of returns 0xFFFF 1 (1 ∷ 2 ∷ 3 ∷ []) ≡ answer 0 16 (1 ∷ 2 ∷ 3 ∷ [])
  pub last_line : page_of returns 0xFFFF 1 (1 ∷ 2 ∷ 3 ∷ 4 ∷ 5 ∷ []) ≡ answer 4 0 (0x52 ∷ 0x54 ∷ 0x49 ∷ 0x0A ∷ 5 ∷ [])
  -- two lines, one after the other
  pub two_lines : page_of returns 0x3000 2 (replicate 9 1)
      ≡ answer 8 0 (0x52 ∷ 0x54 ∷ 0x49 ∷ 0x0A ∷ 0x52 ∷ 0x54 ∷ 0x49 ∷ 0x0A ∷ 1 ∷ [])
  -- four digits of a word that ends in xFF
  pub last_digits : line_of 0xD0FF ≡ codes_in ".FILL xD0FF\n"

pub record ObjectFiles : Type 0 where
  -- "written from its start, the rest stays as lent"
  pub rest_as_lent : save_of (replicate 65536 7) 0x3000 1 (1 ∷ 2 ∷ 3 ∷ 4 ∷ 5 ∷ 6 ∷ [])
      ≡ answer 4 0 (0x30 ∷ 0x00 ∷ 0x00 ∷ 0x07 ∷ 5 ∷ 6 ∷ [])
  -- "Writing uses 11, then 18 for its range, then 16"
  pub save_11 : save_of [] 0xFFFF 2 (1 ∷ []) ≡ answer 0 11 (1 ∷ [])
  pub save_18 : save_of (replicate 65536 7) 0xFFFF 2 (1 ∷ []) ≡ answer 0 18 (1 ∷ [])
  pub save_16 : save_of (replicate 65536 7) 0xFFFF 1 (1 ∷ 2 ∷ 3 ∷ []) ≡ answer 0 16 (1 ∷ 2 ∷ 3 ∷ [])
  pub save_16_long : (save_of (replicate 65536 7) 0 40000 (replicate 60000 1)).refusal ≡ 16
  -- the file that is then in the output
  pub file_in_output : file_in (answer 2 0 (1 ∷ 2 ∷ 3 ∷ [])) ≡ 1 ∷ 2 ∷ []
  -- a memory of any other size, even too
  pub load_11_even : (load_of (0x30 ∷ 0x00 ∷ []) (replicate 65534 7)).refusal ≡ 11
  pub save_11_even : (save_of (replicate 65534 7) 0x3000 0 (1 ∷ 2 ∷ [])).refusal ≡ 11
  -- reading: 11, then 17, then 18; and 21 for a candidate's file
  pub load_11 : load_of (0xFF ∷ []) (7 ∷ []) ≡ record { origin = 0; words = 0; refusal = 11; memory = 7 ∷ [] }
  pub start_11 : started_of (0xFF ∷ []) (7 ∷ []) true 0xFDFF
      ≡ record { machine = zero_machine; words = 0; refusal = 11; memory = 7 ∷ [] }
  pub start_user_11 : user_started_of (0xFF ∷ []) (7 ∷ []) 0xFDFF
      ≡ record { machine = zero_machine; words = 0; refusal = 11; memory = 7 ∷ [] }
  pub start_user_17 : user_started_of (0xFF ∷ []) returns 0xFDFF
      ≡ record { machine = zero_machine; words = 0; refusal = 17; memory = returns }
  pub start_user_18 : user_started_of (0xFF ∷ 0xFF ∷ 1 ∷ 2 ∷ 3 ∷ 4 ∷ []) returns 0xFDFF
      ≡ record { machine = zero_machine; words = 0; refusal = 18; memory = returns }
  pub start_user_21 : user_started_of (0xFE ∷ 0x00 ∷ 1 ∷ 2 ∷ []) returns 0xFDFF
      ≡ record { machine = zero_machine; words = 0; refusal = 21; memory = returns }

-- The monitor's refusals, with any routines.
pub record MonitorRefusals (r : Routines) : Type 0 where
  pub vectors_16 : vectors_of r (replicate 511 7) ≡ filling 16 (replicate 511 7)
  pub install_11 : install_of (replicate 65535 7) ≡ filling 11 (replicate 65535 7)

-- Nine addresses of routines, no two of them the same.
abbrev pub nine : Routines
nine = record {
  getc = 1;
  out = 2;
  puts = 3;
  input = 4;
  putsp = 5;
  halt = 6;
  trap = 7;
  exception = 8;
  interrupt = 9;
}

-- What stands at these places.
abbrev pub standing : List ℕ → List ℕ → List ℕ
standing words = map (λ a. get_or words a 0)

pub record MonitorInPlace : Type 0 where
  -- "Trap vectors x20 to x25 lead to GETC, OUT, PUTS, IN, PUTSP and HALT ..; all other trap vectors lead to one routine
  -- that halts. The three exception words lead to a routine that halts, and every other word of x0100 to x01FF to a
  -- lone RTI": in a lent buffer of 513 words, of which the last stays as lent.
  pub vectors :
      (vectors_of nine (replicate 513 0xAA)).refusal
      ∷ standing (vectors_of nine (replicate 513 0xAA)).words
      (0x00 ∷ 0x1F ∷ 0x20 ∷ 0x21 ∷ 0x22 ∷ 0x23 ∷ 0x24 ∷ 0x25 ∷ 0x26 ∷ 0xFF ∷ 0x100 ∷ 0x101 ∷ 0x102 ∷ 0x103 ∷ 0x180
      ∷ 0x181 ∷ 0x1FF ∷ 0x200 ∷ [])
      ≡ 0 ∷ 7 ∷ 7 ∷ 1 ∷ 2 ∷ 3 ∷ 4 ∷ 5 ∷ 6 ∷ 7 ∷ 7 ∷ 8 ∷ 8 ∷ 8 ∷ 9 ∷ 9 ∷ 9 ∷ 9 ∷ 0xAA ∷ []
  pub fits_exactly : (vectors_of nine (replicate 512 0xAA)).refusal ≡ 0
  pub sizes :
      length (vectors_of nine (replicate 513 0xAA)).words ∷ length (install_of (replicate 65536 0xAA)).words ∷ []
      ≡ 513 ∷ 65536 ∷ []
  -- our monitor in memory: its vector words, the first word of each routine, its last word, and what stays as lent
  pub installed :
      (install_of (replicate 65536 0xAA)).refusal
      ∷ standing (install_of (replicate 65536 0xAA)).words
      (0x00 ∷ 0x20 ∷ 0x21 ∷ 0x22 ∷ 0x23 ∷ 0x24 ∷ 0x25 ∷ 0x100 ∷ 0x181 ∷ 0x2A5 ∷ 0xFFFF ∷ [])
      ≡ 0 ∷ 0x027C ∷ 0x0200 ∷ 0x0204 ∷ 0x020C ∷ 0x0228 ∷ 0x023D ∷ 0x026D ∷ 0x027C ∷ 0x027F ∷ 0xAA ∷ 0xAA ∷ []
  -- where our routines are, as `lc3_monitor_routines` answers
  pub routines :
      ours.getc ∷ ours.out ∷ ours.puts ∷ ours.input ∷ ours.putsp ∷ ours.halt ∷ ours.trap ∷ ours.exception
      ∷ ours.interrupt ∷ []
      ≡ 0x0200 ∷ 0x0204 ∷ 0x020C ∷ 0x0228 ∷ 0x023D ∷ 0x026D ∷ 0x027C ∷ 0x027C ∷ 0x027F ∷ []

-- The last step that may be made, logged: BR, which is not taken, at clock 2^48 - 1.
abbrev pub last : Machine
last = record {
  regs = zero_machine.regs;
  pc = 0x0400;
  psr = 0x0002;
  saved_ssp = 0;
  saved_usp = 0;
  devices = record {
    kbsr = 0;
    kbdr = 0;
    mcr = 0x8000;
    busy = 0;
    timer_status = 0;
    timer_interval = 0;
    timer_count = 0;
  };
  clock = 2 ^ 48 - 1;
}

abbrev pub last_logged : Logged
last_logged = logged_call_of (start_of last (replicate 65536 0) [] [] []) (1 ∷ 2 ∷ 3 ∷ 4 ∷ []) 1

pub record LastStepLogged : Type 0 where
  pub made : last_logged.steps ≡ 1
  pub written : last_logged.words ≡ 3
  pub log : last_logged.log ≡ 0x0400 ∷ 0 ∷ 0 ∷ 4 ∷ []

pub record BuffersHold : Type 0 where
  pub lines_and_pages : LinesAndPages
  pub object_files : ObjectFiles
  pub monitor : (r : Routines) → MonitorRefusals r
  pub monitor_in_place : MonitorInPlace
  pub last_step_logged : LastStepLogged
