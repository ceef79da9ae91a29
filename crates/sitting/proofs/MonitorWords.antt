-- Our monitor's words in a memory, as a list and one by one.
use Prim.Native.Nat.{ℕ, ◌<◌}
use native.Mathlib.Omega.{arith}
use mathlib.Core.Path.{◌≡◌, ◌∙◌}
use mathlib.Core.Bool.{false}
use mathlib.Core.List.{List}
use borrow.Author.Tests.{lt-leb}
use lib.ListN.{length, get_or, take}
use lib.Seq.{get_or-take, ext_get_or, length-take-le}
use Rattle.monitor.specs.Routines.{monitor_words}
use Rattle.monitor.proofs.Intact.{monitor_length}
use Rattle.sitting.specs.Sitting.{is_secret_above, HasMonitor}

pub has_monitor : (memory : List ℕ) → length memory ≡ 65536
    → ((a : ℕ) → a < 0x02A5 → get_or memory a 0 ≡ get_or monitor_words a 0) → HasMonitor memory
has_monitor memory size h =
    let n : length (take (length monitor_words) memory) ≡ length monitor_words =
    length-take-le (length monitor_words) memory (omega (arith, size, monitor_length)) in
    ext_get_or 0 (take (length monitor_words) memory) monitor_words n
    (λ i l. get_or-take (length monitor_words) memory i 0 (omega (arith, n)) ∙ h i (omega (arith, n, monitor_length)))

pub monitor_word_is_open : (stack a : ℕ) → a < 0x02A5 → is_secret_above stack a ≡ false
unfolding is_secret_above
monitor_word_is_open stack a h = rw (lt-leb 0x02A5 a h, lt-leb 0xFE00 a (omega arith))
