-- `claims::states::State::remember_at` meets its contract.
use Rattle.std.proofs.Common.{◌≡◌}
use Rattle.claims.proofs.StateLaws.{Remembered}
use Rattle.claims.proofs.states.State.remember_at.Given as goal

-- The registers and the codes stay, and the first j watched words are done.
abbrev pub invariant-loop-j : goal.invariant-loop-j
invariant-loop-j l =
    (l.self.regs ≡ l.fn.self.regs) × (l.self.codes ≡ l.fn.self.codes)
    × Remembered l.watched l.a l.n l.fn.self.words l.self.words l.j
