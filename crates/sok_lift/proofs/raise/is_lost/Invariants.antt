use Rattle.std.proofs.Common.{ℕ, ◌<◌, ◌≢◌, get_or}
use Rattle.sok_lift.specs.Numbers.{lift_in, lost}
use Rattle.sok_lift.proofs.raise.is_lost.Given as goal

abbrev pub invariant-loop-other : goal.invariant-loop-other
invariant-loop-other l = (k : ℕ) → k < l.other-index → get_or l.boxes k 0 ≢ l.from → lift_in l.lifts l.player l.to (get_or l.boxes k 0) ≢ lost
