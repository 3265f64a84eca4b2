use Rattle.std.proofs.Common.{ℕ, ◌<◌}
use Rattle.sok_lift.specs.Checked.{IsKept}
use Rattle.sok_lift.proofs.check.is_kept_with.Given as goal

abbrev pub invariant-loop-other : goal.invariant-loop-other
invariant-loop-other l = (k : ℕ) → k < l.other → IsKept l.lifts l.player l.next l.one k
