use Rattle.std.proofs.Common.{ℕ, ◌<◌}
use Rattle.sok_lift.specs.Checked.{IsKept}
use Rattle.sok_lift.proofs.check.is_kept_by_all.Given as goal

abbrev pub invariant-loop-one : goal.invariant-loop-one
invariant-loop-one l = (k : ℕ) → k < l.one → (y : ℕ) → y < k → IsKept l.lifts l.player l.next k y
