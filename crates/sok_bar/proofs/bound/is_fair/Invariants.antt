use Rattle.std.proofs.Common.{ℕ, ◌<◌, get_or}
use Rattle.sok_bar.specs.Fair.{IsAffordable}
use Rattle.sok_bar.proofs.bound.is_fair.Given as goal

abbrev pub invariant-loop-goal : goal.invariant-loop-goal
invariant-loop-goal l = (k : ℕ) → k < l.goal → IsAffordable l.distances.board l.square l.price k (get_or l.v k 0)
