use Rattle.std.proofs.Common.{ℕ, ◌<◌}
use Rattle.sok_distance.specs.Distances.{goal_at}
use Rattle.sok_lift.proofs.Spares.{WastesTo}
use Rattle.sok_lift.proofs.waste.waste.Given as goal

abbrev pub invariant-loop-goal : goal.invariant-loop-goal
invariant-loop-goal l = (k : ℕ) → k < l.goal → WastesTo l.distances.board l.from l.to (goal_at l.distances.board k) l.least
