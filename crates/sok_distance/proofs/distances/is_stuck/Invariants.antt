use Rattle.std.proofs.Common.{ℕ, ◌≡◌, ◌<◌, None}
use Rattle.sok_distance.specs.Distances.{distance_at}
use Rattle.sok_distance.proofs.Filled.{with_entries}
use Rattle.sok_distance.proofs.distances.is_stuck.Given as goal

abbrev pub invariant-loop-goal : goal.invariant-loop-goal
invariant-loop-goal l = (k : ℕ) → k < l.goal → distance_at (with_entries l.board l.entries) k l.square ≡ None
