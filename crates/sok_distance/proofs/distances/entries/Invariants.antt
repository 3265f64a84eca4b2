use Rattle.sok_distance.specs.Distances.{IsFilled}
use Rattle.sok_distance.proofs.Filled.{with_entries}
use Rattle.sok_distance.proofs.distances.entries.Given as goal

abbrev pub invariant-loop-goal : goal.invariant-loop-goal
invariant-loop-goal l = IsFilled l.goal-index (with_entries l.board l.entries.items)
