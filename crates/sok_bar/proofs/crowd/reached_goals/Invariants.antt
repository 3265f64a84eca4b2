use Rattle.sok_bar.proofs.Counting.{Counts}
use Rattle.sok_bar.proofs.crowd.reached_goals.Given as goal

abbrev pub invariant-loop-goal : goal.invariant-loop-goal
invariant-loop-goal l = Counts l.distances.board l.boxes l.members l.goal l.reached
