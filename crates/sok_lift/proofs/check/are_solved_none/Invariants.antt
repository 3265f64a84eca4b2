use Rattle.std.proofs.Common.{ℕ, ◌<◌, All, get_or}
use Rattle.sok_board.specs.Area.{goals_of}
use Rattle.sok_lift.specs.Checked.{IsNone}
use Rattle.sok_lift.proofs.check.are_solved_none.Given as goal

abbrev pub invariant-loop-goal : goal.invariant-loop-goal
invariant-loop-goal l = (k : ℕ) → k < l.goal-index → All (IsNone l.board l.lifts (get_or (goals_of l.board) k 0)) (goals_of l.board)
