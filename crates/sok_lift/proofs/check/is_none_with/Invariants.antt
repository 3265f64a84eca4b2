use Rattle.std.proofs.Common.{ℕ, ◌<◌, get_or}
use Rattle.sok_board.specs.Area.{goals_of}
use Rattle.sok_lift.specs.Checked.{IsNone}
use Rattle.sok_lift.proofs.check.is_none_with.Given as goal

abbrev pub invariant-loop-goal : goal.invariant-loop-goal
invariant-loop-goal l = (k : ℕ) → k < l.goal-index → IsNone l.board l.lifts l.one (get_or (goals_of l.board) k 0)
