use Rattle.std.proofs.Common.{ℕ, ◌<◌, get_or}
use Rattle.sok_bar.specs.Jam.{IsGoalSquare}
use Rattle.sok_bar.proofs.frozen.has_one_off_goal.Given as goal

abbrev pub invariant-loop-member : goal.invariant-loop-member
invariant-loop-member l = (k : ℕ) → k < l.member-index → IsGoalSquare l.board (get_or l.boxes (get_or l.members k 0) 0)
