use Rattle.std.proofs.Common.{ℕ, ◌<◌, get_or, IsTrue}
use Rattle.sok_rules.specs.Squares.{holds, is_goal}
use Rattle.sok_board.specs.Area.{spot_of}
use Rattle.sok_board.proofs.area.all_goals.Given as goal

abbrev pub invariant-loop-square : goal.invariant-loop-square
invariant-loop-square l = (k : ℕ) → k < l.square-index
    → IsTrue (holds is_goal l.level (spot_of (record { rows = l.level; area = l.area }) (get_or l.squares k 0)))
