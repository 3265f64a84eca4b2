use Rattle.std.proofs.Common.{ℕ, ◌<◌, get_or}
use Rattle.sok_bar.specs.Jam.{IsGoalSquare}
use Rattle.sok_bar.specs.Settings.{IsDrawn}
use Rattle.sok_bar.proofs.layout_jam.has_off_goal.Given as goal

abbrev pub invariant-loop-square : goal.invariant-loop-square
invariant-loop-square l = (k : ℕ) → k < l.square-index → IsDrawn l.board l.held (get_or l.boxes k 0) → IsGoalSquare l.board (get_or l.boxes k 0)
