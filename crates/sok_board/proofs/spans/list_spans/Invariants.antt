use Rattle.std.proofs.Common.{◌≡◌, ◌≤◌, ◌-◌, length}
use Rattle.sok_board.specs.Area.{BoardView}
use Rattle.sok_board.specs.Spans.{Covers}
use Rattle.sok_board.proofs.spans.list_spans.Given as goal

abbrev pub invariant-loop-number : goal.invariant-loop-number
invariant-loop-number l = record {
  within : l.number ≤ length l.squares;
  covers : (b : BoardView) → b.area ≡ l.squares → Covers b 0 l.spans.items l.number;
}

abbrev pub decreases-loop-number : goal.decreases-loop-number
decreases-loop-number l = length l.squares - l.number
