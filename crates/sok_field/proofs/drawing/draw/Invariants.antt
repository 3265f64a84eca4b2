use Rattle.std.proofs.Common.{ℕ, ◌<◌, drop, length}
use Rattle.sok_board.specs.Spans.{Covers}
use Rattle.sok_field.specs.Numbers.{Draws}
use Rattle.sok_field.proofs.drawing.draw.Given as goal

abbrev pub invariant-loop-span : goal.invariant-loop-span
invariant-loop-span l = record {
  to : ℕ;
  rest : Covers l.board to (drop l.span-index l.spans) (length l.board.area);
  drawn : Draws l.board (λ n. n < to) l.field;
}
