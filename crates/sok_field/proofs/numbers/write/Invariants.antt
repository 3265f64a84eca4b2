use Rattle.std.proofs.Common.{ℕ, ◌≡◌, ◌<◌, ◌↔◌, true, drop, length}
use Rattle.sok_board.specs.Area.{spot_of}
use Rattle.sok_board.specs.Spans.{Covers}
use Rattle.sok_field.specs.Fields.{has}
use Rattle.sok_field.specs.Numbers.{has_number}
use Rattle.sok_field.proofs.numbers.write.Given as goal

abbrev pub invariant-loop-span : goal.invariant-loop-span
invariant-loop-span l = record {
  room : length l.words ≡ length l.initial.words;
  to : ℕ;
  rest : Covers l.board to (drop l.span-index l.spans) (length l.board.area);
  done : (n : ℕ) → (has_number l.words n ≡ true) ↔ ((n < to) × (has l.set (spot_of l.board n) ≡ true));
}
