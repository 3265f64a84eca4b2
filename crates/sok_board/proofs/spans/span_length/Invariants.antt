use Rattle.std.proofs.Common.{ℕ, ◌≡◌, ◌<◌, ◌≤◌, ◌+◌, ◌-◌, ◌%◌, length}
use Rattle.sok_board.specs.Spans.{right_of, spot_at, word_bits}
use Rattle.sok_board.proofs.spans.span_length.Given as goal

abbrev pub invariant-loop-length : goal.invariant-loop-length
invariant-loop-length l = record {
  some : 0 < l.length;
  within : l.number + l.length ≤ length l.squares;
  columns : (spot_at l.squares l.number).col % word_bits + l.length ≤ word_bits;
  lies : (k : ℕ) → k < l.length → spot_at l.squares (l.number + k) ≡ right_of (spot_at l.squares l.number) k;
}

abbrev pub decreases-loop-length : goal.decreases-loop-length
decreases-loop-length l = length l.squares - l.length
