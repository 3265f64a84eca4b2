-- The area as spans of squares that lie side by side in a row.
use Rattle.std.specs.Prelude.{ℕ, ◌≡◌, ◌<◌, ◌≤◌, ◌+◌, ◌%◌, List, [], ◌∷◌, length, slice_get, unwrap_or}
use Rattle.sok_rules.specs.Limits.{size_limit}
use Rattle.sok_rules.specs.declared.cell.Spot.{Spot}
use Rattle.sok_board.specs.Area.{BoardView, spot_of}
use Rattle.sok_board.specs.declared.spans.Span.{Span}

-- where the square with a number lies
abbrev pub spot_at : List Spot → ℕ → Spot
spot_at squares n = unwrap_or (slice_get squares n) (record { row = 0; col = 0 })

-- the square that lies `k` columns to the right
abbrev pub right_of : Spot → ℕ → Spot
right_of s k = record { row = s.row; col = s.col + k }

-- the number of bits in a word of a bit row, one for each column
abbrev pub word_bits : ℕ
word_bits = 64

-- squares of the area that lie side by side, with consecutive numbers, and are bits of one word
pub record IsSpan (b : BoardView) (span : Span) : Type 0 where
  pub some : 0 < span.length
  pub within : span.number + span.length ≤ length b.area
  pub row : span.first.row < size_limit
  pub col : span.first.col < size_limit
  pub columns : span.first.col % word_bits + span.length ≤ word_bits
  pub lies : (k : ℕ) → k < span.length → spot_of b (span.number + k) ≡ right_of span.first k

-- spans that have each square with a number from `from` on and below `to`, in order
abbrev pub Covers : BoardView → ℕ → List Span → ℕ → Type 0
Covers b from [] to = from ≡ to
Covers b from (span ∷ spans) to = (IsSpan b span) × (span.number ≡ from) × (Covers b (from + span.length) spans to)
