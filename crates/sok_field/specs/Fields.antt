-- Sets of squares as bit rows: a word for each row, a bit for each column, column 0 the lowest.
use Rattle.std.specs.Prelude.{ℕ, ◌≡◌, ◌<◌, ◌≤◌, ◌⊎◌, List, Bool, true, ◌==◌, length, slice_index}
use Rattle.std.specs.Int.{bit_at}
use Rattle.sok_rules.specs.declared.cell.Spot.{Spot}
use Rattle.sok_board.specs.Area.{Before}

-- whether a square is in a set
unfoldable pub has : List ℕ → Spot → Bool
has rows s = bit_at (slice_index rows s.row) s.col == 1

-- the first square of a set, row by row
pub record IsFirstSquare (holds : Spot → Bool) (s : Spot) : Type 0 where
  pub among : holds s ≡ true
  pub first : (t : Spot) → holds t ≡ true → (s ≡ t) ⊎ Before s t

-- no square of a set lies in row `height` or a later one
pub record IsHigh (rows : List ℕ) (height : ℕ) : Type 0 where
  pub within : height ≤ length rows
  pub below : (s : Spot) → has rows s ≡ true → s.row < height
