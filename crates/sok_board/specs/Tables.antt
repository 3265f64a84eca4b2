-- Tables with an entry for each square of some rows, with 128 columns in each row.
use Rattle.std.specs.Prelude.{ℕ, ◌+◌, ◌*◌, ◌<◌, List, nat_lt, if◌then◌else◌, slice_index_or}
use Rattle.sok_rules.specs.Limits.{size_limit}
use Rattle.sok_rules.specs.declared.cell.Spot.{Spot}

-- the number of columns of a table, and the maximum number of its rows: as many as a level may have
abbrev pub table_side : ℕ
table_side = size_limit

-- the number of places in a table with this many rows
abbrev pub table_places : ℕ → ℕ
table_places rows = rows * table_side

-- a square that has a place in a table with this many rows
pub record HasPlaceIn (rows : ℕ) (s : Spot) : Type 0 where
  pub row : s.row < rows
  pub col : s.col < table_side

-- a square that has a place in the largest table
abbrev pub HasPlace : Spot → Type 0
HasPlace = HasPlaceIn table_side

abbrev pub place_of : Spot → ℕ
place_of s = s.row * table_side + s.col

-- the entry of a square in a table, or `other` if the table has no place for the square
unfoldable pub entry : {X : Type 0} → X → List X → Spot → X
entry other table s = if nat_lt s.col table_side then slice_index_or table (place_of s) other else other
