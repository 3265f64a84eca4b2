-- Squares of a level's text, and what stands there (Sokoban Wiki, "Level format").
use Rattle.std.specs.Prelude.{ℕ, ◌+◌, List, [], ◌∷◌, ◌++◌, Option, Some, None, Bool, true, false, slice_get, suc, zero, ◌==◌, ◌&&◌, option_map}
use Rattle.std.specs.Option.{option_and_then, option_map_or}
use Rattle.sok_rules.specs.declared.cell.Cell.{Cell}
use Rattle.sok_rules.specs.declared.cell.Cell.TheVariants.{Wall, Goal, BoxOff, BoxOn, ManOff, ManOn}
use Rattle.sok_rules.specs.declared.cell.Dir.{Dir}
use Rattle.sok_rules.specs.declared.cell.Dir.TheVariants.{Left, Up, Right, Down}
use Rattle.sok_rules.specs.declared.cell.Spot.{Spot}

-- the cells of a level, row by row
abbrev pub Rows : Type 0
Rows = List (List Cell)

-- what stands on a square, if a row has the square
abbrev pub cell_at : Rows → Spot → Option Cell
cell_at rows s = option_and_then (λ row. slice_get row s.col) (slice_get rows s.row)

abbrev pub is_wall : Cell → Bool
is_wall Wall = true
is_wall _ = false

abbrev pub is_open : Cell → Bool
is_open Wall = false
is_open _ = true

abbrev pub is_box : Cell → Bool
is_box BoxOff = true
is_box BoxOn = true
is_box _ = false

abbrev pub is_goal : Cell → Bool
is_goal Goal = true
is_goal BoxOn = true
is_goal ManOn = true
is_goal _ = false

-- a box that stands off a goal
abbrev pub is_astray : Cell → Bool
is_astray BoxOff = true
is_astray _ = false

abbrev pub is_man : Cell → Bool
is_man ManOff = true
is_man ManOn = true
is_man _ = false

-- whether the cell on a square passes a test; false if no row has the square
unfoldable pub holds : (Cell → Bool) → Rows → Spot → Bool
holds test rows s = option_map_or test (cell_at rows s) false

-- the number before, if there is one
abbrev pub before : ℕ → Option ℕ
before zero = None
before (suc n) = Some n

-- the next square in a direction; None left of column 0 and above row 0, where there are no rows
abbrev pub next : Dir → Spot → Option Spot
next Left s = option_map (λ c. record s { col = c }) (before s.col)
next Up s = option_map (λ r. record s { row = r }) (before s.row)
next Right s = Some (record s { col = s.col + 1 })
next Down s = Some (record s { row = s.row + 1 })

abbrev pub same_spot : Spot → Spot → Bool
same_spot a b = (a.row == b.row) && (a.col == b.col)

-- the squares of row `r`, whose first cell is in column `c`
unfoldable pub places_in_row : ℕ → ℕ → List Cell → List Spot
places_in_row r c [] = []
places_in_row r c (cell ∷ cells) = record { row = r; col = c } ∷ places_in_row r (c + 1) cells

unfoldable pub places_from : ℕ → Rows → List Spot
places_from r [] = []
places_from r (row ∷ rows) = places_in_row r 0 row ++ places_from (r + 1) rows

-- the squares of a level's text, row by row
unfoldable pub places : Rows → List Spot
places rows = places_from 0 rows

abbrev pub opposite : Dir → Dir
opposite Left = Right
opposite Right = Left
opposite Up = Down
opposite Down = Up
