-- Which rows of cells are a level (Sokoban Wiki, "Level format").
use Rattle.std.specs.Prelude.{ℕ, ◌≡◌, ◌≤◌, List, [], ◌∷◌, Vec, Option, Some, None, Result, Ok, Err, Bool, IsTrue, not, if◌then◌else◌}
use Rattle.std.specs.Prelude.{nat_lt, length, All, count_by, map, option_map, position, sum_by, ◌==◌}
use Rattle.std.specs.List.{list_any}
use Rattle.std.specs.Option.{option_or}
use Rattle.sok_rules.specs.declared.cell.Cell.{Cell}
use Rattle.sok_rules.specs.declared.cell.Cell.TheVariants.{Floor}
use Rattle.sok_rules.specs.declared.fault.LevelFault.{LevelFault}
use Rattle.sok_rules.specs.declared.fault.LevelFault.TheVariants.{TooWide, TooTall, NoPlayer, ManyPlayers, NoBox, NoWall}
use Rattle.sok_rules.specs.Limits.{size_limit}
use Rattle.sok_rules.specs.Squares.{Rows, is_box, is_man, is_wall}

-- rows that are vectors, as lists of cells
abbrev pub cells_of : {A : Type 0} → List (Vec Cell A) → Rows
cells_of rows = map (λ row. row.items) rows

-- a row with a cell put in front; floor in front of an empty row is left out
abbrev pub onto : Cell → List Cell → List Cell
onto Floor [] = []
onto cell row = cell ∷ row

-- a row without the floor at its end
abbrev pub trimmed : List Cell → List Cell
trimmed [] = []
trimmed (cell ∷ row) = onto cell (trimmed row)

-- the number of cells that pass a test
abbrev pub count_in : (Cell → Bool) → Rows → ℕ
count_in test rows = sum_by (count_by test) rows

-- at most `size` rows of at most `size` cells, with a wall in each row, one player, and at least one box
pub record IsProperIn (size : ℕ) (rows : Rows) : Type 0 where
  pub few_rows : length rows ≤ size
  pub few_columns : All (λ row. length row ≤ size) rows
  pub walls : All (λ row. IsTrue (list_any is_wall row)) rows
  pub one_man : count_in is_man rows ≡ 1
  pub some_box : IsTrue (list_any (list_any is_box) rows)

-- the same with the size limit of levels
abbrev pub IsProper : Rows → Type 0
IsProper rows = IsProperIn size_limit rows

-- proper rows, none of which ends with floor
pub record IsLevelIn (size : ℕ) (rows : Rows) : Type 0 where
  pub proper : IsProperIn size rows
  pub trimmed : map trimmed rows ≡ rows

abbrev pub IsLevel : Rows → Type 0
IsLevel rows = IsLevelIn size_limit rows

-- the first row without a wall
abbrev pub row_without_wall : Rows → Option ℕ
row_without_wall rows = position (λ row. not (list_any is_wall row)) rows

-- the first fault of rows, in the order in which faults are looked for
unfoldable pub fault_of : Rows → Option LevelFault
fault_of rows =
    if nat_lt size_limit (length rows) then Some TooTall
    else if list_any (λ row. nat_lt size_limit (length row)) rows then Some TooWide
    else option_or (option_map (λ row. NoWall row) (row_without_wall rows)) (
    if count_in is_man rows == 0 then Some NoPlayer
    else if nat_lt 1 (count_in is_man rows) then Some ManyPlayers
    else if list_any (list_any is_box) rows then None
    else Some NoBox
    )

-- the rows without floor at their ends, if they are a level; otherwise their first fault
unfoldable pub level_of : Rows → Result Rows LevelFault
level_of rows = elim (fault_of (map trimmed rows)) [ None ↦ Ok (map trimmed rows) | Some fault ↦ Err fault ]
