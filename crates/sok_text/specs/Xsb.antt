-- XSB, the characters of a level's text (Sokoban Wiki, "Level format").
use Rattle.std.specs.Prelude.{ℕ, List, Option, Some, None, Bool, ◌&&◌, ◌||◌, if◌then◌else◌, ◌==◌, is_some, codes}
use Rattle.std.specs.List.{list_any, list_all}
use Rattle.sok_rules.specs.declared.cell.Cell.{Cell}
use Rattle.sok_rules.specs.declared.cell.Cell.TheVariants.{Wall, Floor, Goal, BoxOff, BoxOn, ManOff, ManOn}
use Rattle.sok_text.specs.Characters.{code}

-- the cell that a character stands for: # @ + $ * . and for floor a space, - or _
abbrev pub cell_of : ℕ → Option Cell
cell_of c =
    if c == code (codes "#") then Some Wall
    else if c == code (codes "@") then Some ManOff
    else if c == code (codes "+") then Some ManOn
    else if c == code (codes "$") then Some BoxOff
    else if c == code (codes "*") then Some BoxOn
    else if c == code (codes ".") then Some Goal
    else if c == code (codes " ") || c == code (codes "-") || c == code (codes "_") then Some Floor
    else None

-- a line that has only such characters, and a wall among them
abbrev pub is_board_line : List ℕ → Bool
is_board_line line = list_all (λ c. is_some (cell_of c)) line && list_any (λ c. c == code (codes "#")) line
