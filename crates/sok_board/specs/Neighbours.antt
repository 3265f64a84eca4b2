-- The numbers of the squares next to a square, direction by direction.
use Rattle.std.specs.Prelude.{ℕ, List, Option, None}
use Rattle.std.specs.Option.{option_and_then}
use Rattle.sok_rules.specs.declared.cell.Dir.{Dir}
use Rattle.sok_rules.specs.declared.cell.Dir.TheVariants.{Left, Up, Right, Down}
use Rattle.sok_rules.specs.declared.cell.Spot.{Spot}
use Rattle.sok_rules.specs.Squares.{next}
use Rattle.sok_board.specs.declared.neighbours.Neighbours.{Neighbours}
use Rattle.sok_board.specs.Tables.{entry}

abbrev pub number_towards : Neighbours → Dir → Option ℕ
number_towards around Left = around.left
number_towards around Up = around.up
number_towards around Right = around.right
number_towards around Down = around.down

-- the number that a table has for the next square in a direction
abbrev pub number_beside : List (Option ℕ) → Spot → Dir → Option ℕ
number_beside numbers s d = option_and_then (entry None numbers) (next d s)

-- the numbers that a table has for the four squares next to one
abbrev pub neighbours_of : List (Option ℕ) → Spot → Neighbours
neighbours_of numbers s =
    record { left = number_beside numbers s Left; up = number_beside numbers s Up; right = number_beside numbers s Right; down = number_beside numbers s Down }
