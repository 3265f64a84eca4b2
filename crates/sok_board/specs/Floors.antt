-- The open squares of a level as a graph, each numbered by its place in a table.
use Rattle.std.specs.Prelude.{ℕ, ◌/◌, ◌%◌, Option, Some, None, length, if◌then◌else◌}
use Rattle.std.specs.Option.{option_and_then}
use Rattle.sok_rules.specs.declared.cell.Dir.{Dir}
use Rattle.sok_rules.specs.declared.cell.Spot.{Spot}
use Rattle.sok_rules.specs.Squares.{Rows, holds, is_open, next}
use Rattle.sok_rules.specs.Play.{start}
use Rattle.sok_board.specs.Graphs.{Graph}
use Rattle.sok_board.specs.Tables.{table_side, table_places, place_of}

-- the square of a place in a table
abbrev pub square_at : ℕ → Spot
square_at n = record { row = n / table_side; col = n % table_side }

-- a letter leads to the next square in its direction, if no wall stands there
abbrev pub floor_way : Rows → Dir → ℕ → Option ℕ
floor_way rows d n = option_and_then (λ t. if holds is_open rows t then Some (place_of t) else None) (next d (square_at n))

abbrev pub floor : Rows → Graph
floor rows = record { nodes = table_places (length rows); start = place_of (start rows).man; way = floor_way rows }
