-- The passable squares of a board, as a graph.
use Rattle.std.specs.Prelude.{ℕ, Bool, Option, Some, None, if◌then◌else◌, length}
use Rattle.std.specs.Option.{option_and_then}
use Rattle.sok_rules.specs.declared.cell.Dir.{Dir}
use Rattle.sok_board.specs.Area.{BoardView, beside}
use Rattle.sok_board.specs.Graphs.{Graph}

-- a letter leads to the square beside, if that is passable
abbrev pub path : BoardView → (ℕ → Bool) → Dir → ℕ → Option ℕ
path b lets d s = option_and_then (λ t. if lets t then Some t else None) (beside b s d)

-- the graph of these ways, from a square on
abbrev pub paths : BoardView → (ℕ → Bool) → ℕ → Graph
paths b lets from = record { nodes = length b.area; start = from; way = path b lets }
