-- Pushes in reverse as a graph.
use Rattle.std.specs.Prelude.{ℕ, length}
use Rattle.sok_board.specs.Area.{BoardView}
use Rattle.sok_board.specs.Graphs.{Graph}
use Rattle.sok_distance.specs.Pushing.{pull}

-- the squares of a board as nodes, with pushes in reverse, and a goal as the start
abbrev pub pulls : BoardView → ℕ → Graph
pulls b goal = record { nodes = length b.area; start = goal; way = pull b }
