-- The distances of a board's squares to its goals, goal by goal.
use Rattle.std.specs.Prelude.{ℕ, ◌≡◌, ◌<◌, ◌≤◌, ◌+◌, ◌*◌, List, Bool, false, IsTrue, ◌↔◌, Option, None, IfSome, length, slice_index, slice_index_or}
use Rattle.sok_board.specs.Area.{BoardView, IsAccepted, goals_of}
use Rattle.sok_distance.specs.Pushing.{IsStuck, TellsDistance}

-- a board, and for each of its goals in turn an entry for each of its squares
pub record DistanceTable : Type 0 where
  pub board : BoardView
  pub entries : List (Option ℕ)

-- the square of the goal with this index
abbrev pub goal_at : BoardView → ℕ → ℕ
goal_at b goal = slice_index (goals_of b) goal

-- the entry for the goal with this index and a square
abbrev pub distance_at : DistanceTable → ℕ → ℕ → Option ℕ
distance_at t goal square = slice_index_or t.entries (goal * length t.board.area + square) None

-- an entry for each square and each of the first `goals` goals: the distance, which is at most the number of squares
pub record IsFilled (goals : ℕ) (t : DistanceTable) : Type 0 where
  pub whole : length t.entries ≡ goals * length t.board.area
  pub exact : (goal square : ℕ) → goal < goals → square < length t.board.area → TellsDistance t.board (goal_at t.board goal) square (distance_at t goal square)
  pub bounded : (goal square : ℕ) → goal < goals → square < length t.board.area → IfSome (distance_at t goal square) (λ pushes. pushes ≤ length t.board.area)

-- an entry for each of the first `squares` squares: whether a box there reaches no goal
pub record TellsStuck (b : BoardView) (squares : ℕ) (stuck : List Bool) : Type 0 where
  pub whole : length stuck ≡ squares
  pub exact : (square : ℕ) → square < squares → IsTrue (slice_index_or stuck square false) ↔ IsStuck b square

-- what distances store of an accepted level: the number of its goals, an entry for each goal and square, and which squares are stuck
pub record IsKept (goals : ℕ) (stuck : List Bool) (t : DistanceTable) : Type 0 where
  pub accepted : IsAccepted t.board
  pub count : goals ≡ length (goals_of t.board)
  pub filled : IsFilled goals t
  pub told : TellsStuck t.board (length t.board.area) stuck
