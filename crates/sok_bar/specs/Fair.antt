-- Fair prices: no box costs more than a goal plus the pushes that bring it there.
use Rattle.std.specs.Prelude.{ℕ, ◌≤◌, ◌<◌, ◌+◌, List, length, slice_index}
use Rattle.sok_board.specs.Area.{BoardView}
use Rattle.sok_distance.specs.Pushing.{Chain}
use Rattle.sok_distance.specs.Distances.{goal_at}

-- the price of a box is fair against one goal, which is given by its index
pub record IsAffordable (b : BoardView) (square price goal goal_price : ℕ) : Type 0 where
  pub cheap : (pushes : ℕ) → Chain b square (goal_at b goal) pushes → price ≤ goal_price + pushes

-- the price of a box is fair against all goals
pub record IsFair (b : BoardView) (square price : ℕ) (v : List ℕ) : Type 0 where
  pub each : (goal : ℕ) → goal < length v → IsAffordable b square price goal (slice_index v goal)

pub record AreFair (b : BoardView) (boxes u v : List ℕ) : Type 0 where
  pub each : (place : ℕ) → place < length boxes → IsFair b (slice_index boxes place) (slice_index u place) v
