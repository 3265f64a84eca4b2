-- Goals that members of a list of boxes reach.
use Rattle.std.specs.Prelude.{ℕ, List, Contains}
use Rattle.sok_board.specs.Area.{BoardView, goals_of}
use Rattle.sok_distance.specs.Pushing.{Chain}
use Rattle.sok_distance.specs.Distances.{goal_at}
use Rattle.sok_price.specs.Prices.{IsMember}

-- a chain of pushes of a lone box leads from a square to a goal, which is given by its index
pub record Reaches (b : BoardView) (square goal : ℕ) : Type 0 where
  pub pushes : ℕ
  pub chain : Chain b square (goal_at b goal) pushes

-- such a chain leads to the goal from a member
pub record IsReachedBy (b : BoardView) (boxes members : List ℕ) (goal : ℕ) : Type 0 where
  pub from : ℕ
  pub member : IsMember boxes members from
  pub reaches : Reaches b from goal

-- a list has each goal that a member reaches
abbrev pub HasReached : BoardView → List ℕ → List ℕ → List ℕ → Type 0
HasReached b boxes members goals = (x g n : ℕ) → IsMember boxes members x → Contains (goals_of b) g → Chain b x g n → Contains goals g
