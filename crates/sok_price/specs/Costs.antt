-- The cost of bringing each box to each goal, both by their indices from 0.
use Rattle.std.specs.Prelude.{ℕ, ◌≡◌, ◌≤◌, ◌<◌, ◌+◌, ◌*◌, ◌++◌, List, Option, Some, None, IfSome, All, length, slice_index, slice_index_or}
use Rattle.sok_board.specs.Area.{BoardView, goals_of}
use Rattle.sok_board.specs.Limits.{square_limit}
use Rattle.sok_distance.specs.Distances.{goal_at}
use Rattle.sok_distance.specs.Pushing.{TellsDistance}
use Rattle.sok_price.specs.declared.costs.Costs.{Costs}
use Rattle.sok_price.specs.Matchings.{Costing}

-- the entry of a row and a goal in a table, row by row: None if no pushes lead to the goal
unfoldable pub cost_in : ℕ → List (Option ℕ) → ℕ → ℕ → Option ℕ
cost_in goals entries row goal = slice_index_or entries (row * goals + goal) None

-- the cost of a box; `rows` has the row of each box
abbrev pub cost_of : Costs → List ℕ → ℕ → ℕ → Option ℕ
cost_of costs rows member goal = cost_in costs.goals costs.entries.items (slice_index rows member) goal

-- no entry is above the greatest number of squares
abbrev pub AreSmall : List (Option ℕ) → Type 0
AreSmall entries = (k pushes : ℕ) → slice_index_or entries k None ≡ Some pushes → pushes ≤ square_limit

-- a row of entries for each box, with one for each goal, none of them large
pub record AreCosts (costs : Costs) (rows : List ℕ) : Type 0 where
  pub exist : All (λ row. (row + 1) * costs.goals ≤ length costs.entries.items) rows
  pub few : length rows ≤ square_limit
  pub small : AreSmall costs.entries.items

-- the distance of a square to a goal, which is given by its index; it is not large
pub record TellsCost (b : BoardView) (goal square : ℕ) (cost : Option ℕ) : Type 0 where
  pub exact : TellsDistance b (goal_at b goal) square cost
  pub short : IfSome cost (λ pushes. pushes ≤ square_limit)

-- the costs of boxes are the distances of their squares
abbrev pub TellCosts : BoardView → List ℕ → ℕ → Costing → Type 0
TellCosts b boxes goals cost = (member goal : ℕ) → member < length boxes → goal < goals → TellsCost b goal (slice_index boxes member) (cost member goal)

-- costs with a row for each box of a list, and an entry for each goal of a board
pub record AreOfBoxes (b : BoardView) (boxes : List ℕ) (costs : Costs) (rows : List ℕ) : Type 0 where
  pub members : length rows ≡ length boxes
  pub goals : costs.goals ≡ length (goals_of b)
  pub told : TellCosts b boxes costs.goals (cost_of costs rows)

-- the distances of a square to the first goals are appended
pub record IsRow (b : BoardView) (goals square : ℕ) (before after : List (Option ℕ)) : Type 0 where
  pub row : List (Option ℕ)
  pub added : after ≡ before ++ row
  pub whole : length row ≡ goals
  pub told : (goal : ℕ) → goal < goals → TellsCost b goal square (slice_index_or row goal None)

-- rows of entries for the first squares of an order
pub record AreTold (b : BoardView) (square_of : ℕ → ℕ) (goals members : ℕ) (entries : List (Option ℕ)) : Type 0 where
  pub whole : length entries ≡ members * goals
  pub told : (member goal : ℕ) → member < members → goal < goals → TellsCost b goal (square_of member) (cost_in goals entries member goal)
  pub small : AreSmall entries
