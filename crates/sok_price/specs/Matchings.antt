-- Prices of boxes and goals, and a goal of its own for each of the first boxes.
use Rattle.std.specs.Prelude.{ℕ, ◌≡◌, ◌≢◌, ◌≤◌, ◌<◌, ◌+◌, ◌*◌, List, Option, Some, None, All, AllPairs, Contains, length, slice_index, slice_index_or}
use Rattle.sok_board.specs.Limits.{square_limit}

-- the cost of each box, by its index, at each goal, by its index
abbrev pub Costing : Type 0
Costing = ℕ → ℕ → Option ℕ

-- a tight pair: the price of the box is that of the goal plus the cost of the way there
pub record IsTight (cost : Costing) (u v : List ℕ) (member goal : ℕ) : Type 0 where
  pub pushes : ℕ
  pub way : cost member goal ≡ Some pushes
  pub exact : slice_index u member ≡ slice_index v goal + pushes

-- fair prices: the price of a box is at most that of a goal plus the cost of the way there
abbrev pub AreFair : Costing → List ℕ → List ℕ → Type 0
AreFair cost u v = (member goal pushes : ℕ) → member < length u → goal < length v → cost member goal ≡ Some pushes
    → slice_index u member ≤ slice_index v goal + pushes

-- each box is tight with its goal
abbrev pub AreTight : Costing → List ℕ → List ℕ → List ℕ → Type 0
AreTight cost u v goal_of = (member : ℕ) → member < length goal_of → IsTight cost u v member (slice_index goal_of member)

-- prices that are fair everywhere, tight on matched pairs, and at most `floor` at unmatched goals
pub record IsMatched (cost : Costing) (members goals floor : ℕ) (u v goal_of : List ℕ) : Type 0 where
  pub a_price_a_box : length u ≡ members
  pub a_price_a_goal : length v ≡ goals
  pub exist : All (λ goal. goal < goals) goal_of
  pub apart : AllPairs ◌≢◌ goal_of
  pub fair : AreFair cost u v
  pub exact : AreTight cost u v goal_of
  pub idle : (goal : ℕ) → goal < goals → (Contains goal_of goal → ⊥) → slice_index v goal ≤ floor

-- The limit of prices between two searches. Prices of a tree are at most a longest way apart for each of its goals, and the goal at its end costs at most the
-- floor.
abbrev pub low : ℕ → ℕ → ℕ
low members floor = floor + square_limit * members

-- no price is above a limit
pub record AreWithin (limit : ℕ) (u v : List ℕ) : Type 0 where
  pub boxes : All (λ price. price ≤ limit) u
  pub goals : All (λ price. price ≤ limit) v

-- the box before an end that has a goal, or None if none has it
abbrev pub TellsTaker : List ℕ → ℕ → ℕ → Option ℕ → Type 0
TellsTaker goal_of end goal None = (member : ℕ) → member < end → slice_index goal_of member ≢ goal
TellsTaker goal_of end goal (Some member) = (member < end) × (slice_index goal_of member ≡ goal)

-- the list has for each goal the box that has it
abbrev pub TellTakers : List ℕ → List (Option ℕ) → Type 0
TellTakers goal_of takers = (goal : ℕ) → goal < length takers → TellsTaker goal_of (length goal_of) goal (slice_index_or takers goal None)
