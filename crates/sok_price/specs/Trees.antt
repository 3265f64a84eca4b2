-- A tree of boxes and goals: it begins at a box without a goal, and leads from a box to a goal by a tight pair, and on to the box that has that goal.
use Rattle.std.specs.Prelude.{ℕ, ◌≡◌, ◌≢◌, ◌≤◌, ◌<◌, ◌+◌, ◌-◌, ◌*◌, ◌==◌, List, Some, Bool, true, false, filter, length, slice_index, slice_index_or}
use Rattle.std.specs.List.{list_any, range_with_len}
use Rattle.sok_board.specs.Limits.{square_limit}
use Rattle.sok_price.specs.declared.search.Branch.{Branch}
use Rattle.sok_price.specs.declared.slacks.Slack.{Slack}
use Rattle.sok_price.specs.Matchings.{Costing, IsTight}

abbrev pub branch_at : List Branch → ℕ → Branch
branch_at branches at = slice_index_or branches at (record { member = 0; goal = 0; parent = 0; rise = 0 })

abbrev pub is_marked : List Bool → ℕ → Bool
is_marked marks k = slice_index_or marks k false

-- whether a box is in a tree
abbrev pub is_met : List Branch → ℕ → Bool
is_met branches member = list_any (λ (branch : Branch). branch.member == member) branches

-- the boxes before an end that are in a tree, in ascending order
abbrev pub members_of : List Branch → ℕ → List ℕ
members_of branches end = filter (is_met branches) (range_with_len 0 end)

-- a tree that begins at the next box; each other branch has a parent before it, and a box with its goal
pub record IsTree (goal_of : List ℕ) (branches : List Branch) : Type 0 where
  pub some : 0 < length branches
  pub root : (branch_at branches 0).member ≡ length goal_of
  pub before : (at : ℕ) → 0 < at → at < length branches → (branch_at branches at).parent < at
  pub earlier : (at : ℕ) → 0 < at → at < length branches → (branch_at branches at).member < length goal_of
  pub has : (at : ℕ) → 0 < at → at < length branches → slice_index goal_of (branch_at branches at).member ≡ (branch_at branches at).goal
  pub apart : (at to : ℕ) → at < to → to < length branches → (branch_at branches at).member ≢ (branch_at branches to).member

-- the goal of each branch is tight with its parent's box, as it is once the prices of the tree are raised
abbrev pub GoesTight : Costing → List ℕ → List ℕ → List Branch → Type 0
GoesTight cost u v branches = (at : ℕ) → 0 < at → at < length branches
    → IsTight cost u v (branch_at branches (branch_at branches at).parent).member (branch_at branches at).goal

-- a pair of the box of a branch and a goal, which becomes tight when the root's price has risen by the slack
pub record IsSlack (cost : Costing) (u v : List ℕ) (branches : List Branch) (goal : ℕ) (slack : Slack) : Type 0 where
  pub within : slack.from < length branches
  pub pushes : ℕ
  pub way : cost (branch_at branches slack.from).member goal ≡ Some pushes
  pub exact : slack.rise + slice_index u (branch_at branches slack.from).member ≡ (branch_at branches slack.from).rise + slice_index v goal + pushes

-- the box of a branch is not tight with a goal before the root's price has risen by `rise`
abbrev pub IsBound : Costing → List ℕ → List ℕ → List Branch → ℕ → ℕ → ℕ → Type 0
IsBound cost u v branches rise at goal = (pushes : ℕ) → cost (branch_at branches at).member goal ≡ Some pushes
    → rise + slice_index u (branch_at branches at).member ≤ (branch_at branches at).rise + slice_index v goal + pushes

-- The rises of the branches. Each is that of the pair of its parent's box and its goal, no box of the tree reaches its goal earlier, and the last is the
-- highest. Less their rises, the prices of two boxes differ by at most a longest way for each goal of the tree.
pub record AreRises (cost : Costing) (u v : List ℕ) (branches : List Branch) : Type 0 where
  pub way : (at : ℕ) → 0 < at → at < length branches
      → IsSlack cost u v branches (branch_at branches at).goal (record { rise = (branch_at branches at).rise; from = (branch_at branches at).parent })
  pub bound : (at to : ℕ) → at < length branches → 0 < to → to < length branches
      → IsBound cost u v branches (branch_at branches to).rise at (branch_at branches to).goal
  pub last : (at : ℕ) → at < length branches → (branch_at branches at).rise ≤ (branch_at branches (length branches - 1)).rise
  pub root : (branch_at branches 0).rise ≡ 0
  pub close : (at to : ℕ) → at < length branches → to < length branches
      → slice_index u (branch_at branches at).member + (branch_at branches to).rise
      ≤ slice_index u (branch_at branches to).member + (branch_at branches at).rise + square_limit * (length branches - 1)

-- the price at each branch's place is raised by `total` less the rise of the branch, and the others stay
pub record AreRaised (place : Branch → ℕ) (total : ℕ) (branches : List Branch) (first end : ℕ) (before after : List ℕ) : Type 0 where
  pub whole : length after ≡ length before
  pub raised : (at : ℕ) → first ≤ at → at < end
      → slice_index after (place (branch_at branches at)) ≡ slice_index before (place (branch_at branches at)) + (total - (branch_at branches at).rise)
  pub others : (k : ℕ) → ((at : ℕ) → first ≤ at → at < end → place (branch_at branches at) ≢ k) → slice_index after k ≡ slice_index before k

-- exactly the goals of a tree are marked
pub record AreTaken (taken : List Bool) (branches : List Branch) : Type 0 where
  pub marked : (at : ℕ) → 0 < at → at < length branches → is_marked taken (branch_at branches at).goal ≡ true
  pub of : (goal : ℕ) → is_marked taken goal ≡ true → (at : ℕ) × (0 < at) × (at < length branches) × ((branch_at branches at).goal ≡ goal)
