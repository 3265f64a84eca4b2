-- A search for a goal for one more box: a tree of boxes and goals that grows from the box, while prices rise.
use Rattle.std.specs.Prelude.{vec_capacity, ℕ, ◌≡◌, ◌≢◌, ◌≤◌, ◌<◌, ◌+◌, ◌-◌, List, [], ◌∷◌, ◌++◌, Option, Some, None, Bool, true, false, All, AllPairs}
use Rattle.std.specs.Prelude.{Contains, length, replicate, slice_index, slice_set}
use Rattle.sok_board.specs.Limits.{square_limit}
use Rattle.sok_price.specs.declared.search.Branch.{Branch}
use Rattle.sok_price.specs.declared.search.PathSearch.{PathSearch}
use Rattle.sok_price.specs.declared.slacks.Slack.{Slack}
use Rattle.sok_price.specs.declared.slacks.Near.{Near}
use Rattle.sok_price.specs.Limits.{floor_limit}
use Rattle.sok_price.specs.Matchings.{Costing, IsTight, AreTight, IsMatched, low, AreWithin, TellTakers}
use Rattle.sok_price.specs.Slacks.{slack_at, unreached}
use Rattle.sok_price.specs.Trees.{branch_at, is_marked, GoesTight, AreRaised, AreRises, AreTaken, IsBound, IsSlack, IsTree}

-- prices of boxes and goals, the goals of the first boxes, and a search for a goal for the next box
pub record Growth : Type 0 where
  pub u : List ℕ
  pub v : List ℕ
  pub goal_of : List ℕ
  pub branches : List Branch
  pub taken : List Bool
  pub slacks : List Slack
  pub takers : List (Option ℕ)
  pub floor : ℕ

abbrev pub growth_of : PathSearch → Growth
growth_of search = record {
  u = search.u.items;
  v = search.v.items;
  goal_of = search.goal_of.items;
  branches = search.branches.items;
  taken = search.taken.items;
  slacks = search.slacks.items;
  takers = search.takers.items;
  floor = search.floor;
}

-- room for a tree of all boxes, and for the goals of all
pub record HasRoom (members : ℕ) (search : PathSearch) : Type 0 where
  pub tree : members ≤ vec_capacity search.branches
  pub matching : members ≤ vec_capacity search.goal_of

-- the room of a search is kept
abbrev pub KeepsRoom : PathSearch → PathSearch → Type 0
KeepsRoom before after = (members : ℕ) → HasRoom members before → HasRoom members after

-- buffers with an entry for each goal
pub record IsRoomy (goals : ℕ) (g : Growth) : Type 0 where
  pub taken : length g.taken ≡ goals
  pub slacks : length g.slacks ≡ goals
  pub takers : length g.takers ≡ goals

-- a search for a goal for the next box; the first `seen` boxes of its tree have been scanned
pub record IsGrowing (cost : Costing) (members goals seen : ℕ) (g : Growth) : Type 0 where
  pub matched : IsMatched cost members goals g.floor g.u g.v g.goal_of
  pub roomy : IsRoomy goals g
  pub few : members ≤ square_limit
  pub bounded : g.floor ≤ floor_limit
  pub low : AreWithin (low members g.floor) g.u g.v
  pub more : length g.goal_of < members
  pub tells : TellTakers g.goal_of g.takers
  pub tree : IsTree g.goal_of g.branches
  pub taken : AreTaken g.taken g.branches
  pub rises : AreRises cost g.u g.v g.branches
  pub slack : (goal : ℕ) → goal < goals → is_marked g.taken goal ≡ false → (slack_at g.slacks goal).rise < unreached
      → IsSlack cost g.u g.v g.branches goal (slack_at g.slacks goal)
  pub bounds : (at goal : ℕ) → at < seen → at < length g.branches → goal < goals → is_marked g.taken goal ≡ false
      → IsBound cost g.u g.v g.branches (slack_at g.slacks goal).rise at goal
  pub ahead : (goal : ℕ) → goal < goals → is_marked g.taken goal ≡ false
      → (branch_at g.branches (length g.branches - 1)).rise ≤ (slack_at g.slacks goal).rise

-- every box of the tree has been scanned; or every box but the last
abbrev pub IsSeen : Costing → ℕ → ℕ → Growth → Type 0
IsSeen cost members goals g = IsGrowing cost members goals (length g.branches) g

abbrev pub IsAhead : Costing → ℕ → ℕ → Growth → Type 0
IsAhead cost members goals g = IsGrowing cost members goals (length g.branches - 1) g

-- a search that has begun: the next box is the whole tree, and has not been scanned
pub record IsBegun (g after : Growth) : Type 0 where
  pub same : after ≡ record g {
    branches = record { member = length g.goal_of; goal = 0; parent = 0; rise = 0 } ∷ [];
    taken = replicate (length g.taken) false;
    slacks = replicate (length g.slacks) (record { rise = unreached; from = 0 });
    takers = after.takers;
  }
  pub whole : length after.takers ≡ length g.takers
  pub tells : TellTakers g.goal_of after.takers

-- the prices of the tree are raised: those of each branch by `total` less its rise
pub record IsRaised (total : ℕ) (g : Growth) (u v : List ℕ) : Type 0 where
  pub boxes : AreRaised (λ branch. branch.member) total g.branches 0 (length g.branches) g.u u
  pub goals : AreRaised (λ branch. branch.goal) total g.branches 1 (length g.branches) g.v v

-- a goal and the box that has it are added to a tree
unfoldable pub joined : Near → ℕ → Growth → Growth
joined near member g = record g {
  branches = g.branches ++ record { member = member; goal = near.goal; parent = near.slack.from; rise = near.slack.rise } ∷ [];
  taken = slice_set g.taken near.goal true;
}

-- a goal that no box has is tight with a box of a tree
pub record IsReached (cost : Costing) (g : Growth) (near : Near) : Type 0 where
  pub within : near.goal < length g.v
  pub free : (member : ℕ) → member < length g.goal_of → slice_index g.goal_of member ≢ near.goal
  pub from : near.slack.from < length g.branches
  pub tight : IsTight cost g.u g.v (branch_at g.branches near.slack.from).member near.goal

-- the boxes of a tree reach no goal outside it
abbrev pub ReachesNoOther : Growth → Type 0
ReachesNoOther g = (goal : ℕ) → goal < length g.v → is_marked g.taken goal ≡ false → unreached ≤ (slack_at g.slacks goal).rise

-- the goal outside a tree that its boxes reach first
pub record IsNext (cost : Costing) (g : Growth) (near : Near) : Type 0 where
  pub within : near.goal < length g.v
  pub outside : is_marked g.taken near.goal ≡ false
  pub slack : slack_at g.slacks near.goal ≡ near.slack
  pub way : IsSlack cost g.u g.v g.branches near.goal near.slack
  pub least : (goal : ℕ) → goal < length g.v → is_marked g.taken goal ≡ false → near.slack.rise ≤ (slack_at g.slacks goal).rise

-- the next goal outside a tree that is reached, or None if there is none
abbrev pub TellsNext : Costing → Growth → Option Near → Type 0
TellsNext cost g None = ReachesNoOther g
TellsNext cost g (Some near) = IsNext cost g near

-- how a search ends: at a next goal that no box has, or at None if no other goal is reached
abbrev pub TellsEnd : Costing → Growth → Option Near → Type 0
TellsEnd cost g None = ReachesNoOther g
TellsEnd cost g (Some near) = IsNext cost g near × ((member : ℕ) → member < length g.goal_of → slice_index g.goal_of member ≢ near.goal)

-- goals of the first boxes and of the next box, each of them tight
pub record IsRematched (cost : Costing) (g : Growth) (goal_of : List ℕ) : Type 0 where
  pub more : length goal_of ≡ length g.goal_of + 1
  pub apart : AllPairs ◌≢◌ goal_of
  pub kept : (goal : ℕ) → Contains g.goal_of goal → Contains goal_of goal
  pub exist : All (λ goal. goal < length g.v) goal_of
  pub exact : AreTight cost g.u g.v goal_of

-- goals of all boxes of a search and the next, provided that the goal that was reached is tight
abbrev pub Rematches : Growth → Near → List ℕ → Type 0
Rematches g near goal_of = (cost : Costing) (members goals floor : ℕ) → IsMatched cost members goals floor g.u g.v g.goal_of
    → GoesTight cost g.u g.v g.branches → IsReached cost g near → IsRematched cost g goal_of

-- the prices and the goals of the first boxes, with room for a search for the next
pub record IsReady (cost : Costing) (members goals : ℕ) (g : Growth) : Type 0 where
  pub matched : IsMatched cost members goals g.floor g.u g.v g.goal_of
  pub bounded : g.floor ≤ floor_limit
  pub low : AreWithin (low members g.floor) g.u g.v
  pub roomy : IsRoomy goals g
