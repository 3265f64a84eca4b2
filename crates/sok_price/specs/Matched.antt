-- A kept matching, as contracts see it.
use Rattle.std.specs.Prelude.{ℕ, ◌≡◌, ◌≤◌, ◌<◌, ◌+◌, ◌*◌, List, Option, Some, None, Bool, true, All, Contains, length, sum, ◌^◌}
use Rattle.std.specs.List.Sorted.{IsStrictlyIncreasing}
use Rattle.sok_board.specs.Area.{BoardView}
use Rattle.sok_board.specs.Limits.{square_limit}
use Rattle.sok_price.specs.declared.costs.Costs.{Costs}
use Rattle.sok_price.specs.declared.search.PathSearch.{PathSearch}
use Rattle.sok_price.specs.Costs.{AreCosts}
use Rattle.sok_price.specs.Exchanges.{IsWhole}
use Rattle.sok_price.specs.Kept.{AreExactly, AreRows, AreTabled, IsBounded, IsCost, IsShaped}
use Rattle.sok_price.specs.Limits.{kept_floor_limit}
use Rattle.sok_price.specs.Searches.{KeepsRoom, growth_of}

-- its costs, rows, prices and goals, and whether the rows are matched
pub record KeptMatching : Type 0 where
  pub squares : ℕ
  pub costs : Costs
  pub rows : List ℕ
  pub search : PathSearch
  pub matched : Bool

-- the invariant of a matching: the lists have their lengths, and if all rows have goals, no price is near its limit
pub record IsSound (squares : ℕ) (costs : Costs) (rows : List ℕ) (search : PathSearch) (matched : Bool) (trial : PathSearch) (trial_rows : List ℕ)
    (marks : List Bool) : Type 0 where
  pub shaped : AreCosts costs rows
  pub square : length rows ≡ costs.goals
  pub are_rows : AreRows squares rows
  pub small : squares ≤ square_limit
  pub entries : (squares + 1) * costs.goals ≤ length costs.entries.items
  pub search_shaped : IsShaped (length rows) costs.goals search
  pub trial_shaped : IsShaped (length rows) costs.goals trial
  pub as_many : length trial_rows ≡ length rows
  pub a_mark_a_square : length marks ≡ squares
  pub whole : matched ≡ true → IsWhole costs rows search
  pub low : matched ≡ true → search.floor ≤ kept_floor_limit

-- a matching is for the boxes of a board
pub record Serves (b : BoardView) (kept : KeptMatching) : Type 0 where
  pub squares : kept.squares ≡ length b.area
  pub tabled : AreTabled b kept.costs.goals kept.costs.entries.items

-- a matching of these boxes of a board
pub record Holds (b : BoardView) (boxes : List ℕ) (kept : KeptMatching) : Type 0 where
  pub serves : Serves b kept
  pub matched : kept.matched ≡ true
  pub exactly : AreExactly (length b.area) kept.rows boxes

-- a matching of all rows, which are those of these boxes, no two on the same square
pub record IsMatchedTo (boxes : List ℕ) (kept : KeptMatching) : Type 0 where
  pub matched : kept.matched ≡ true
  pub whole : IsWhole kept.costs kept.rows kept.search
  pub square : length kept.rows ≡ kept.costs.goals
  pub are_rows : AreRows kept.squares kept.rows
  pub exactly : AreExactly kept.squares kept.rows boxes
  pub exist : All (λ square. square < kept.squares) boxes
  pub rising : IsStrictlyIncreasing boxes

-- the least total, which prices prove and an assignment attains, or None if there is a crowd
abbrev pub TellsLeast : BoardView → List ℕ → Option ℕ → Type 0
TellsLeast b boxes None = IsBounded b boxes None
TellsLeast b boxes (Some total) = IsBounded b boxes (Some total) × IsCost b boxes total

-- a box of a matching can be moved to a square without a box
pub record CanMove (kept : KeptMatching) (from to : ℕ) : Type 0 where
  pub b : BoardView
  pub boxes : List ℕ
  pub holds : Holds b boxes kept
  pub there : Contains boxes from
  pub exists : from < length b.area
  pub free : Contains boxes to → ⊥
  pub within : to < length b.area

-- the prices and goals of one search are copied to another, which keeps its buffers
pub record IsCopied (from before after : PathSearch) : Type 0 where
  pub same : growth_of after ≡ record (growth_of before) { u = from.u.items; v = from.v.items; goal_of = from.goal_of.items; floor = from.floor }
  pub room : KeepsRoom before after

-- prices whose sums fit: that of the rows below 2 ^ 64, and at least that of the goals, and less than 2 ^ 32 above it
pub record HasWorth (search : PathSearch) : Type 0 where
  pub fits : sum search.u.items < 2 ^ 64
  pub covered : sum search.v.items ≤ sum search.u.items
  pub small : sum search.u.items < sum search.v.items + 2 ^ 32
