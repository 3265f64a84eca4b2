-- A matching with a row for each goal of a board: rows of boxes, and spare rows that cost nothing.
use Rattle.std.specs.Prelude.{ℕ, ◌≡◌, ◌≢◌, ◌≤◌, ◌<◌, ◌+◌, ◌-◌, ◌*◌, List, Option, Some, None, Bool, true, false}
use Rattle.std.specs.Prelude.{All, Contains, IsTrue, length, map, slice_index, slice_index_or, sum}
use Rattle.std.specs.List.Sorted.{IsStrictlyIncreasing}
use Rattle.sok_board.specs.Area.{BoardView, goals_of}
use Rattle.sok_price.specs.declared.costs.Costs.{Costs}
use Rattle.sok_price.specs.declared.search.PathSearch.{PathSearch}
use Rattle.sok_price.specs.Costs.{cost_in, AreCosts, AreSmall, TellsCost}
use Rattle.sok_price.specs.Exchanges.{IsWhole}
use Rattle.sok_price.specs.Searches.{growth_of, HasRoom, IsRoomy}
use Rattle.sok_price.specs.Limits.{kept_floor_limit}
use Rattle.sok_board.specs.BoxSets.{IsMoved}
use Rattle.sok_price.specs.Prices.{Priced, IsAssignment, IsCrowd}

-- entries for each square of a board, and a last row that costs nothing
pub record AreTabled (b : BoardView) (goals : ℕ) (entries : List (Option ℕ)) : Type 0 where
  pub goals_are : goals ≡ length (goals_of b)
  pub whole : length entries ≡ (length b.area + 1) * goals
  pub told : (square goal : ℕ) → square < length b.area → goal < goals → TellsCost b goal square (cost_in goals entries square goal)
  pub spare : (goal : ℕ) → goal < goals → cost_in goals entries (length b.area) goal ≡ Some 0
  pub small : AreSmall entries

-- rows of boxes on squares below `end`, no two on the same square, and spare rows
pub record AreRows (end : ℕ) (rows : List ℕ) : Type 0 where
  pub within : All (λ row. row ≤ end) rows
  pub apart : (i j : ℕ) → i < j → j < length rows → slice_index rows i < end → slice_index rows i ≢ slice_index rows j

-- each row that is not spare belongs to a box of a list
abbrev pub AreOf : ℕ → List ℕ → List ℕ → Type 0
AreOf end rows boxes = (k : ℕ) → k < length rows → slice_index rows k < end → Contains boxes (slice_index rows k)

-- the rows are those of all boxes of a list, and spare rows
pub record AreExactly (end : ℕ) (rows boxes : List ℕ) : Type 0 where
  pub of : AreOf end rows boxes
  pub each : All (Contains rows) boxes

-- the rows of all boxes of a list in order, followed by spare rows
pub record AreListed (end members : ℕ) (boxes rows : List ℕ) : Type 0 where
  pub whole : length rows ≡ members
  pub front : (k : ℕ) → k < length boxes → slice_index rows k ≡ slice_index boxes k
  pub back : (k : ℕ) → length boxes ≤ k → k < members → slice_index rows k ≡ end

-- exactly the first `end` squares of a list are marked; squares beyond the marks have none
pub record AreMarksOf (marks : List Bool) (list : List ℕ) (end : ℕ) : Type 0 where
  pub each : (k : ℕ) → k < end → slice_index list k < length marks → slice_index_or marks (slice_index list k) false ≡ true
  pub only : (square : ℕ) → slice_index_or marks square false ≡ true → (k : ℕ) × (k < end) × (slice_index list k ≡ square)

-- a row is exchanged for a spare row, or for one that is not present
pub record IsChange (end : ℕ) (rows : List ℕ) (row entry : ℕ) : Type 0 where
  pub within : row < length rows
  pub below : entry ≤ end
  pub fresh : entry < end → (k : ℕ) → k < length rows → slice_index rows k ≢ entry

-- rows of boxes and spare rows, as many as before
pub record AreSet (end : ℕ) (costs : Costs) (before rows : List ℕ) : Type 0 where
  pub whole : length rows ≡ length before
  pub shaped : AreCosts costs rows
  pub are_rows : AreRows end rows

-- a row for each goal of a board: those of some boxes, and spare rows
pub record AreKept (b : BoardView) (costs : Costs) (rows boxes : List ℕ) : Type 0 where
  pub tabled : AreTabled b costs.goals costs.entries.items
  pub square : length rows ≡ costs.goals
  pub are_rows : AreRows (length b.area) rows
  pub exactly : AreExactly (length b.area) rows boxes
  pub exist : All (λ square. square < length b.area) boxes
  pub rising : IsStrictlyIncreasing boxes

-- lists of prices and buffers with an entry for each row or goal, and room for a tree and for the goals of the rows
pub record IsShaped (members goals : ℕ) (search : PathSearch) : Type 0 where
  pub a_price_a_box : length search.u.items ≡ members
  pub a_price_a_goal : length search.v.items ≡ goals
  pub roomy : IsRoomy goals (growth_of search)
  pub room : HasRoom members search

-- rows of a table with prices, and a matching of them if `matched` is set; they can be set to the boxes of a list
pub record CanSettle (end : ℕ) (boxes : List ℕ) (matched : Bool) (marks : List Bool) (costs : Costs) (rows : List ℕ) (search : PathSearch) : Type 0 where
  pub costs_are : AreCosts costs rows
  pub are_rows : AreRows end rows
  pub whole : IsTrue matched → IsWhole costs rows search
  pub shaped : IsShaped (length rows) costs.goals search
  pub a_mark_a_square : length marks ≡ end
  pub entries : (end + 1) * costs.goals ≤ length costs.entries.items
  pub exist : All (λ square. square < end) boxes

-- a matching of the boxes of a list, with prices that are low enough for one more exchange
pub record IsSettled (end : ℕ) (boxes : List ℕ) (costs : Costs) (rows : List ℕ) (search : PathSearch) : Type 0 where
  pub whole : IsWhole costs rows search
  pub low : search.floor ≤ kept_floor_limit
  pub exactly : AreExactly end rows boxes

-- the prices of some boxes, each less an amount, and their goals, by the indices of their rows
pub record AreRead (amount : ℕ) (rows : List ℕ) (search : PathSearch) (boxes u goal_of : List ℕ) : Type 0 where
  pub places : List ℕ
  pub within : All (λ k. k < length rows) places
  pub boxes_are : boxes ≡ map (λ k. slice_index rows k) places
  pub prices_are : u ≡ map (λ k. slice_index search.u.items k - amount) places
  pub goals_are : goal_of ≡ map (λ k. slice_index search.goal_of.items k) places

-- a number that some prices prove as a bound, or None if there is a crowd
abbrev pub IsBounded : BoardView → List ℕ → Option ℕ → Type 0
IsBounded b boxes None = (members : List ℕ) × IsCrowd b boxes members
IsBounded b boxes (Some n) = (u v : List ℕ) × Priced b boxes u v n

-- some assignment of the boxes has this cost
abbrev pub IsCost : BoardView → List ℕ → ℕ → Type 0
IsCost b boxes n = (goal_of distances : List ℕ) × IsAssignment b boxes goal_of distances × (sum distances ≡ n)

-- one box of a list is moved, which is given by the index of its row
pub record IsMovedTo (end : ℕ) (rows : List ℕ) (at to : ℕ) (boxes after : List ℕ) : Type 0 where
  pub within : at < length rows
  pub exactly : AreExactly end rows boxes
  pub moved : IsMoved boxes (slice_index rows at) to after
