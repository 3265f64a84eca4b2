-- The exchange of a row: the last row takes its place, and a new one becomes the last.
use Rattle.std.specs.Prelude.{ℕ, ◌≡◌, ◌<◌, ◌≤◌, ◌+◌, ◌*◌, List, Bool, IsTrue, false, ◌==◌, if◌then◌else◌, length, slice_index}
use Rattle.sok_price.specs.declared.costs.Costs.{Costs}
use Rattle.sok_price.specs.declared.search.PathSearch.{PathSearch}
use Rattle.sok_price.specs.Costs.{cost_of, AreCosts}
use Rattle.sok_price.specs.Searches.{IsReady, IsSeen, ReachesNoOther, growth_of}

-- where the element at an index was before an exchange
unfoldable pub moved_from : ℕ → ℕ → ℕ → ℕ
moved_from row last k = if k == row then last else k

-- a list after an element is exchanged
pub record AreMoved (row value : ℕ) (before after : List ℕ) : Type 0 where
  pub last : ℕ
  pub whole : length before ≡ last + 1
  pub kept : length after ≡ last + 1
  pub moved : (k : ℕ) → k < last → slice_index after k ≡ slice_index before (moved_from row last k)
  pub new : slice_index after last ≡ value

-- a matching of all rows, ready for one of them to be exchanged
pub record IsWhole (costs : Costs) (rows : List ℕ) (search : PathSearch) : Type 0 where
  pub shaped : AreCosts costs rows
  pub ready : IsReady (cost_of costs rows) (length rows) costs.goals (growth_of search)
  pub whole : length search.goal_of.items ≡ length rows

-- the index of a row of a matching, and the row of the table that replaces it
pub record IsExchange (costs : Costs) (rows : List ℕ) (row entry : ℕ) : Type 0 where
  pub within : row < length rows
  pub below : (entry + 1) * costs.goals ≤ length costs.entries.items

-- how a search for all rows ends: with a goal for each, or with a tree of rows that reach too few
pub record Tells (costs : Costs) (rows : List ℕ) (search : PathSearch) (found : Bool) : Type 0 where
  pub whole : IsTrue found → IsWhole costs rows search
  pub tree : found ≡ false → IsSeen (cost_of costs rows) (length rows) costs.goals (growth_of search)
  pub closed : found ≡ false → ReachesNoOther (growth_of search)
