-- Breadth-first search: it takes the nodes in the order in which they were reached, and follows the letters from each in turn.
use Rattle.std.specs.Prelude.{ℕ, ◌≡◌, ◌<◌, ◌≤◌, ◌+◌, ◌*◌, ◌^◌, List, Option, Some, None, count_by, is_some, not, length, slice_get, slice_index_or}
use Rattle.sok_rules.specs.declared.cell.Dir.{Dir}
use Rattle.sok_rules.specs.declared.cell.Dir.TheVariants.{Left, Up, Right, Down}
use Rattle.sok_board.specs.declared.search.Origin.{Origin}
use Rattle.sok_board.specs.declared.search.Step.{Step}
use Rattle.sok_board.specs.declared.search.Flood.{Flood}
use Rattle.sok_board.specs.Graphs.{Graph}

-- the depths found so far, how each node was reached, and the nodes in the order in which they were reached
pub record Found : Type 0 where
  pub depths : List (Option ℕ)
  pub origins : List Origin
  pub steps : List Step

abbrev pub found_of : Flood → Found
found_of search = record { depths = search.depths.items; origins = search.origins.items; steps = search.steps.items }

abbrev pub depth_in : Found → ℕ → Option ℕ
depth_in f s = slice_index_or f.depths s None

abbrev pub origin_in : Found → ℕ → Origin
origin_in f s = slice_index_or f.origins s (record { from = 0; dir = Left })

-- the number of nodes that are not reached
abbrev pub unmet_in : Found → ℕ
unmet_in f = count_by (λ o. not (is_some o)) f.depths

-- the invariant of what is found: a node that is reached has a depth, an origin and a step, and the depths of the steps never decrease
pub record IsFound (g : Graph) (f : Found) : Type 0 where
  pub few : g.nodes < 2 ^ 16
  pub whole : length f.depths ≡ g.nodes
  pub room : length f.origins ≡ g.nodes
  pub started : depth_in f g.start ≡ Some 0
  pub root : (s : ℕ) → depth_in f s ≡ Some 0 → g.start ≡ s
  pub back : (s m : ℕ) → depth_in f s ≡ Some (m + 1)
      → (depth_in f (origin_in f s).from ≡ Some m) × (g.way (origin_in f s).dir (origin_in f s).from ≡ Some s)
  pub met : (k : ℕ) (a : Step) → slice_get f.steps k ≡ Some a → depth_in f a.node ≡ Some a.depth
  pub listed : (s m : ℕ) → depth_in f s ≡ Some m → (k : ℕ) × (slice_get f.steps k ≡ Some (record { node = s; depth = m }))
  pub count : length f.steps + unmet_in f ≤ g.nodes
  pub shallow : (k : ℕ) (a : Step) → slice_get f.steps k ≡ Some a → a.depth ≤ k
  pub rising : (k : ℕ) (b : Step) → slice_get f.steps k ≡ Some b → (j : ℕ) (a : Step) → slice_get f.steps j ≡ Some a → j ≤ k → a.depth ≤ b.depth

-- the turns of a search: at each step, the letters in this order
abbrev pub letter : Dir → ℕ
letter Left = 0
letter Up = 1
letter Right = 2
letter Down = 3

abbrev pub turn : ℕ → Dir → ℕ
turn k d = 4 * k + letter d

-- a node is reached, at a depth of at most `n`
abbrev pub IsNear : Found → ℕ → ℕ → Type 0
IsNear f s n = (m : ℕ) × (depth_in f s ≡ Some m) × (m ≤ n)

-- the invariant after a number of turns: the nodes to which they led are reached
pub record IsSearching (g : Graph) (turns : ℕ) (f : Found) : Type 0 where
  pub found : IsFound g f
  pub within : turns ≤ 4 * length f.steps
  pub near : (j : ℕ) (a : Step) → slice_get f.steps j ≡ Some a → turns < 4 * j + 4 → (k : ℕ) (b : Step) → slice_get f.steps k ≡ Some b → b.depth ≤ a.depth + 1
  pub closed : (k : ℕ) (a : Step) → slice_get f.steps k ≡ Some a → (d : Dir) (t : ℕ) → turn k d < turns → g.way d a.node ≡ Some t → IsNear f t (a.depth + 1)

-- the same at the end, after all turns
pub record IsSearched (g : Graph) (f : Found) : Type 0 where
  pub found : IsFound g f
  pub closed : (k : ℕ) (a : Step) (d : Dir) (t : ℕ) → slice_get f.steps k ≡ Some a → g.way d a.node ≡ Some t → IsNear f t (a.depth + 1)
