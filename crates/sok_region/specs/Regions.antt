-- The player's region, as squares by their numbers.
use Rattle.std.specs.Prelude.{ℕ, ◌≡◌, ◌<◌, ◌≤◌, ◌↔◌, ◌*◌, List, Some, true, All, Contains, filter, length}
use Rattle.std.specs.List.{range_with_len}
use Rattle.std.specs.List.Sorted.{IsStrictlyIncreasing}
use Rattle.sok_rules.specs.declared.cell.Dir.{Dir}
use Rattle.sok_rules.specs.Play.{run, pushes}
use Rattle.sok_rules.specs.States.{Same}
use Rattle.sok_board.specs.Area.{BoardView, position_of}
use Rattle.sok_board.specs.Spans.{word_bits}
use Rattle.sok_field.specs.Numbers.{has_number}

-- numbers of squares that make a position: boxes in ascending order, and the player on none of them
pub record IsPlaced (b : BoardView) (boxes : List ℕ) (player : ℕ) : Type 0 where
  pub rising : IsStrictlyIncreasing boxes
  pub boxes_exist : All (λ n. n < length b.area) boxes
  pub player_exists : player < length b.area
  pub free : Contains boxes player → ⊥

-- the squares on which the player is in the same state, in ascending order
pub record IsRegion (b : BoardView) (boxes : List ℕ) (player : ℕ) (region : List ℕ) : Type 0 where
  pub placed : IsPlaced b boxes player
  pub rising : IsStrictlyIncreasing region
  pub exact : (s : ℕ) → Contains region s ↔ ((s < length b.area) × Same b.rows (position_of b player boxes) (position_of b s boxes))

-- the region of some player among some boxes
pub record IsRegionOf (b : BoardView) (region : List ℕ) : Type 0 where
  pub boxes : List ℕ
  pub player : ℕ
  pub is : IsRegion b boxes player region

-- a walk from one square to another: letters without a push
pub record IsWalkBetween (b : BoardView) (boxes : List ℕ) (from to : ℕ) (w : List Dir) : Type 0 where
  pub leads : run b.rows (position_of b from boxes) w ≡ Some (position_of b to boxes)
  pub quiet : pushes b.rows (position_of b from boxes) w ≡ 0

-- no walk from the one square to the other is shorter
abbrev pub IsLeastWalk : BoardView → List ℕ → ℕ → ℕ → List Dir → Type 0
IsLeastWalk b boxes from to w = (v : List Dir) → IsWalkBetween b boxes from to v → length w ≤ length v

-- the squares whose bits are set, in ascending order
unfoldable pub squares_of : List ℕ → List ℕ
squares_of words = filter (has_number words) (range_with_len 0 (word_bits * length words))

-- the bit of some square is set
abbrev pub HasSquare : List ℕ → Type 0
HasSquare words = (s : ℕ) × (has_number words s ≡ true)
