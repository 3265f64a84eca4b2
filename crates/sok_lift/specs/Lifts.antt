-- Lifts: pushes that two boxes need beyond their distances since they stand in each other's way. They raise what prices show.
use Rattle.std.specs.Prelude.{ℕ, ◌≡◌, ◌≢◌, ◌≤◌, ◌<◌, ◌+◌, List, [], ◌∷◌, Some, Contains, All, AllPairs, length, slice_index, sum_by}
use Rattle.sok_rules.specs.declared.cell.Dir.{Dir}
use Rattle.sok_rules.specs.Play.{Position, AtLeastFrom, NeverFrom}
use Rattle.sok_rules.specs.States.{Same}
use Rattle.sok_board.specs.Area.{BoardView, beside, goals_of, position_of}
use Rattle.sok_distance.specs.Pushing.{Chain}
use Rattle.sok_price.specs.Laws.{ArePlaced}
use Rattle.sok_price.specs.Prices.{Priced}

-- a push of a box from one square to another wastes so many pushes: each goal that is reached behind it with n more pushes is reached from
-- before it with n + 1, less those wasted
pub record Wastes (b : BoardView) (from to waste : ℕ) : Type 0 where
  pub each : (g n : ℕ) → Contains (goals_of b) g → Chain b to g n → (m : ℕ) × Chain b from g m × (m + waste ≤ n + 1)

-- a push lowers a number by no more than it wastes
pub record LowersByWaste (b : BoardView) (from to before after : ℕ) : Type 0 where
  pub waste : ℕ
  pub wastes : Wastes b from to waste
  pub lowers : before ≤ waste + after

-- a player and two boxes, each on a square of its own
pub record AreTwo (b : BoardView) (player x y : ℕ) : Type 0 where
  pub player_exists : player < length b.area
  pub first_exists : x < length b.area
  pub second_exists : y < length b.area
  pub apart : x ≢ y
  pub off_first : player ≢ x
  pub off_second : player ≢ y

-- a number for a player and two boxes alone on the board: 0 where both stand on goals; no less before a walk than behind it, and before a push
-- no more than behind it and what the push wastes
pub record IsLift (b : BoardView) (f : ℕ → ℕ → ℕ → ℕ) : Type 0 where
  pub solved : (q x y : ℕ) → AreTwo b q x y → Contains (goals_of b) x → Contains (goals_of b) y → f q x y ≡ 0
  pub walked : (d : Dir) (q r x y : ℕ) → AreTwo b q x y → AreTwo b r x y → beside b q d ≡ Some r → f q x y ≤ f r x y
  pub pushed_first : (d : Dir) (q x to y : ℕ) → AreTwo b q x y → beside b q d ≡ Some x → beside b x d ≡ Some to → to ≢ y
      → LowersByWaste b x to (f q x y) (f x to y)
  pub pushed_second : (d : Dir) (q x y to : ℕ) → AreTwo b q x y → beside b q d ≡ Some y → beside b y d ≡ Some to → to ≢ x
      → LowersByWaste b y to (f q x y) (f y x to)

-- the places of pairs, one after another
abbrev pub places_of : List (ℕ × ℕ) → List ℕ
places_of [] = []
places_of (p ∷ pairs) = p.0 ∷ p.1 ∷ places_of pairs

-- pairs of places below an end, no place in two of them nor twice in one
pub record ArePairs (n : ℕ) (pairs : List (ℕ × ℕ)) : Type 0 where
  pub within : All (λ i. i < n) (places_of pairs)
  pub apart : AllPairs ◌≢◌ (places_of pairs)

-- what a function gives for a player and the boxes at a pair of places
abbrev pub lift_of : (ℕ → ℕ → ℕ → ℕ) → ℕ → List ℕ → ℕ × ℕ → ℕ
lift_of f player boxes p = f player (slice_index boxes p.0) (slice_index boxes p.1)

-- and for all pairs together
abbrev pub lifts : (ℕ → ℕ → ℕ → ℕ) → ℕ → List ℕ → List (ℕ × ℕ) → ℕ
lifts f player boxes pairs = sum_by (lift_of f player boxes) pairs

-- so many for some pairs that share no box
pub record HasLifts (f : ℕ → ℕ → ℕ → ℕ) (player : ℕ) (boxes : List ℕ) (n : ℕ) : Type 0 where
  pub pairs : List (ℕ × ℕ)
  pub are : ArePairs (length boxes) pairs
  pub total : n ≤ lifts f player boxes pairs

-- from no position of the state do fewer pushes solve than the prices say and the lifts of pairs that share no box add
abbrev pub LiftsRaisePrices : BoardView → Type 0
LiftsRaisePrices b = (player : ℕ) (boxes u v : List ℕ) (n more : ℕ) (f : ℕ → ℕ → ℕ → ℕ) → ArePlaced b player boxes → (Contains boxes player → ⊥)
    → Priced b boxes u v n → IsLift b f → HasLifts f player boxes more → (x : Position) → Same b.rows (position_of b player boxes) x
    → AtLeastFrom b.rows x (n + more)

-- two boxes by their places are lost: as many as are asked for, some lift gives
pub record AreLost (b : BoardView) (player : ℕ) (boxes : List ℕ) (p : ℕ × ℕ) : Type 0 where
  pub are : ArePairs (length boxes) (p ∷ [])
  pub each : (n : ℕ) → (f : ℕ → ℕ → ℕ → ℕ) × IsLift b f × (n ≤ lift_of f player boxes p)

-- from no position of a state with such boxes does any list solve
abbrev pub LostPairsNeverSolve : BoardView → Type 0
LostPairsNeverSolve b = (player : ℕ) (boxes : List ℕ) (p : ℕ × ℕ) → ArePlaced b player boxes → (Contains boxes player → ⊥) → AreLost b player boxes p
    → (x : Position) → Same b.rows (position_of b player boxes) x → NeverFrom b.rows x
