-- Why a level is not accepted: the first reason in the order of the tests, and the first square to which it applies.
use Rattle.std.specs.Prelude.{ℕ, ◌<◌, ◌≤◌, List, [], ◌∷◌, Bool, false, IsTrue, not, length, is_some}
use Rattle.std.specs.List.{list_any}
use Rattle.std.specs.Option.{option_map_or}
use Rattle.sok_rules.specs.declared.cell.Dir.{Dir}
use Rattle.sok_rules.specs.declared.cell.Dir.TheVariants.{Left, Up, Right, Down}
use Rattle.sok_rules.specs.declared.cell.Spot.{Spot}
use Rattle.sok_rules.specs.Limits.{size_limit}
use Rattle.sok_rules.specs.Squares.{Rows, cell_at, next}
use Rattle.sok_board.specs.Limits.{square_limit, box_limit}
use Rattle.sok_board.specs.declared.fault.BoardFault.{BoardFault}
use Rattle.sok_board.specs.declared.fault.BoardFault.TheVariants.{NotEnclosed, BoxOutside, TooFewGoals, TooLarge, TooManyBoxes, Memory}
use Rattle.sok_board.specs.Area.{InArea, IsArea, IsEnclosed, IsStray, IsAcceptedIn, Before, BoardView, goals_of, boxes_of}

-- whether the neighbour in a direction lies in some row
abbrev pub lies_beside : Rows → Spot → Dir → Bool
lies_beside rows s d = option_map_or (λ t. is_some (cell_at rows t)) (next d s) false

-- whether a neighbour lies in no row
unfoldable pub has_gap : Rows → Spot → Bool
has_gap rows s = list_any (λ d. not (lies_beside rows s d)) (Left ∷ Up ∷ Right ∷ Down ∷ [])

-- a square of the area with a neighbour in no row
abbrev pub IsLeak : Rows → Spot → Type 0
IsLeak rows s = InArea rows s × IsTrue (has_gap rows s)

-- the first square with a property, row by row and from left to right
abbrev pub IsFirst : (Spot → Type 0) → Spot → Type 0
IsFirst P s = P s × ((t : Spot) → P t → Before t s → ⊥)

-- the area is enclosed and not too large, and each box outside it is on a goal
pub record IsTidy (b : BoardView) : Type 0 where
  pub enclosed : IsEnclosed b.rows
  pub few_squares : length b.area ≤ square_limit
  pub no_stray : (s : Spot) → IsStray b.rows s → ⊥

-- a property of a level with its area
abbrev pub OfArea : (BoardView → Type 0) → Rows → Type 0
OfArea P rows = (area : List Spot) × IsArea rows area × P (record { rows = rows; area = area })

-- the reason that a fault names applies, and no earlier one does
abbrev pub IsRefused : Rows → BoardFault → Type 0
IsRefused rows (NotEnclosed s) = IsFirst (IsLeak rows) s
IsRefused rows TooLarge = IsEnclosed rows × OfArea (λ b. square_limit < length b.area) rows
IsRefused rows (BoxOutside s) = IsEnclosed rows × OfArea (λ b. length b.area ≤ square_limit) rows × IsFirst (IsStray rows) s
IsRefused rows TooManyBoxes = OfArea (λ b. IsTidy b × (box_limit < length (boxes_of b))) rows
IsRefused rows TooFewGoals = OfArea (λ b. IsTidy b × (length (boxes_of b) ≤ box_limit) × (length (goals_of b) < length (boxes_of b))) rows
IsRefused rows Memory = Unit {0}

-- a level of which a board can be made, within these limits
abbrev pub IsAcceptableIn : ℕ → ℕ → Rows → Type 0
IsAcceptableIn size squares rows = (area : List Spot) × IsAcceptedIn size squares (record { rows = rows; area = area })

abbrev pub IsAcceptable : Rows → Type 0
IsAcceptable rows = IsAcceptableIn size_limit square_limit rows
