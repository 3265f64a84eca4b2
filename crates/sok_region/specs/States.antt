-- Positions that differ only by walking, and the numbers of their players' squares.
use Rattle.std.specs.Prelude.{ℕ, ◌≡◌, List, Some, false}
use Rattle.sok_rules.specs.declared.cell.Dir.{Dir}
use Rattle.sok_rules.specs.Squares.{Rows}
use Rattle.sok_rules.specs.Play.{Position, run, pushes}
use Rattle.sok_rules.specs.States.{Same}
use Rattle.sok_board.specs.Area.{BoardView, InArea, position_of}
use Rattle.sok_region.specs.Regions.{IsPlaced}

abbrev pub IsReflexive : Rows → Type 0
IsReflexive rows = (x : Position) → Same rows x x

abbrev pub IsTransitive : Rows → Type 0
IsTransitive rows = (x y z : Position) → Same rows x y → Same rows y z → Same rows x z

-- walking back undoes walking, provided that the player stands on a square of the area without a box
abbrev pub IsSymmetric : Rows → Type 0
IsSymmetric rows = (x y : Position) → InArea rows x.man → x.boxes x.man ≡ false → Same rows x y → Same rows y x

abbrev pub KeepsBoxes : Rows → Type 0
KeepsBoxes rows = (x y : Position) (w : List Dir) → run rows x w ≡ Some y → pushes rows x w ≡ 0 → y.boxes ≡ x.boxes

-- walking keeps the player in the area, on a square with a number and without a box
abbrev pub KeepsNumbers : BoardView → Type 0
KeepsNumbers b =
    (boxes : List ℕ) (player : ℕ) (y : Position) → IsPlaced b boxes player → Same b.rows (position_of b player boxes) y
    → (square : ℕ) × IsPlaced b boxes square × (y ≡ position_of b square boxes)
