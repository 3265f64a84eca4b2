-- Play stays inside the area, and does not change what stands outside it.
use Rattle.std.specs.Prelude.{◌≡◌, List, Some, IsTrue}
use Rattle.sok_rules.specs.declared.cell.Dir.{Dir}
use Rattle.sok_rules.specs.declared.cell.Spot.{Spot}
use Rattle.sok_rules.specs.Squares.{Rows}
use Rattle.sok_rules.specs.Play.{Position, start, run}
use Rattle.sok_board.specs.Area.{InArea, BoardView, is_decoration}

-- the player does not leave the area, and outside it no box moves or appears
pub record IsConfined (rows : Rows) (x y : Position) : Type 0 where
  pub man : InArea rows y.man
  pub boxes : (s : Spot) → (InArea rows s → ⊥) → y.boxes s ≡ x.boxes s

-- play from any position with the player in the area is confined, whatever the letters
abbrev pub ConfinesPlay : Rows → Type 0
ConfinesPlay rows = (x y : Position) (w : List Dir) → InArea rows x.man → run rows x w ≡ Some y → IsConfined rows x y

-- in each position that can be reached from the start, each decoration has its box
abbrev pub KeepsDecorations : BoardView → Type 0
KeepsDecorations b = (y : Position) (w : List Dir) → run b.rows (start b.rows) w ≡ Some y → (s : Spot) → IsTrue (is_decoration b s) → IsTrue (y.boxes s)
