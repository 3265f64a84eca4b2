-- The layout of a state's boxes over the squares of the area.
use Rattle.std.specs.Prelude.{ℕ, ◌<◌, ◌↔◌, ◌==◌, List, All, Contains, if◌then◌else◌, length, map}
use Rattle.sok_board.specs.Area.{BoardView}
use Rattle.sok_field.specs.Numbers.{Draws}

-- sets of squares in bit rows: the area, what boxes leave free of it, and the boxes; and a list of the boxes
pub record Laid : Type 0 where
  pub area : List ℕ
  pub free : List ℕ
  pub boxed : List ℕ
  pub boxes : List ℕ

-- the layout of some boxes on squares of the area, listed in any order
pub record IsLaidOut (b : BoardView) (boxes : List ℕ) (laid : Laid) : Type 0 where
  pub area : Draws b (λ n. n < length b.area) laid.area
  pub free : Draws b (λ n. Contains boxes n → ⊥) laid.free
  pub boxed : Draws b (Contains boxes) laid.boxed
  pub exist : All (λ n. n < length b.area) laid.boxes
  pub listed : (s : ℕ) → Contains laid.boxes s ↔ Contains boxes s

-- a list in which one square is replaced by another
abbrev pub replaced : ℕ → ℕ → List ℕ → List ℕ
replaced from to squares = map (λ s. if s == from then to else s) squares
