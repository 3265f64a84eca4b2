-- The legal pushes of a state, listed in order.
use Rattle.std.specs.Prelude.{ℕ, ◌≡◌, ◌+◌, ◌*◌, ◌<◌, ◌↔◌, List, AllPairs, Contains, IsTrue, Some}
use Rattle.sok_rules.specs.declared.cell.Dir.{Dir}
use Rattle.sok_board.specs.Area.{BoardView, beside, spot_of}
use Rattle.sok_field.specs.Fields.{has}
use Rattle.sok_field.specs.Numbers.{Draws}
use Rattle.sok_region.specs.Regions.{IsPlaced}
use Rattle.sok_state.specs.declared.key.Key.{Key}
use Rattle.sok_state.specs.declared.push.Push.{Push}
use Rattle.sok_state.specs.Pushes.{IsLegal, Reaches, rank}

-- the squares that the boxes of a state leave free, and those that the player reaches
pub record IsDrawn (b : BoardView) (key : Key) (free seen : List ℕ) : Type 0 where
  pub placed : IsPlaced b key.boxes key.least
  pub left : Draws b (λ n. Contains key.boxes n → ⊥) free
  pub reached : Reaches b key seen

-- the square beside another is in a set
pub record HasBeside (b : BoardView) (set : List ℕ) (square : ℕ) (d : Dir) : Type 0 where
  pub there : ℕ
  pub is : beside b square d ≡ Some there
  pub has : IsTrue (has set (spot_of b there))

-- the square ahead of the box has no box
pub record IsClear (b : BoardView) (key : Key) (push : Push) : Type 0 where
  pub ahead : ℕ
  pub ahead_is : beside b push.from push.dir ≡ Some ahead
  pub clear : Contains key.boxes ahead → ⊥

-- the place of a push among those of all squares in all directions
abbrev pub place : Push → ℕ
place push = push.from * 4 + rank push.dir

-- the legal pushes before a place, each once, and in order
pub record Lists (b : BoardView) (key : Key) (bound : ℕ) (pushes : List Push) : Type 0 where
  pub exact : (push : Push) → Contains pushes push ↔ (IsLegal b key push × (place push < bound))
  pub in_order : AllPairs (λ p q. place p < place q) pushes
