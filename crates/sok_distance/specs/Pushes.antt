-- A push by the rules moves its box as a lone push does, which is a push without other boxes.
use Rattle.std.specs.Prelude.{ℕ, ◌≡◌, ◌<◌, List, Some, All, Contains, true, false, length}
use Rattle.sok_rules.specs.declared.cell.Dir.{Dir}
use Rattle.sok_rules.specs.Play.{Position, After, step, moved}
use Rattle.sok_board.specs.Area.{BoardView, InArea, spot_of, position_of}
use Rattle.sok_distance.specs.Pushing.{lone_push}

-- a push from one position to another moves a box as a lone push does, and the player follows it
pub record MovesAlone (b : BoardView) (d : Dir) (x y : Position) : Type 0 where
  pub from : ℕ
  pub to : ℕ
  pub alone : lone_push b d from ≡ Some to
  pub box_there : x.boxes (spot_of b from) ≡ true
  pub free : x.boxes (spot_of b to) ≡ false
  pub man : y.man ≡ spot_of b from
  pub boxes : y.boxes ≡ moved x.boxes (spot_of b from) (spot_of b to)
  pub from_exists : from < length b.area
  pub to_exists : to < length b.area

-- each push by the rules does so, with the player in the area
abbrev pub PushesAlone : BoardView → Type 0
PushesAlone b = (x : Position) (d : Dir) (after : After) → InArea b.rows x.man → step b.rows d x ≡ Some after → after.pushed ≡ true
    → MovesAlone b d x after.position

-- if the boxes of the area are known, the pushed box is one of them
abbrev pub PushesKnownBoxes : BoardView → Type 0
PushesKnownBoxes b =
    (player : ℕ) (boxes : List ℕ) (d : Dir) (after : After) → player < length b.area → All (λ n. n < length b.area) boxes
    → step b.rows d (position_of b player boxes) ≡ Some after → after.pushed ≡ true
    → (push : MovesAlone b d (position_of b player boxes) after.position) × Contains boxes push.from
