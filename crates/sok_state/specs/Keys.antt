-- The key of a state: its boxes, and the least square that the player can walk to.
use Rattle.std.specs.Prelude.{ℕ, ◌≡◌, ◌<◌, ◌≤◌, ◌↔◌, List, length}
use Rattle.sok_rules.specs.Play.{Position}
use Rattle.sok_rules.specs.States.{Same}
use Rattle.sok_board.specs.Area.{BoardView, position_of}
use Rattle.sok_region.specs.Regions.{IsPlaced}
use Rattle.sok_state.specs.declared.key.Key.{Key}

-- the position that a key represents
abbrev pub key_position : BoardView → Key → Position
key_position b key = position_of b key.least key.boxes

-- the key of a position: it has the same boxes, and the least square that the player can walk to
pub record IsKeyOf (b : BoardView) (x : Position) (key : Key) : Type 0 where
  pub placed : IsPlaced b key.boxes key.least
  pub same : Same b.rows x (key_position b key)
  pub least : (s : ℕ) → s < length b.area → Same b.rows x (position_of b s key.boxes) → key.least ≤ s

-- the key of some position whose boxes and player are given by numbers of squares
pub record IsKey (b : BoardView) (key : Key) : Type 0 where
  pub player : ℕ
  pub boxes : List ℕ
  pub placed : IsPlaced b boxes player
  pub is : IsKeyOf b (position_of b player boxes) key

-- a key equals that of another position exactly if the two positions are the same state
abbrev pub TellsState : BoardView → ℕ → List ℕ → Key → Type 0
TellsState b player boxes key =
    (other_player : ℕ) (other_boxes : List ℕ) (other : Key) → IsPlaced b other_boxes other_player → IsKeyOf b (position_of b other_player other_boxes) other
    → (key ≡ other) ↔ Same b.rows (position_of b player boxes) (position_of b other_player other_boxes)

-- this holds of the key of each position that is given by numbers of squares
abbrev pub TellsStates : BoardView → Type 0
TellsStates b = (player : ℕ) (boxes : List ℕ) (key : Key) → IsPlaced b boxes player → IsKeyOf b (position_of b player boxes) key → TellsState b player boxes key
