-- The pushes that are legal from some position of a state.
use Rattle.std.specs.Prelude.{ℕ, ◌≡◌, ◌<◌, ◌≤◌, ◌⊎◌, ◌↔◌, IsTrue, List, Some, true, length}
use Rattle.sok_rules.specs.declared.cell.Dir.{Dir}
use Rattle.sok_rules.specs.declared.cell.Dir.TheVariants.{Left, Up, Right, Down}
use Rattle.sok_rules.specs.Play.{Position, step}
use Rattle.sok_rules.specs.States.{Same}
use Rattle.sok_board.specs.Area.{BoardView, spot_of, position_of}
use Rattle.sok_board.specs.Limits.{box_limit}
use Rattle.sok_field.specs.Fields.{has}
use Rattle.sok_region.specs.Layouts.{IsLaidOut}
use Rattle.sok_state.specs.declared.key.Key.{Key}
use Rattle.sok_state.specs.declared.push.Push.{Push}
use Rattle.sok_state.specs.declared.scene.Scene.{Scene}
use Rattle.sok_state.specs.Keys.{IsKey, IsKeyOf}

-- the push is legal from a position of the state and leads to another: the player ends where the box stood
pub record LeadsTo (b : BoardView) (key : Key) (push : Push) (after : Position) : Type 0 where
  pub before : Position
  pub same : Same b.rows (position_of b key.least key.boxes) before
  pub steps : step b.rows push.dir before ≡ Some (record { position = after; pushed = true })
  pub man : after.man ≡ spot_of b push.from
  pub exists : push.from < length b.area

-- the push is legal from some position of the state
pub record IsLegal (b : BoardView) (key : Key) (push : Push) : Type 0 where
  pub after : Position
  pub leads : LeadsTo b key push after

-- the key of each position that the push leads to from the state, with as many boxes
pub record IsKeyAfter (b : BoardView) (key : Key) (push : Push) (next : Key) : Type 0 where
  pub exact : (after : Position) → LeadsTo b key push after → IsKeyOf b after next
  pub of_board : IsKey b next
  pub as_many : length next.boxes ≡ length key.boxes

-- a set has exactly the squares that the player can walk to from a square among boxes
abbrev pub ReachesFrom : BoardView → ℕ → List ℕ → List ℕ → Type 0
ReachesFrom b player boxes reached =
    (s : ℕ) → s < length b.area → IsTrue (has reached (spot_of b s)) ↔ Same b.rows (position_of b player boxes) (position_of b s boxes)

-- a set has exactly the squares that the player can walk to in a state
abbrev pub Reaches : BoardView → Key → List ℕ → Type 0
Reaches b key reached = ReachesFrom b key.least key.boxes reached

-- a loaded state: its boxes, and the squares that the player reaches
pub record IsOpened (b : BoardView) (key : Key) (scene : Scene) : Type 0 where
  pub laid : IsLaidOut b key.boxes scene.layout
  pub reached : Reaches b key scene.reached

-- a legal push from a state of the board that is loaded
pub record IsPushable (b : BoardView) (push : Push) (scene : Scene) (key : Key) : Type 0 where
  pub state : IsKey b key
  pub few : length key.boxes ≤ box_limit
  pub legal : IsLegal b key push
  pub opened : IsOpened b key scene

-- the order of the directions: left, up, right, down
abbrev pub rank : Dir → ℕ
rank Left = 0
rank Up = 1
rank Right = 2
rank Down = 3

-- the order of pushes: by the squares of their boxes, and for one box by their directions
abbrev pub Precedes : Push → Push → Type 0
Precedes p q = (p.from < q.from) ⊎ ((p.from ≡ q.from) × (rank p.dir < rank q.dir))
