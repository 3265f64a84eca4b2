-- Which pushes of a state are kept if some of its boxes are a fence.
use Rattle.std.specs.Prelude.{ℕ, Bool, ◌≡◌, ◌<◌, ◌≤◌, ◌⊎◌, List, Some, false, Contains, length}
use Rattle.sok_rules.specs.declared.cell.Dir.{Dir}
use Rattle.sok_rules.specs.Squares.{holds, is_goal}
use Rattle.sok_board.specs.Area.{BoardView, beside, spot_of}
use Rattle.sok_board.specs.Limits.{box_limit}
use Rattle.sok_field.specs.Fields.{has}
use Rattle.sok_region.specs.Layouts.{IsLaidOut}
use Rattle.sok_region.specs.Regions.{IsPlaced}
use Rattle.sok_state.specs.declared.key.Key.{Key}
use Rattle.sok_state.specs.declared.push.Push.{Push}
use Rattle.sok_state.specs.declared.scene.Scene.{Scene}
use Rattle.sok_state.specs.Keys.{IsKey}
use Rattle.sok_state.specs.Pushes.{IsLegal, IsOpened, ReachesFrom}
use Rattle.sok_corral.specs.Fences.{IsFence, IsInward, NeverAfter, Roams, StaysAt}
use Rattle.sok_corral.specs.declared.fencing.FenceScratch.{FenceScratch}
use Rattle.sok_corral.specs.declared.lone.Lone.{Lone}
use Rattle.sok_corral.specs.declared.testing.Finding.{Finding}
use Rattle.sok_corral.specs.declared.testing.Finding.TheVariants.{Shut, Ajar}

-- some boxes of a state, and the squares that the player could reach if there were no others
pub record IsLone (b : BoardView) (key : Key) (lone : Lone) : Type 0 where
  pub state : IsKey b key
  pub placed : IsPlaced b lone.boxes.items key.least
  pub among : (n : ℕ) → Contains lone.boxes.items n → Contains key.boxes n
  pub few : length lone.boxes.items ≤ box_limit
  pub reached : ReachesFrom b key.least lone.boxes.items lone.reached

-- whether a square of the area is in a set
abbrev pub is_in : BoardView → List ℕ → ℕ → Bool
is_in b set n = has set (spot_of b n)

-- a push of a fence's box is blocked by a box that stays, can be made now, or leads to no solution
abbrev pub IsShut : BoardView → Key → List ℕ → ℕ → ℕ → ℕ → Type 0
IsShut b key fence man from to =
    StaysAt b key.least key.boxes fence to
    ⊎ (IsInward b key.least key.boxes fence man to ⊎ NeverAfter b key.least key.boxes fence man from to)

-- the same of the push of a box in one direction
abbrev pub IsShutAlong : BoardView → Key → List ℕ → ℕ → Dir → Type 0
IsShutAlong b key fence from d =
    (man to : ℕ) → man < length b.area → Roams b key.least fence man → beside b man d ≡ Some from → beside b from d ≡ Some to
    → IsShut b key fence man from to

-- and so it is in each state that has this scene and these boxes
abbrev pub AreShutAlong : BoardView → Scene → Lone → ℕ → Dir → Type 0
AreShutAlong b scene lone from d = (key : Key) → IsOpened b key scene → IsLone b key lone → IsShutAlong b key lone.boxes.items from d

-- a look finds some pushes shut, or names squares of the area
abbrev pub TellsShut : BoardView → Type 0 → Finding → Type 0
TellsShut b AreShut Shut = AreShut
TellsShut b AreShut (Ajar first second) = (first < length b.area) × (second < length b.area)

-- a box outside a set of squares is off a goal
pub record IsAstray (b : BoardView) (boxes reached : List ℕ) (s : ℕ) : Type 0 where
  pub among : Contains boxes s
  pub exists : s < length b.area
  pub out : has reached (spot_of b s) ≡ false
  pub off : holds is_goal b.rows (spot_of b s) ≡ false

-- all legal pushes of a fence's boxes are among these
pub record HoldsFence (b : BoardView) (key : Key) (fence : List ℕ) (pushes : List Push) : Type 0 where
  pub is_fence : IsFence b key.least key.boxes fence
  pub all : (push : Push) → IsLegal b key push → Contains fence push.from → Contains pushes push

-- these are all legal pushes, or all those of a fence's boxes
abbrev pub AreKept : BoardView → Key → List Push → Type 0
AreKept b key pushes = ((push : Push) → IsLegal b key push → Contains pushes push) ⊎ ((fence : List ℕ) × HoldsFence b key fence pushes)

-- buffers in which some boxes are laid out
abbrev pub IsFenceScratch : BoardView → FenceScratch → Type 0
IsFenceScratch b scratch = (boxes : List ℕ) × IsLaidOut b boxes scratch.layout
