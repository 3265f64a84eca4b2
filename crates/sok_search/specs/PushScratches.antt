-- What the pushes of a state are tried with.
use Rattle.std.specs.Prelude.{ℕ, ◌≡◌, ◌<◌, ◌≤◌, List, Bool, true, All, Contains, IfSome, length}
use Rattle.std.specs.List.Sorted.{IsStrictlyIncreasing}
use Rattle.sok_board.specs.Area.{BoardView}
use Rattle.sok_price.specs.Matched.{Holds, KeptMatching, Serves}
use Rattle.sok_board.specs.BoxSets.{IsMoved}
use Rattle.sok_board.specs.Limits.{box_limit}
use Rattle.sok_region.specs.Layouts.{IsLaidOut}
use Rattle.sok_state.specs.declared.key.Key.{Key}
use Rattle.sok_state.specs.declared.push.Push.{Push}
use Rattle.sok_state.specs.declared.scene.Scene.{Scene}
use Rattle.sok_state.specs.Keys.{IsKey}
use Rattle.sok_state.specs.Pushes.{IsLegal, IsOpened}
use Rattle.sok_corral.specs.Fencing.{IsFenceScratch}
use Rattle.sok_lift.specs.Numbers.{AreLifts, LiftTable}
use Rattle.sok_search.specs.declared.expanding.Scratch.{Scratch}
use Rattle.sok_search.specs.declared.push_scratch.PushScratch.{PushScratch}

-- a matching for a board, which is that of these boxes if `matched`, and the lifts of the board
pub record ServesPushes (b : BoardView) (boxes : List ℕ) (matching : KeptMatching) (matched : Bool) (lifts : LiftTable) : Type 0 where
  pub serves : Serves b matching
  pub holds : matched ≡ true → Holds b boxes matching
  pub are_lifts : AreLifts b lifts

abbrev pub IsPushScratch : BoardView → List ℕ → PushScratch → Type 0
IsPushScratch b boxes scratch = ServesPushes b boxes scratch.matching scratch.matched scratch.lifts

-- and in which a state is loaded
pub record IsLoaded (b : BoardView) (key : Key) (scratch : PushScratch) : Type 0 where
  pub serves : IsPushScratch b key.boxes scratch
  pub opened : IsOpened b key scratch.scene

-- the last expanded state: it has few boxes, is laid out, and its pushes are legal
pub record IsLast (b : BoardView) (scene : Scene) (pushes : List Push) (last : Key) : Type 0 where
  pub state : IsKey b last
  pub few : length last.boxes ≤ box_limit
  pub opened : IsOpened b last scene
  pub legal : All (IsLegal b last) pushes

-- buffers for a board: a matching, its lifts, and boxes that are laid out, those of the last expanded state if there was one; and room to look for corrals
pub record IsReady (b : BoardView) (scratch : Scratch) : Type 0 where
  pub serves : Serves b scratch.push_scratch.matching
  pub lifts : AreLifts b scratch.push_scratch.lifts
  pub boxes : List ℕ
  pub laid : IsLaidOut b boxes scratch.push_scratch.scene.layout
  pub fences : IsFenceScratch b scratch.fences
  pub of_last : IfSome scratch.last (IsLast b scratch.push_scratch.scene scratch.pushes.items)

-- boxes before and after one of them moves to a square without a box
pub record AreMoved (b : BoardView) (boxes : List ℕ) (from to : ℕ) (after : List ℕ) : Type 0 where
  pub exist : All (λ square. square < length b.area) boxes
  pub there : Contains boxes from
  pub within : to < length b.area
  pub free : Contains boxes to → ⊥
  pub moved : IsMoved boxes from to after
  pub rising : IsStrictlyIncreasing after
  pub after_exist : All (λ square. square < length b.area) after
