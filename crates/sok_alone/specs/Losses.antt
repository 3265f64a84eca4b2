-- Losses: some boxes that can't be solved alone on the board. They are kept for a whole search.
use Rattle.std.specs.Prelude.{ℕ, ◌≡◌, ◌<◌, ◌≤◌, ◌+◌, ◌↔◌, [], ◌∷◌, List, Option, Some, All, Contains, length, slice_get}
use Rattle.std.specs.List.Sorted.{IsStrictlyIncreasing}
use Rattle.std.specs.Map.{values_of}
use Rattle.std.specs.Option.{IfSome}
use Rattle.sok_board.specs.Area.{BoardView, position_of}
use Rattle.sok_entry.specs.Text.{FitsInner}
use Rattle.sok_region.specs.Regions.{IsRegion}
use Rattle.sok_state.specs.declared.key.Key.{Key}
use Rattle.sok_state.specs.Keys.{IsKey, key_position}
use Rattle.sok_state.specs.Tables.{IsAt, Tabled}
use Rattle.sok_bar.specs.Patterns.{AreClosedAlone}
use Rattle.sok_alone.specs.declared.losses.Loss.{Loss}
use Rattle.sok_alone.specs.declared.losses.Losses.{Losses}
use Rattle.sok_alone.specs.GivenUp.{IsGivenUp}
use Rattle.sok_alone.specs.Workspace.{IsWorkspace}

-- the greatest number of positions of a loss
abbrev pub loss_limit : ℕ
loss_limit = 200

-- the greatest number of losses
abbrev pub most_losses : ℕ
most_losses = 65536

-- a state of some boxes alone, the region of the player in it, and positions of these boxes that are closed under pushes
pub record IsLoss (b : BoardView) (loss : Loss) : Type 0 where
  pub state : IsKey b loss.key
  pub region : IsRegion b loss.key.boxes loss.key.least loss.region
  pub closed : AreClosedAlone b loss.key.least loss.key.boxes loss.inner
  pub few : length loss.inner ≤ loss_limit
  pub fit : All FitsInner loss.inner

-- the loss at an index is of this state
pub record HasKeyAt (losses : List Loss) (place : ℕ) (key : Key) : Type 0 where
  pub loss : Loss
  pub there : slice_get losses place ≡ Some loss
  pub same : loss.key ≡ key

-- the number of a state: 0 if it is given up, otherwise one more than the index of its loss
pub record IsNumbered (b : BoardView) (losses : List Loss) (key : Key) (number : ℕ) : Type 0 where
  pub given_up : number ≡ 0 → IsGivenUp b.rows (key_position b key) loss_limit
  pub lost : (place : ℕ) → number ≡ place + 1 → HasKeyAt losses place key

-- each state of a table has its number as its depth
pub record AreNumbered (b : BoardView) (losses : List Loss) (asked : Tabled) : Type 0 where
  pub each : (index : ℕ) (key : Key) (number : ℕ) → IsAt asked.entries key index → slice_get (values_of asked.entries) index ≡ Some number
      → IsNumbered b losses key number

-- the losses are of the board, the table has the numbers of states and room for the board's squares, and the workspace is the board's
pub record KeepsLosses (b : BoardView) (kept : Losses) : Type 0 where
  pub room : length b.area ≤ kept.asked.room
  pub each : All (IsLoss b) kept.losses.items
  pub numbered : AreNumbered b kept.losses.items kept.asked
  pub workspace : IsWorkspace b kept.workspace

-- the loss at an index is of some of these boxes, and its positions are closed from where the player stands
pub record IsLostBy (b : BoardView) (player : ℕ) (boxes : List ℕ) (losses : List Loss) (place : ℕ) : Type 0 where
  pub loss : Loss
  pub there : slice_get losses place ≡ Some loss
  pub rising : IsStrictlyIncreasing loss.key.boxes
  pub among : (square : ℕ) → Contains loss.key.boxes square → Contains boxes square
  pub closed : AreClosedAlone b player loss.key.boxes loss.inner
  pub few : length loss.inner ≤ loss_limit
  pub fit : All FitsInner loss.inner

-- each loss keeps its index
abbrev pub KeepsPlaces : List Loss → List Loss → Type 0
KeepsPlaces old new = (place : ℕ) (loss : Loss) → slice_get old place ≡ Some loss → slice_get new place ≡ Some loss

-- the losses of what is kept
abbrev pub losses_of : Losses → List Loss
losses_of kept = kept.losses.items

-- one more loss can be kept
abbrev pub HasRoom : Losses → Type 0
HasRoom kept = length (losses_of kept) < most_losses

-- if one box is before the other, the two alone are given up, with the player here
abbrev pub IsPairGivenUp : BoardView → ℕ → ℕ → ℕ → Type 0
IsPairGivenUp b player one other = one < other → IsGivenUp b.rows (position_of b player (one ∷ other ∷ [])) loss_limit

-- that holds of each two of the boxes
abbrev pub ArePairsGivenUp : BoardView → ℕ → List ℕ → Type 0
ArePairsGivenUp b player boxes = (one other : ℕ) → Contains boxes one → Contains boxes other → IsPairGivenUp b player one other

-- the old losses keep their indices, and all losses are of the board
pub record AddsLosses (b : BoardView) (old new : Losses) : Type 0 where
  pub losses : KeepsLosses b new
  pub kept : KeepsPlaces (losses_of old) (losses_of new)

-- the same; if an index is returned, the loss there shows that these boxes have no solution with the player here
pub record TellsLoss (b : BoardView) (player : ℕ) (boxes : List ℕ) (old new : Losses) (found : Option ℕ) : Type 0 where
  pub losses : KeepsLosses b new
  pub kept : KeepsPlaces (losses_of old) (losses_of new)
  pub lost : IfSome found (IsLostBy b player boxes (losses_of new))

-- the boxes that are on these squares, in rising order
pub record AreChosen (boxes squares chosen : List ℕ) : Type 0 where
  pub rising : IsStrictlyIncreasing chosen
  pub exact : (n : ℕ) → Contains chosen n ↔ (Contains boxes n × Contains squares n)

-- there is a box on one square, and the other square is free
pub record ArePushed (b : BoardView) (boxes : List ℕ) (from to : ℕ) : Type 0 where
  pub exist : All (λ square. square < length b.area) boxes
  pub there : Contains boxes from
  pub within : to < length b.area
  pub free : Contains boxes to → ⊥
