-- Why a search returns no closed list of states.
use Rattle.std.specs.Prelude.{ℕ, ◌≡◌, ◌⊎◌, List, Some, slice_get}
use Rattle.std.specs.Map.{values_of}
use Rattle.sok_rules.specs.declared.cell.Dir.{Dir}
use Rattle.sok_rules.specs.Squares.{Rows}
use Rattle.sok_rules.specs.Play.{Position, SolvesFrom}
use Rattle.sok_rules.specs.States.{MoreStatesFrom}
use Rattle.sok_board.specs.Area.{BoardView}
use Rattle.sok_state.specs.declared.key.Key.{Key}
use Rattle.sok_state.specs.Keys.{key_position}
use Rattle.sok_state.specs.Tables.{IsAt, Tabled}

-- there is a solution from the position, or more than `limit` states can be reached from it
abbrev pub IsGivenUp : Rows → Position → ℕ → Type 0
IsGivenUp rows from limit = ((w : List Dir) × SolvesFrom rows from w) ⊎ MoreStatesFrom rows from limit

-- the state is in the table at depth 0
pub record IsLive (lives : Tabled) (key : Key) : Type 0 where
  pub index : ℕ
  pub there : IsAt lives.entries key index
  pub zero_deep : slice_get (values_of lives.entries) index ≡ Some 0

-- the states of the table at depth 0 are given up
pub record AreGivenUp (b : BoardView) (lives : Tabled) (limit : ℕ) : Type 0 where
  pub each : (key : Key) → IsLive lives key → IsGivenUp b.rows (key_position b key) limit

-- the position is given up, if the states are at which the search stops
abbrev pub HasEnded : BoardView → Tabled → Position → ℕ → Type 0
HasEnded b lives from limit = AreGivenUp b lives limit → IsGivenUp b.rows from limit
