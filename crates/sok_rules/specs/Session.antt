-- A play session: the letters played, and those undone.
use Rattle.std.specs.Prelude.{◌≡◌, ◌<◌, List, [], ◌∷◌, ◌++◌, Option, Bool, not, if◌then◌else◌, IsNone, IsSomeAnd, length, option_map}
use Rattle.sok_rules.specs.declared.cell.Cell.{Cell}
use Rattle.sok_rules.specs.declared.cell.Cell.TheVariants.{Wall, Floor, Goal, BoxOff, BoxOn, ManOff, ManOn}
use Rattle.sok_rules.specs.declared.cell.Dir.{Dir}
use Rattle.sok_rules.specs.declared.cell.Spot.{Spot}
use Rattle.sok_rules.specs.declared.fault.PlayFault.{PlayFault}
use Rattle.sok_rules.specs.declared.fault.PlayFault.TheVariants.{Blocked, TooLong, Memory}
use Rattle.sok_rules.specs.Limits.{letter_limit}
use Rattle.sok_rules.specs.Squares.{Rows, cell_at, is_goal, is_open, same_spot}
use Rattle.sok_rules.specs.Play.{Position, run, start, step}

-- the letters of a session: `played` is in order of play, and the first letter of `undone` is the one that `redo` plays next
pub record Letters : Type 0 where
  pub rows : Rows
  pub played : List Dir
  pub undone : List Dir

-- the position after the letters played
abbrev pub position_of : Letters → Option Position
position_of letters = run letters.rows (start letters.rows) letters.played

-- a level before any letter
abbrev pub at_start : Rows → Letters
at_start rows = record { rows = rows; played = []; undone = [] }

-- one more letter is played, and none is undone any more
abbrev pub with_letter : Letters → Dir → Letters
with_letter old d = record old { played = old.played ++ d ∷ []; undone = [] }

-- fewer letters than the limit are played, and the letter is legal after them; `pushed` says whether it pushes
pub record StepsOn (old : Letters) (d : Dir) (new : Letters) (pushed : Bool) : Type 0 where
  pub after : new ≡ with_letter old d
  pub few : length old.played < letter_limit
  pub legal : IsSomeAnd (position_of old) (λ x. IsSomeAnd (step old.rows d x) (λ a. a.pushed ≡ pushed))

-- why a letter is not played; `Memory` comes only if no letter is undone
abbrev pub IsStepFault : Letters → Dir → PlayFault → Type 0
IsStepFault old d TooLong = length old.played ≡ letter_limit
IsStepFault old d (Blocked at) = (length old.played < letter_limit) × (at ≡ length old.played) × IsNone (position_of (with_letter old d))
IsStepFault old d Memory = (length old.played < letter_limit) × (old.undone ≡ [])

-- a step that is refused changes nothing
pub record StaysAt (old : Letters) (d : Dir) (new : Letters) (fault : PlayFault) : Type 0 where
  pub unchanged : new ≡ old
  pub cause : IsStepFault old d fault

-- the last letter played becomes the first letter of `undone`
pub record Undoes (old new : Letters) : Type 0 where
  pub rows : new.rows ≡ old.rows
  pub d : Dir
  pub played : old.played ≡ new.played ++ d ∷ []
  pub undone : new.undone ≡ d ∷ old.undone

-- the first letter of `undone` is played again
pub record Redoes (old new : Letters) : Type 0 where
  pub rows : new.rows ≡ old.rows
  pub d : Dir
  pub undone : old.undone ≡ d ∷ new.undone
  pub played : new.played ≡ old.played ++ d ∷ []

-- the cell that is shown, given whether a box or the player stands there now
abbrev pub shown_cell : Cell → Bool → Bool → Cell
shown_cell cell box_there man_there =
    if not (is_open cell) then Wall
    else if box_there then (if is_goal cell then BoxOn else BoxOff)
    else if man_there then (if is_goal cell then ManOn else ManOff)
    else if is_goal cell then Goal else Floor

-- the cell that is shown on a square in a position, if a row has the square
abbrev pub cell_in_play : Rows → Position → Spot → Option Cell
cell_in_play rows x s = option_map (λ cell. shown_cell cell (x.boxes s) (same_spot x.man s)) (cell_at rows s)
