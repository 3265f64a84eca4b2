-- The drawing of a level in the position after letters.
use Rattle.std.specs.Prelude.{ℕ, ◌≡◌, ◌+◌, List, [], ◌∷◌, Some, Ok, Err, IsSomeAnd, map}
use Rattle.sok_rules.specs.declared.cell.Cell.{Cell}
use Rattle.sok_rules.specs.declared.cell.Dir.{Dir}
use Rattle.sok_rules.specs.declared.cell.Spot.{Spot}
use Rattle.sok_rules.specs.Levels.{IsLevel, trimmed}
use Rattle.sok_rules.specs.Play.{Position, run, start}
use Rattle.sok_rules.specs.Session.{Letters, shown_cell}
use Rattle.sok_rules.specs.Squares.{Rows, holds, is_goal, is_wall, same_spot}
use Rattle.sok_text.specs.Canonical.{IsOneLevel, level_text}
use Rattle.sok_text.specs.Collections.{blocks_of, level_at}
use Rattle.sok_text.specs.Lurd.{Spells}
use Rattle.sok_engine.specs.Inputs.{OnLevel}
use Rattle.sok_engine.specs.Written.{Answer, Answers}
use Rattle.sok_play.specs.Plays.{IsPlayFault}

-- a level after letters, none of which was undone
abbrev pub after_letters : Rows → List Dir → Letters
after_letters rows letters = record { rows = rows; played = letters; undone = [] }

-- what the squares of a row show in a position, from this column on
unfoldable pub shown_row : Position → ℕ → ℕ → List Cell → List Cell
shown_row x r c [] = []
shown_row x r c (cell ∷ cells) =
    let s : Spot = record { row = r; col = c } in shown_cell cell (x.boxes s) (same_spot x.man s) ∷ shown_row x r (c + 1) cells

-- what the squares of these rows show, of which the first has this number
unfoldable pub shown_from : Position → ℕ → Rows → Rows
shown_from x r [] = []
shown_from x r (row ∷ rows) = shown_row x r 0 row ∷ shown_from x (r + 1) rows

-- the rows of a level in a position, without floor at their ends
abbrev pub rows_at : Rows → Position → Rows
rows_at rows x = map trimmed (shown_from x 0 rows)

-- the canonical text of the level in a position
abbrev pub drawing : Rows → Position → Answer
drawing rows x = record { text = level_text (rows_at rows x); status = 0 }

-- the answer to a text that is played on a level: the level in the position after its letters, or why it is not played
abbrev pub IsDrawnAnswer : List ℕ → Rows → Answers
IsDrawnAnswer text rows (Ok answer) = (letters : List Dir) × Spells text letters × IsSomeAnd (run rows (start rows) letters) (λ x. answer ≡ drawing rows x)
IsDrawnAnswer text rows (Err fault) = IsPlayFault rows text fault

-- the answer to a text that is played on the n-th level of a collection, counted from 1
abbrev pub IsDrawing : ℕ → List ℕ → List ℕ → Answers
IsDrawing n text bytes = OnLevel (IsDrawnAnswer text) (level_at (blocks_of bytes) n)

-- a level with the same walls and goals, whose start is the position
pub record StandsAt (rows : Rows) (x : Position) (now : Rows) : Type 0 where
  pub level : IsLevel now
  pub starts : start now ≡ x
  pub walls : (s : Spot) → holds is_wall now s ≡ holds is_wall rows s
  pub goals : (s : Spot) → holds is_goal now s ≡ holds is_goal rows s

-- by the definition of collections, the drawing of a level is one level, whose start is the position after the letters
abbrev pub DrawingsStand : Type 0
DrawingsStand = (rows : Rows) (letters : List Dir) (x : Position) → IsLevel rows → run rows (start rows) letters ≡ Some x
    → IsOneLevel (rows_at rows x) (level_text (rows_at rows x)) × StandsAt rows x (rows_at rows x)
