-- What a board stores of an accepted level in addition to its squares.
use Rattle.std.specs.Prelude.{◌≡◌, Some, None, map, length}
use Rattle.sok_rules.specs.declared.cell.Spot.{Spot}
use Rattle.sok_rules.specs.Levels.{trimmed}
use Rattle.sok_rules.specs.Play.{start}
use Rattle.sok_board.specs.declared.survey.Numbering.{Numbering}
use Rattle.sok_board.specs.Area.{BoardView, IsAccepted, number_of, goals_of, boxes_of}
use Rattle.sok_board.specs.Neighbours.{neighbours_of}
use Rattle.sok_board.specs.Spans.{Covers}
use Rattle.sok_board.specs.Tables.{entry}

-- the numbering of an accepted level is right: the numbers of its squares and their neighbours, its spans, goals, player and boxes
pub record IsNumbering (b : BoardView) (kept : Numbering) : Type 0 where
  pub accepted : IsAccepted b
  pub trimmed : map trimmed b.rows ≡ b.rows
  pub numbers : (s : Spot) → entry None kept.numbers.items s ≡ number_of b s
  pub neighbours : kept.neighbours.items ≡ map (neighbours_of kept.numbers.items) b.area
  pub spans : Covers b 0 kept.spans.items (length b.area)
  pub goals : kept.goals.items ≡ goals_of b
  pub player : Some kept.player ≡ number_of b (start b.rows).man
  pub boxes : kept.boxes.items ≡ boxes_of b
