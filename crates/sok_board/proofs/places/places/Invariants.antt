use Rattle.std.proofs.Common.{◌≡◌, ◌++◌, drop}
use Rattle.sok_rules.specs.Levels.{cells_of}
use Rattle.sok_rules.specs.Squares.{places, places_from}
use Rattle.sok_board.proofs.places.places.Given as goal

abbrev pub invariant-loop-row : goal.invariant-loop-row
invariant-loop-row l = l.spots.items ++ places_from l.row (drop l.row (cells_of l.rows)) ≡ places (cells_of l.rows)
