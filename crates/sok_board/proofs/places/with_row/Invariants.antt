use Rattle.std.proofs.Common.{◌≡◌, ◌++◌, take}
use Rattle.sok_rules.specs.Squares.{places_in_row}
use Rattle.sok_board.proofs.places.with_row.Given as goal

abbrev pub invariant-loop-col : goal.invariant-loop-col
invariant-loop-col l = l.spots.items ≡ l.fn.spots.items ++ take l.col (places_in_row l.row 0 l.cells)
