use Rattle.std.proofs.Common.{◌≡◌, None, length, take, position}
use Rattle.sok_rules.specs.declared.cell.Spot.{Spot}
use Rattle.sok_rules.specs.Squares.{same_spot}
use Rattle.sok_board.specs.Tables.{table_places, entry}
use Rattle.sok_board.proofs.area.numbers.Given as goal

abbrev pub invariant-loop-number : goal.invariant-loop-number
invariant-loop-number l =
    (length l.numbers.items ≡ table_places (length l.level)) × ((s : Spot) → entry None l.numbers.items s ≡ position (same_spot s) (take l.number l.squares))
