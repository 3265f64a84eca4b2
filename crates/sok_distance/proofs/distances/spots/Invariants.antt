use Rattle.std.proofs.Common.{◌≡◌, take}
use Rattle.sok_distance.proofs.distances.spots.Given as goal

abbrev pub invariant-loop-square : goal.invariant-loop-square
invariant-loop-square l = l.spots.items ≡ take l.square l.board.area
