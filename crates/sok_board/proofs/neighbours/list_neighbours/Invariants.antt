use Rattle.std.proofs.Common.{◌≡◌, map, take}
use Rattle.sok_board.specs.Neighbours.{neighbours_of}
use Rattle.sok_board.proofs.neighbours.list_neighbours.Given as goal

abbrev pub invariant-loop-spot : goal.invariant-loop-spot
invariant-loop-spot l = l.list.items ≡ map (neighbours_of l.numbers) (take l.spot-index l.squares)
