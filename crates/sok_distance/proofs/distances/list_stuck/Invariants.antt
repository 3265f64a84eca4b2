use Rattle.sok_distance.specs.Distances.{TellsStuck}
use Rattle.sok_distance.proofs.distances.list_stuck.Given as goal

abbrev pub invariant-loop-square : goal.invariant-loop-square
invariant-loop-square l = TellsStuck l.board l.square l.list.items
