use Rattle.std.proofs.Common.{◌*◌, ◌-◌}
use Rattle.sok_board.specs.Searches.{found_of, IsSearching}
use Rattle.sok_board.proofs.search.searched.Given as goal

abbrev pub invariant-loop-at : goal.invariant-loop-at
invariant-loop-at g l = IsSearching (g.W.Ways.graph l.ways) (4 * l.at) (found_of l.search)

abbrev pub decreases-loop-at : goal.decreases-loop-at
decreases-loop-at g l = (g.W.Ways.graph l.ways).nodes - l.at
