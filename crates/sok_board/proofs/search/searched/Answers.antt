use Rattle.std.proofs.Common.{◌*◌, arith}
use Rattle.sok_board.specs.Searches.{found_of}
use Rattle.sok_board.proofs.Searches.{IsSearched-end}
use Rattle.sok_board.proofs.search.searched.Goals as goal

pub returns : goal.returns
returns g c = IsSearched-end (g.W.Ways.graph c.args.ways.now) (4 * c.loop-at.at) (found_of c.loop-at.search) c.loop-at.invariant (omega arith)
