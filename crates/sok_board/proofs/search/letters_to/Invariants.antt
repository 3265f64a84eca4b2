use Rattle.std.proofs.Common.{◌≡◌, ◌+◌, Some, length, reverse}
use Rattle.sok_board.specs.Graphs.{follow}
use Rattle.sok_board.specs.Searches.{found_of, depth_in}
use Rattle.sok_board.proofs.search.letters_to.Given as goal

abbrev pub invariant-loop-left : goal.invariant-loop-left
invariant-loop-left g l = record {
  met : depth_in (found_of l.search) l.node ≡ Some l.left;
  lead : follow (g.W.Ways.graph l.ways) l.node (reverse l.letters.items) ≡ Some l.to;
  long : length l.letters.items + l.left ≡ l.depth;
}

abbrev pub decreases-loop-left : goal.decreases-loop-left
decreases-loop-left g l = l.left
