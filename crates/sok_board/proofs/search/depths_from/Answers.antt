use Rattle.std.proofs.lemmas.Result.{IfOk-weaker}
use Rattle.sok_board.specs.Graphs.{AreDepths}
use Rattle.sok_board.specs.Searches.{found_of, IsSearched}
use Rattle.sok_board.proofs.Searches.{AreDepths-searched}
use Rattle.sok_board.proofs.search.depths_from.Goals as goal

pub returns : goal.returns
returns g c =
    let graph = g.W.Ways.graph c.args.ways.now in
    IfOk-weaker c.searched.result (λ after. IsSearched graph (found_of after)) (λ after. AreDepths graph after.depths.items)
    (λ after done. AreDepths-searched graph (found_of after) done) c.searched.ensures
