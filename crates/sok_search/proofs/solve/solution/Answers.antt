use Rattle.std.proofs.lemmas.Result.{IfOk-weaker}
use Rattle.sok_search.specs.Views.{progress_of}
use Rattle.sok_search.proofs.Concluding.{solved-noted, solved-within, solving-trace}
use Rattle.sok_search.proofs.Traces.{goes-back}
use Rattle.sok_search.proofs.solve.solution.Goals as goal

pub trace-requires-clause-back : goal.trace-requires-clause-back
trace-requires-clause-back c = goes-back c.args.board.now c.requires.search.0 (progress_of c.args.search.now) c.requires.search.1

pub trace-requires-clause-within : goal.trace-requires-clause-within
trace-requires-clause-within c = solved-noted c.args.board.now c.requires.search.0
    (progress_of c.args.search.now) c.args.pushes c.in_ok-index.index c.requires.search.1 c.in_ok-index.ensures

pub letters-requires : goal.letters-requires
letters-requires c =
    solving-trace c.args.board.now c.requires.search.0
    (progress_of c.args.search.now) c.args.pushes c.in_ok-index.index c.in_ok-trace.trace.items c.requires.search.1 c.in_ok-index.ensures
    c.in_ok-trace.ensures

pub returns : goal.returns
returns c =
    IfOk-weaker c.letters.result _ _ (λ w solved. solved-within c.args.board.now c.requires.search.0
    (progress_of c.args.search.now) c.args.pushes c.in_ok-index.index c.in_ok-trace.trace.items w.items c.requires.search.1
    c.in_ok-index.ensures c.in_ok-trace.ensures solved) c.letters.ensures
