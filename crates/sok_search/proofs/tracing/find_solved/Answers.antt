use Rattle.std.proofs.Common.{◌∙◌, arith, below_more, sym, true≢false}
use Rattle.sok_search.specs.Views.{progress_of}
use Rattle.sok_search.proofs.Traces.{best-at}
use Rattle.sok_search.proofs.tracing.find_solved.Goals as goal

pub loop-index-preserved : goal.loop-index-preserved
loop-index-preserved c = below_more _ _ c.loop-index.invariant (λ solved. true≢false (sym (c.in_ok-is_solution.ensures.1 solved) ∙ c.if-branch.false))

pub unreachable-requires : goal.unreachable-requires
unreachable-requires c =
    let (i, within, solved) = best-at c.args.board.now (progress_of c.args.search.now) c.args.pushes c.requires.search.1.best c.requires.best c.requires.own in
    let past = c.loop-index-test.false in
    let count = c.len-index-end.ensures.count in
    c.loop-index.invariant i (omega (arith, within, past, count)) solved
