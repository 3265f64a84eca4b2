use Rattle.std.proofs.Common.{arith, sym, true≢false}
use Rattle.sok_search.specs.Views.{progress_of}
use Rattle.sok_search.proofs.StatesByIndex.{state-noted}
use Rattle.sok_search.proofs.Traces.{solved-key, solved-shallow}
use Rattle.sok_search.proofs.tracing.is_solution.Goals as goal

pub returns-then-depth-pushes : goal.returns-then-depth-pushes
returns-then-depth-pushes c = (
  λ no. absurd (true≢false (sym no)),
  λ solved.
      let shallow = solved-shallow c.args.board.now (progress_of c.args.search.now) c.args.pushes c.args.index c.depth.result c.depth.ensures solved in
      let deep = c.if-depth-pushes.true in
      absurd (omega (arith, shallow, deep)),
)

pub is_solved-requires : goal.is_solved-requires
is_solved-requires c = record {
  exist = (state-noted c.args.board.now c.requires.search.0
      (progress_of c.args.search.now) c.requires.search.1 c.args.index c.in_ok-key.key c.in_ok-key.ensures).is.placed.boxes_exist;
}

pub returns : goal.returns
returns c = (
  λ yes. record {
    key = c.in_ok-key.key;
    there = c.in_ok-key.ensures;
    depth = c.depth.result;
    depth_is = c.depth.ensures;
    shallow = c.if-depth-pushes.false;
    solved = (c.is_solved.ensures c.in_ok-key.key.least).0 yes;
  },
  λ solved. (c.is_solved.ensures c.in_ok-key.key.least).1
      (solved-key c.args.board.now (progress_of c.args.search.now) c.args.pushes c.args.index c.in_ok-key.key c.in_ok-key.ensures solved),
)
