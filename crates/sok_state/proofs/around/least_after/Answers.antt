use Rattle.sok_board.proofs.Beside.{beside-within}
use Rattle.sok_state.proofs.Surroundings.{least-key, placed_after}
use Rattle.sok_state.proofs.around.least_after.Goals as goal

pub keeps_reached-requires-clause-from : goal.keeps_reached-requires-clause-from
keeps_reached-requires-clause-from c = let (after, stepping) = c.requires.stepping in stepping.legal.leads.exists

pub keeps_reached-requires-clause-to : goal.keeps_reached-requires-clause-to
keeps_reached-requires-clause-to c =
    let (after, stepping) = c.requires.stepping in
    beside-within c.args.board.now c.args.push.dir c.args.push.from c.args.to stepping.ahead

pub least_square-requires-clause-drawn : goal.least_square-requires-clause-drawn
least_square-requires-clause-drawn c =
    let (after, stepping) = c.requires.stepping in (
      after,
      placed_after c.args.board.now c.requires.accepted c.args.key.now c.args.push c.args.to c.args.free.now c.args.reached.now after stepping,
      stepping.left,
    )

pub returns-then-keeps_reached : goal.returns-then-keeps_reached
returns-then-keeps_reached c = λ after stepping.
    let keeps = c.if-keeps_reached.true in
    let kept = c.keeps_reached.ensures in
    least-key c.args.board.now c.requires.accepted c.args.key.now c.args.push c.args.to c.args.free.now c.args.reached.now after stepping
    (kept.near keeps) (kept.round keeps) (kept.apart keeps) c.min.result c.min.ensures

pub returns-else-keeps_reached : goal.returns-else-keeps_reached
returns-else-keeps_reached c = λ after stepping.
    c.least_square.ensures.key after
    (placed_after c.args.board.now c.requires.accepted c.args.key.now c.args.push c.args.to c.args.free.now c.args.reached.now after stepping)
    stepping.left
