use Rattle.sok_state.proofs.LegalPushes.{clear-legal}
use Rattle.sok_state.proofs.Stepped.{clear-after}
use Rattle.sok_state.proofs.stepping.boxes_after.Goals as goal

pub moved-requires-clause-from : goal.moved-requires-clause-from
moved-requires-clause-from c =
    (clear-legal c.args.board.now c.requires.accepted.numbered c.args.key.now c.requires.state.is.placed c.args.push c.requires.legal).0

pub moved-requires-clause-to : goal.moved-requires-clause-to
moved-requires-clause-to c =
    clear-after c.args.board.now c.requires.accepted c.args.key.now c.args.push c.args.to c.requires.state c.requires.legal c.requires.ahead
