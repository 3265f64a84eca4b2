use Rattle.std.proofs.Common.{◌∙◌, ap, is_some, sym}
use Rattle.sok_state.proofs.LegalPushes.{clear-legal}
use Rattle.sok_state.proofs.stepping.square_ahead.Goals as goal

pub unwrap-requires : goal.unwrap-requires
unwrap-requires c =
    let (key, state, legal) = c.requires.legal in
    let clear = clear-legal c.args.board.now c.requires.accepted.numbered key state.is.placed c.args.push legal in
    ap is_some (c.neighbour.ensures.beside ∙ clear.1.ahead_is)

pub returns : goal.returns
returns c = sym c.neighbour.ensures.beside ∙ c.unwrap.ensures
