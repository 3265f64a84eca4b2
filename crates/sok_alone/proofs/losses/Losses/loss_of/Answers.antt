use Rattle.sok_board.specs.Area.{position_of}
use Rattle.sok_state.specs.Keys.{key_position}
use Rattle.sok_alone.specs.GivenUp.{IsGivenUp}
use Rattle.sok_alone.specs.Losses.{HasRoom, loss_limit}
use Rattle.sok_alone.proofs.Finishing.{given-up-walked, none-ended}
use Rattle.sok_alone.proofs.Losing.{tells-key}
use Rattle.sok_alone.proofs.losses.Losses.loss_of.Goals as goal

pub returns-clause-tells : goal.returns-clause-tells
returns-clause-tells c = tells-key c.args.setting.now.board.now c.args.player c.args.boxes c.key-key.result c.key-key.ensures.key c.key-key.ensures.boxes c.args.self.now _
    c.recall.new.self (λ place loss there. there) c.recall.result c.recall.ensures.more c.recall.ensures.there

pub returns-clause-none : goal.returns-clause-none
returns-clause-none c =
    let b = c.args.setting.now.board.now in
    let from = position_of b c.args.player c.args.boxes in
    let first = key_position b c.key-key.result in
    let new = c.recall.new.self in
    none-ended c.recall.result (HasRoom new → IsGivenUp b.rows from loss_limit) (HasRoom new → IsGivenUp b.rows first loss_limit)
    (λ none room. given-up-walked b.rows from first loss_limit c.key-key.ensures.key.same (none room)) c.recall.ensures.none
