use Rattle.std.proofs.lemmas.Result.{IfOk-weaker}
use Rattle.sok_board.specs.BoxSets.{put_in_order}
use Rattle.sok_alone.specs.Losses.{TellsLoss}
use Rattle.sok_alone.proofs.Losing.{among-pushed, placed-pushed, tells-among}
use Rattle.sok_alone.proofs.losses.Losses.loss_pushed.Goals as goal

pub moved-requires-clause-from : goal.moved-requires-clause-from
moved-requires-clause-from c = (c.in_ok-before.ensures.exact c.args.asking.now.from).1 (c.requires.asking.pushed.there, c.requires.among)

pub moved-requires-clause-to : goal.moved-requires-clause-to
moved-requires-clause-to c = λ there. c.requires.asking.pushed.free ((c.in_ok-before.ensures.exact c.args.asking.now.to).0 there).0

pub loss_of-requires-clause-placed : goal.loss_of-requires-clause-placed
loss_of-requires-clause-placed c =
    let asking = c.args.asking.now in
    placed-pushed asking.from asking.to asking.boxes.now c.in_ok-before.before c.in_ok-after.after
    (λ square there. ((c.in_ok-before.ensures.exact square).0 there).0) c.in_ok-after.ensures.moved asking.board.now c.requires.asking.pushed
    c.in_ok-after.ensures.rising

pub returns : goal.returns
returns c =
    let asking = c.args.asking.now in
    let b = asking.board.now in
    let after = c.in_ok-after.after in
    let all = put_in_order asking.from asking.to asking.boxes.now in
    let old = c.args.self.now in
    let new = c.loss_of.new.self in
    IfOk-weaker c.loss_of.result (TellsLoss b asking.from after old new) (TellsLoss b asking.from all old new)
    (tells-among b asking.from after all
    (among-pushed asking.from asking.to asking.boxes.now c.in_ok-before.before after (λ square there. ((c.in_ok-before.ensures.exact square).0 there).0)
    c.in_ok-after.ensures.moved) old new)
    c.loss_of.ensures.tells
