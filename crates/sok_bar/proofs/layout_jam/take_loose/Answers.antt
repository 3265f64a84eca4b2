use Rattle.sok_bar.proofs.Narrowing.{TellsPass-more}
use Rattle.sok_bar.proofs.layout_jam.take_loose.Goals as goal

pub loop-square-preserved : goal.loop-square-preserved
loop-square-preserved c =
    TellsPass-more c.args.setting.now.board.now c.requires.accepted.numbered c.args.boxes.now c.loop-square.square-index c.args.held.now c.loop-square.held
    c.take_if_loose-taken.new.held c.loop-square.taken c.take_if_loose-taken.result c.loop-square-test.true c.loop-square.invariant
    c.take_if_loose-taken.ensures
