use Rattle.std.proofs.Common.{◌∙◌, arith}
use Rattle.std.proofs.lemmas.List.{take_more}
use Rattle.sok_board.proofs.AreaLaws.{origin, spot_of-at}
use Rattle.sok_distance.proofs.distances.spots.Goals as goal

pub loop-square-preserved : goal.loop-square-preserved
loop-square-preserved c =
    let n = c.loop-square.square in
    let more = take_more c.args.board.now.area n origin (omega arith) in
    let read = c.spot.ensures.spot ∙ spot_of-at c.args.board.now n in
    let pushed = c.in_ok-push.ensures.items in
    cc
