use Rattle.std.proofs.Common.{arith}
use Rattle.std.proofs.lemmas.List.{map_more}
use Rattle.sok_board.specs.Neighbours.{neighbours_of}
use Rattle.sok_board.proofs.AreaLaws.{origin}
use Rattle.sok_board.proofs.neighbours.list_neighbours.Goals as goal

pub look_around-requires : goal.look_around-requires
look_around-requires c = c.requires c.loop-spot.spot-index origin (omega arith)

pub loop-spot-preserved : goal.loop-spot-preserved
loop-spot-preserved c =
    let squares = c.args.squares.now in
    let i = c.loop-spot.spot-index in
    let more = map_more (neighbours_of c.args.numbers.now) squares i origin (omega arith) in
    let pushed = c.in_ok-push.ensures.items in
    let around = c.look_around.ensures in
    cc
