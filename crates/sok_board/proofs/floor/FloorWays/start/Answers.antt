use Rattle.std.proofs.Common.{ap, ◌∙◌, arith}
use Rattle.sok_board.specs.Tables.{place_of}
use Rattle.sok_board.proofs.Inside.{HasPlaceIn-man, HasPlace-man}
use Rattle.sok_board.proofs.floor.FloorWays.start.Goals as goal

pub overflow_cast-result : goal.overflow_cast-result
overflow_cast-result c =
    let within = HasPlace-man c.args.self.now.level.now c.args.self.now.proper in
    let place = c.place.ensures ∙ ap place_of c.args.self.now.starts in
    omega (arith, within.row, within.col, place)

pub returns-clause-exists : goal.returns-clause-exists
returns-clause-exists c = let within = HasPlaceIn-man c.args.self.now.level.now c.args.self.now.proper in omega (arith, within.row, within.col)
