use Rattle.std.proofs.Common.{sym, ap, ◌∙◌, refl, not, arith}
use Rattle.sok_rules.specs.Squares.{is_open}
use Rattle.sok_rules.proofs.Grid.{is_open-is}
use Rattle.sok_board.proofs.Inside.{HasPlaceIn-holds, HasPlace-few}
use Rattle.sok_board.proofs.floor.FloorWays.next.Goals as goal

pub returns-clause-exists : goal.returns-clause-exists
returns-clause-exists c =
    let rows = c.args.self.now.level.now in
    let proper = c.args.self.now.proper in
    let opened = sym (c.cell_or_wall.ensures is_open refl) ∙ is_open-is c.cell_or_wall.result ∙ ap not (sym c.if-is_wall.ensures) in
    let place = HasPlaceIn-holds is_open rows c.in_ok-beside.beside proper opened in
    let few = HasPlace-few rows c.in_ok-beside.beside proper place in
    omega (arith, place.row, place.col, few.row, c.place.ensures)
