use Rattle.std.proofs.Common.{sym, ◌∙◌}
use Rattle.sok_rules.proofs.Grid.{holds-some, holds-none}
use Rattle.sok_board.proofs.cells.cell_or_wall.Goals as goal

pub returns-in-Some : goal.returns-in-Some
returns-in-Some c = λ test _. sym (holds-some test c.args.level.now c.args.spot c.in-Some.cell (sym c.in-Some.ensures))

pub returns-in-None : goal.returns-in-None
returns-in-None c = λ test shut. shut ∙ sym (holds-none test c.args.level.now c.args.spot (sym c.in-None.ensures))
