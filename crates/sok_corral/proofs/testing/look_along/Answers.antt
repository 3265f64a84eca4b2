use Rattle.std.proofs.Common.{◌∙◌, sym, ap}
use Rattle.sok_board.specs.Area.{beside}
use Rattle.sok_corral.proofs.Shutting.{shut-along, shut-none_behind}
use Rattle.sok_corral.proofs.testing.look_along.Goals as goal

pub returns-in_default-clause-shut : goal.returns-in_default-clause-shut
returns-in_default-clause-shut c = λ key opened lone.
    shut-none_behind c.args.setting.now.board.now c.requires.accepted key c.args.lone.now.boxes.items c.args.from c.args.dir
    (ap (beside c.args.setting.now.board.now c.args.from) (sym c.opposite.ensures) ∙ sym c.neighbour.ensures.beside ∙ c.in_default.is)

pub returns-then-is_shut-clause-shut : goal.returns-then-is_shut-clause-shut
returns-then-is_shut-clause-shut c = λ key opened lone.
    shut-along c.args.setting.now.board.now c.requires.accepted key c.args.lone.now.boxes.items c.args.from c.args.dir c.in-Some.man c.in-Some-neighbour.to
    (ap (beside c.args.setting.now.board.now c.args.from) (sym c.opposite.ensures) ∙ sym c.neighbour.ensures.beside ∙ c.in-Some.is)
    (sym c.neighbour-2.ensures.beside ∙ c.in-Some-neighbour.is) (c.is_shut.ensures.shut key opened lone c.if-is_shut.true c.requires.exists)
