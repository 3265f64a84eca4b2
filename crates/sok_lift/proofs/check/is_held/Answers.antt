use Rattle.std.proofs.Common.{sym, ap, ◌∙◌, subst}
use Rattle.sok_board.specs.Area.{BoardView, beside}
use Rattle.sok_distance.specs.Pushing.{IsStuck}
use Rattle.sok_lift.specs.Lifts.{Wastes}
use Rattle.sok_lift.proofs.Held.{HoldsPush-corner, HoldsPush-spared, HoldsPush-stuck}
use Rattle.sok_lift.proofs.check.is_held.Goals as goal

pub returns-in-None : goal.returns-in-None
returns-in-None c = λ _.
    let b = c.args.setting.now.board.now in
    let behind = sym (ap (beside b c.args.from) c.opposite.ensures) ∙ sym c.neighbour-2.ensures.beside ∙ c.in-None.is in
    HoldsPush-corner b c.neighbour-2.ensures.accepted.numbered c.args.lifts.now c.args.dir c.args.from behind

pub returns-in-Some-waste : goal.returns-in-Some-waste
returns-in-Some-waste c = λ held.
    let b = c.args.setting.now.board.now in
    let ahead = sym c.neighbour.ensures.beside ∙ c.in-Some.is in
    let behind = sym (ap (beside b c.args.from) c.opposite.ensures) ∙ sym c.neighbour-2.ensures.beside ∙ c.in-Some-neighbour.is in
    let wastes = subst (λ (b : BoardView). Wastes b c.args.from c.in-Some.to c.in-Some-waste.waste) c.args.setting.now.own c.in-Some-waste.ensures in
    HoldsPush-spared b c.neighbour-2.ensures.accepted.numbered c.args.lifts.now c.args.dir c.args.from c.in-Some.to c.in-Some-neighbour.player c.in-Some-waste.waste
    ahead behind wastes (c.is_held_by_all.ensures.0 held)

pub returns-then-stuck : goal.returns-then-stuck
returns-then-stuck c = λ _.
    let b = c.args.setting.now.board.now in
    let stuck = subst (λ (b : BoardView). IsStuck b c.in-Some.to) c.args.setting.now.own (c.stuck.ensures.0 c.if-stuck.true) in
    HoldsPush-stuck b c.args.lifts.now c.args.dir c.args.from c.in-Some.to (sym c.neighbour.ensures.beside ∙ c.in-Some.is) stuck
