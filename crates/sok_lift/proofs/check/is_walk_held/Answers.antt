use Rattle.std.proofs.Common.{sym, ◌∙◌}
use Rattle.sok_lift.proofs.Held.{HoldsWalk-kept, HoldsWalk-wall}
use Rattle.sok_lift.proofs.check.is_walk_held.Goals as goal

pub returns-in-None : goal.returns-in-None
returns-in-None c = λ _. HoldsWalk-wall c.args.board.now c.args.lifts.now c.args.dir c.args.player (sym c.neighbour.ensures.beside ∙ c.in-None.is)

pub returns-in-Some : goal.returns-in-Some
returns-in-Some c = λ kept. HoldsWalk-kept c.args.board.now c.args.lifts.now c.args.dir c.args.player c.in-Some.next (sym c.neighbour.ensures.beside ∙ c.in-Some.is)
    (c.is_kept_by_all.ensures.0 kept)
