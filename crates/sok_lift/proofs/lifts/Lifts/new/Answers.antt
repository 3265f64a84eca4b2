use Rattle.sok_lift.proofs.lifts.Lifts.new.Goals as goal

pub returns : goal.returns
returns c = c.none.ensures c.args.setting.now.board.now c.squares-squares.ensures.accepted.numbered
