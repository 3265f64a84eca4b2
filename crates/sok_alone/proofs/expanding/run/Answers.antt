use Rattle.std.proofs.Common.{subst}
use Rattle.sok_alone.specs.Meeting.{TellsMet}
use Rattle.sok_alone.proofs.Following.{tells-run}
use Rattle.sok_alone.proofs.expanding.run.Goals as goal

pub returns-in-On-clause-tells : goal.returns-in-On-clause-tells
returns-in-On-clause-tells g c =
    let b = c.args.setting.now.board.now in
    let first = c.args.first.now in
    let met = subst (TellsMet b c.args.lives.now g.start c.args.limit c.args.known.now first c.meet.new.known) c.in-On.is c.in_ok-meet.ensures in
    tells-run b g.start c.args.limit c.args.known.now c.meet.new.known first met c.args.lives.now c.expand_all.new.known c.expand_all.result c.expand_all.ensures.tells
