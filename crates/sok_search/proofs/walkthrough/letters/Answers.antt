use Rattle.std.proofs.Common.{arith, length}
use Rattle.std.proofs.lemmas.List.{nil_from_length}
use Rattle.sok_search.proofs.Walkthroughs.{under_way-all, under_way-legal, under_way-more, under_way-none}
use Rattle.sok_search.proofs.walkthrough.letters.Goals as goal

pub loop-push-init : goal.loop-push-init
loop-push-init c = record {
  way = under_way-none c.args.board.now c.level-level.ensures.accepted c.in_ok-walkthrough.walkthrough c.args.trace.items c.requires c.in_ok-walkthrough.ensures;
  opened = c.in_ok-open.ensures.opened;
}

pub open-requires-clause-key : goal.open-requires-clause-key
open-requires-clause-key c = c.in_ok-walkthrough.ensures.walkthrough_is.state

pub follow-requires-clause-walkthrough : goal.follow-requires-clause-walkthrough
follow-requires-clause-walkthrough c = c.loop-push.invariant.way.is

pub follow-requires-clause-legal : goal.follow-requires-clause-legal
follow-requires-clause-legal c =
    under_way-legal c.args.board.now
    (length c.args.trace.items) c.loop-push.walkthrough c.pop.new.self.items c.in-Some.push c.loop-push.rest.items c.in-Some.ensures.items c.loop-push.invariant.way

pub loop-push-preserved : goal.loop-push-preserved
loop-push-preserved c = record {
  way = under_way-more c.args.board.now c.level-level.ensures.accepted
      (length c.args.trace.items) c.loop-push.walkthrough c.in_ok-walkthrough-2.walkthrough c.pop.new.self.items c.in-Some.push c.loop-push.rest.items
      c.in-Some.ensures.items c.loop-push.invariant.way c.in_ok-walkthrough-2.ensures.followed;
  opened = c.in_ok-walkthrough-2.ensures.opened;
}

pub returns : goal.returns
returns c =
    let empty = c.in_default.ensures.cases in
    under_way-all c.args.board.now (length c.args.trace.items) c.loop-push.walkthrough c.loop-push.rest.items
    (nil_from_length c.loop-push.rest.items (omega (arith, empty))) c.loop-push.invariant.way
