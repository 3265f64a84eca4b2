use Rattle.std.proofs.Common.{◌∙◌, sym}
use Rattle.std.proofs.lemmas.Result.{on_ok_weaker}
use Rattle.sok_alone.specs.Losses.{losses_of}
use Rattle.sok_search.specs.Steps.{holding}
use Rattle.sok_search.specs.Views.{HoldsState, progress_of}
use Rattle.sok_search.proofs.Asking.{lost-by_lift, lost-found}
use Rattle.sok_search.proofs.Entering as held
use Rattle.sok_search.proofs.Invariant.{keeps-knowing}
use Rattle.sok_search.proofs.LeavingOut.{nowhere-no_fewer}
use Rattle.sok_search.proofs.Pushing.{pushed-knowing}
use Rattle.sok_search.proofs.reaching.arrive.Goals as goal
use Rattle.sok_search.proofs.reaching.arrive.Goals.{In_ok-lost}

pub returns-then-is_lost-clause-pushed : goal.returns-then-is_lost-clause-pushed
returns-then-is_lost-clause-pushed c =
    let b = c.args.setting.now.board.now in
    let v = c.args.visit.now in
    let s = c.args.step in
    let step = c.requires.step in
    let scratch = c.args.push_scratch.now in
    let loaded = c.requires.loaded in
    let can = held.can b v c.args.search.now c.requires.state scratch.scene loaded.opened s.push step.legal in
    held.left_out b v c.args.search.now c.requires.state s.push (record {
      part = c.if-not-search.true;
      no_fewer = nowhere-no_fewer b c.args.search.now.aim.upper v.key.now v.depth s.push
          (lost-by_lift b c.requires.state.running.accepted v.key.now s.push s.to scratch.scene can step.ahead scratch.lifts loaded.serves.are_lifts
          (c.is_lost.ensures.0 c.if-is_lost.true));
    })

-- the search that knows what was found of boxes taken alone still visits the state
held-in : (c : In_ok-lost) → HoldsState c.args.setting.now.board.now c.args.visit.now (record c.args.search.now { losses = c.ask.new.losses })
held-in c =
    let state = c.requires.state in
    record {
      running = record {
        accepted = state.running.accepted;
        search = keeps-knowing c.args.setting.now.board.now c.args.visit.now.limit (holding c.args.visit.now.index (progress_of c.args.search.now))
            c.ask.new.losses state.running.search c.in_ok-lost.ensures.losses c.in_ok-lost.ensures.kept;
      };
      small = state.small;
      there = state.there;
      depth_is = state.depth_is;
    }

pub returns-then-is_some-clause-pushed : goal.returns-then-is_some-clause-pushed
returns-then-is_some-clause-pushed c =
    let b = c.args.setting.now.board.now in
    let v = c.args.visit.now in
    let search = record c.args.search.now { losses = c.ask.new.losses } in
    let s = c.args.step in
    let step = c.requires.step in
    let scene = c.args.push_scratch.now.scene in
    let can = held.can b v c.args.search.now c.requires.state scene c.requires.loaded.opened s.push step.legal in
    pushed-knowing b v.limit (holding v.index (progress_of c.args.search.now)) c.ask.new.losses v.key.now v.depth s.push (holding v.index (progress_of search))
    (held.left_out b v search (held-in ((goal.at.returns-then-is_some-clause-pushed c).In_ok-lost)) s.push (record {
      part = c.if-not-search-2.true;
      no_fewer = nowhere-no_fewer b search.aim.upper v.key.now v.depth s.push
          (lost-found b c.requires.state.running.accepted v.key.now s.push s.to scene can step.ahead
          (losses_of c.ask.new.losses) c.in_ok-lost.lost (sym c.is_some.ensures ∙ c.if-is_some.true) c.in_ok-lost.ensures.lost);
    }))

pub enter-requires-clause-state : goal.enter-requires-clause-state
enter-requires-clause-state c = held-in ((goal.at.enter-requires-clause-state c).In_ok-lost)

pub returns-clause-pushed : goal.returns-clause-pushed
returns-clause-pushed c =
    let v = c.args.visit.now in
    on_ok_weaker c.enter.result
    (pushed-knowing c.args.setting.now.board.now v.limit (holding v.index (progress_of c.args.search.now)) c.ask.new.losses v.key.now v.depth c.args.step.push
    (holding v.index (progress_of c.enter.new.search))) c.enter.ensures.pushed
