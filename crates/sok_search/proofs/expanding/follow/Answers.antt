use Rattle.std.proofs.Common.{ap, ◌∙◌, Some, Contains, arith, get_or}
use Rattle.std.proofs.lemmas.Option.{slice_get-get_or}
use Rattle.sok_search.specs.Views.{progress_of}
use Rattle.sok_closed.proofs.Looking.{no_push}
use Rattle.sok_search.proofs.FollowedPushes.{Before, followed-along, followed-more, followed-none, held-stays}
use Rattle.sok_search.proofs.expanding.follow.Goals as goal

pub loop-push-init : goal.loop-push-init
loop-push-init c = record {
  followed = followed-none c.args.setting.now.board.now c.args.visit.now (progress_of c.args.search.now) c.args.pushes.now c.requires.state.running.search;
  loaded = c.requires.loaded;
}

pub reach-requires-clause-state : goal.reach-requires-clause-state
reach-requires-clause-state c = held-stays c.args.setting.now.board.now c.args.visit.now c.args.search.now c.loop-push.search
    (Before c.args.pushes.now c.loop-push.push-index) c.requires.state c.loop-push.invariant.followed

pub loop-push-preserved : goal.loop-push-preserved
loop-push-preserved c =
    let n = c.loop-push.push-index in
    let pushes = c.args.pushes.now in
    let push = get_or pushes n no_push in
    record {
      followed = followed-more c.args.setting.now.board.now c.args.visit.now (progress_of c.args.search.now) (progress_of c.loop-push.search)
          (progress_of c.reach.new.search) pushes n push
          (slice_get-get_or pushes n no_push c.loop-push-test.true) c.loop-push.invariant.followed c.in_ok-reach.ensures.pushed;
      loaded = c.in_ok-reach.ensures.loaded;
    }

pub returns-clause-followed : goal.returns-clause-followed
returns-clause-followed c =
    let pushes = c.args.pushes.now in
    let past = c.loop-push-test.false in
    followed-along c.args.setting.now.board.now c.args.visit.now (progress_of c.args.search.now) (progress_of c.loop-push.search)
    (Before pushes c.loop-push.push-index) (Contains pushes)
    (λ push (k, within, is). (k, omega (arith, within, past), slice_get-get_or pushes k push within ∙ ap Some is)) c.loop-push.invariant.followed
