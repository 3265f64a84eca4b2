use Rattle.std.proofs.Common.{◌∙◌, sym, subst, true≢false, IfSome, List, Option}
use Rattle.std.proofs.lemmas.Result.{on_ok_weaker}
use Rattle.sok_state.specs.declared.key.Key.{Key}
use Rattle.sok_state.specs.declared.push.Push.{Push}
use Rattle.sok_lift.specs.Numbers.{AreLifts}
use Rattle.sok_search.specs.Steps.{holding}
use Rattle.sok_search.specs.PushScratches.{IsLast, IsLoaded}
use Rattle.sok_search.specs.Searches.{AreEnough}
use Rattle.sok_search.specs.Views.{progress_of}
use Rattle.sok_search.proofs.Entering as held
use Rattle.sok_search.proofs.StatesByIndex.{state-few}
use Rattle.sok_search.proofs.expanding.expand.Goals as goal

pub open-requires-clause-state : goal.open-requires-clause-state
open-requires-clause-state c = held.state c.args.setting.now.board.now c.args.visit.now c.args.search.now c.requires.state

pub narrow-requires-clause-state : goal.narrow-requires-clause-state
narrow-requires-clause-state c = held.state c.args.setting.now.board.now c.args.visit.now c.args.search.now c.requires.state

pub follow-requires-clause-loaded : goal.follow-requires-clause-loaded
follow-requires-clause-loaded c =
    let b = c.args.setting.now.board.now in
    subst (IsLoaded b c.args.visit.now.key.now) (sym c.in_ok-narrow.ensures.push_scratch) (record {
      serves = record {
        serves = c.in_ok-open.ensures.serves;
        holds = λ matched. absurd (true≢false (sym matched ∙ c.in_ok-open.ensures.matched));
        are_lifts = subst (AreLifts b) (sym c.in_ok-open.ensures.lifts) c.in_ok-make_lifts.ensures.lifts;
      };
      opened = c.in_ok-open.ensures.opened;
    })

pub returns-clause-ready : goal.returns-clause-ready
returns-clause-ready c =
    let b = c.args.setting.now.board.now in
    let v = c.args.visit.now in
    let visited = c.requires.state in
    on_ok_weaker c.follow.result (λ loaded. record {
      serves = loaded.serves.serves;
      lifts = loaded.serves.are_lifts;
      boxes = v.key.now.boxes;
      laid = loaded.opened.laid;
      fences = c.in_ok-narrow.ensures.fences;
      of_last = subst (λ (last : Option Key). IfSome last (IsLast b c.follow.new.push_scratch.scene c.narrow.new.self.pushes.items))
          (sym (c.in_ok-narrow.ensures.last ∙ c.in_ok-open.ensures.last)) (record {
            state = held.state b v c.args.search.now visited;
            few = state-few b v.limit (holding v.index (progress_of c.args.search.now)) visited.running.search v.index visited.running.accepted v.key.now
                visited.there;
            opened = loaded.opened;
            legal = c.in_ok-narrow.ensures.legal;
          });
    }) c.follow.ensures.loaded

pub returns-clause-expanded : goal.returns-clause-expanded
returns-clause-expanded c =
    let pushes = c.deref.result.now in
    let enough = subst (λ (items : List Push). AreEnough c.args.setting.now.board.now c.args.search.now.aim.whole c.args.visit.now.key.now items)
    (sym c.deref.ensures.value) c.in_ok-narrow.ensures.enough in
    on_ok_weaker c.follow.result (λ followed. record { chosen = pushes; enough = enough; followed = followed }) c.follow.ensures.followed
