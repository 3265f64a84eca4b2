use Rattle.std.proofs.Common.{◌∙◌, refl, sym, ap, subst, List, ℕ, Err}
use Rattle.std.proofs.lemmas.Result.{err_from_is_err_and}
use Rattle.sok_search.specs.Searches.{IsSearch}
use Rattle.sok_search.specs.Views.{progress_of}
use Rattle.sok_search.proofs.Turning.{held-search, turned-taken}
use Rattle.sok_search.proofs.running.search_on.Goals as goal

pub loop-index-init : goal.loop-index-init
loop-index-init c = record { search = c.requires.running.search; aim = refl; ready = c.requires.ready }

pub turn-requires-clause-held : goal.turn-requires-clause-held
turn-requires-clause-held c = record {
  accepted = c.requires.running.accepted;
  search = held-search c.args.setting.now.board.now c.args.limit c.in-Some.index
      (progress_of c.loop-index.search) c.pop.new.self c.loop-index.invariant.search c.in-Some.ensures;
}

pub loop-index-preserved : goal.loop-index-preserved
loop-index-preserved c =
    let turned = turned-taken c.args.setting.now.board.now c.args.limit c.in-Some.index (progress_of c.loop-index.search) (progress_of c.turn.new.search)
    c.pop.new.self c.in-Some.ensures c.in_ok-turn.ensures.turned in
    record { search = turned.search; aim = turned.aim ∙ c.loop-index.invariant.aim; ready = c.in_ok-turn.ensures.ready }

pub loop-index-smaller : goal.loop-index-smaller
loop-index-smaller c = (turned-taken c.args.setting.now.board.now c.args.limit c.in-Some.index (progress_of c.loop-index.search) (progress_of c.turn.new.search)
    c.pop.new.self c.in-Some.ensures c.in_ok-turn.ensures.turned).less

pub returns-clause-finished : goal.returns-clause-finished
returns-clause-finished c =
    let (before, after) = c.in_default.ensures in
    record {
      search = subst (λ (queue : List ℕ). IsSearch c.args.setting.now.board.now c.args.limit (record (progress_of c.loop-index.search) { queue = queue }))
          (before ∙ sym after) c.loop-index.invariant.search;
      aim = c.loop-index.invariant.aim;
      empty = after;
    }

pub returns-in_err-turn-clause-cut : goal.returns-in_err-turn-clause-cut
returns-in_err-turn-clause-cut c = λ cut.
    let stop = err_from_is_err_and c.from_residual.result c.from_residual.ensures.1 in
    let left = c.in_err-turn.ensures.cut (sym (stop.1 ∙ ap Err stop.2) ∙ cut) in
    record { more = left.more; search = left.search; aim_is = left.aim_is ∙ c.loop-index.invariant.aim }
