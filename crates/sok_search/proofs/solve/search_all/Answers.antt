use Rattle.std.proofs.Common.{◌∙◌}
use Rattle.std.proofs.lemmas.Result.{on_ok_weaker}
use Rattle.sok_search.proofs.solve.search_all.Goals as goal

pub search_on-ended-requires-clause-running : goal.search_on-ended-requires-clause-running
search_on-ended-requires-clause-running c = record {
  accepted = c.requires.accepted;
  search = c.in_ok-enter_start.ensures.search c.args.limit c.requires.positive;
}

pub returns-clause-searched : goal.returns-clause-searched
returns-clause-searched c = on_ok_weaker c.search_on-ended.result
    (λ finished. record { search = finished.search; aim_is = finished.aim ∙ c.in_ok-enter_start.ensures.aim; empty = finished.empty }) c.search_on-ended.ensures.finished

pub returns-clause-cut : goal.returns-clause-cut
returns-clause-cut c = λ cut.
    let left = c.search_on-ended.ensures.cut cut in
    record { more = left.more; search = left.search; aim_is = left.aim_is ∙ c.in_ok-enter_start.ensures.aim }
