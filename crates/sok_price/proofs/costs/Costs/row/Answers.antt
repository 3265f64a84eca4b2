use Rattle.sok_price.proofs.Words.{drop, None, arith, cost_in, get_or, get_or-drop, ◌+◌, ◌*◌, ◌-◌, ◌∙◌, get_or-take, ap}
use Rattle.sok_price.proofs.costs.Costs.row.Goals as goal

pub returns-clause-each : goal.returns-clause-each
unfolding cost_in
returns-clause-each c = λ goal within.
    let goals = c.args.self.now.goals in
    let start = get_or c.args.rows.now c.args.member 0 * goals in
    get_or-take (start + goals - start) (drop start c.deref.result.now) goal None (omega (arith, within))
    ∙ get_or-drop start c.deref.result.now goal None
    ∙ ap (λ entries. get_or entries (start + goal) None) c.deref.ensures.value
