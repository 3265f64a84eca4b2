use Rattle.sok_price.proofs.Words.{AreOfBoxes, IfOk, IsMatch, List, TellsCost, cost_in, get_or, subst, sym, ◌∙◌, ℕ}
use Rattle.sok_price.proofs.assign.assign.Goals as goal

pub returns : goal.returns
returns c =
    let b = c.args.distances.now.board in
    let costs = c.in_ok-costs.costs in
    let boxes = c.list-boxes.result.now in
    let of = c.in_ok-costs.ensures in
    let rows = c.in_ok-places.ensures in
    subst (λ (bs : List ℕ). IfOk c.assign_rows.result (IsMatch b bs)) c.list-boxes.ensures.list
    (c.assign_rows.ensures b boxes (subst (AreOfBoxes b boxes costs) (sym c.deref.ensures.value) (record {
      members = rows.whole;
      goals = of.goals ∙ c.goals.ensures.count;
      told = λ member goal below within.
          subst (λ row. TellsCost b goal (get_or boxes member 0) (cost_in costs.goals costs.entries.items row goal)) (sym (rows.each member below))
          (of.told.told member goal below within);
    })))
