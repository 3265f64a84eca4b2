use Rattle.sok_price.proofs.Words.{rules, AreRows, BoardView, ap, arith, length, subst, sym, ◌≡◌, ◌≤◌, ◌+◌, ◌*◌, ◌∙◌, List, length-replicate, ℕ}
use Rattle.sok_price.proofs.{CostRows.AreCosts-below, CostRows.AreRows-spare, CostRows.goals-few}
use Rattle.sok_price.proofs.matching.Matching.new.Goals as goal

pub invariant_of-result : goal.invariant_of-result
invariant_of-result c =
    let b = c.args.setting.now.distances.now.board in
    let costs = c.in_ok-tabled.field-0 in
    let squares = c.squares-squares.result in
    let tabled = c.in_ok-tabled.ensures.tabled in
    let area : squares ≡ length b.area = c.squares-squares.ensures.count ∙ sym (ap (λ (h : BoardView). length h.area) c.args.setting.now.own) in
    let are = subst (AreRows squares) (sym c.in_ok-spare_rows.ensures) (AreRows-spare squares c.goals-goals.result) in
    let room : (squares + 1) * costs.goals ≤ length costs.entries.items =
    subst (λ n. (n + 1) * costs.goals ≤ length costs.entries.items) (sym area) (omega (arith, tabled.whole)) in
    let few = goals-few b in
    let goals = c.goals-goals.result in
    let rows = ap (λ (rows : List ℕ). length rows) c.in_ok-spare_rows.ensures ∙ length-replicate goals squares in
    let of = c.in_ok-tabled.ensures.goals in
    record {
      shaped = AreCosts-below costs (squares + 1) c.in_ok-spare_rows.field-0.items (λ k d within. omega (arith, are.within k d within))
          (omega (arith, few, rows, c.goals-goals.ensures.count, c.goals-goals.ensures.accepted.few_squares)) tabled.small room;
      square = rows ∙ sym of;
      are_rows = are;
      small = search rules;
      entries = room;
      search_shaped = search rules;
      trial_shaped = search rules;
      as_many = search rules;
      a_mark_a_square = search rules;
      whole = search rules;
      low = search rules;
    }
