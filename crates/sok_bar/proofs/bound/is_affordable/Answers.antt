use Rattle.std.proofs.Common.{◌≡◌, ◌+◌, sym, ◌∙◌, nat_le}
use Rattle.sok_bar.proofs.Prices.{affordable_at, affordable_nowhere}
use Rattle.sok_bar.proofs.bound.is_affordable.Goals as goal

pub returns-in-Some : goal.returns-in-Some
returns-in-Some c =
    let price = c.from.ensures in
    let goal_price = c.from-in-Some.ensures in
    let pushes = c.from-in-Some-2.ensures in
    let test : nat_le c.from.result (c.from-in-Some.result + c.from-in-Some-2.result) ≡ nat_le c.args.price (c.args.goal_price + c.in-Some.pushes) =
    λ i. nat_le (price i) (goal_price i + pushes i) in
    let (there, back) = affordable_at c.args.distances.now.board c.args.square c.args.price c.args.goal c.args.goal_price c.in-Some.pushes
    c.in-Some.ensures.exact in
    ((λ yes. there (sym test ∙ yes)), λ cheap. test ∙ back cheap)

pub returns-in-None : goal.returns-in-None
returns-in-None c = affordable_nowhere c.args.distances.now.board c.args.square c.args.price c.args.goal c.args.goal_price c.in-None.ensures.exact
