use Rattle.sok_price.proofs.Words.{[], ap, arith, get_or_default, length, rules, sym, take, take_more, ◌++◌, ◌-◌, ◌<◌, ◌∙◌, ◌∷◌, ℕ}
use Rattle.sok_price.proofs.Telling.{AreRead-more, AreRead-none}
use Rattle.sok_price.proofs.reading.read_boxes.Goals as goal

pub loop-square-init : goal.loop-square-init
loop-square-init c = AreRead-none c.args.amount c.args.rows.now c.args.search.now (search rules) c.in_ok-u.ensures.items c.in_ok-goal_of.ensures.items

pub loop-square-preserved : goal.loop-square-preserved
loop-square-preserved c =
    let boxes = c.args.boxes.now in
    let prices = c.args.search.now.u.items in
    let goals = c.args.search.now.goal_of.items in
    let here = c.loop-square in
    let row = c.row_of-row.result in
    let priced : row < length prices = omega (arith, c.row_of-row.ensures.within, c.requires.prices) in
    let matched : row < length goals = omega (arith, c.row_of-row.ensures.within, c.requires.goals) in
    AreRead-more row here.invariant c.row_of-row.ensures.within
    (take_more boxes here.square-index 0 c.loop-square-test.true
    ∙ ap (λ (square : ℕ). take here.square-index boxes ++ square ∷ []) (sym c.row_of-row.ensures.row))
    (c.in_ok-push.ensures.items ∙ ap (λ (price : ℕ). here.u.items ++ price ∷ []) (c.saturating_sub.ensures
    ∙ ap (λ (price : ℕ). price - c.args.amount) (c.index.ensures ∙ get_or_default prices row c.index.result.now 0 priced)))
    (c.in_ok-push-2.ensures.items ∙ ap (λ (goal : ℕ). here.goal_of.items ++ goal ∷ [])
    (c.index-in-loop-square.ensures ∙ get_or_default goals row c.index-in-loop-square.result.now 0 matched))
