use Rattle.sok_price.proofs.Words.{◌∙◌, ap, sym, subst, List, arith, length, cost_of, Branch, IsCrowd, members_of, growth_of, IsReady, IsSeen}
use Rattle.sok_price.proofs.Answering.{ArePrices-ready, HasSums-ready, HasWorth-sums, idle-floor, IsCrowd-members, IsMatch-prices}
use Rattle.sok_price.proofs.assign.assign_rows.Goals as goal

pub priced-requires : goal.priced-requires
priced-requires c =
    let is = c.match_anew.ensures.tells.whole c.if-match_anew.true in
    HasWorth-sums c.args.costs.now c.args.rows.now c.match_anew.new.search is
    (HasSums-ready is.ready is.whole (idle-floor is.ready c.match_anew.ensures.floor))

pub returns-then-match_anew : goal.returns-then-match_anew
returns-then-match_anew c = λ b boxes of.
    let costs = c.args.costs.now in
    let rows = c.args.rows.now in
    let g = growth_of c.match_anew.new.search in
    let is = c.match_anew.ensures.tells.whole c.if-match_anew.true in
    let here = subst (λ k. IsReady (cost_of costs rows) k costs.goals g) of.members is.ready in
    IsMatch-prices b boxes c.match_anew.new.search c.priced.result c.priced.ensures
    (λ total equal. ArePrices-ready b boxes costs.goals (cost_of costs rows) g total of.told of.goals here c.match_anew.ensures.floor
    (omega (arith, c.requires.few, of.members)) (is.whole ∙ of.members) equal)

pub returns : goal.returns
returns c = λ b boxes of.
    let costs = c.args.costs.now in
    let rows = c.args.rows.now in
    let g = growth_of c.match_anew.new.search in
    let tells = c.match_anew.ensures.tells in
    let here = subst (λ k. IsSeen (cost_of costs rows) k costs.goals g) of.members (tells.tree c.if-match_anew.false) in
    subst (IsCrowd b boxes) (ap (λ (branches : List Branch). members_of branches (length boxes)) (sym c.deref.ensures.value)
    ∙ ap (members_of c.deref.result.now) (sym of.members) ∙ sym c.in_ok-members_in.ensures)
    (IsCrowd-members b boxes costs.goals (cost_of costs rows) g of.told of.goals here (tells.closed c.if-match_anew.false))
