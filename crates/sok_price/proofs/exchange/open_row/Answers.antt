use Rattle.sok_price.proofs.Words.{◌≡◌, ◌≤◌, ◌∙◌, ap, sym, refl, subst, All, arith, length, get_or, All-weaker, PathSearch, cost_of, moved_from, low, growth_of}
use Rattle.sok_price.proofs.Words.{cost_in}
use Rattle.sok_price.proofs.Exchanging.{IsReady-exchanged, AreCosts-moved}
use Rattle.sok_price.proofs.exchange.open_row.Goals as goal

pub returns-clause-costs : goal.returns-clause-costs
returns-clause-costs c = AreCosts-moved c.requires.whole.shaped c.requires.exchange.within c.requires.exchange.below c.put_row.ensures

pub returns-clause-ready : goal.returns-clause-ready
returns-clause-ready c =
    let costs = c.args.costs.now in
    let rows = c.args.rows.now.items in
    let after = c.put_row.new.rows.items in
    let is = c.put_row.ensures in
    let g = growth_of c.args.search.now in
    let whole = c.requires.whole in
    let search : PathSearch = record c.args.search.now { u = c.put_price.new.prices; goal_of = c.free_goal.new.goal_of; floor = c.highest-search.result } in
    let last_is : length c.free_goal.new.goal_of.items ≡ is.last = omega (arith, c.free_goal.ensures.fewer, whole.whole, is.whole) in
    IsReady-exchanged (cost_of costs rows) (cost_of costs after) (length rows) costs.goals c.args.row is.last (length after) g (growth_of search)
    whole.ready whole.whole is.whole is.kept (record {
      within = omega (arith, c.requires.exchange.within, is.whole);
      goals = last_is;
      goal_is = λ k inside. c.free_goal.ensures.moved k (omega (arith, inside, last_is))
          ∙ ap (λ n. get_or c.args.search.now.goal_of.items (moved_from c.args.row n k) 0) last_is;
      prices = c.put_price.ensures;
      cost_is = λ k goal inside. ap (λ r. cost_in costs.goals costs.entries.items r goal) (is.moved k inside);
      same = refl;
      risen = c.highest-search.ensures.risen;
      bounded = c.highest-search.ensures.least 536870912 (omega (arith, c.requires.low))
          (subst (All (λ price. price ≤ 536870912)) (sym c.deref.ensures.value) (All-weaker (λ price. price ≤ low (length rows) g.floor)
          (λ price. price ≤ 536870912) (λ price bound. omega (arith, bound, c.requires.low, whole.shaped.few)) g.v whole.ready.low.goals));
      top = subst (All (λ price. price ≤ c.highest-search.result)) c.deref.ensures.value c.highest-search.ensures.top;
    })
