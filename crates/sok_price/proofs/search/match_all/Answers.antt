use Rattle.sok_price.proofs.Words.{ℕ, ◌∙◌, sym, ap, subst, List, arith, length, cost_of, Growth, growth_of, IsReady, TellsEnd, Rematches}
use Rattle.sok_price.proofs.{Looking.IsAhead-begun, Raising.IsReady-rematched, Raising.AreLifted, Raising.IsRematched-raised, CostRows.AreShort-costs}
use Rattle.sok_price.proofs.search.match_all.Goals as goal

pub grow-requires-clause-growing : goal.grow-requires-clause-growing
grow-requires-clause-growing c = IsAhead-begun c.loop.invariant.0 c.requires.costs.few (omega arith) c.begin.ensures.begun

pub grow-requires-clause-room : goal.grow-requires-clause-room
grow-requires-clause-room c =
    let (_, _, _, _, room) = c.loop.invariant in
    c.begin.ensures.room (length c.args.rows.now) (record { tree = room.tree; matching = room.matching })

pub rematch-requires-clause-room : goal.rematch-requires-clause-room
rematch-requires-clause-room c =
    let same = ap (λ (h : Growth). length h.goal_of) c.raise.ensures.same in
    omega (arith, (c.raise.ensures.room (length c.args.rows.now) c.grow.ensures.room).matching, c.grow.ensures.growing.more, same)

pub loop-preserved : goal.loop-preserved
loop-preserved c =
    let costs = c.args.costs.now in
    let rows = c.args.rows.now in
    let cost = cost_of costs rows in
    let (ready, count, _, floor, room) = c.loop.invariant in
    let g = growth_of c.grow.new.search in
    let goal_of = c.rematch.new.search.goal_of.items in
    let (next, free) = subst (TellsEnd cost g) c.in-Some.is c.grow.ensures.end in
    let are : AreLifted cost (length rows) costs.goals g c.in-Some.near c.raise.new.search.u.items c.raise.new.search.v.items = record {
      short = AreShort-costs c.requires.costs;
      growing = c.grow.ensures.growing;
      next = next;
      raised = c.raise.ensures.raised;
    } in
    let rematched = IsRematched-raised are free goal_of (subst (λ h. Rematches h c.in-Some.near goal_of) c.raise.ensures.same c.rematch.ensures.rematched) in
    let same = c.rematch.ensures.same ∙ ap (λ (h : Growth). record h { goal_of = goal_of }) c.raise.ensures.same in
    let goals = ap (λ (goals : List ℕ). length goals) c.grow.ensures.same ∙ ap (λ (h : Growth). length h.goal_of) c.begin.ensures.begun.same in (
      subst (IsReady cost (length rows) costs.goals) (sym same) (IsReady-rematched are free goal_of rematched),
      omega (arith, rematched.more, goals, count),
      omega arith,
      ap (λ (h : Growth). h.floor) same ∙ c.grow.ensures.floor ∙ ap (λ (h : Growth). h.floor) c.begin.ensures.begun.same ∙ floor,
      c.rematch.ensures.room (length rows) (c.raise.ensures.room (length rows) c.grow.ensures.room),
    )
